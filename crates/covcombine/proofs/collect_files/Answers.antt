use Rattle.std.proofs.Common.{Err, map, ap, ◌∙◌}
use Rattle.std.specs.String.{string_bytes}
use Rattle.covworkers.specs.declared.book_fault.IntoBookFault.TheVariants as into_book
use Rattle.covworld.specs.Folder.{folder_data}
use Rattle.covcombine.proofs.Files.{collected_of, may_come, none_unread}
use Rattle.covcombine.proofs.collect_files.Goals as goal

pub returns-in-Ok-collect_into_book-clause-collected : goal.returns-in-Ok-collect_into_book-clause-collected
returns-in-Ok-collect_into_book-clause-collected g c =
    collected_of (record { own = λ one. one.folder.now; name = λ one. one.name.now; new = λ one. one.new_names.now; strictness = λ one. one.strictness; stage = λ one. one.stage })
    c.args.folder.now c.args.work.now.new_names c.args.work.now.strictness (folder_data g.F.Folder g.F.File.Source) g.F.File.Source.left g.F.File.Source.failed_reads
    c.in-Ok.inputs.items (map string_bytes c.args.work.now.files.now) c.args.jobs _ _ c.in-Ok.ensures.names c.in-Ok.ensures.own c.in-Ok-collect_into_book.ensures.collected

pub returns-in-Err-Collect-clause-stopped : goal.returns-in-Err-Collect-clause-stopped
returns-in-Err-Collect-clause-stopped g c = (
  λ is. (c.in-Err-Collect.ensures.bad).0 (ap (λ fault. Err fault) (c.in-Err-Collect.field-0-is ∙ ap (λ fault. into_book.Collect fault) is)),
  may_come (record { own = λ one. one.folder.now; name = λ one. one.name.now; new = λ one. one.new_names.now; strictness = λ one. one.strictness; stage = λ one. one.stage })
      c.args.folder.now c.args.work.now.new_names c.args.work.now.strictness (folder_data g.F.Folder g.F.File.Source) g.F.File.Source.left g.F.File.Source.failed_reads
      c.in-Ok.inputs.items c.in-Err-Collect.field-0 c.in-Err-Collect.ensures.unread (map string_bytes c.args.work.now.files.now) c.in-Err-Collect.fault c.in-Err-Collect.field-0-is
      c.in-Ok.ensures.names c.in-Ok.ensures.own,
)

pub unreachable-requires : goal.unreachable-requires
unreachable-requires g c =
    none_unread (record { own = λ one. one.folder.now; name = λ one. one.name.now; new = λ one. one.new_names.now; strictness = λ one. one.strictness; stage = λ one. one.stage })
    c.args.folder.now c.args.work.now.new_names c.args.work.now.strictness (folder_data g.F.Folder g.F.File.Source) g.F.File.Source.left g.F.File.Source.failed_reads
    c.in-Ok.inputs.items c.in-Err-Unread.field-0 c.in-Err-Unread.ensures.unread _ c.in-Err-Unread.field-0-is
