use Rattle.std.proofs.Common.{Err, None, map, slice_get, refl, inl, ap, sym, subst, ◌∙◌}
use Rattle.std.specs.String.{string_bytes}
use Rattle.covtable.specs.Shown.{ShownData}
use Rattle.covworkers.specs.Late.{MayComeAtAll}
use Rattle.covworkers.specs.declared.book_fault.IntoBookFault.TheVariants as into_book
use Rattle.covworkers.specs.declared.collect_fault.CollectFault.{CollectFault}
use Rattle.covsession.specs.declared.session.fault.SessionFault.TheVariants as faults
use Rattle.covrun.specs.Ending.{name_at, of_collect}
use Rattle.covworld.specs.Folder.{folder_data}
use Rattle.covrun.specs.View.{question_data, work_data}
use Rattle.covrun.specs.declared.ending.Failure.TheVariants as failures
use Rattle.covrun.proofs.Endings.{ends_collected, ends_uncollected, ends_unreadable, unreadable_told}
use Rattle.covrun.proofs.Showing.{list_is_text, list_shows, pages_failed, pages_shown}
use Rattle.covrun.proofs.Reading.{comes, may_come, texts_read, unreadable_read}
use Rattle.covrun.proofs.pages.do_pages.Goals as goal

pub returns-in_default : goal.returns-in_default
returns-in_default g c =
    pages_failed (folder_data g.F.Folder g.F.File.Source c.args.folder.now) (work_data c.args.work.now) c.args.pages.now (failures.Stopped faults.Memory) _ _ _ (inl refl) c.report_failure.ensures

pub returns-in-Ok-judge : goal.returns-in-Ok-judge
returns-in-Ok-judge g c =
    let collected = c.in-Ok-collect_into_book.ensures.collected in
    let read = texts_read c.in-Ok.inputs.items c.args.folder.now g.F.File.Source.left g.F.File.Source.failed_reads
    (record { own = λ one. one.folder.now; name = λ one. one.name.now; format = λ one. one.format.now; strictness = λ one. one.strictness; opened = λ one. one.opened })
    c.args.work.now.format c.args.work.now.strictness
    (folder_data g.F.Folder g.F.File.Source)
    _ collected.0 (c.in-Ok.ensures.names ∙ c.get-names.ensures) c.in-Ok.ensures.own collected.1 in
    pages_shown (folder_data g.F.Folder g.F.File.Source c.args.folder.now) (work_data c.args.work.now) c.args.pages.now c.requires.list
    _ refl collected.0 _ _ _ _ _ _ _ read.0 read.1 collected.2 c.in-Ok-judge.ensures.prints
    (ap (λ (s : ShownData). s.sections) c.store.ensures.store ∙ c.store.ensures.stands.content)
    c.show.ensures.input c.show.ensures.begun c.show.ensures.end

pub returns-in-Ok-collect_into_book : goal.returns-in-Ok-collect_into_book
returns-in-Ok-collect_into_book g c =
    let collected = c.in-Ok-collect_into_book.ensures.collected in
    let read = texts_read c.in-Ok.inputs.items c.args.folder.now g.F.File.Source.left g.F.File.Source.failed_reads
    (record { own = λ one. one.folder.now; name = λ one. one.name.now; format = λ one. one.format.now; strictness = λ one. one.strictness; opened = λ one. one.opened })
    c.args.work.now.format c.args.work.now.strictness
    (folder_data g.F.Folder g.F.File.Source)
    _ collected.0 (c.in-Ok.ensures.names ∙ c.get-names.ensures) c.in-Ok.ensures.own collected.1 in
    pages_failed (folder_data g.F.Folder g.F.File.Source c.args.folder.now) (work_data c.args.work.now) c.args.pages.now c.in-Err.failure _ _ _
    (ends_collected (folder_data g.F.Folder g.F.File.Source c.args.folder.now) None
    (work_data c.args.work.now) _ (sym (list_shows (work_data c.args.work.now) c.requires.list)) _ refl collected.0 _ _ _ _ read.0 read.1
    (list_is_text (question_data c.args.work.now.asks) c.requires.list) collected.2 c.in-Err.ensures.failure)
    c.report_failure-in-Err.ensures

pub returns-in-Err-Unread : goal.returns-in-Err-Unread
returns-in-Err-Unread g c =
    pages_failed (folder_data g.F.Folder g.F.File.Source c.args.folder.now) (work_data c.args.work.now) c.args.pages.now c.unreadable.result _ _ _
    (ends_unreadable (folder_data g.F.Folder g.F.File.Source c.args.folder.now) None
    (work_data c.args.work.now) _ c.get-names.ensures _ _
    (unreadable_read c.in-Ok.inputs.items c.args.folder.now g.F.File.Source.left g.F.File.Source.failed_reads
    (record { own = λ one. one.folder.now; name = λ one. one.name.now; format = λ one. one.format.now; strictness = λ one. one.strictness; opened = λ one. one.opened })
    c.args.work.now.format c.args.work.now.strictness
    (folder_data g.F.Folder g.F.File.Source)
    (map string_bytes c.get-names.result.now) c.in-Err-Unread.index _ c.in-Ok.ensures.names c.in-Ok.ensures.own c.in-Err-Unread.field-0-is c.in-Err-Unread.ensures.unread)
    (unreadable_told _ _ _ _ (sym (list_shows (work_data c.args.work.now) c.requires.list)) (c.file_name.ensures ∙ ap (λ index. name_at (slice_get (map string_bytes c.get-names.result.now) index)) c.in-Err-Unread.index-is) c.unreadable.ensures))
    c.report_failure-in-Err-Unread.ensures

pub failure_of_collect-requires : goal.failure_of_collect-requires
failure_of_collect-requires g c =
    subst (λ (fault : CollectFault). MayComeAtAll fault) (sym c.in-Err-Collect.fault-is) (comes c.in-Ok.inputs.items g.F.File.Source.left g.F.File.Source.failed_reads
    (record { own = λ one. one.folder.now; name = λ one. one.name.now; format = λ one. one.format.now; strictness = λ one. one.strictness; opened = λ one. one.opened })
    (folder_data g.F.Folder g.F.File.Source) _ c.in-Err-Collect.fault c.in-Err-Collect.field-0-is c.in-Err-Collect.ensures.unread)

pub returns : goal.returns
returns g c =
    pages_failed (folder_data g.F.Folder g.F.File.Source c.args.folder.now) (work_data c.args.work.now) c.args.pages.now c.failure_of_collect.result _ _ _
    (ends_uncollected (folder_data g.F.Folder g.F.File.Source c.args.folder.now) None
    (work_data c.args.work.now) _ _ (λ is. (c.in-Err-Collect.ensures.bad).0 (ap (λ fault. Err fault) (c.in-Err-Collect.field-0-is ∙ ap (λ fault. into_book.Collect fault) is)))
    (may_come c.in-Ok.inputs.items c.args.folder.now g.F.File.Source.left g.F.File.Source.failed_reads
    (record { own = λ one. one.folder.now; name = λ one. one.name.now; format = λ one. one.format.now; strictness = λ one. one.strictness; opened = λ one. one.opened })
    c.args.work.now.format c.args.work.now.strictness
    (folder_data g.F.Folder g.F.File.Source)
    _ _ c.in-Err-Collect.fault (c.in-Ok.ensures.names ∙ c.get-names.ensures) c.in-Ok.ensures.own c.in-Err-Collect.field-0-is c.in-Err-Collect.ensures.unread)
    (c.failure_of_collect.ensures ∙ ap of_collect c.in-Err-Collect.fault-is))
    c.report_failure-in-Err-Collect.ensures
