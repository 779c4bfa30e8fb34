use Rattle.std.proofs.lemmas.Result.{err_from_is_err_and}
use Rattle.covworld.specs.Folder.{folder_data}
use Rattle.covcombine.specs.Steps.{MayGiveFrom, most_parts}
use Rattle.covcombine.proofs.Stages.{ends_opened, next_part, no_part}
use Rattle.covcombine.proofs.tracefile.TracefileLateInputGlobal.read_part.Goals as goal

pub returns-in_err-opened-clause-next : goal.returns-in_err-opened-clause-next
returns-in_err-opened-clause-next g c =
    let told = err_from_is_err_and c.from_residual.result c.from_residual.ensures.1 in
    no_part c.from_residual.result
    (λ late. MayGiveFrom g.F.File.Source.left g.F.File.Source.failed_reads (folder_data g.F.Folder g.F.File.Source late.folder.now) late.new_names.now late.strictness late.name.now late.stage)
    (λ late. most_parts late.stage) c.args.self _ told.0 told.1 told.2 c.in_err-opened.ensures.ended

pub returns-in_err-given-clause-next : goal.returns-in_err-given-clause-next
returns-in_err-given-clause-next g c =
    let told = err_from_is_err_and c.from_residual-in_err-given.result c.from_residual-in_err-given.ensures.1 in
    no_part c.from_residual-in_err-given.result
    (λ late. MayGiveFrom g.F.File.Source.left g.F.File.Source.failed_reads (folder_data g.F.Folder g.F.File.Source late.folder.now) late.new_names.now late.strictness late.name.now late.stage)
    (λ late. most_parts late.stage) c.args.self _ told.0 told.1 told.2
    (ends_opened g.F.File.Source.left g.F.File.Source.failed_reads (folder_data g.F.Folder g.F.File.Source c.args.self.folder.now) c.args.self.new_names.now c.args.self.strictness c.args.self.name.now
    c.args.self.stage c.in_ok-opened.opened _ c.in_ok-opened.ensures.opened c.in_err-given.ensures.ended)

pub returns-clause-next : goal.returns-clause-next
returns-clause-next g c =
    next_part g.F.File.Source.left g.F.File.Source.failed_reads (folder_data g.F.Folder g.F.File.Source c.args.self.folder.now) c.args.self.new_names.now c.args.self.strictness c.args.self.name.now
    c.args.self.stage _ c.in_ok-opened.opened _ c.in_ok-opened.ensures.opened c.in_ok-given.ensures.next
