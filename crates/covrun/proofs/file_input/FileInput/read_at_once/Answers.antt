use Rattle.std.proofs.lemmas.Result.{err_from_is_err_and}
use Rattle.covrun.specs.Files.{MayFailAs, MayTake, most_parts}
use Rattle.covworld.specs.Folder.{folder_data}
use Rattle.covrun.proofs.Large.{part_faults, whole_ends}
use Rattle.covrun.proofs.file_input.FileInput.read_at_once.Goals as goal

pub returns-in_err-read_whole : goal.returns-in_err-read_whole
returns-in_err-read_whole g c =
    let told = err_from_is_err_and c.from_residual.result c.from_residual.ensures.1 in
    part_faults c.from_residual.result
    (λ late. MayTake g.F.File.Source.left (g.F.Folder.holds late.folder.now late.name.now) late.format.now late.strictness late.opened)
    (λ late. MayFailAs (folder_data g.F.Folder g.F.File.Source late.folder.now)
    g.F.File.Source.left g.F.File.Source.failed_reads late.name.now late.format.now late.opened)
    (λ late. most_parts late.format.now late.opened) c.args.self _ told.0 told.1 told.2
    (whole_ends g.F.File.Source.left g.F.File.Source.failed_reads (folder_data g.F.Folder g.F.File.Source c.args.self.folder.now)
    c.args.self.name.now c.args.self.strictness c.args.self.opened c.args.self.format.now c.requires _ c.in_err-read_whole.ensures)
