use Rattle.std.proofs.Common.{suc}
use Rattle.std.proofs.lemmas.Result.{err_from_is_err_and}
use Rattle.covread.specs.Outcome.{max_bytes}
use Rattle.covworld.proofs.Folders.{text_at_most, unread}
use Rattle.covworld.proofs.files.file_text.Goals as goal

pub returns-in_err-text-clause-unread : goal.returns-in_err-text-clause-unread
returns-in_err-text-clause-unread g c =
    let told = err_from_is_err_and c.from_residual.result c.from_residual.ensures.1 in
    rw (told.1, told.2)
    (unread g.F.Folder g.F.File.Source c.args.folder.now c.args.name.now c.in-Ok.opened.source c.read_text.new.source _
    c.in-Ok.ensures.opened c.in-Ok.ensures.bytes c.in_err-text.ensures.failed)

pub returns-clause-text : goal.returns-clause-text
returns-clause-text g c =
    text_at_most (suc max_bytes) _ _ _ _ c.in-Ok.ensures.bytes c.in_ok-text.ensures.read c.in_ok-text.ensures.few
