use Rattle.std.proofs.Common.{refl}
use Rattle.std.proofs.lemmas.Result.{err_from_is_err_and}
use Rattle.covcombine.proofs.Stages.{last_stage, more_stage, no_stage, same_note}
use Rattle.covcombine.proofs.opened.Opened.next_stage.Goals as goal

pub returns-in_err-piece-clause-ended : goal.returns-in_err-piece-clause-ended
returns-in_err-piece-clause-ended g c =
    let told = err_from_is_err_and c.from_residual.result c.from_residual.ensures.1 in
    rw (told.1, told.2) (no_stage g.S.Source.left g.S.Source.failed_reads c.args.new_names.now c.args.self _ c.in_err-piece.ensures)

pub returns-in_err-given-in-More-clause-ended : goal.returns-in_err-given-in-More-clause-ended
returns-in_err-given-in-More-clause-ended g c =
    let told = err_from_is_err_and c.from_residual-in_err-given-in-More.result c.from_residual-in_err-given-in-More.ensures.1 in
    rw (told.1, told.2) tt

pub returns-in_ok-given-in-More-clause-next : goal.returns-in_ok-given-in-More-clause-next
returns-in_ok-given-in-More-clause-next g c =
    more_stage g.S.Source.left g.S.Source.failed_reads c.args.new_names.now c.args.self c.in-More.submission c.in_ok-given-in-More.given _ c.in_ok-piece.piece c.in-More.is
    c.in_ok-given-in-More.ensures.named refl c.and-counts.ensures c.in_ok-given-in-More.ensures.used c.in_ok-piece.ensures

pub returns-in_err-note-in-Last-clause-ended : goal.returns-in_err-note-in-Last-clause-ended
returns-in_err-note-in-Last-clause-ended g c =
    let told = err_from_is_err_and c.from_residual-in_err-note-in-Last.result c.from_residual-in_err-note-in-Last.ensures.1 in
    rw (told.1, told.2) tt

pub returns-in_err-given-in-Last-clause-ended : goal.returns-in_err-given-in-Last-clause-ended
returns-in_err-given-in-Last-clause-ended g c =
    let told = err_from_is_err_and c.from_residual-in_err-given-in-Last.result c.from_residual-in_err-given-in-Last.ensures.1 in
    rw (told.1, told.2) tt

pub returns-in_ok-note-in-Last-clause-next : goal.returns-in_ok-note-in-Last-clause-next
returns-in_ok-note-in-Last-clause-next g c =
    last_stage g.S.Source.left g.S.Source.failed_reads c.args.new_names.now c.args.self c.in-Last.submission c.in_ok-given-in-Last.given c.in-Last.held c.in_ok-note-in-Last.note
    c.in_ok-piece.piece c.in-Last.is c.in_ok-given-in-Last.ensures.named
    (same_note g.S.Source.left g.S.Source.failed_reads c.args.new_names.now c.args.self c.get.result.now c.and-counts-in-Last.result c.unknown_in.result c.share-in-Last.new.used
    c.in-Last.submission c.in-Last.held c.in_ok-note-in-Last.note c.in_ok-note-in-Last.ensures c.get.ensures c.and-counts-in-Last.ensures c.unknown_in.ensures
    c.in_ok-given-in-Last.ensures.used)
    c.in_ok-piece.ensures
