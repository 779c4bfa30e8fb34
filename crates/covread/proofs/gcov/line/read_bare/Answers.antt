use Rattle.std.proofs.Common.{refl, sym, ◌∙◌}
use Rattle.std.proofs.lemmas.Result.{err_from_is_err_and}
use Rattle.covread.proofs.gcov.line.read_bare.Goals as goal

pub returns-in_err-line : goal.returns-in_err-line
returns-in_err-line c =
    let p = err_from_is_err_and c.from_residual.result c.from_residual.ensures.1 in
    rw (p.1, p.2, ← (sym c.in_err-line.was ∙ c.fit.ensures)) refl

pub returns : goal.returns
returns c = rw (← (sym c.in_ok-line.was ∙ c.fit.ensures)) refl
