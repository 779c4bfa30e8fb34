use Rattle.std.proofs.Common.{refl, sym, ◌∙◌}
use Rattle.std.proofs.lemmas.Result.{err_from_is_err_and}
use Rattle.covread.proofs.gcov.line.read_branch.Goals as goal

pub returns-in_err-branch : goal.returns-in_err-branch
returns-in_err-branch c =
    let p = err_from_is_err_and c.from_residual.result c.from_residual.ensures.1 in
    rw (p.1, p.2, ← c.if-are_digits.ensures, ← (sym c.in_err-branch.was ∙ c.fit.ensures)) refl

pub returns-in_err-fit : goal.returns-in_err-fit
returns-in_err-fit c =
    let p = err_from_is_err_and c.from_residual-in_err-fit.result c.from_residual-in_err-fit.ensures.1 in
    rw (p.1, p.2, ← c.if-are_digits.ensures, ← (sym c.in_ok-branch.was ∙ c.fit.ensures), ← (sym c.in_err-fit.was ∙ c.fit-then-are_digits.ensures)) refl

pub returns-then-are_digits : goal.returns-then-are_digits
returns-then-are_digits c = rw (← c.if-are_digits.ensures, ← (sym c.in_ok-branch.was ∙ c.fit.ensures), ← (sym c.in_ok-fit.was ∙ c.fit-then-are_digits.ensures)) refl

pub returns-then-are_digits-2 : goal.returns-then-are_digits-2
returns-then-are_digits-2 c = rw (← c.if-are_digits.ensures, ← c.without_last.ensures, ← c.if-are_digits-2.ensures) refl

pub returns-else-are_digits-2 : goal.returns-else-are_digits-2
returns-else-are_digits-2 c = rw (← c.if-are_digits.ensures, ← c.without_last.ensures, ← c.if-are_digits-2.ensures) refl
