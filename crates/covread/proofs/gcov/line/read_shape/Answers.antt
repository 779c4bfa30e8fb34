use Rattle.std.proofs.Common.{refl, sym, ◌∙◌}
use Rattle.std.proofs.lemmas.Result.{err_from_is_err_and}
use Rattle.covread.proofs.gcov.line.read_shape.Goals as goal

pub returns-in-Instances : goal.returns-in-Instances
returns-in-Instances c = rw c.in-Instances.is refl

pub returns-in_err-fit-in-Function : goal.returns-in_err-fit-in-Function
returns-in_err-fit-in-Function c =
    let p = err_from_is_err_and c.from_residual.result c.from_residual.ensures.1 in
    rw (p.1, p.2, c.in-Function.is, ← (sym c.in_err-fit-in-Function.was ∙ c.fit.ensures)) refl

pub returns-in_ok-fit-in-Function : goal.returns-in_ok-fit-in-Function
returns-in_ok-fit-in-Function c = rw (c.in-Function.is, ← (sym c.in_ok-fit-in-Function.was ∙ c.fit.ensures)) refl

pub returns-in_err-fit-in-Never : goal.returns-in_err-fit-in-Never
returns-in_err-fit-in-Never c =
    let p = err_from_is_err_and c.from_residual-in_err-fit-in-Never.result c.from_residual-in_err-fit-in-Never.ensures.1 in
    rw (p.1, p.2, c.in-Never.is, ← (sym c.in_err-fit-in-Never.was ∙ c.fit-in-Never.ensures)) refl

pub returns-in_ok-fit-in-Never : goal.returns-in_ok-fit-in-Never
returns-in_ok-fit-in-Never c = rw (c.in-Never.is, ← (sym c.in_ok-fit-in-Never.was ∙ c.fit-in-Never.ensures)) refl

pub returns-in-Taken : goal.returns-in-Taken
returns-in-Taken c = rw c.in-Taken.is c.read_branch.ensures

pub returns-in_err-fit-in-Block : goal.returns-in_err-fit-in-Block
returns-in_err-fit-in-Block c =
    let p = err_from_is_err_and c.from_residual-in_err-fit-in-Block.result c.from_residual-in_err-fit-in-Block.ensures.1 in
    rw (p.1, p.2, c.in-Block.is, ← (sym c.in_err-fit-in-Block.was ∙ c.fit-in-Block.ensures)) refl

pub returns-in_err-fit-in-Block-2 : goal.returns-in_err-fit-in-Block-2
returns-in_err-fit-in-Block-2 c =
    let p = err_from_is_err_and c.from_residual-in_err-fit-in-Block-2.result c.from_residual-in_err-fit-in-Block-2.ensures.1 in
    rw (p.1, p.2, c.in-Block.is, ← (sym c.in_ok-fit-in-Block.was ∙ c.fit-in-Block.ensures), ← (sym c.in_err-fit-in-Block-2.was ∙ c.fit-in-Block-2.ensures)) refl

pub returns-in_ok-fit-in-Block-2 : goal.returns-in_ok-fit-in-Block-2
returns-in_ok-fit-in-Block-2 c =
    rw (c.in-Block.is, ← (sym c.in_ok-fit-in-Block.was ∙ c.fit-in-Block.ensures), ← (sym c.in_ok-fit-in-Block-2.was ∙ c.fit-in-Block-2.ensures)) refl

pub returns-in-Numbered : goal.returns-in-Numbered
returns-in-Numbered c = rw c.in-Numbered.is c.read_numbered.ensures

pub returns-in-Other : goal.returns-in-Other
returns-in-Other c = rw c.in-Other.is refl
