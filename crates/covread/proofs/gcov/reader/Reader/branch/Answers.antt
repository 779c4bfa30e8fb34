use Rattle.std.proofs.Common.{refl, inl, inr}
use Rattle.std.proofs.lemmas.Result.{err_from_is_err_and}
use Rattle.covread.proofs.gcov.reader.Reader.branch.Goals as goal

pub returns-in_err-push_branch-clause-steps : goal.returns-in_err-push_branch-clause-steps
returns-in_err-push_branch-clause-steps g c =
    let p = err_from_is_err_and c.from_residual.result c.from_residual.ensures.1 in
    rw (p.1, p.2, c.in-Some.is, c.in-Some-anchor.is) (inl (refl, refl, refl))

pub returns-in_err-push_branch-clause-test : goal.returns-in_err-push_branch-clause-test
returns-in_err-push_branch-clause-test g c = refl

pub returns-in-Some-anchor-clause-steps : goal.returns-in-Some-anchor-clause-steps
returns-in-Some-anchor-clause-steps g c =
    let line = c.in-Some-anchor.line-is in
    let block = c.in-Some-anchor.block-is in
    rw (c.in-Some.is, c.in-Some-anchor.is, c.in_ok-push_branch.ensures.ok, c.push_branch.ensures.sects) cc

pub returns-in-Some-anchor-clause-test : goal.returns-in-Some-anchor-clause-test
returns-in-Some-anchor-clause-test g c = refl

pub returns-in_default-anchor-clause-steps : goal.returns-in_default-anchor-clause-steps
returns-in_default-anchor-clause-steps g c = rw (c.in-Some.is, c.in_default-anchor.is) (inr refl)

pub returns-in_default-anchor-clause-test : goal.returns-in_default-anchor-clause-test
returns-in_default-anchor-clause-test g c = refl

pub returns-in_default-clause-steps : goal.returns-in_default-clause-steps
returns-in_default-clause-steps g c = rw c.in_default.is (inr refl)

pub returns-in_default-clause-test : goal.returns-in_default-clause-test
returns-in_default-clause-test g c = refl
