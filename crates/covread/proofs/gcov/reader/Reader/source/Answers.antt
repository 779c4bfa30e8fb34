use Rattle.std.proofs.Common.{refl, inl, inr, ap, ◌∙◌, Err, append_assoc}
use Rattle.std.proofs.lemmas.Result.{err_from_is_err_and}
use Rattle.covread.proofs.gcov.reader.Reader.source.Goals as goal

pub returns-in_err-push_functions-clause-steps : goal.returns-in_err-push_functions-clause-steps
returns-in_err-push_functions-clause-steps g c =
    let p = err_from_is_err_and c.from_residual.result c.from_residual.ensures.1 in
    let q = p.1 ∙ ap Err p.2 ∙ c.in_err-push_functions.ensures.err in
    rw (q, c.in-Some.is) (inl (refl, refl, refl))

pub returns-in_err-push_functions-clause-test : goal.returns-in_err-push_functions-clause-test
returns-in_err-push_functions-clause-test g c = refl

pub returns-in_err-push_line-clause-steps : goal.returns-in_err-push_line-clause-steps
returns-in_err-push_line-clause-steps g c =
    let p = err_from_is_err_and c.from_residual-in_err-push_line.result c.from_residual-in_err-push_line.ensures.1 in
    let q = p.1 ∙ ap Err p.2 ∙ c.in_err-push_line.ensures.err in
    rw (q, c.in-Some.is) (inl (refl, refl, refl))

pub returns-in_err-push_line-clause-test : goal.returns-in_err-push_line-clause-test
returns-in_err-push_line-clause-test g c = refl

pub returns-in-Some-clause-steps : goal.returns-in-Some-clause-steps
returns-in-Some-clause-steps g c =
    rw (c.in-Some.is, c.in_ok-push_line.ensures.ok, c.in_ok-push_functions.ensures.ok, c.push_line.ensures.sects, c.push_functions.ensures.sects, c.deref.ensures.value, append_assoc, c.clear.ensures.items) refl

pub returns-in-Some-clause-test : goal.returns-in-Some-clause-test
returns-in-Some-clause-test g c = refl

pub returns-clause-steps : goal.returns-clause-steps
returns-clause-steps g c = rw c.in_default.is (inr refl)

pub returns-clause-test : goal.returns-clause-test
returns-clause-test g c = refl
