use Rattle.std.proofs.Common.{refl, inl, inr, ap, sym, ◌∙◌, ℕ, eqb, Ok, Err, Some, None, []}
use Rattle.std.specs.Result.{is_ok}
use Rattle.std.proofs.lemmas.Result.{err_from_is_err_and}
use Rattle.covread.specs.GcovSteps.{HeldData, held_data}
use Rattle.covread.proofs.GcovLoop.{no_path, lost_path, taken_path, none_wait}
use Rattle.covread.proofs.gcov.reader.Reader.begin.Goals as goal

pub returns-then-is_empty-clause-steps : goal.returns-then-is_empty-clause-steps
returns-then-is_empty-clause-steps g c = inr (no_path c.args.self.now.test.now c.args.at (held_data c.args.self.now) c.args.path.now (sym c.if-is_empty.true ∙ c.is_empty.ensures))

pub returns-then-is_empty-clause-test : goal.returns-then-is_empty-clause-test
returns-then-is_empty-clause-test g c = refl

pub returns-then-not-is_empty-clause-steps : goal.returns-then-not-is_empty-clause-steps
returns-then-not-is_empty-clause-steps g c =
    let waits = c.if-not-is_empty.ensures ∙ ap (λ (n : ℕ). eqb n 0) c.args.self.now.waiting.ok.0 ∙ none_wait c.args.self.now.waiting.items in
    inr (lost_path c.args.self.now.test.now c.args.at (held_data c.args.self.now) c.args.path.now (sym c.if-is_empty.false ∙ c.is_empty.ensures) waits)

pub returns-then-not-is_empty-clause-test : goal.returns-then-not-is_empty-clause-test
returns-then-not-is_empty-clause-test g c = refl

pub returns-in_err-close-clause-steps : goal.returns-in_err-close-clause-steps
returns-in_err-close-clause-steps g c =
    let p = err_from_is_err_and c.from_residual.result c.from_residual.ensures.1 in
    let waits = c.if-not-is_empty.ensures ∙ ap (λ (n : ℕ). eqb n 0) c.args.self.now.waiting.ok.0 ∙ none_wait c.args.self.now.waiting.items in
    let taken = taken_path c.args.self.now.test.now c.args.at (held_data c.args.self.now) c.args.path.now (sym c.if-is_empty.false ∙ c.is_empty.ensures) waits in
    let told = p.1 ∙ ap Err p.2 ∙ c.in_err-close.ensures.err in
    rw told (inl (refl, ap is_ok taken, refl))

pub returns-in_err-close-clause-test : goal.returns-in_err-close-clause-test
returns-in_err-close-clause-test g c = c.close.ensures.test

pub returns-clause-steps : goal.returns-clause-steps
returns-clause-steps g c =
    let waits = c.if-not-is_empty.ensures ∙ ap (λ (n : ℕ). eqb n 0) c.args.self.now.waiting.ok.0 ∙ none_wait c.args.self.now.waiting.items in
    let taken = taken_path c.args.self.now.test.now c.args.at (held_data c.args.self.now) c.args.path.now (sym c.if-is_empty.false ∙ c.is_empty.ensures) waits in
    rw (c.forget.ensures.items, c.forget.ensures.sects)
    (taken ∙ ap (λ (h : HeldData). Ok (record { waiting = h.waiting; section = Some (record { file = c.args.path.now; items = []; anchor = None }); sects = h.sects })) (sym c.in_ok-close.ensures.ok))

pub returns-clause-test : goal.returns-clause-test
returns-clause-test g c = c.close.ensures.test
