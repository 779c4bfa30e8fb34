use Rattle.std.proofs.Common.{◌≡◌, ◌≢◌, ℕ, ◌<◌, List, [], length, Result, Ok, Err, OnErr, ap, ◌∙◌, arith}
use Rattle.std.proofs.lemmas.List.{take_all}
use Rattle.covreport.proofs.patterns.Patterns.copy.Goals as goal

-- a list with an element isn't empty
isnt_empty : {X : Type 0} (items list : List X) (i : ℕ) → i < length items → items ≡ list → list ≢ []
isnt_empty items list i within is none = omega (arith, within, ap length (is ∙ none))

at_err : {T E P : Type 0} (r : Result T E) → P → OnErr r P
at_err (Ok x) p = tt
at_err (Err e) p = p

pub loop-pattern-init : goal.loop-pattern-init
loop-pattern-init g c = c.new-copy.ensures

pub returns-in_err-copy-clause-refused : goal.returns-in_err-copy-clause-refused
returns-in_err-copy-clause-refused g c =
    at_err _ (isnt_empty c.deref-pattern-items.result.now c.args.self.now c.loop-pattern.pattern-index c.loop-pattern-test.true (c.deref-pattern-items.ensures.value ∙ c.self.view_is))

pub returns-in_err-push-clause-refused : goal.returns-in_err-push-clause-refused
returns-in_err-push-clause-refused g c =
    at_err _ (isnt_empty c.deref-pattern-items.result.now c.args.self.now c.loop-pattern.pattern-index c.loop-pattern-test.true (c.deref-pattern-items.ensures.value ∙ c.self.view_is))

pub returns-clause-copied : goal.returns-clause-copied
returns-clause-copied g c =
    c.loop-pattern.invariant ∙ take_all c.loop-pattern.pattern-index c.deref-pattern-items.result.now c.loop-pattern-test.false
    ∙ c.deref-pattern-items.ensures.value ∙ c.self.view_is
