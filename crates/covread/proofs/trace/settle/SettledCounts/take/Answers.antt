use Rattle.std.proofs.Common.{◌≡◌, ℕ, ◌≤◌, Bool, true, false, cond, length, Option, Some, None, ap, sym, ◌∙◌, refl, arith}
use Rattle.std.specs.Prelude.{option_map}
use mir.Val.{bool_byte}
use Rattle.covread.specs.TraceFunctions.{AreFunctions}
use Rattle.covread.specs.TraceSection.{mark}
use Rattle.covread.specs.TraceSettle.{names_in}
use Rattle.covread.proofs.TraceSection.{settled_some, settled_none, length_set, names_more}
use Rattle.covread.proofs.trace.settle.SettledCounts.take.Goals as goal

byte_is : (b : Bool) → bool_byte b ≡ cond b 1 0
byte_is true = refl
byte_is false = refl

byte_few : (b : Bool) → bool_byte b ≤ 1
byte_few true = omega arith
byte_few false = omega arith

none_was : (o : Option ℕ) {F : Type 0} (f : ℕ → F) → None ≡ option_map f o → o ≡ None
none_was None f e = refl
none_was (Some line) f e = absurd cc

pub overflow_add-self : goal.overflow_add-self
overflow_add-self g c = omega (arith, c.requires.fits, c.from-more.ensures, byte_few c.in-Some.found.is_first_hit)

pub returns-in-None-clause-settled : goal.returns-in-None-clause-settled
returns-in-None-clause-settled g c = λ starts ms before fs h.
    settled_none starts ms (mark c.args.count.now) _ _ _ before _ (none_was (starts c.args.count.now.name.now) _ (sym c.in-None.is ∙ c.count_function.ensures.found starts (names_in starts ms) fs)) c.in_ok-push-in-None.ensures.items h

pub returns-in-None-clause-functions : goal.returns-in-None-clause-functions
returns-in-None-clause-functions g c = λ starts ms fs. names_more (λ names functions. AreFunctions functions starts names) _ starts ms (mark c.args.count.now) (c.count_function.ensures.marks starts (names_in starts ms) fs)

pub returns-clause-settled : goal.returns-clause-settled
returns-clause-settled g c = λ starts ms before fs h.
    settled_some starts ms (mark c.args.count.now) _ c.from-more.result _ before _ _ c.in-Some.found (sym c.in-Some.is ∙ c.count_function.ensures.found starts (names_in starts ms) fs)
    (c.from-more.ensures ∙ byte_is c.in-Some.found.is_first_hit) c.set_start.ensures.items h

pub returns-clause-functions : goal.returns-clause-functions
returns-clause-functions g c = λ starts ms fs. names_more (λ names functions. AreFunctions functions starts names) _ starts ms (mark c.args.count.now) (c.count_function.ensures.marks starts (names_in starts ms) fs)

pub returns-clause-length : goal.returns-clause-length
returns-clause-length g c = ap length c.set_start.ensures.items ∙ length_set _ _ _

pub returns-clause-few : goal.returns-clause-few
returns-clause-few g c = omega (arith, c.from-more.ensures, byte_few c.in-Some.found.is_first_hit)
