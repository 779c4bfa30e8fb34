use Rattle.std.proofs.Common.{refl, sym, ◌∙◌}
use Rattle.std.proofs.lemmas.List.Folds.{list_any_at}
use Rattle.covread.specs.declared.trace.tally.StatedTotal.{StatedTotal}
use Rattle.covread.specs.TraceTally.{states, stated_record}
use Rattle.covread.proofs.TraceDistinct.{list_any_on}
use Rattle.covread.proofs.trace.tally.any_states.Goals as goal

pub returns-then-has : goal.returns-then-has
returns-then-has c =
    sym (list_any_on stated_record (states c.args.sort) (λ (s : StatedTotal). states c.args.sort (stated_record s)) (λ s. refl) c.args.totals.now
    ∙ list_any_at (λ (s : StatedTotal). states c.args.sort (stated_record s)) c.args.totals.now c.loop-stated.stated-index _ c.loop-stated-test.true (sym c.if-has.ensures))
