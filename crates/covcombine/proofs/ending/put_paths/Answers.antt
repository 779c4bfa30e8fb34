use Rattle.std.proofs.Common.{◌++◌, ap, sym, ◌∙◌, List, ℕ}
use Rattle.covpaths.specs.Paths.{RuleData}
use Rattle.covcombine.specs.Messages.{unused_line}
use Rattle.covcombine.proofs.Rules.{rule_unused, rule_used}
use Rattle.covcombine.proofs.ending.put_paths.Goals.{then-not-is_used+in_ok-put_unused, else-not-is_used}
use Rattle.covcombine.proofs.ending.put_paths.Goals as goal

pub loop-place-preserved : goal.loop-place-preserved
loop-place-preserved c =
    elim c.if-not-is_used.branch [
      | then-not-is_used+in_ok-put_unused w ↦ record {
        lines = rw w.lines-is
            (rule_unused c.args.front.now c.args.notes.now c.args.rules.now c.loop-place.place c.loop-place-test.true c.loop-place.lines _ c.loop-place.invariant.lines
            (sym c.is_used.ensures ∙ w.if-not-is_used.true) w.index-rules-place.result w.put_unused.new.lines
            (w.in_ok-put_unused.ensures
            ∙ ap (λ (r : RuleData). c.loop-place.lines ++ unused_line c.args.front.now r)
            (ap (λ (old : List ℕ). record { old = old; new = w.new.result.now }) w.old.ensures ∙ ap (λ (new : List ℕ). record { old = w.index-rules-place.result.old; new = new }) w.new.ensures))
            w.index-rules-place.is);
      }
      | else-not-is_used w ↦ record {
        lines = rw w.lines-is
            (rule_used c.args.front.now c.args.notes.now c.args.rules.now c.loop-place.place c.loop-place-test.true c.loop-place.lines _ c.loop-place.invariant.lines
            (sym c.is_used.ensures ∙ w.if-not-is_used.false));
      }
    ]
