use Rattle.std.proofs.Common.{rules, ◌≡◌, ◌||◌, Bool, Some, ap, sym, ◌∙◌}
use Rattle.std.proofs.lemmas.Map.Text.{btree_map_updates_str}
use Rattle.covread.specs.declared.trace.functions.Function.{Function}
use Rattle.covread.proofs.TraceFunctions.{count_taken, or_true, or_false}
use Rattle.covread.proofs.trace.functions.count_function.Goals as goal
use Rattle.covread.proofs.trace.functions.count_function.Goals.{then-is_hit-2, else-is_hit-2}

pub returns-after-is_hit-2-clause-marks : goal.returns-after-is_hit-2-clause-marks
returns-after-is_hit-2-clause-marks g c = λ starts names h.
    let was = c.in-Some.function.now in
    let now = c.if-is_hit-2.function in
    let new = c.get_mut.follows.lender now in
    let start : now.start ≡ was.start = elim c.if-is_hit-2.branch [
      | then-is_hit-2 w ↦ ap (λ (f : Function). f.start) w.function-is
      | else-is_hit-2 w ↦ ap (λ (f : Function). f.start) w.function-is
    ] in
    let hit : now.is_hit ≡ (was.is_hit || c.args.is_hit) = elim c.if-is_hit-2.branch [
      | then-is_hit-2 w ↦ ap (λ (f : Function). f.is_hit) w.function-is ∙ sym (or_true was.is_hit) ∙ ap (λ (b : Bool). was.is_hit || b) (sym w.if-is_hit-2.true)
      | else-is_hit-2 w ↦ ap (λ (f : Function). f.is_hit) w.function-is ∙ sym (or_false was.is_hit) ∙ ap (λ (b : Bool). was.is_hit || b) (sym w.if-is_hit-2.false)
    ] in
    count_taken c.args.functions.now new starts names c.args.name.now c.args.is_hit was now (sym c.in-Some.ensures.value) start hit
    (λ q. btree_map_updates_str c.args.name.now c.args.functions.now new (Some now) ((c.get_mut.follows.holds now).3 (search rules)) q) h
