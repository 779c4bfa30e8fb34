use Rattle.std.proofs.Common.{◌≤◌, ◌-◌, ℕ, List, length, take, ap, subst, sym, ◌∙◌}
use Rattle.std.proofs.lemmas.List.{take_min}
use Rattle.covcheck.specs.Skipped.{beginning_of}
use Rattle.covcheck.specs.CheckSteps.{after_word}
use Rattle.covcheck.proofs.Starts.{left_fits, beginning_taken}
use Rattle.covcheck.proofs.start.start_of.Goals as goal

pub slice_bounds-result-count : goal.slice_bounds-result-count
slice_bounds-result-count c =
    let front = take c.min.result c.args.line.now in
    subst (λ (t : List ℕ). length t ≤ length front) (sym (c.after_word-rest.ensures ∙ ap after_word c.after_cuts.ensures)) (left_fits front)

pub returns : goal.returns
returns c =
    let front = take c.min.result c.args.line.now in
    ap (λ (t : List ℕ). take (length front - length t) front) (c.after_word-rest.ensures ∙ ap after_word c.after_cuts.ensures)
    ∙ beginning_taken front
    ∙ ap (λ (n : ℕ). beginning_of (take n c.args.line.now)) c.min.ensures
    ∙ ap beginning_of (take_min 16 c.args.line.now)
