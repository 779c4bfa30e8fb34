use Rattle.std.proofs.Common.{◌-◌, ◌≤◌, ℕ, List, length, take, Some, ap, sym, subst, ◌∙◌}
use Rattle.covread.specs.GcovReading.{in_class, rest_of}
use Rattle.covread.proofs.GcovParts.{rest_fits, front_taken, front_none, front_some}
use Rattle.covread.proofs.gcov.text.split_some.Goals as goal

pub returns-then-rest-text : goal.returns-then-rest-text
returns-then-rest-text c = sym (front_none (in_class c.args.class) c.args.text.now (ap (λ (t : List ℕ). length t) (sym c.after_all-rest.ensures) ∙ c.if-rest-text.true))

pub slice_bounds-result-count : goal.slice_bounds-result-count
slice_bounds-result-count c = subst (λ (t : List ℕ). length t ≤ length c.args.text.now) (sym c.after_all-rest.ensures) (rest_fits (in_class c.args.class) c.args.text.now)

pub returns : goal.returns
returns c =
    let text = c.args.text.now in
    let kind = in_class c.args.class in
    ap (λ (t : List ℕ). Some (take (length text - length t) text, t)) c.after_all-rest.ensures
    ∙ ap (λ (t : List ℕ). Some (t, rest_of kind text)) (front_taken kind text)
    ∙ sym (front_some kind text (λ e. c.if-rest-text.false (ap (λ (t : List ℕ). length t) c.after_all-rest.ensures ∙ e)))
