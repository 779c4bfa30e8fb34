-- Lines about rules for paths that were applied to no source file, rule by rule.
use Rattle.std.proofs.Common.{◌≡◌, ℕ, ◌+◌, ◌<◌, Bool, true, false, List, [], ◌++◌, length, get_or, drop, drop-cons, add-one, append_assoc, if◌then◌else◌, sym, ap, ◌∙◌}
use Rattle.covpaths.specs.Paths.{RuleData}
use Rattle.covworkers.specs.declared.refused.RefusedInput.{RefusedInput}
use Rattle.covcombine.specs.Combine.{is_used, unused_from}
use Rattle.covcombine.specs.Messages.{unused_line}
use Rattle.covcombine.specs.declared.note.Note.{Note}

module _ (front : List ℕ) (notes : List (RefusedInput Note)) (rules : List RuleData) (place : ℕ) (within : place < length rules) where
  -- the lines about the rules from some place on are that about the rule there, and those from the next place on
  unused_at : (d : RuleData) → unused_from front notes place (drop place rules)
      ≡ (if is_used notes place then [] else unused_line front (get_or rules place d)) ++ unused_from front notes (place + 1) (drop (place + 1) rules)
  unused_at d =
      ap (unused_from front notes place) (drop-cons rules place d within)
      ∙ ap (λ (n : ℕ). (if is_used notes place then [] else unused_line front (get_or rules place d)) ++ unused_from front notes n (drop n rules)) (sym (add-one place))

  module _ (lines whole : List ℕ) (so_far : lines ++ unused_from front notes place (drop place rules) ≡ whole) where
    -- a rule that was applied
    pub rule_used : is_used notes place ≡ true → lines ++ unused_from front notes (place + 1) (drop (place + 1) rules) ≡ whole
    rule_used is =
        let d : RuleData = record { old = []; new = [] } in
        sym
        (ap (λ (b : Bool). lines ++ ((if b then [] else unused_line front (get_or rules place d)) ++ unused_from front notes (place + 1) (drop (place + 1) rules))) is)
        ∙ sym (ap (λ (t : List ℕ). lines ++ t) (unused_at d)) ∙ so_far

    -- a rule that wasn't, and its line
    pub rule_unused : is_used notes place ≡ false → (d : RuleData) (after : List ℕ) → after ≡ lines ++ unused_line front d → d ≡ get_or rules place d
        → after ++ unused_from front notes (place + 1) (drop (place + 1) rules) ≡ whole
    rule_unused is d after put same =
        ap (λ (l : List ℕ). l ++ unused_from front notes (place + 1) (drop (place + 1) rules)) put
        ∙ joined lines (unused_line front d) (unused_from front notes (place + 1) (drop (place + 1) rules))
        ∙ ap (λ (r : RuleData). lines ++ (unused_line front r ++ unused_from front notes (place + 1) (drop (place + 1) rules))) same
        ∙ sym
        (ap (λ (b : Bool). lines ++ ((if b then [] else unused_line front (get_or rules place d)) ++ unused_from front notes (place + 1) (drop (place + 1) rules))) is)
        ∙ sym (ap (λ (t : List ℕ). lines ++ t) (unused_at d)) ∙ so_far
      where
        joined : (a b c : List ℕ) → (a ++ b) ++ c ≡ a ++ (b ++ c)
        joined a b c = simp append_assoc
