-- For a list and a condition, there is only one list of the elements that meet the condition.
use Rattle.std.proofs.Common.{◌≡◌, inl, inr, List, [], ◌∷◌, sym, ap, ◌∙◌}
use Rattle.covcheck.specs.Skipped.{AreAllThat}

pub those_are_one : {X : Type 0} (holds : X → Type 0) (all x y : List X) → AreAllThat holds all x → AreAllThat holds all y → x ≡ y
those_are_one holds [] x y is also = is ∙ sym also
those_are_one holds (m ∷ ms) x y (inl is) (inl also) =
    is.2 ∙ ap (λ (others : List _). m ∷ others) (those_are_one holds ms is.1 also.1 is.3 also.3) ∙ sym also.2
those_are_one holds (m ∷ ms) x y (inl is) (inr also) = absurd (also.0 is.0)
those_are_one holds (m ∷ ms) x y (inr is) (inl also) = absurd (is.0 also.0)
those_are_one holds (m ∷ ms) x y (inr is) (inr also) = those_are_one holds ms x y is.1 also.1
