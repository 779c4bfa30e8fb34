-- Nothing is staged in a file but in some of its tests. This stays true while the tests and what is seen of the index stay.
use Rattle.covstore.proofs.Words.{◌≡◌, ℕ, false, List, sym, ◌∙◌, subst, Vec, AllByRecursion, list_any, bytes_eq, File, Test, index_committed, index_staged, IsSettledBut, test_committed, test_staged}
use Rattle.covstore.specs.FileParts.{FileTests}

pub settled_same : {A : Type 0} (tests : List (List ℕ)) (before after : File A) → after.tests ≡ before.tests → index_committed after.index ≡ index_committed before.index
    → index_staged after.index ≡ index_staged before.index → IsSettledBut tests before → IsSettledBut tests after
settled_same {A} tests before after same committed staged settled = record {
  index = λ all.
      staged ∙ settled.index (subst (λ (t : FileTests A). AllByRecursion (λ (pair : Vec ℕ A × Test A). list_any (λ test. bytes_eq test pair.0.items) tests ≡ false) t.entries) same all) ∙ sym committed;
  points = subst (λ (t : FileTests A). AllByRecursion (λ (pair : Vec ℕ A × Test A). list_any (λ test. bytes_eq test pair.0.items) tests ≡ false → test_staged pair.1 ≡ test_committed pair.1) t.entries) (sym same) settled.points;
}
