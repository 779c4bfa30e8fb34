-- The number of files in which a test has points, counted one file after another.
use Rattle.covstore.proofs.Words.{◌≡◌, ℕ, ◌+◌, ◌<◌, ◌^◌, Bool, cond, List, [], ◌∷◌, length, arith, count_by-le-length, sum_by-cons, FileData, has_points_of}
use Rattle.std.specs.List.{count_by}

module _ (test : List ℕ) (all : List (List ℕ × FileData)) where
  abbrev has_points : List ℕ × FileData → Bool
  has_points pair = has_points_of test pair.1

  abbrev pub AreCounted : List (List ℕ × FileData) → ℕ → Type 0
  AreCounted left sections = sections + count_by has_points left ≡ count_by has_points all

  pub none_counted : AreCounted all 0
  none_counted = omega arith

  module _ (pair : List ℕ × FileData) (left : List (List ℕ × FileData)) (sections : ℕ) (is : AreCounted (pair ∷ left) sections) where
    pub one_counted : AreCounted left (sections + cond (has_points pair) 1 0)
    one_counted = omega (arith, is, sum_by-cons (λ p. cond {A = ℕ} (has_points p) 1 0) pair left)

    pub one_section_fits : length all < 2 ^ 63 → sections + cond (has_points pair) 1 0 < 2 ^ 64
    one_section_fits few = omega (arith, few, is, sum_by-cons (λ p. cond {A = ℕ} (has_points p) 1 0) pair left, count_by-le-length has_points all)

  pub all_counted : (sections : ℕ) → AreCounted [] sections → sections ≡ count_by has_points all
  all_counted sections is = omega (arith, is)
