-- The numbers change in the program as the definitions say for one more item.
use Rattle.covstore.proofs.Words.{◌≡◌, ℕ, Bool, true, false, ◌||◌, if◌then◌else◌, Option, Some, None, List, refl, Ordering, LineSum, TestCounts, changed, change_by, change_of, counts_with, is_above_at, is_new, is_newly_hit, tests_more, put, value_of, has_checksum, line_with}

-- ---- the change of a point's numbers

module _ {K V : Type 0} (cmp : K → K → Ordering) (is_above : V → Bool) (key : K) (counts : List (K × TestCounts)) where
  changed_by : (new newly : Bool) → changed cmp key (change_by new newly) counts
      ≡ (if new then put cmp key (tests_more true newly (value_of cmp key counts)) counts else if newly then put cmp key (tests_more false true (value_of cmp key counts)) counts else counts)
  changed_by true newly = refl
  changed_by false true = refl
  changed_by false false = refl

  pub changed_is : (before : Option V) (after : V) → changed cmp key (change_of is_above before after) counts ≡ counts_with cmp is_above key before after counts
  changed_is before after = changed_by (is_new before) (is_newly_hit is_above before after)

-- ---- a line's checksum

either_true : (b : Bool) → (b || true) ≡ true
either_true true = refl
either_true false = refl

either_false : (b : Bool) → (b || false) ≡ b
either_false true = refl
either_false false = refl

pub line_checked : (count : ℕ) (before : Option LineSum) → (line_with count true before).has_checksum ≡ true
line_checked count None = refl
line_checked count (Some committed) = either_true committed.has_checksum

pub line_bare : (count : ℕ) (before : Option LineSum) → (line_with count false before).has_checksum ≡ is_above_at has_checksum before
line_bare count None = refl
line_bare count (Some committed) = either_false committed.has_checksum
