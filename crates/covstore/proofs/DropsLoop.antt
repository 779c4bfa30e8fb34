-- Totals and sections of files without a test, counted one file after another.
use Rattle.covstore.proofs.Words.{◌≡◌, ℕ, ◌+◌, ◌<◌, ◌^◌, Bool, cond, List, [], ◌∷◌, length, sym, ap, ◌∙◌, arith, AllByRecursion, sum_by, count_by-le-length, sum_by-cons, Totals, AreWithoutTest, IsWithoutTest, FitTogether, FitTotals, no_totals, together, FileData, IsConsistentFile, file_totals, found_at, has_points_of, hit_at, totals_in, Branch, Function, Line}
use Rattle.std.specs.List.{count_by}
use Rattle.covtable.proofs.TotalsKinds.{same_totals}

-- ---- totals of files

pub no_totals_more : (totals : Totals) → together no_totals totals ≡ totals
no_totals_more totals = same_totals (together no_totals totals) totals (omega arith) (omega arith) (omega arith) (omega arith) (omega arith) (omega arith)

pub no_totals_after : (totals : Totals) → together totals (totals_in []) ≡ totals
no_totals_after totals = same_totals (together totals (totals_in [])) totals (omega arith) (omega arith) (omega arith) (omega arith) (omega arith) (omega arith)

-- counting the first of the files that are left doesn't change the sum of what is counted and what is left
one_more : (f : List ℕ × FileData → ℕ) (pair : List ℕ × FileData) (files : List (List ℕ × FileData)) (n : ℕ) → (n + f pair) + sum_by f files ≡ n + sum_by f (pair ∷ files)
one_more f pair files n = omega (arith, sum_by-cons f pair files)

pub totals_taken : (totals : Totals) (pair : List ℕ × FileData) (files : List (List ℕ × FileData)) → together (together totals (file_totals pair.1)) (totals_in files) ≡ together totals (totals_in (pair ∷ files))
totals_taken totals pair files =
    same_totals (together (together totals (file_totals pair.1)) (totals_in files)) (together totals (totals_in (pair ∷ files)))
    (one_more (found_at Line) pair files totals.lf) (one_more (hit_at Line) pair files totals.lh)
    (one_more (found_at Function) pair files totals.ff) (one_more (hit_at Function) pair files totals.fh)
    (one_more (found_at Branch) pair files totals.bf) (one_more (hit_at Branch) pair files totals.bh)

-- if the sum of all totals fits, the sum of a part fits too
pub part_fits : (totals own rest whole : Totals) → together (together totals own) rest ≡ whole → FitTotals whole → FitTogether own totals
part_fits totals own rest whole sum fit = record {
  lf = omega (arith, fit.lf, ap (λ (t : Totals). t.lf) sum);
  lh = omega (arith, fit.lh, ap (λ (t : Totals). t.lh) sum);
  ff = omega (arith, fit.ff, ap (λ (t : Totals). t.ff) sum);
  fh = omega (arith, fit.fh, ap (λ (t : Totals). t.fh) sum);
  bf = omega (arith, fit.bf, ap (λ (t : Totals). t.bf) sum);
  bh = omega (arith, fit.bh, ap (λ (t : Totals). t.bh) sum);
}

-- ---- the loop

module _ (test : List ℕ) (all : List (List ℕ × FileData)) where
  abbrev has_points : List ℕ × FileData → Bool
  has_points pair = has_points_of test pair.1

  -- what is counted so far, and what is still to be counted in the files that are left, make up what all files give without the
  -- test
  pub record IsCounted (left : List (List ℕ × FileData)) (sections : ℕ) (totals : Totals) : Type 0 where
    pub counted : sections + count_by has_points left ≡ count_by has_points all
    pub whole : AllByRecursion (λ pair. IsConsistentFile pair.1) left
    pub rest : (after : List (List ℕ × FileData)) → AreWithoutTest test all after → (later : List (List ℕ × FileData)) × AreWithoutTest test left later × (together totals (totals_in later) ≡ totals_in after)

  pub none_counted : AllByRecursion (λ pair. IsConsistentFile pair.1) all → IsCounted all 0 no_totals
  none_counted whole = record { counted = omega arith; whole = whole; rest = λ after are. (after, are, no_totals_more (totals_in after)) }

  module _ (pair : List ℕ × FileData) (left : List (List ℕ × FileData)) (sections : ℕ) (totals : Totals) (is : IsCounted (pair ∷ left) sections totals) where
    pub next_whole : IsConsistentFile pair.1
    next_whole = is.whole.0

    module _ (own : Totals) (own_is : (after : FileData) → IsWithoutTest test pair.1 after → own ≡ file_totals after) where
      taken : (after later : List (List ℕ × FileData)) → AreWithoutTest test (pair ∷ left) later → together totals (totals_in later) ≡ totals_in after
          → (others : List (List ℕ × FileData)) × AreWithoutTest test left others × (together (together totals own) (totals_in others) ≡ totals_in after)
      taken after [] are e = absurd are
      taken after (first ∷ others) are e =
          (others, are.2, ap (λ (t : Totals). together (together totals t) (totals_in others)) (own_is first.1 are.1) ∙ totals_taken totals first others ∙ e)

      pub one_counted : IsCounted left (sections + cond (has_points pair) 1 0) (together totals own)
      one_counted = record {
        counted = omega (arith, is.counted, sum_by-cons (λ p. cond {A = ℕ} (has_points p) 1 0) pair left);
        whole = is.whole.1;
        rest = λ after are. let later = is.rest after are in taken after later.0 later.1 later.2;
      }

      fits_at : (after later : List (List ℕ × FileData)) → AreWithoutTest test (pair ∷ left) later → together totals (totals_in later) ≡ totals_in after → FitTotals (totals_in after) → FitTogether own totals
      fits_at after later are e fit =
          let next = taken after later are e in
          part_fits totals own (totals_in next.0) (totals_in after) next.2 fit

      pub next_fits : (after : List (List ℕ × FileData)) → AreWithoutTest test all after → FitTotals (totals_in after) → FitTogether own totals
      next_fits after are fit = let later = is.rest after are in fits_at after later.0 later.1 later.2 fit

    pub next_section_fits : length all < 2 ^ 63 → sections + cond (has_points pair) 1 0 < 2 ^ 64
    next_section_fits few = omega (arith, few, is.counted, sum_by-cons (λ p. cond {A = ℕ} (has_points p) 1 0) pair left, count_by-le-length has_points all)

  module _ (sections : ℕ) (totals : Totals) (is : IsCounted [] sections totals) where
    pub all_sections : sections ≡ count_by has_points all
    all_sections = omega (arith, is.counted)

    pub all_totals : (after : List (List ℕ × FileData)) → AreWithoutTest test all after → totals ≡ totals_in after
    all_totals after are = let later = is.rest after are in ends later.0 later.1 later.2
      where
        ends : (later : List (List ℕ × FileData)) → AreWithoutTest test [] later → together totals (totals_in later) ≡ totals_in after → totals ≡ totals_in after
        ends [] none e = sym (no_totals_after totals) ∙ e
        ends (first ∷ others) none e = absurd none
