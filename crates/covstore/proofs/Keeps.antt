-- Adding a file without tests leaves the state as it is.
use Rattle.covstore.proofs.Words.{◌≡◌, ℕ, ◌+◌, None, List, refl, ap, arith, slice_cmp, sum_by, nat_cmp, no_file, KeepsState, ArePairs, put, value_of, Kind, FileData, found_at, hit_at, names_order}
use Rattle.covstore.proofs.Puts.{at_before, sum_by-put}
use Rattle.covstore.proofs.StateMore.{file_more}
use Rattle.covstore.proofs.EachKind.{each_kind, totals_same}

module _ (file : List ℕ) (files : List (List ℕ × FileData)) (ascending : ArePairs (slice_cmp nat_cmp) files) (none : value_of (slice_cmp nat_cmp) file files ≡ None) where
  -- a file that adds 0 to a sum over the files leaves the sum as it is
  nothing_more : (f : List ℕ × FileData → ℕ) → f (file, no_file) ≡ 0 → sum_by f (put (slice_cmp nat_cmp) file no_file files) ≡ sum_by f files
  nothing_more f nothing =
      let moved : sum_by f (put (slice_cmp nat_cmp) file no_file files) + at_before f file (value_of (slice_cmp nat_cmp) file files) ≡ sum_by f files + f (file, no_file) = sum_by-put names_order f file no_file files ascending in
      let before : at_before f file (value_of (slice_cmp nat_cmp) file files) ≡ 0 = ap (at_before f file) none in
      omega (arith, moved, before, nothing)

  pub no_file_keeps : KeepsState files (put (slice_cmp nat_cmp) file no_file files)
  no_file_keeps = record {
    states = λ rows state. file_more rows files state file none;
    totals = totals_same (put (slice_cmp nat_cmp) file no_file files) files (λ kind. (nothing_more (found_at kind) (nothing_found kind), nothing_more (hit_at kind) (nothing_hit kind)));
  }
    where
      nothing_found : (kind : Kind) → found_at kind (file, no_file) ≡ 0
      nothing_found = each_kind (λ kind. found_at kind (file, no_file) ≡ 0) refl refl refl

      nothing_hit : (kind : Kind) → hit_at kind (file, no_file) ≡ 0
      nothing_hit = each_kind (λ kind. hit_at kind (file, no_file) ≡ 0) refl refl refl
