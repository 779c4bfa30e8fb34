-- The totals of all files after one of them is replaced: they fit in 64 bits, and `exchanged` gives them.
use Rattle.covstore.proofs.Words.{◌≡◌, ℕ, ◌+◌, ◌-◌, ◌≤◌, ◌^◌, Some, List, [], ◌∷◌, length, map, sym, ap, ◌∙◌, subst, arith, inl, inr, slice_cmp, sum_by, nat_cmp, length-map, sum_by-cons, ItemData, Row, Totals, content_of, FitTogether, IsAmong, exchanged, ArePairs, put, value_of, FileData, IsStateOf, file_totals, found_at, hit_at, totals_in, totals_of, Branch, Function, Line, In, names_order}
use Rattle.std.proofs.lemmas.Map.Made.{distinct_count-le}
use Rattle.covtable.specs.Counted.{Kind, branches, found, functions, in_file, is_same, lines, points_of}
use Rattle.covstore.proofs.AddsPlace.{state_agrees}
use Rattle.covtable.proofs.Few.{few_parts, one_branch, one_function, one_line}
use Rattle.covstore.proofs.Puts.{at_before, pair_in, sum_by-put}
use Rattle.covstore.proofs.StateSections.{sections_are}
use Rattle.covstore.proofs.StateTotals.{totals_are}
use Rattle.covtable.proofs.TotalsDifferent.{are_totals, branches_counted, functions_counted, lines_counted}
use Rattle.covtable.proofs.TotalsKinds.{same_totals}

-- ---- a file's totals are part of all totals

in_sum : {X : Type 0} (f : X → ℕ) (xs : List X) (x : X) → In x xs → f x ≤ sum_by f xs
in_sum f [] x i = absurd i
in_sum f (y ∷ ys) x (inl same) = omega (arith, sum_by-cons f y ys, ap f same)
in_sum f (y ∷ ys) x (inr i) = omega (arith, sum_by-cons f y ys, in_sum f ys x i)

module _ (name : List ℕ) (file : FileData) (files : List (List ℕ × FileData)) (there : value_of (slice_cmp nat_cmp) name files ≡ Some file) where
  its_part : (f : List ℕ × FileData → ℕ) → f (name, file) ≤ sum_by f files
  its_part f = in_sum f files (name, file) (pair_in names_order name file files there)

  pub file_among : IsAmong (file_totals file) (totals_in files)
  file_among = record {
    lf = its_part (found_at Line);
    lh = its_part (hit_at Line);
    ff = its_part (found_at Function);
    fh = its_part (hit_at Function);
    bf = its_part (found_at Branch);
    bh = its_part (hit_at Branch);
  }

-- ---- the file is replaced

module _ (name : List ℕ) (before after : FileData) (files : List (List ℕ × FileData)) (ascending : ArePairs (slice_cmp nat_cmp) files) (there : value_of (slice_cmp nat_cmp) name files ≡ Some before) where
  exchanged_part : (f : List ℕ × FileData → ℕ) → sum_by f files - f (name, before) + f (name, after) ≡ sum_by f (put (slice_cmp nat_cmp) name after files)
  exchanged_part f =
      let own : at_before f name (value_of (slice_cmp nat_cmp) name files) ≡ f (name, before) = ap (at_before f name) there in
      omega (arith, sum_by-put names_order f name after files ascending, own, its_part name before files there f)

  pub files_exchanged : exchanged (totals_in files) (file_totals before) (file_totals after) ≡ totals_in (put (slice_cmp nat_cmp) name after files)
  files_exchanged =
      same_totals (exchanged (totals_in files) (file_totals before) (file_totals after)) (totals_in (put (slice_cmp nat_cmp) name after files))
      (exchanged_part (found_at Line)) (exchanged_part (hit_at Line))
      (exchanged_part (found_at Function)) (exchanged_part (hit_at Function))
      (exchanged_part (found_at Branch)) (exchanged_part (hit_at Branch))

-- ---- no larger than the number of rows

-- each total is at most this number
pub record IsAtMost (most : ℕ) (totals : Totals) : Type 0 where
  pub lf : totals.lf ≤ most
  pub lh : totals.lh ≤ most
  pub ff : totals.ff ≤ most
  pub fh : totals.fh ≤ most
  pub bf : totals.bf ≤ most
  pub bh : totals.bh ≤ most

found_few : {X : Type 0} (kind : Kind X) → ((item : ItemData) → length (kind.point item) ≤ 1) → (rows : List Row) → found kind rows ≤ length rows
found_few {X} kind one rows =
    omega (
      arith,
      distinct_count-le (is_same kind) (points_of kind rows),
      few_parts (λ (row : Row). map (in_file row.file) (kind.point row.item)) (λ row. omega (arith, length-map (kind.point row.item) (in_file {X = X} row.file), one row.item)) rows,
    )

content_few : (rows : List Row) → IsAtMost (length rows) (totals_of (content_of rows))
content_few rows =
    let are = are_totals (content_of rows) in
    record {
      lf = omega (arith, (lines_counted rows).0, found_few lines one_line rows);
      lh = omega (arith, (lines_counted rows).0, found_few lines one_line rows, are.lines);
      ff = omega (arith, (functions_counted rows).0, found_few functions one_function rows);
      fh = omega (arith, (functions_counted rows).0, found_few functions one_function rows, are.functions);
      bf = omega (arith, (branches_counted rows).0, found_few branches one_branch rows);
      bh = omega (arith, (branches_counted rows).0, found_few branches one_branch rows, are.branches);
    }

pub totals_few : (rows : List Row) (files : List (List ℕ × FileData)) → IsStateOf rows files → IsAtMost (length rows) (totals_in files)
totals_few rows files state =
    let agree = state_agrees rows files state in
    subst (IsAtMost (length rows)) (ap totals_of (sym (sections_are rows files state agree)) ∙ totals_are rows files state agree) (content_few rows)

-- ---- the totals fit together with those of the file after rows are added

pub exchanged_fits : (rows more : List Row) (files files_after : List (List ℕ × FileData)) (name : List ℕ) (after : FileData) → IsStateOf rows files → IsStateOf more files_after
    → value_of (slice_cmp nat_cmp) name files_after ≡ Some after → length rows ≤ 2 ^ 47 → length more ≤ 2 ^ 47 → FitTogether (file_totals after) (totals_in files)
exchanged_fits rows more files files_after name after state later there few few_more =
    let whole = totals_few rows files state in
    let all = totals_few more files_after later in
    let part = file_among name after files_after there in
    record {
      lf = omega (arith, whole.lf, all.lf, part.lf, few, few_more);
      lh = omega (arith, whole.lh, all.lh, part.lh, few, few_more);
      ff = omega (arith, whole.ff, all.ff, part.ff, few, few_more);
      fh = omega (arith, whole.fh, all.fh, part.fh, few, few_more);
      bf = omega (arith, whole.bf, all.bf, part.bf, few, few_more);
      bh = omega (arith, whole.bh, all.bh, part.bh, few, few_more);
    }
