-- The totals of a state's sections are the numbers that its indexes keep.
use Rattle.covstore.proofs.Words.{◌≡◌, ℕ, Bool, List, [], ◌∷◌, ◌++◌, length, map, refl, sym, ap, subst, ⊎_elim, append_assoc, Ordering, AllByRecursion, flat_map, sum_by, BranchPoint, Row, LineSum, TestCounts, Branch, Function, KeyOf, Kind, Line, SumOf, above_of, at, cmp_of, Agree, checksums_in, BranchValueData, FunctionValueData, LineValueData, SectionData, content_of, AreCounts, found_of, hit_of, ArePairs, FileData, IsStateOf, IsConsistentFile, branch_seen, found_at, function_seen, hit_at, line_seen, section_seen, section_with_points, sections_of, sections_of_file, totals_in, TestData, over_files, own_sections, totals_of, All-in, In}
use Rattle.std.specs.List.{count_by}
use Rattle.covstore.specs.declared.sums.FunctionSum.{FunctionSum}
use Rattle.covstore.specs.declared.sums.BranchSum.{BranchSum}
use Rattle.covstore.proofs.Counts.{counts_unempty}
use Rattle.covstore.proofs.CountsKinds.{ValueOf, above_in, ascend, counted, found_in, is_hit_in, valued}
use Rattle.covstore.proofs.CountsMapped.{counts_mapped_at}
use Rattle.covstore.proofs.StateFiles.{over_all, own_seen}
use Rattle.covstore.proofs.StateSections.{sections_as}
use Rattle.covstore.proofs.StateSeen.{HasNone, seen_or_not}
use Rattle.covtable.proofs.ContentsKinds.{map_of_map}
use Rattle.covtable.proofs.TotalsKinds.{same_totals}

-- ---- the counts of a file's points are those of its sections

module _ {K V W : Type 0} (cmp : K → K → Ordering) (is_above : V → Bool) (is_other : W → Bool) (seen : K → V → W) (same : (key : K) (value : V) → is_other (seen key value) ≡ is_above value)
    (points : TestData → List (K × V)) (points_of : SectionData → List (K × W)) (file : List ℕ) (texts : List (ℕ × List ℕ)) (none : (test : TestData) → HasNone test → points test ≡ [])
    (whole : (name : List ℕ) (test : TestData) → points_of (section_with_points file texts name test) ≡ map (λ pair. (pair.0, seen pair.0 pair.1)) (points test)) where
  abbrev seen_points : TestData → List (K × W)
  seen_points test = map (λ pair. (pair.0, seen pair.0 pair.1)) (points test)

  abbrev part : List ℕ × TestData → List SectionData
  part test = section_seen file texts test.0 test.1

  abbrev all_points : List (List ℕ × TestData) → List (List (K × W))
  all_points tests = map (map (λ (pair : K × V). (pair.0, seen pair.0 pair.1))) (map points (map (λ (test : List ℕ × TestData). test.1) tests))

  -- tests without points have no section, and aren't counted
  seen_counts_from : (front : List (List (K × W))) (tests : List (List ℕ × TestData)) (counts : List (K × TestCounts)) → AreCounts cmp is_other (front ++ all_points tests) counts
      → AreCounts cmp is_other (front ++ map points_of (flat_map part tests)) counts
  seen_counts_from front [] counts are = are
  seen_counts_from front (test ∷ tests) counts are =
      ⊎_elim {C = AreCounts cmp is_other (front ++ map points_of (part test ++ flat_map part tests)) counts}
      (λ found.
      let empty : seen_points test.1 ≡ [] = ap (map (λ (pair : K × V). (pair.0, seen pair.0 pair.1))) (none test.1 found.0) in
      let others : AreCounts cmp is_other (front ++ map points_of (flat_map part tests)) counts =
      seen_counts_from front tests counts
      (counts_unempty cmp is_other front (all_points tests) counts (subst (λ (own : List (K × W)). AreCounts cmp is_other (front ++ own ∷ all_points tests) counts) empty are)) in
      subst (λ (own : List SectionData). AreCounts cmp is_other (front ++ map points_of (own ++ flat_map part tests)) counts) (sym found.1) others)
      (λ found.
      let own = seen_points test.1 in
      let others : AreCounts cmp is_other ((front ++ own ∷ []) ++ map points_of (flat_map part tests)) counts =
      seen_counts_from (front ++ own ∷ []) tests counts
      (subst (λ (all : List (List (K × W))). AreCounts cmp is_other all counts) (sym (append_assoc front (own ∷ []) (all_points tests))) are) in
      let joined : AreCounts cmp is_other (front ++ own ∷ map points_of (flat_map part tests)) counts =
      subst (λ (all : List (List (K × W))). AreCounts cmp is_other all counts) (append_assoc front (own ∷ []) (map points_of (flat_map part tests))) others in
      let of_section : AreCounts cmp is_other (front ++ points_of (section_with_points file texts test.0 test.1) ∷ map points_of (flat_map part tests)) counts =
      subst (λ (first : List (K × W)). AreCounts cmp is_other (front ++ first ∷ map points_of (flat_map part tests)) counts) (sym (whole test.0 test.1)) joined in
      subst (λ (sections : List SectionData). AreCounts cmp is_other (front ++ map points_of (sections ++ flat_map part tests)) counts) (sym found.1) of_section)
      (seen_or_not file texts test.0 test.1)

  seen_counts : (tests : List (List ℕ × TestData)) (counts : List (K × TestCounts)) → AreCounts cmp is_above (map points (map (λ (test : List ℕ × TestData). test.1) tests)) counts
      → AreCounts cmp is_other (map points_of (flat_map part tests)) counts
  seen_counts tests counts are =
      seen_counts_from [] tests counts (counts_mapped_at cmp is_above is_other seen same (map points (map (λ (test : List ℕ × TestData). test.1) tests)) counts are)

-- ---- each kind

abbrev seen_of : (kind : Kind) → List (ℕ × List ℕ) → KeyOf kind → SumOf kind → ValueOf kind
seen_of Line texts line sum = line_seen texts (line, sum)
seen_of Function texts name sum = function_seen (name, sum)
seen_of Branch texts point sum = branch_seen (point, sum)

seen_above : (kind : Kind) (texts : List (ℕ × List ℕ)) (key : KeyOf kind) (sum : SumOf kind) → above_in kind (seen_of kind texts key sum) ≡ above_of kind sum
seen_above Line texts key sum = refl
seen_above Function texts key sum = refl
seen_above Branch texts key sum = refl

none_at : (kind : Kind) (test : TestData) → HasNone test → at kind test ≡ []
none_at Line test none = none.lines
none_at Function test none = none.functions
none_at Branch test none = none.branches

whole_at : (kind : Kind) (file : List ℕ) (texts : List (ℕ × List ℕ)) (name : List ℕ) (test : TestData) → valued kind (section_with_points file texts name test) ≡ map (λ pair. (pair.0, seen_of kind texts pair.0 pair.1)) (at kind test)
whole_at Line file texts name test = map_of_map (line_seen texts) (λ (l : LineValueData). (l.line, l)) (λ (pair : ℕ × LineSum). (pair.0, line_seen texts (pair.0, pair.1))) test.lines (λ pair. refl)
whole_at Function file texts name test = map_of_map function_seen (λ (f : FunctionValueData). (f.name, f)) (λ (pair : List ℕ × FunctionSum). (pair.0, function_seen (pair.0, pair.1))) test.functions (λ pair. refl)
whole_at Branch file texts name test = map_of_map branch_seen (λ (b : BranchValueData). (b.point, b)) (λ (pair : BranchPoint × BranchSum). (pair.0, branch_seen (pair.0, pair.1))) test.branches (λ pair. refl)

kind_seen : (kind : Kind) (pair : List ℕ × FileData) → IsConsistentFile pair.1 → AreCounts (cmp_of kind) (above_in kind) (map (valued kind) (sections_of_file pair)) (at kind pair.1.index.counts)
kind_seen kind pair whole =
    let texts = pair.1.index.texts in
    seen_counts (cmp_of kind) (above_of kind) (above_in kind) (seen_of kind texts) (seen_above kind texts) (at kind) (valued kind) pair.0 texts (none_at kind) (whole_at kind pair.0 texts)
    pair.1.tests (at kind pair.1.index.counts) (whole.kept.counts kind)

-- ---- all kinds

module _ (rows : List Row) (files : List (List ℕ × FileData)) (state : IsStateOf rows files) where
  -- what is true of the sections of this file that rows add up to is true of those that are seen of the file
  of_seen : (P : SectionData → Type 0) (pair : List ℕ × FileData) → In pair files → AllByRecursion P (own_sections pair.0 (content_of rows)) → AllByRecursion P (sections_of_file pair)
  of_seen P pair i all =
      subst (AllByRecursion P) (own_seen files state.ascending pair i)
      (subst (λ (sections : List SectionData). AllByRecursion P (own_sections pair.0 sections)) (sym (sections_as rows files state)) all)

  pair_whole : (pair : List ℕ × FileData) → In pair files → IsConsistentFile pair.1
  pair_whole pair i = All-in (λ (p : List ℕ × FileData). IsConsistentFile p.1) files pair state.whole i

  pub kept : (kind : Kind) (pair : List ℕ × FileData) → In pair files
      → (length (found_in kind (sections_of_file pair)) ≡ found_at kind pair) × (count_by (is_hit_in kind (sections_of_file pair)) (found_in kind (sections_of_file pair)) ≡ hit_at kind pair)
  kept kind pair i =
      counted kind (sections_of_file pair) (at kind pair.1.index.counts) (of_seen (λ s. ArePairs (cmp_of kind) (valued kind s)) pair i (ascend kind pair.0 rows)) (kind_seen kind pair (pair_whole pair i))

  all_found : (kind : Kind) → over_files (λ own. length (found_in kind own)) (sections_of files) ≡ sum_by (found_at kind) files
  all_found kind = over_all (λ own. length (found_in kind own)) refl files state.ascending (λ file. found_of (at kind file.index.counts)) (λ pair i. (kept kind pair i).0)

  all_hit : (kind : Kind) → over_files (λ own. count_by (is_hit_in kind own) (found_in kind own)) (sections_of files) ≡ sum_by (hit_at kind) files
  all_hit kind = over_all (λ own. count_by (is_hit_in kind own) (found_in kind own)) refl files state.ascending (λ file. hit_of (at kind file.index.counts)) (λ pair i. (kept kind pair i).1)

  pub totals_as : totals_of (sections_of files) ≡ totals_in files
  totals_as = same_totals (totals_of (sections_of files)) (totals_in files) (all_found Line) (all_hit Line) (all_found Function) (all_hit Function) (all_found Branch) (all_hit Branch)

pub totals_are : (rows : List Row) (files : List (List ℕ × FileData)) → IsStateOf rows files → Agree (checksums_in rows) → totals_of (sections_of files) ≡ totals_in files
totals_are rows files state agree = totals_as rows files state
