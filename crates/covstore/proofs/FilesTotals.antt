-- The files of a state's sections are the files with points, each with the totals that its index keeps.
use Rattle.covstore.proofs.Words.{◌≡◌, ℕ, ◌==◌, ◌&&◌, true, List, [], ◌∷◌, ◌++◌, length, map, refl, sym, ap, ◌∙◌, subst, inl, inr, ⊎_elim, arith, flat_map, sum_by, and_from, and_parts, cond-true, cond-false, eq-eqb, eqb-true, false_from_ne_true, map-append, sum_by-cons, Row, Totals, SectionData, finds_nothing, Branch, Function, Kind, Line, at, found_of, hit_of, FileData, IsStateOf, branch_seen, file_totals, found_at, function_seen, line_seen, section_seen, section_with_points, sections_of, sections_of_file, IsStore, TestData, all_rows, over_files, totals_of, In-to_ascending, In-flat, In, In-map}
use Rattle.std.specs.List.{count_by}
use Rattle.std.proofs.lemmas.List.{append-nil}
use Rattle.covtable.specs.Files.{FileTotalsData, file_with_totals, files_with_totals}
use Rattle.covstore.specs.FilesView.{file_if_found, file_seen, files_with_points}
use Rattle.covstore.proofs.CountsKinds.{ValueOf, found_in, is_hit_in, key_in, values_in}
use Rattle.covstore.proofs.EachKind.{order_of}
use Rattle.covstore.proofs.StateFiles.{name_if, name_seen, names_seen, over_all, own_seen}
use Rattle.covstore.proofs.StateOrder.{section_of_test}
use Rattle.covstore.proofs.StateSeen.{HasNone, seen_or_not}
use Rattle.covstore.proofs.StateTotals.{kept}
use Rattle.covtable.proofs.TotalsKinds.{same_totals}

-- ---- a file without found points has no section

no_element : {X : Type 0} (xs : List X) (x : X) → In x xs → length xs ≡ 0 → ⊥
no_element [] x i e = i
no_element (y ∷ ys) x i e = omega (arith, e)

none_mapped : {X Y : Type 0} (f : X → Y) (xs : List X) → map f xs ≡ [] → xs ≡ []
none_mapped f [] e = refl
none_mapped f (x ∷ xs) e = let lengths = ap length e in absurd (omega (arith, lengths))

-- if no point of a kind is found in some sections, none of them has any
values_none : (kind : Kind) (own : List SectionData) (section : SectionData) → In section own → length (found_in kind own) ≡ 0 → values_in kind section ≡ []
values_none kind own section i e = by (values_in kind section) refl
  where
    by : (values : List (ValueOf kind)) → values_in kind section ≡ values → values_in kind section ≡ []
    by [] is = is
    by (v ∷ values) is =
        let own_key : In (key_in kind v) (map (key_in kind) (values_in kind section)) = In-map (key_in kind) (values_in kind section) v (subst (In v) (sym is) (inl refl)) in
        let all = flat_map (λ (s : SectionData). map (key_in kind) (values_in kind s)) own in
        absurd (no_element (found_in kind own) (key_in kind v)
        (In-to_ascending (order_of kind).exact (key_in kind v) all (In-flat (λ (s : SectionData). map (key_in kind) (values_in kind s)) own section (key_in kind v) i own_key)) e)

-- a section that is seen of a test has points
some_values : (file : List ℕ) (texts : List (ℕ × List ℕ)) (test : List ℕ) (points : TestData) (section : SectionData) → In section (section_seen file texts test points)
    → ((kind : Kind) → values_in kind section ≡ []) → ⊥
some_values file texts test points section i none =
    ⊎_elim {C = ⊥} (λ seen. subst (In section) seen.1 i) (λ seen. by seen.0 (subst (In section) seen.1 i)) (seen_or_not file texts test points)
  where
    by : (HasNone points → ⊥) → In section (section_with_points file texts test points ∷ []) → ⊥
    by some (inl is) = some (record {
      lines = none_mapped (line_seen texts) points.lines (ap (λ (s : SectionData). s.lines) is ∙ none Line);
      functions = none_mapped function_seen points.functions (ap (λ (s : SectionData). s.functions) is ∙ none Function);
      branches = none_mapped branch_seen points.branches (ap (λ (s : SectionData). s.branches) is ∙ none Branch);
    })
    by some (inr j) = j

-- nothing is found exactly if there is no line, no function and no branch
none_of : (totals : Totals) → finds_nothing totals ≡ true → (totals.lf ≡ 0) × (totals.ff ≡ 0) × (totals.bf ≡ 0)
none_of totals e =
    let two = and_parts (totals.lf == 0 && totals.ff == 0) (totals.bf == 0) e in
    let first = and_parts (totals.lf == 0) (totals.ff == 0) two.0 in
    (eqb-true totals.lf 0 first.0, eqb-true totals.ff 0 first.1, eqb-true totals.bf 0 two.1)

of_none : (totals : Totals) → totals.lf ≡ 0 → totals.ff ≡ 0 → totals.bf ≡ 0 → finds_nothing totals ≡ true
of_none totals lines functions branches =
    and_from (totals.lf == 0 && totals.ff == 0) (totals.bf == 0)
    (and_from (totals.lf == 0) (totals.ff == 0) (eq-eqb totals.lf 0 lines) (eq-eqb totals.ff 0 functions)) (eq-eqb totals.bf 0 branches)

-- ---- a file, with the totals of its sections

-- a file with these totals
abbrev named : List ℕ → Totals → FileTotalsData
named file totals = record { path = file; totals = totals }

sum_of_one : {X : Type 0} (f : X → ℕ) (x : X) → sum_by f (x ∷ []) ≡ f x
sum_of_one f x = omega (arith, sum_by-cons f x [])

module _ (rows : List Row) (files : List (List ℕ × FileData)) (state : IsStateOf rows files) (pair : List ℕ × FileData) (i : In pair files) where
  abbrev own : List SectionData
  own = sections_of_file pair

  -- what is counted in the sections of one file is what is counted in all files, if there is no other
  counted_alone : (count : List SectionData → ℕ) → count [] ≡ 0 → (keeps : FileData → ℕ) → count own ≡ keeps pair.1 → over_files count own ≡ keeps pair.1
  counted_alone count none keeps same =
      ap (over_files count) (sym (append-nil own)) ∙ over_all count none (pair ∷ []) (tt, tt) keeps alone ∙ sum_of_one (λ (p : List ℕ × FileData). keeps p.1) pair
    where
      alone : (p : List ℕ × FileData) → In p (pair ∷ []) → count (sections_of_file p) ≡ keeps p.1
      alone p (inl is) = subst (λ (q : List ℕ × FileData). count (sections_of_file q) ≡ keeps q.1) is same
      alone p (inr j) = absurd j

  found_alone : (kind : Kind) → over_files (λ sections. length (found_in kind sections)) own ≡ found_of (at kind pair.1.index.counts)
  found_alone kind = counted_alone (λ sections. length (found_in kind sections)) refl (λ file. found_of (at kind file.index.counts)) (kept rows files state kind pair i).0

  hit_alone : (kind : Kind) → over_files (λ sections. count_by (is_hit_in kind sections) (found_in kind sections)) own ≡ hit_of (at kind pair.1.index.counts)
  hit_alone kind =
      counted_alone (λ sections. count_by (is_hit_in kind sections) (found_in kind sections)) refl (λ file. hit_of (at kind file.index.counts)) (kept rows files state kind pair i).1

  own_totals : totals_of own ≡ file_totals pair.1
  own_totals = same_totals (totals_of own) (file_totals pair.1) (found_alone Line) (hit_alone Line) (found_alone Function) (hit_alone Function) (found_alone Branch) (hit_alone Branch)

  none_found : finds_nothing (file_totals pair.1) ≡ true → (kind : Kind) → length (found_in kind own) ≡ 0
  none_found e kind = (kept rows files state kind pair i).0 ∙ by kind
    where
      none : (found_of pair.1.index.counts.lines ≡ 0) × (found_of pair.1.index.counts.functions ≡ 0) × (found_of pair.1.index.counts.branches ≡ 0)
      none = none_of (file_totals pair.1) e

      by : (kind : Kind) → found_at kind pair ≡ 0
      by Line = none.0
      by Function = none.1
      by Branch = none.2

  -- a file with a section has points
  some_found : (section : SectionData) → In section own → finds_nothing (file_totals pair.1) ≡ true → ⊥
  some_found section j e =
      let test = section_of_test pair section j in
      some_values pair.0 pair.1.index.texts test.0.0 test.0.1 section test.2 (λ kind. values_none kind own section j (none_found e kind))

  pair_seen : map (file_with_totals (sections_of files)) (name_seen pair) ≡ file_if_found pair
  pair_seen = by own refl
    where
      by : (sections : List SectionData) → own ≡ sections → map (file_with_totals (sections_of files)) (name_if pair.0 sections) ≡ file_if_found pair
      by [] is =
          let none = λ (kind : Kind). sym (kept rows files state kind pair i).0 ∙ ap (λ (sections : List SectionData). length (found_in kind sections)) is in
          sym (cond-true (finds_nothing (file_totals pair.1)) [] (file_seen pair ∷ []) (of_none (file_totals pair.1) (none Line) (none Function) (none Branch)))
      by (section ∷ sections) is =
          ap (λ (totals : Totals). named pair.0 totals ∷ []) (ap totals_of (own_seen files state.ascending pair i) ∙ own_totals)
          ∙ sym (cond-false (finds_nothing (file_totals pair.1)) [] (file_seen pair ∷ [])
          (false_from_ne_true (finds_nothing (file_totals pair.1)) (some_found section (subst (In section) (sym is) (inl refl)))))

-- ---- all files

mapped_parts : {X Y Z : Type 0} (f : Y → Z) (part : X → List Y) (other : X → List Z) (xs : List X) → ((x : X) → In x xs → map f (part x) ≡ other x) → map f (flat_map part xs) ≡ flat_map other xs
mapped_parts f part other [] same = refl
mapped_parts {X} {Y} {Z} f part other (x ∷ xs) same =
    map-append f (part x) (flat_map part xs)
    ∙ ap (λ (own : List Z). own ++ map f (flat_map part xs)) (same x (inl refl))
    ∙ ap (λ (rest : List Z). other x ++ rest) (mapped_parts f part other xs (λ y i. same y (inr i)))

files_seen : (rows : List Row) (files : List (List ℕ × FileData)) → IsStateOf rows files → files_with_totals (sections_of files) ≡ files_with_points files
files_seen rows files state =
    ap (map (file_with_totals (sections_of files))) (names_seen files state.ascending)
    ∙ mapped_parts (file_with_totals (sections_of files)) name_seen file_if_found files (λ pair i. pair_seen rows files state pair i)

pub files_of_store : (members : ℕ) (committed : Totals) (files : List (List ℕ × FileData)) → IsStore members committed files → files_with_totals (sections_of files) ≡ files_with_points files
files_of_store members committed files is = files_seen (all_rows is.own) files is.state
