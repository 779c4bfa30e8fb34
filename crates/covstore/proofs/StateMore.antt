-- One more file without tests, or one more test without points in a file: the state of the same rows.
use Rattle.covstore.proofs.Words.{◌≡◌, ℕ, cond, if◌then◌else◌, nat_lt, Option, Some, None, List, [], ◌∷◌, ◌++◌, map, refl, sym, ap, ◌∙◌, subst, inl, inr, arith, ◌⊎◌, slice_cmp, Ordering, Less, Equal, Greater, is_eq, match_ordering, nat_cmp, map-append, none-some, Row, Kind, PointsOf, above_of, at, branch_above, cmp_of, function_above, line_above, AreCounts, is_above_at, put, value_of, FileData, IsIndexOf, IsStateOf, IsConsistentFile, file_with, has_checksum, holders_at, holding, points_in, tests_in, text_in, TestData, test_of, branch_cmp, FileIndexData, empty_index, no_file, names_order}
use Rattle.covstore.proofs.Counts.{count_by-between, counts_empty, counts_none}
use Rattle.covstore.proofs.Puts.{ArePairs-put, value_of-put, value_of-put_other}
use Rattle.covstore.proofs.StateRows.{file_whole, name_or_not, same_rows}
use Rattle.covstore.proofs.StateSections.{points_none, points_same, points_there}
use Rattle.covstore.proofs.EachKind.{each_kind, map_between}

-- ---- a key is put in where it wasn't

-- `after` has one element more than `before`, between a front and a back
pub record HasOneMore {X : Type 0} (x : X) (before after : List X) : Type 0 where
  pub front : List X
  pub back : List X
  pub before_is : before ≡ front ++ back
  pub after_is : after ≡ front ++ x ∷ back

one_more_at : {K V : Type 0} (key : K) (value : V) (pair : K × V) (pairs after : List (K × V)) (found : Option V) (order : Ordering) → cond (is_eq order) (Some pair.1) found ≡ None
    → (found ≡ None → HasOneMore (key, value) pairs after) → HasOneMore (key, value) (pair ∷ pairs) (match_ordering order (pair ∷ after) ((key, value) ∷ pairs) ((key, value) ∷ pair ∷ pairs))
one_more_at {K} {V} key value pair pairs after found Less none rest =
    let more = rest none in
    record { front = pair ∷ more.front; back = more.back; before_is = ap (λ (ps : List (K × V)). pair ∷ ps) more.before_is; after_is = ap (λ (ps : List (K × V)). pair ∷ ps) more.after_is }
one_more_at key value pair pairs after found Equal none rest = absurd (none-some pair.1 (sym none))
one_more_at key value pair pairs after found Greater none rest = record { front = []; back = pair ∷ pairs; before_is = refl; after_is = refl }

pub put_one_more : {K V : Type 0} (cmp : K → K → Ordering) (key : K) (value : V) (pairs : List (K × V)) → value_of cmp key pairs ≡ None → HasOneMore (key, value) pairs (put cmp key value pairs)
put_one_more cmp key value [] none = record { front = []; back = []; before_is = refl; after_is = refl }
put_one_more cmp key value (pair ∷ pairs) none =
    one_more_at key value pair pairs (put cmp key value pairs) (value_of cmp key pairs) (cmp pair.0 key) none (λ later. put_one_more cmp key value pairs later)

-- ---- a file without tests

pub empty_whole : IsConsistentFile no_file
empty_whole = record {
  ascending = tt;
  kept = record {
    counts = each_kind (λ (kind : Kind). AreCounts (cmp_of kind) (above_of kind) [] (at kind empty_index.counts))
        (counts_none nat_cmp line_above) (counts_none (slice_cmp nat_cmp) function_above) (counts_none branch_cmp branch_above);
    holders = λ line. refl;
  };
}

pub file_more : (rows : List Row) (files : List (List ℕ × FileData)) → IsStateOf rows files → (name : List ℕ) → value_of (slice_cmp nat_cmp) name files ≡ None
    → IsStateOf rows (put (slice_cmp nat_cmp) name no_file files)
file_more rows files state name none =
    same_rows rows files state name no_file empty_whole
    (λ test. sym (ap (λ (found : Option FileData). points_in found test) none))
    (λ line text there. absurd (none-some text (sym (ap (λ (found : Option FileData). text_in found line) none) ∙ there)))

-- ---- a test without points

abbrev pub with_test : List ℕ → FileData → FileData
with_test test file = file_with (put (slice_cmp nat_cmp) test (test_of []) file.tests) file.index

-- an index that counts some tests also counts them with one more test without points
module _ (front back : List TestData) (index : FileIndexData) (kept : IsIndexOf (front ++ back) index) where
  counts_with_test : (kind : Kind) → AreCounts (cmp_of kind) (above_of kind) (map (at kind) (front ++ test_of [] ∷ back)) (at kind index.counts)
  counts_with_test kind =
      let before = subst (λ (tests : List (PointsOf kind)). AreCounts (cmp_of kind) (above_of kind) tests (at kind index.counts)) (map-append (at kind) front back) (kept.counts kind) in
      subst (λ (tests : List (PointsOf kind)). AreCounts (cmp_of kind) (above_of kind) tests (at kind index.counts))
      (ap (λ (own : PointsOf kind). map (at kind) front ++ own ∷ map (at kind) back) (sym (no_points kind)) ∙ sym (map_between (at kind) front (test_of []) back))
      (counts_empty (cmp_of kind) (above_of kind) (map (at kind) front) (map (at kind) back) (at kind index.counts) before)
    where
      no_points : (kind : Kind) → at kind (test_of []) ≡ []
      no_points = each_kind (λ kind. at kind (test_of []) ≡ []) refl refl refl

  holders_with_test : (line : ℕ) → holders_at line (front ++ test_of [] ∷ back) ≡ holders_at line (front ++ back)
  holders_with_test line =
      let same : holding line (front ++ test_of [] ∷ back) ≡ holding line (front ++ back) =
      omega (arith, count_by-between (λ (test : TestData). is_above_at has_checksum (value_of nat_cmp line test.lines)) front (test_of []) back) in
      ap (λ (n : ℕ). if nat_lt 0 n then Some n else None) same

  kept_with_test : IsIndexOf (front ++ test_of [] ∷ back) index
  kept_with_test = record { counts = counts_with_test; holders = λ line. kept.holders line ∙ sym (holders_with_test line) }

pub whole_with_test : (test : List ℕ) (file : FileData) → IsConsistentFile file → value_of (slice_cmp nat_cmp) test file.tests ≡ None → IsConsistentFile (with_test test file)
whole_with_test test file whole none =
    let more = put_one_more (slice_cmp nat_cmp) test (test_of []) file.tests none in
    let alone = λ (pair : List ℕ × TestData). pair.1 in
    let before : tests_in file ≡ map alone more.front ++ map alone more.back = ap (map alone) more.before_is ∙ map-append alone more.front more.back in
    let after : tests_in (with_test test file) ≡ map alone more.front ++ test_of [] ∷ map alone more.back = ap (map alone) more.after_is ∙ map-append alone more.front ((test, test_of []) ∷ more.back) in
    record {
      ascending = ArePairs-put names_order test (test_of []) file.tests whole.ascending;
      kept = subst (λ (tests : List TestData). IsIndexOf tests file.index) (sym after)
          (kept_with_test (map alone more.front) (map alone more.back) file.index (subst (λ (tests : List TestData). IsIndexOf tests file.index) before whole.kept));
    }

-- each test has the same points as before
points_with_test : (test : List ℕ) (file : FileData) → value_of (slice_cmp nat_cmp) test file.tests ≡ None → (other : List ℕ) → (test ≡ other) ⊎ (test ≡ other → ⊥)
    → points_in (Some (with_test test file)) other ≡ points_in (Some file) other
points_with_test test file none other (inl is) =
    ap (points_in (Some (with_test test file))) (sym is)
    ∙ points_there (with_test test file) test (test_of []) (value_of-put names_order test (test_of []) file.tests)
    ∙ sym (points_none file test none) ∙ ap (points_in (Some file)) is
points_with_test test file none other (inr apart) = points_same (with_test test file) file other (value_of-put_other names_order test other (test_of []) file.tests apart)

pub test_more : (rows : List Row) (files : List (List ℕ × FileData)) → IsStateOf rows files → (name test : List ℕ) (file : FileData) → value_of (slice_cmp nat_cmp) name files ≡ Some file
    → value_of (slice_cmp nat_cmp) test file.tests ≡ None → IsStateOf rows (put (slice_cmp nat_cmp) name (with_test test file) files)
test_more rows files state name test file there none =
    let whole : IsConsistentFile file = file_whole rows files state name file there in
    same_rows rows files state name (with_test test file) (whole_with_test test file whole none)
    (λ other. points_with_test test file none other (name_or_not test other) ∙ ap (λ (found : Option FileData). points_in found other) (sym there))
    (λ line text held. sym (ap (λ (found : Option FileData). text_in found line) there) ∙ held)
