-- A store's map of files after one of the files is replaced: what a look-up finds, what contracts see, and what stays.
use Rattle.covstore.proofs.Words.{◌≡◌, ℕ, true, Option, Some, None, option_map, List, [], ◌∷◌, ◌++◌, Vec, sym, ap, ◌∙◌, subst, insert_entry, is_at, slice_cmp, list_any, lookup, set_value, nat_cmp, bytes_eq, false≢true, none-some, File, KeepsIn, KeepsState, AreSettledBut, IsSettledBut, tests_of, ArePairs, put, value_of, FileData, TestData, names_order}
use Rattle.std.specs.List.Sorted.{IsStrictlySortedBy}
use Rattle.std.specs.Map.{keys_of}
use Rattle.std.specs.Option.{is_some}
use Rattle.covstore.proofs.AddsSettled.{file_settled, touched_among}
use Rattle.covstore.proofs.MapKeys.{seen, seen_ascend, seen_set, seen_value}
use Rattle.covstore.proofs.Settled.{file_name, files_with_more}
use Rattle.covstore.proofs.StoreKept.{All-inserted}

-- if a look-up in the map finds no key of this name, the files as contracts see them don't have the name
pub no_place : {K V : Type 0} (name : K → List ℕ) (f : V → FileData) (file : List ℕ) (pairs : List (K × V)) → lookup (is_at (λ other. slice_cmp nat_cmp file (name other))) pairs ≡ None
    → (files : List (List ℕ × FileData)) → seen names_order name f pairs ≡ files → is_some (value_of (slice_cmp nat_cmp) file files) ≡ true → ⊥
no_place name f file pairs none files is there =
    false≢true (sym (ap is_some (seen_value names_order name f file pairs ∙ ap (option_map f) none)) ∙ ap (λ (all : List (List ℕ × FileData)). is_some (value_of (slice_cmp nat_cmp) file all)) is ∙ there)

-- if one view of the map (`f`) has the test, so has any other (`g`)
pub test_too : {K V : Type 0} (name : K → List ℕ) (f g : V → TestData) (test : List ℕ) (pairs : List (K × V)) (points : TestData) → value_of (slice_cmp nat_cmp) test (seen names_order name f pairs) ≡ Some points
    → (other : TestData) × (value_of (slice_cmp nat_cmp) test (seen names_order name g pairs) ≡ Some other)
test_too {K} {V} name f g test pairs points there =
    at (lookup (is_at (λ (other : K). slice_cmp nat_cmp test (name other))) pairs) (seen_value names_order name g test pairs) (sym (seen_value names_order name f test pairs) ∙ there)
  where
    at : (found : Option V) → value_of (slice_cmp nat_cmp) test (seen names_order name g pairs) ≡ option_map g found → option_map f found ≡ Some points
        → (other : TestData) × (value_of (slice_cmp nat_cmp) test (seen names_order name g pairs) ≡ Some other)
    at None e is = absurd (none-some points is)
    at (Some v) e is = (g v, e)

-- ---- one file is written

module _ {K V : Type 0} (name : K → List ℕ) (file : List ℕ) (pairs : List (K × V)) (v : V) (found : lookup (is_at (λ other. slice_cmp nat_cmp file (name other))) pairs ≡ Some v) where
  pub file_value : (f : V → FileData) → value_of (slice_cmp nat_cmp) file (seen names_order name f pairs) ≡ Some (f v)
  file_value f = seen_value names_order name f file pairs ∙ ap (option_map f) found

  module _ (w : V) (after : List (K × V)) (sorted : IsStrictlySortedBy (λ (a b : K). slice_cmp nat_cmp (name a) (name b)) (keys_of pairs))
      (written : after ≡ set_value (is_at (λ other. slice_cmp nat_cmp file (name other))) pairs w) (f : V → FileData) where
    ascend : ArePairs (slice_cmp nat_cmp) (seen names_order name f pairs)
    ascend = seen_ascend names_order name f pairs sorted

    pub file_written : seen names_order name f after ≡ put (slice_cmp nat_cmp) file (f w) (seen names_order name f pairs)
    file_written = ap (seen names_order name f) written ∙ seen_set names_order name f file w pairs ascend (ap is_some (file_value f))

    pub kept_written : KeepsIn (f v) (f w) → KeepsState (seen names_order name f pairs) (seen names_order name f after)
    kept_written keeps = subst (KeepsState (seen names_order name f pairs)) (sym file_written) (keeps (seen names_order name f pairs) file ascend (file_value f))

-- ---- nothing is staged but in touched tests, after one more test is touched

pub written_settled : {A : Type 0} (touched : List (List ℕ × List ℕ)) (file test : List ℕ) (v w : File A) (before after : List (Vec ℕ A × File A))
    → lookup (is_at (λ (other : Vec ℕ A). slice_cmp nat_cmp file other.items)) before ≡ Some v → after ≡ set_value (is_at (λ (other : Vec ℕ A). slice_cmp nat_cmp file other.items)) before w
    → ((tests : List (List ℕ)) → list_any (λ name. bytes_eq name test) tests ≡ true → IsSettledBut tests v → IsSettledBut tests w)
    → AreSettledBut file_name touched before → AreSettledBut file_name (touched ++ (file, test) ∷ []) after
written_settled touched file test v w before after found written settled all =
    file_settled file_name (touched ++ (file, test) ∷ []) file v w before after found written
    (settled (tests_of file (touched ++ (file, test) ∷ [])) (touched_among file test touched))
    (files_with_more touched file test before all)

-- if the inserted file has something staged in this test at most, nothing is staged but in touched tests, of which this one is
-- the last
pub inserted_settled : {A : Type 0} (touched : List (List ℕ × List ℕ)) (file test : List ℕ) (key : Vec ℕ A) (w : File A) (before after : List (Vec ℕ A × File A)) → key.items ≡ file
    → after ≡ insert_entry (λ a b. slice_cmp nat_cmp a.items b.items) before key w → ((tests : List (List ℕ)) → list_any (λ name. bytes_eq name test) tests ≡ true → IsSettledBut tests w)
    → AreSettledBut file_name touched before → AreSettledBut file_name (touched ++ (file, test) ∷ []) after
inserted_settled {A} touched file test key w before after named inserted settled all =
    let own = settled (tests_of file (touched ++ (file, test) ∷ [])) (touched_among file test touched) in
    let at : (other : List ℕ) → file ≡ other → IsSettledBut (tests_of other (touched ++ (file, test) ∷ [])) w =
    λ other same. subst (λ (name : List ℕ). IsSettledBut (tests_of name (touched ++ (file, test) ∷ [])) w) same own in
    subst (AreSettledBut file_name (touched ++ (file, test) ∷ [])) (sym inserted)
    (All-inserted (λ (a b : Vec ℕ A). slice_cmp nat_cmp a.items b.items) (λ (pair : Vec ℕ A × File A). IsSettledBut (tests_of pair.0.items (touched ++ (file, test) ∷ [])) pair.1) key w before
    (at key.items (sym named)) (λ other same. at other.items (sym named ∙ names_order.exact key.items other.items same)) (files_with_more touched file test before all))
