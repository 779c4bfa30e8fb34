-- The entries of a map while the value of one name is taken out, and after another value is put in instead.
use Rattle.covstore.proofs.Words.{◌≡◌, ◌≢◌, ℕ, Some, None, List, sym, ap, ◌∙◌, is_at, slice_cmp, lookup, set_value, nat_cmp, put, value_of, TestData, names_order}
use Rattle.std.specs.List.Sorted.{IsStrictlySortedBy}
use Rattle.std.specs.Map.{keys_of}
use Rattle.covstore.proofs.AddsFile.{no_test, test_value, test_written}
use Rattle.covstore.proofs.AddsLists.{put_there, put_twice}
use Rattle.covstore.proofs.MapKeys.{seen, seen_ascend}
use Rattle.covstore.proofs.Puts.{value_of-put, value_of-put_other}

module _ {K V : Type 0} (name : K → List ℕ) (f : V → TestData) (new : List ℕ) (pairs mid : List (K × V)) (target empty : V)
    (sorted : IsStrictlySortedBy (λ (a b : K). slice_cmp nat_cmp (name a) (name b)) (keys_of pairs))
    (found : lookup (is_at (λ other. slice_cmp nat_cmp new (name other))) pairs ≡ Some target)
    (lifted : mid ≡ set_value (is_at (λ other. slice_cmp nat_cmp new (name other))) pairs empty) where
  seen_lifted : seen names_order name f mid ≡ put (slice_cmp nat_cmp) new (f empty) (seen names_order name f pairs)
  seen_lifted = test_written name f new pairs target empty mid sorted found lifted

  -- the name is still there
  pub place_there : lookup (is_at (λ other. slice_cmp nat_cmp new (name other))) mid ≡ None → ⊥
  place_there none =
      no_test name f new mid (f empty) none (ap (value_of (slice_cmp nat_cmp) new) seen_lifted ∙ value_of-put names_order new (f empty) (seen names_order name f pairs))

  -- another name keeps its value
  module _ (old : List ℕ) (apart : old ≢ new) where
    other_stays : value_of (slice_cmp nat_cmp) old (seen names_order name f mid) ≡ value_of (slice_cmp nat_cmp) old (seen names_order name f pairs)
    other_stays = ap (value_of (slice_cmp nat_cmp) old) seen_lifted ∙ value_of-put_other names_order new old (f empty) (seen names_order name f pairs) (λ same. apart (sym same))

    pub other_found : (source : V) → lookup (is_at (λ other. slice_cmp nat_cmp old (name other))) mid ≡ Some source → value_of (slice_cmp nat_cmp) old (seen names_order name f pairs) ≡ Some (f source)
    other_found source there = sym other_stays ∙ test_value name f old mid source there

    pub other_there : (points : TestData) → value_of (slice_cmp nat_cmp) old (seen names_order name f pairs) ≡ Some points → lookup (is_at (λ other. slice_cmp nat_cmp old (name other))) mid ≡ None → ⊥
    other_there points there none = no_test name f old mid points none (other_stays ∙ there)

  -- a value is put in instead of the value that was taken out
  module _ (v w : V) (after : List (K × V)) (sorted_mid : IsStrictlySortedBy (λ (a b : K). slice_cmp nat_cmp (name a) (name b)) (keys_of mid))
      (found_mid : lookup (is_at (λ other. slice_cmp nat_cmp new (name other))) mid ≡ Some v)
      (back : after ≡ set_value (is_at (λ other. slice_cmp nat_cmp new (name other))) mid w) where
    pub put_back : seen names_order name f after ≡ put (slice_cmp nat_cmp) new (f w) (seen names_order name f pairs)
    put_back =
        test_written name f new mid v w after sorted_mid found_mid back ∙ ap (put (slice_cmp nat_cmp) new (f w)) seen_lifted
        ∙ put_twice names_order new (f empty) (f w) (seen names_order name f pairs)

    pub same_back : f w ≡ f target → seen names_order name f after ≡ seen names_order name f pairs
    same_back same =
        put_back ∙ ap (λ (t : TestData). put (slice_cmp nat_cmp) new t (seen names_order name f pairs)) same
        ∙ put_there names_order new (f target) (seen names_order name f pairs) (seen_ascend names_order name f pairs sorted) (test_value name f new pairs target found)
