-- Which names stand twice, found with the set of all earlier names.
use Rattle.std.proofs.Common.{◌≡◌, ◌⊎◌, inl, inr, ⊎_elim, ℕ, zero, suc, ◌+◌, ◌<◌, ◌≤◌, Bool, true, false, true≢false, List, [], ◌∷◌, ◌++◌, length, map, take, drop, get_or, refl, sym, ap, subst, ◌∙◌, arith}
use Rattle.std.proofs.lemmas.List.{get_or-map, length-append, length-map, map_push, take-map, take_all, take_more}
use Rattle.std.proofs.lemmas.List.Folds.{list_any-append}
use Rattle.std.proofs.lemmas.Map.Text.{is_eq-slice_cmp}
use Rattle.std.proofs.lemmas.Map.Views.{Contains-from_any}
use Rattle.std.proofs.lemmas.Slice.Eq.{bytes_eq-Decides}
use Rattle.std.specs.BTreeMap.{is_at}
use Rattle.std.specs.BTreeSet.{insert_key}
use Rattle.std.specs.Cmp.Lexicographic.{slice_cmp}
use Rattle.std.specs.List.{list_any}
use Rattle.std.specs.Ordering.{is_eq, match_ordering, nat_cmp}
use Rattle.std.specs.Prelude.{◌||◌, not, Contains}
use Rattle.std.specs.Str.{bytes_eq}
use Rattle.std.specs.declared.cmp.Ordering.{Ordering}
use Rattle.std.specs.declared.cmp.Ordering.TheVariants.{Less, Equal, Greater}
use Rattle.covtable.proofs.Members.{In, In-from}
use Rattle.covcombine.specs.Options.{IsTwice}

-- ---- lists

split : {X : Type 0} (xs : List X) (i : ℕ) (d : X) → i < length xs → xs ≡ take i xs ++ get_or xs i d ∷ drop (suc i) xs
split [] i d within = absurd (omega (arith, within))
split (x ∷ xs) zero d within = refl
split {X} (x ∷ xs) (suc i) d within = ap (λ (ys : List X). x ∷ ys) (split xs i d (omega (arith, within)))

-- a name that is among the earlier ones stands twice
pub here : (names : List (List ℕ)) (i : ℕ) (d : List ℕ) → i < length names → Contains (take i names) (get_or names i d) → IsTwice names (get_or names i d)
here names i d within earlier = (take i names, drop (suc i) names, split names i d within, earlier)

-- where a list with one element more has an element
split_last : {X : Type 0} (xs before after : List X) (x y : X) → xs ++ x ∷ [] ≡ before ++ y ∷ after → ((xs ≡ before) × (x ≡ y)) ⊎ ((rest : List X) × (xs ≡ before ++ y ∷ rest))
split_last {X} [] [] after x y is = inl (refl, ap (λ (l : List X). get_or l 0 y) is)
split_last {X} [] (b ∷ before) after x y is =
    let long = ap (λ (l : List X). length l) is in
    let parts = length-append before (y ∷ after) in
    absurd (omega (arith, long, parts))
split_last {X} (z ∷ xs) [] after x y is = inr (xs, ap (λ (w : X). w ∷ xs) (ap (λ (l : List X). get_or l 0 y) is))
split_last {X} (z ∷ xs) (b ∷ before) after x y is =
    let first : z ≡ b = ap (λ (l : List X). get_or l 0 y) is in
    ⊎_elim (λ same. inl (ap (λ (w : X). w ∷ xs) first ∙ ap (λ (l : List X). b ∷ l) same.0, same.1))
    (λ more. inr (more.0, ap (λ (w : X). w ∷ xs) first ∙ ap (λ (l : List X). b ∷ l) more.1))
    (split_last xs before after x y (ap (λ (l : List X). drop 1 l) is))

-- one name more, which is none of the names so far
pub none_more : (names : List (List ℕ)) (name : List ℕ) → ((n : List ℕ) → IsTwice names n → ⊥) → (Contains names name → ⊥) → (n : List ℕ) → IsTwice (names ++ name ∷ []) n → ⊥
none_more names name none absent n (before, after, is, earlier) =
    ⊎_elim (λ same. absent (subst (λ (x : List ℕ). Contains names x) (sym same.1) (subst (λ (xs : List (List ℕ)). Contains xs n) (sym same.0) earlier)))
    (λ more. none n (before, more.0, more.1, earlier)) (split_last names before after name n is)

pub none_first : (n : List ℕ) → IsTwice [] n → ⊥
none_first n (before, after, is, earlier) =
    let long = ap (λ (l : List (List ℕ)). length l) is in
    let parts = length-append before (n ∷ after) in
    omega (arith, long, parts)

-- ---- the set

or_right : (a b : Bool) → b ≡ true → (a || b) ≡ true
or_right true b is = refl
or_right false b is = is

or_same : (a b c : Bool) → b ≡ a → (b || c) ≡ (a || (b || c))
or_same true true c same = refl
or_same true false c same = absurd (true≢false (sym same))
or_same false b c same = refl

or_turned : (a b c : Bool) → (a || (b || c)) ≡ (b || (a || c))
or_turned true true c = refl
or_turned true false c = refl
or_turned false b c = refl

or_last : (a b : Bool) → (a || b) ≡ (b || (a || false))
or_last true true = refl
or_last true false = refl
or_last false true = refl
or_last false false = refl

-- a set with one key more passes a test if the key or an earlier one does
any_inserted : {K : Type 0} (cmp : K → K → Ordering) (test : K → Bool) (k : K) (ks : List K) → ((x : K) → cmp k x ≡ Equal → test x ≡ test k)
    → list_any test (insert_key cmp ks k) ≡ (test k || list_any test ks)
any_inserted cmp test k [] same = refl
any_inserted cmp test k (x ∷ xs) same = go (cmp k x) (same x) (any_inserted cmp test k xs same)
  where
    go : (o : Ordering) → (o ≡ Equal → test x ≡ test k) → list_any test (insert_key cmp xs k) ≡ (test k || list_any test xs)
        → list_any test (match_ordering o (k ∷ x ∷ xs) (x ∷ xs) (x ∷ insert_key cmp xs k)) ≡ (test k || (test x || list_any test xs))
    go Less same later = refl
    go Equal same later = or_same (test k) (test x) (list_any test xs) (same refl)
    go Greater same later = ap (λ (b : Bool). test x || b) later ∙ or_turned (test x) (test k) (list_any test xs)

-- whether the set of keys has this name, where a key is seen by its name
abbrev pub has : {X : Type 0} → (text : X → List ℕ) → (keys : List X) → (name : List ℕ) → Bool
has text keys name = list_any (is_at (λ k. slice_cmp nat_cmp name (text k))) keys

same_text : (xs ys : List ℕ) → slice_cmp nat_cmp xs ys ≡ Equal → ys ≡ xs
same_text xs ys is = sym ((bytes_eq-Decides xs ys).0 (sym (is_eq-slice_cmp xs ys) ∙ ap (λ (o : Ordering). is_eq o) is))

-- the set has the names so far, and then one more
pub has_more : {X : Type 0} (text : X → List ℕ) (keys : List X) (key : X) (names : List (List ℕ)) (q : List ℕ) → has text keys q ≡ list_any (bytes_eq q) names
    → has text (insert_key (λ x y. slice_cmp nat_cmp (text x) (text y)) keys key) q ≡ list_any (bytes_eq q) (names ++ text key ∷ [])
has_more {X} text keys key names q same =
    any_inserted (λ x y. slice_cmp nat_cmp (text x) (text y)) (is_at (λ k. slice_cmp nat_cmp q (text k))) key keys
    (λ (x : X) is. ap (λ (t : List ℕ). is_eq (slice_cmp nat_cmp q t)) (same_text (text key) (text x) is))
    ∙ ap (λ (b : Bool). b || has text keys q) (is_eq-slice_cmp q (text key))
    ∙ ap (λ (b : Bool). bytes_eq q (text key) || b) same
    ∙ or_last (bytes_eq q (text key)) (list_any (bytes_eq q) names)
    ∙ sym (list_any-append (bytes_eq q) names (text key ∷ []))

-- a name that the set has is one of the names
pub is_there : (names : List (List ℕ)) (name : List ℕ) (had : Bool) → had ≡ list_any (bytes_eq name) names → had ≡ true → Contains names name
is_there names name had same is = Contains-from_any (λ x y. (bytes_eq-Decides x y).0) name names (sym same ∙ is)

pub is_absent : (names : List (List ℕ)) (name : List ℕ) (had : Bool) → had ≡ list_any (bytes_eq name) names → had ≡ false → Contains names name → ⊥
is_absent names name had same is within = true≢false (sym (found names (In-from names name within)) ∙ sym same ∙ is)
  where
    found : (ns : List (List ℕ)) → In name ns → list_any (bytes_eq name) ns ≡ true
    found [] none = absurd none
    found (n ∷ ns) (inl is) = ap (λ (b : Bool). b || list_any (bytes_eq name) ns) ((bytes_eq-Decides name n).1 (sym is))
    found (n ∷ ns) (inr more) = or_right (bytes_eq name n) (list_any (bytes_eq name) ns) (found ns more)

-- ---- the words of a call, as far as they were looked at

module _ {X : Type 0} (text : X → List ℕ) (words : List X) (i : ℕ) (d : X) (within : i < length words) (name : List ℕ) (is : name ≡ text (get_or words i d)) where
  -- the set had the name of this word before, so the name stands twice
  pub twice_at : (had : Bool) → had ≡ list_any (bytes_eq name) (map text (take i words)) → had ≡ true → IsTwice (map text words) name
  twice_at had same found =
      let at : get_or (map text words) i name ≡ name = get_or-map text words i d name within ∙ sym is in
      let earlier : Contains (take i (map text words)) name =
      subst (λ (ns : List (List ℕ)). Contains ns name) (sym (take-map text i words)) (is_there (map text (take i words)) name had same found) in
      subst (λ (n : List ℕ). IsTwice (map text words) n) at
      (here (map text words) i name (omega (arith, within, length-map words text)) (subst (λ (n : List ℕ). Contains (take i (map text words)) n) (sym at) earlier))

  pub one_more : map text (take (i + 1) words) ≡ map text (take i words) ++ name ∷ []
  one_more =
      ap (map text) (take_more words i d within) ∙ map_push text (take i words) (get_or words i d)
      ∙ ap (λ (n : List ℕ). map text (take i words) ++ n ∷ []) (sym is)

  -- where this word's name is among all names
  pub placed : map text words ≡ map text (take i words) ++ name ∷ drop (suc i) (map text words)
  placed =
      split (map text words) i name (omega (arith, within, length-map words text))
      ∙ ap (λ (n : List ℕ). take i (map text words) ++ n ∷ drop (suc i) (map text words)) (get_or-map text words i d name within ∙ sym is)
      ∙ ap (λ (ns : List (List ℕ)). ns ++ name ∷ drop (suc i) (map text words)) (take-map text i words)

  -- no name stands twice up to this word either
  pub none_on : (had : Bool) → had ≡ list_any (bytes_eq name) (map text (take i words)) → had ≡ false → ((n : List ℕ) → IsTwice (map text (take i words)) n → ⊥)
      → (n : List ℕ) → IsTwice (map text (take (i + 1) words)) n → ⊥
  none_on had same absent none n twice =
      none_more (map text (take i words)) name none (is_absent (map text (take i words)) name had same absent) n (subst (λ (ns : List (List ℕ)). IsTwice ns n) one_more twice)

  -- the set has the names up to this word
  pub seen_on : {K : Type 0} (seen : K → List ℕ) (keys after : List K) (key : K) → seen key ≡ name → after ≡ insert_key (λ x y. slice_cmp nat_cmp (seen x) (seen y)) keys key
      → (q : List ℕ) → has seen keys q ≡ list_any (bytes_eq q) (map text (take i words)) → has seen after q ≡ list_any (bytes_eq q) (map text (take (i + 1) words))
  seen_on {K} seen keys after key key_is after_is q before =
      ap (λ (ks : List K). has seen ks q) after_is
      ∙ has_more seen keys key (map text (take i words)) q before
      ∙ ap (λ (n : List ℕ). list_any (bytes_eq q) (map text (take i words) ++ n ∷ [])) key_is
      ∙ ap (list_any (bytes_eq q)) (sym one_more)

-- a key that isn't new was there
pub was_there : (had is_new : Bool) → is_new ≡ not had → is_new ≡ false → had ≡ true
was_there true is_new same is = refl
was_there false is_new same is = absurd (true≢false (sym same ∙ is))

pub was_new : (had is_new : Bool) → is_new ≡ not had → is_new ≡ true → had ≡ false
was_new true is_new same is = absurd (true≢false (sym is ∙ same))
was_new false is_new same is = refl

-- all words were looked at
pub none_at_end : {X : Type 0} (text : X → List ℕ) (words : List X) (i : ℕ) → length words ≤ i → ((n : List ℕ) → IsTwice (map text (take i words)) n → ⊥) → (n : List ℕ) → IsTwice (map text words) n → ⊥
none_at_end {X} text words i done none n twice = none n (subst (λ (ws : List X). IsTwice (map text ws) n) (sym (take_all i words done)) twice)
