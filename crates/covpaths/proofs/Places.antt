-- The words of rules, and what follows the beginning of a path, byte by byte.
use Rattle.std.proofs.Common.{◌≡◌, ℕ, suc, ◌<◌, Bool, true, false, ◌&&◌, ◌||◌, not, eqb, List, [], ◌∷◌, ◌++◌, length, take, drop, get_or, None, Some, refl, sym, ap, ap₂, ◌∙◌, append_assoc, append-nil, arith}
use Rattle.std.specs.Prelude.{◌≢◌}
use Rattle.std.specs.Bool.{beq}
use Rattle.std.proofs.lemmas.Bool.{cond-true, cond-false, false≢true}
use Rattle.std.proofs.lemmas.Bool.Decides.{nat_tests}
use lib.Pointwise.{pointwise}
use Rattle.covpaths.specs.Paths.{ends_at_slash, is_apart, rest_after, rest_if_apart, rest_under, RuleData, rule_after, rule_of}

-- ---- a rule's word

abbrev pub rule : (old new : List ℕ) → RuleData
rule old new = record { old = old; new = new }

abbrev HasNone : List ℕ → Type 0
HasNone xs = (i : ℕ) → i < length xs → get_or xs i 0 ≢ 61

rule_found : (front xs ys : List ℕ) → HasNone xs → rule_after front (xs ++ 61 ∷ ys) ≡ Some (record { old = front ++ xs; new = ys })
rule_found front [] ys none = ap (λ (l : List ℕ). Some (rule l ys)) (sym (append-nil front))
rule_found front (x ∷ xs) ys none =
    let other : eqb x 61 ≡ false = let h : x ≢ 61 = none 0 (omega arith) in grind (arith, nat_tests) in
    cond-false (eqb x 61) (Some (rule front (xs ++ 61 ∷ ys))) (rule_after (front ++ x ∷ []) (xs ++ 61 ∷ ys)) other
    ∙ rule_found (front ++ x ∷ []) xs ys (λ i lt. none (suc i) (omega arith))
    ∙ ap (λ (l : List ℕ). Some (rule l ys)) (append_assoc front (x ∷ []) xs)

rule_missing : (front xs : List ℕ) → HasNone xs → rule_after front xs ≡ None
rule_missing front [] none = refl
rule_missing front (x ∷ xs) none =
    let other : eqb x 61 ≡ false = let h : x ≢ 61 = none 0 (omega arith) in grind (arith, nat_tests) in
    cond-false (eqb x 61) (Some (rule front xs)) (rule_after (front ++ x ∷ []) xs) other
    ∙ rule_missing (front ++ x ∷ []) xs (λ i lt. none (suc i) (omega arith))

-- the word is `old`, a sign and `new`
pub rule_is : (word old new xs ys : List ℕ) → old ≡ xs → new ≡ ys → (word ≡ xs ++ 61 ∷ ys) × HasNone xs → rule_of word ≡ Some (rule old new)
rule_is word old new xs ys same also (is, none) = ap rule_of is ∙ rule_found [] xs ys none ∙ ap₂ (λ (old new : List ℕ). Some (rule old new)) (sym same) (sym also)

pub no_rule : (word : List ℕ) → HasNone word → rule_of word ≡ None
no_rule word none = rule_missing [] word none

pub is_nothing : (bytes : List ℕ) → eqb (length bytes) 0 ≡ true → bytes ≡ []
is_nothing [] e = refl
is_nothing (b ∷ bytes) e = let some : eqb (suc (length bytes)) 0 ≡ false = grind (arith, nat_tests) in absurd (false≢true (sym some ∙ e))

-- ---- what follows the beginning of a path

both : (s t : Bool) → (s && t) ≡ true → (s ≡ true) × (t ≡ true)
both true t h = (refl, h)
both false t h = absurd (false≢true h)

eqb_back : (a b : ℕ) (r : Bool) → eqb b a ≡ r → eqb a b ≡ r
eqb_back a b true h = grind (arith, nat_tests)
eqb_back a b false h = grind (arith, nat_tests)

stripped : (old path : List ℕ) → pointwise eqb (take (length old) path) old ≡ true → rest_after old path ≡ Some (drop (length old) path)
stripped [] path h = refl
stripped (a ∷ old) [] h = absurd (false≢true h)
stripped (a ∷ old) (b ∷ path) h =
    let parts = both (eqb b a) (pointwise eqb (take (length old) path) old) h in
    cond-true (eqb a b) (rest_after old path) None (eqb_back a b true parts.0) ∙ stripped old path parts.1

not_stripped : (old path : List ℕ) → pointwise eqb (take (length old) path) old ≡ false → rest_after old path ≡ None
not_stripped [] path h = absurd (false≢true (sym h))
not_stripped (a ∷ old) [] h = refl
not_stripped (a ∷ old) (b ∷ path) h = by (eqb b a) refl (λ more. not_stripped old path more)
  where
    by : (r : Bool) → eqb b a ≡ r → (pointwise eqb (take (length old) path) old ≡ false → rest_after old path ≡ None) → rest_after (a ∷ old) (b ∷ path) ≡ None
    by true is more =
        cond-true (eqb a b) (rest_after old path) None (eqb_back a b true is)
        ∙ more (sym (ap (λ (r : Bool). r && pointwise eqb (take (length old) path) old) is) ∙ h)
    by false is more = cond-false (eqb a b) (rest_after old path) None (eqb_back a b false is)

pub no_rest : (old path : List ℕ) → pointwise eqb (take (length old) path) old ≡ false → None ≡ rest_under old path
no_rest old path h = sym (ap (rest_if_apart old) (not_stripped old path h))

module _ (old path rest : List ℕ) (begins : pointwise eqb (take (length old) path) old ≡ true) (is : rest ≡ drop (length old) path) where
  found : rest_after old path ≡ Some rest
  found = stripped old path begins ∙ ap Some (sym is)

  pub rest_apart : (is_apart rest || ends_at_slash old) ≡ true → Some rest ≡ rest_under old path
  rest_apart apart = sym (ap (rest_if_apart old) found ∙ cond-true (is_apart rest || ends_at_slash old) (Some rest) None apart)

  pub rest_within : (is_apart rest || ends_at_slash old) ≡ false → None ≡ rest_under old path
  rest_within within = sym (ap (rest_if_apart old) found ∙ cond-false (is_apart rest || ends_at_slash old) (Some rest) None within)

-- ---- slashes at an end

pub differ : (s t : Bool) → not (beq s t) ≡ true → s ≡ t → ⊥
differ true t h e = false≢true (ap (λ (t : Bool). not (beq true t)) e ∙ h)
differ false t h e = false≢true (ap (λ (t : Bool). not (beq false t)) e ∙ h)

pub slash_last : (front : List ℕ) (b : ℕ) → ends_at_slash (front ++ b ∷ []) ≡ eqb b 47
slash_last [] b = refl
slash_last (a ∷ []) b = refl
slash_last (a ∷ c ∷ front) b = slash_last (c ∷ front) b
