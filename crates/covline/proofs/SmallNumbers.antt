-- The number at the front of a text, if it is below 2^64, and what follows it.
use Rattle.std.proofs.Common.{◌≡◌, ℕ, ◌<◌, ◌^◌, inl, inr, List, [], ◌∷◌, ◌++◌, Option, Some, None, option_map, refl, sym, ap, subst, ◌∙◌, append_assoc}
use Rattle.std.proofs.lemmas.Bool.{cases_lt}
use Rattle.std.proofs.lemmas.Option.{none-some, option_and_then_some}
use Rattle.covline.specs.declared.reader.Number.{Number}
use Rattle.covline.specs.declared.reader.Number.TheVariants.{Value, U128, TooLarge}
use Rattle.covdata.specs.Delimiters.{comma}
use Rattle.covline.specs.Spells.{IsNumeral, digits_value}
use Rattle.covline.specs.Reading.{sized_number, after_key, number_at, field_at}
use Rattle.covline.specs.Fronts.{small_front, small_of}
use Rattle.covline.proofs.ReadKeys.{begins_or_not, after_key-none, after_key-same}
use Rattle.covline.proofs.ReadNumbers.{sized_number_small, sized_number_wide, sized_number_large, numeral_or_none, field_or_none, field_read, number_is}

value_of : (n v : ℕ) → sized_number n ≡ Value v → (n ≡ v) × (n < 2 ^ 64)
value_of n v e =
    elim (cases_lt n (2 ^ 64)) [
      | inl lt ↦ (let same : Value n ≡ Value v = sym (sized_number_small n lt) ∙ e in let is : n ≡ v = cc in is, lt)
      | inr le ↦ elim (cases_lt n (2 ^ 128)) [
        | inl lt ↦ (let other : U128 n ≡ Value v = sym (sized_number_wide n le lt) ∙ e in absurd cc)
        | inr far ↦ (let other : TooLarge ≡ Value v = sym (sized_number_large n far) ∙ e in absurd cc)
      ]
    ]

-- ---- what the results of the readers show of the text

pub same_some : {A : Type 0} (x y : A) → Some x ≡ Some y → x ≡ y
same_some x y e = cc

pub after_some : (key line rest : List ℕ) → Some rest ≡ after_key key line → line ≡ key ++ rest
after_some key line rest e =
    elim (begins_or_not key line) [
      | inl begins ↦ let same : rest ≡ begins.0 = same_some rest begins.0 (e ∙ ap (after_key key) begins.1 ∙ after_key-same key begins.0) in begins.1 ∙ ap (λ (u : List ℕ). key ++ u) (sym same)
      | inr other ↦ absurd (none-some rest (sym (e ∙ after_key-none key line other)))
    ]

-- `front` is some digits as `before` puts them (with a comma after them, or alone), followed by `rest`. The digits say this
-- number, which is below 2^64
pub record HasNumber (front rest : List ℕ) (n : ℕ) (before : List ℕ → List ℕ) : Type 0 where
  pub digits : List ℕ
  pub numeral : IsNumeral digits n
  pub small : n < 2 ^ 64
  pub parts : front ≡ before digits ++ rest

pub field_has : (fields rest : List ℕ) (a : Number) (n : ℕ) → Some (a, rest) ≡ field_at fields → a ≡ Value n → HasNumber fields rest n (λ digits. digits ++ comma ∷ [])
field_has fields rest a n e is =
    elim (field_or_none fields) [
      | inl f ↦
          let pair : (a, rest) ≡ (sized_number f.number, f.rest) = same_some (a, rest) (sized_number f.number, f.rest) (e ∙ field_read fields f) in
          let value = value_of f.number n (sym (ap (λ (p : Number × List ℕ). p.0) pair) ∙ is) in
          record {
            digits = f.digits;
            numeral = subst (λ (m : ℕ). IsNumeral f.digits m) value.0 f.numeral;
            small = subst (λ (m : ℕ). m < 2 ^ 64) value.0 value.1;
            parts = f.parts ∙ ap (λ (u : List ℕ). f.digits ++ comma ∷ u) (sym (ap (λ (p : Number × List ℕ). p.1) pair)) ∙ sym (append_assoc f.digits (comma ∷ []) rest);
          }
      | inr none ↦ absurd (none-some (a, rest) (sym (e ∙ none)))
    ]

pub number_has : (fields rest : List ℕ) (a : Number) (n : ℕ) → Some (a, rest) ≡ number_at fields → a ≡ Value n → HasNumber fields rest n (λ digits. digits)
number_has fields rest a n e is =
    elim (numeral_or_none fields) [
      | inl f ↦
          let number = digits_value f.digits in
          let read : number_at fields ≡ Some (sized_number number, f.rest) = ap number_at f.parts ∙ number_is f.digits f.rest number f.numeral f.stops in
          let pair : (a, rest) ≡ (sized_number number, f.rest) = same_some (a, rest) (sized_number number, f.rest) (e ∙ read) in
          let value = value_of number n (sym (ap (λ (p : Number × List ℕ). p.0) pair) ∙ is) in
          record {
            digits = f.digits;
            numeral = subst (λ (m : ℕ). IsNumeral f.digits m) value.0 f.numeral;
            small = subst (λ (m : ℕ). m < 2 ^ 64) value.0 value.1;
            parts = f.parts ∙ ap (λ (u : List ℕ). f.digits ++ u) (sym (ap (λ (p : Number × List ℕ). p.1) pair));
          }
      | inr none ↦ absurd (none-some (a, rest) (sym (e ∙ none)))
    ]

-- ---- what is read in one pass

pub mapped_some : {A B : Type 0} (f : A → B) (o : Option A) (y : B) → option_map f o ≡ Some y → (x : A) × (o ≡ Some x) × (f x ≡ y)
mapped_some f None y e = absurd (none-some y e)
mapped_some f (Some x) y e = (x, refl, same_some (f x) y e)

front_is : (a : Number) (after rest : List ℕ) (n : ℕ) → option_map {U = ℕ × List ℕ} (λ (m : ℕ). (m, after)) (small_of a) ≡ Some (n, rest) → (a ≡ Value n) × (after ≡ rest)
front_is (Value v) after rest n e = let same : (v, after) ≡ (n, rest) = same_some (v, after) (n, rest) e in (ap (λ (p : ℕ × List ℕ). Value p.0) same, ap (λ (p : ℕ × List ℕ). p.1) same)
front_is (U128 v) after rest n e = absurd (none-some (n, rest) e)
front_is TooLarge after rest n e = absurd (none-some (n, rest) e)

pub small_field_has : (fields rest : List ℕ) (n : ℕ) → small_front (field_at fields) ≡ Some (n, rest) → HasNumber fields rest n (λ digits. digits ++ comma ∷ [])
small_field_has fields rest n e =
    option_and_then_some (λ (f : Number × List ℕ). option_map (λ (m : ℕ). (m, f.1)) (small_of f.0)) (field_at fields) (n, rest) e (λ x field small.
    let is = front_is x.0 x.1 rest n small in
    field_has fields rest x.0 n (sym (field ∙ ap (λ (r : List ℕ). Some (x.0, r)) is.1)) is.0)

pub small_number_has : (fields rest : List ℕ) (n : ℕ) → small_front (number_at fields) ≡ Some (n, rest) → HasNumber fields rest n (λ digits. digits)
small_number_has fields rest n e =
    option_and_then_some (λ (f : Number × List ℕ). option_map (λ (m : ℕ). (m, f.1)) (small_of f.0)) (number_at fields) (n, rest) e (λ x number small.
    let is = front_is x.0 x.1 rest n small in
    number_has fields rest x.0 n (sym (number ∙ ap (λ (r : List ℕ). Some (x.0, r)) is.1)) is.0)

pub small_is : (n : ℕ) (rest : List ℕ) → n < 2 ^ 64 → small_front (Some (sized_number n, rest)) ≡ Some (n, rest)
small_is n rest small = ap (λ (a : Number). option_map (λ (m : ℕ). (m, rest)) (small_of a)) (sized_number_small n small)
