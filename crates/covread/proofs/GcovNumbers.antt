-- The number that digits say, digit by digit.
use Rattle.std.proofs.Common.{◌≡◌, ℕ, ◌+◌, ◌-◌, ◌*◌, ◌<◌, ◌≤◌, ◌^◌, true, false, ltb, List, [], ◌∷◌, ◌++◌, Option, Some, None, inl, inr, length, refl, sym, ap, subst, ◌∙◌, arith, fold, take, drop}
use Rattle.std.proofs.lemmas.Bool.{lt-ltb, le-ltb, cases_lt}
use Rattle.std.proofs.lemmas.List.{take_all, take-append-drop}
use Rattle.covline.specs.Spells.{digits_value}
use Rattle.covread.specs.GcovReading.{fitting, number_of}

abbrev pub with_digit : ℕ → ℕ → ℕ
with_digit n b = n * 10 + (b - 48)

pub value-append : (xs ys : List ℕ) (n : ℕ) → fold with_digit n (xs ++ ys) ≡ fold with_digit (fold with_digit n xs) ys
value-append [] ys n = refl
value-append (x ∷ xs) ys n = value-append xs ys (with_digit n x)

grows : (ys : List ℕ) (n : ℕ) → n ≤ fold with_digit n ys
grows [] n = omega arith
grows (y ∷ ys) n = omega (arith, grows ys (with_digit n y))

pub value-more : (xs : List ℕ) (b : ℕ) → digits_value (xs ++ b ∷ []) ≡ digits_value xs * 10 + (b - 48)
value-more xs b = value-append xs (b ∷ []) 0

pub value-grows : (xs ys : List ℕ) → digits_value xs ≤ digits_value (xs ++ ys)
value-grows xs ys = subst (λ (m : ℕ). digits_value xs ≤ m) (sym (value-append xs ys 0)) (grows ys (digits_value xs))

pub fitting-small : (n : ℕ) → n < 2 ^ 64 → fitting n ≡ Some n
fitting-small n lt = let test : ltb n (2 ^ 64) ≡ true = lt-ltb n (2 ^ 64) lt in rw test refl

pub fitting-large : (n : ℕ) → 2 ^ 64 ≤ n → fitting n ≡ None
fitting-large n le = let test : ltb n (2 ^ 64) ≡ false = le-ltb n (2 ^ 64) le in rw test refl

some_isnt_none : (n : ℕ) (o : Option ℕ) → o ≡ None → o ≡ Some n → ⊥
some_isnt_none n o e f = cc

some_same : (m n : ℕ) (o : Option ℕ) → o ≡ Some m → o ≡ Some n → m ≡ n
some_same m n o e f = cc

value_is : (n v : ℕ) → Some n ≡ fitting v → n ≡ v
value_is n v e =
    elim (cases_lt v (2 ^ 64)) [
      | inl lt ↦ sym (some_same v n (fitting v) (fitting-small v lt) (sym e))
      | inr le ↦ absurd (some_isnt_none n (fitting v) (fitting-large v le) (sym e))
    ]

next_value : (digits : List ℕ) (i b n : ℕ) → take (i + 1) digits ≡ take i digits ++ b ∷ [] → Some n ≡ number_of (take i digits) → n * 10 + (b - 48) ≡ digits_value (take (i + 1) digits)
next_value digits i b n next before =
    ap (λ (k : ℕ). k * 10 + (b - 48)) (value_is n (digits_value (take i digits)) before) ∙ sym (ap digits_value next ∙ value-more (take i digits) b)

-- the number of the first i + 1 digits, from the number of the first i
pub digits_more : (digits : List ℕ) (i b n m : ℕ) → take (i + 1) digits ≡ take i digits ++ b ∷ [] → Some n ≡ number_of (take i digits) → fitting (n * 10 + (b - 48)) ≡ Some m → Some m ≡ number_of (take (i + 1) digits)
digits_more digits i b n m next before e = sym e ∙ ap fitting (next_value digits i b n next before)

pub digits_large : (digits : List ℕ) (i b n : ℕ) → take (i + 1) digits ≡ take i digits ++ b ∷ [] → Some n ≡ number_of (take i digits) → fitting (n * 10 + (b - 48)) ≡ None → number_of digits ≡ None
digits_large digits i b n next before e =
    elim (cases_lt (n * 10 + (b - 48)) (2 ^ 64)) [
      | inl lt ↦ absurd (some_isnt_none (n * 10 + (b - 48)) (fitting (n * 10 + (b - 48))) e (fitting-small (n * 10 + (b - 48)) lt))
      | inr le ↦
          let here : n * 10 + (b - 48) ≡ digits_value (take (i + 1) digits) = next_value digits i b n next before in
          let whole : digits_value (take (i + 1) digits) ≤ digits_value digits = subst (λ (ds : List ℕ). digits_value (take (i + 1) digits) ≤ digits_value ds) (take-append-drop (i + 1) digits) (value-grows (take (i + 1) digits) (drop (i + 1) digits)) in
          fitting-large (digits_value digits) (omega arith)
    ]

pub digits_all : (digits : List ℕ) (i n : ℕ) → length digits ≤ i → Some n ≡ number_of (take i digits) → Some n ≡ number_of digits
digits_all digits i n len before = before ∙ ap number_of (take_all i digits len)
