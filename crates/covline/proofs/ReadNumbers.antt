-- Reading a number and a count, alone or before a comma. A numeral is read as its number. A text that doesn't begin with a
-- numeral isn't read.
use Rattle.std.proofs.Common.{◌≡◌, ◌≢◌, ℕ, ◌+◌, ◌-◌, ◌*◌, ◌^◌, ◌<◌, ◌≤◌, ◌⊎◌, inl, inr, Bool, true, false, cond, eqb, ltb, leb, List, [], ◌∷◌, ◌++◌, All, Option, Some, None, Ok, Err, refl, sym, ap, subst, ◌∙◌, arith, fold, option_map}
use Rattle.std.proofs.lemmas.Bool.{lt-ltb, le-ltb, le-leb, and_from, and_parts, leb-true, cases_lt, cases_eq, cases_Bool, eq-eqb, ne_eqb}
use Rattle.std.proofs.lemmas.List.{append-nil}
use Rattle.std.proofs.lemmas.List.Elements.{All-cons, All-nil, All-head, All-tail}
use Rattle.covline.specs.declared.reader.Number.{Number}
use Rattle.covline.specs.declared.reader.Number.TheVariants.{Value, U128, TooLarge}
use Rattle.covdata.specs.Delimiters.{comma}
use Rattle.covdata.specs.Records.{minus}
use Rattle.covline.specs.Spells.{IsDigit, IsNumeral, IsCount, IsTaken, digits_value}
use Rattle.covdata.specs.declared.trace_line.LineFault.TheVariants.{NumberTooLarge}
use Rattle.covline.specs.Reading.{is_digit, sized_number, fit, fit_count, with_digit, digits_from, number_at, number_of, as_zero, count_at, before_comma, field_of, field_at, taken_of, whole}

pub digit_is : (b : ℕ) → IsDigit b → is_digit b ≡ true
digit_is b d = and_from (leb 48 b) (leb b 57) (le-leb 48 b d.0) (le-leb b 57 d.1)

pub digit_from : (b : ℕ) → is_digit b ≡ true → IsDigit b
digit_from b e = let p = and_parts (leb 48 b) (leb b 57) e in (leb-true 48 b p.0, leb-true b 57 p.1)

-- the text doesn't begin with a digit
abbrev pub Stops : List ℕ → Type 0
Stops [] = Unit {0}
Stops (b ∷ bs) = is_digit b ≡ false

-- ---- the value

pub sized_number_small : (n : ℕ) → n < 2 ^ 64 → sized_number n ≡ Value n
sized_number_small n lt = let test : ltb n (2 ^ 64) ≡ true = lt-ltb n (2 ^ 64) lt in rw test refl

pub sized_number_wide : (n : ℕ) → 2 ^ 64 ≤ n → n < 2 ^ 128 → sized_number n ≡ U128 n
sized_number_wide n le lt =
    let above : ltb n (2 ^ 64) ≡ false = le-ltb n (2 ^ 64) le in
    let below : ltb n (2 ^ 128) ≡ true = lt-ltb n (2 ^ 128) lt in
    rw (above, below) refl

pub sized_number_large : (n : ℕ) → 2 ^ 128 ≤ n → sized_number n ≡ TooLarge
sized_number_large n le =
    let above : ltb n (2 ^ 64) ≡ false = le-ltb n (2 ^ 64) (omega (arith, le)) in
    let far : ltb n (2 ^ 128) ≡ false = le-ltb n (2 ^ 128) le in
    rw (above, far) refl

with_digit-sized_number : (n b : ℕ) → with_digit (sized_number n) b ≡ sized_number (n * 10 + (b - 48))
with_digit-sized_number n b =
    elim (cases_lt n (2 ^ 64)) [
      | inl lt ↦ rw (sized_number_small n lt) refl
      | inr le ↦ elim (cases_lt n (2 ^ 128)) [
        | inl lt ↦ rw (sized_number_wide n le lt) refl
        | inr far ↦ rw (sized_number_large n far) (sym (sized_number_large (n * 10 + (b - 48)) (omega (arith, far))))
      ]
    ]

-- ---- whether it fits

-- a number fits exactly if it is below 2^64, and a count exactly if it is below 2^128
pub fit_small : (n : ℕ) → n < 2 ^ 64 → fit (sized_number n) ≡ Ok n
fit_small n lt = ap fit (sized_number_small n lt)

pub fit_large : (n : ℕ) → 2 ^ 64 ≤ n → fit (sized_number n) ≡ Err NumberTooLarge
fit_large n le =
    elim (cases_lt n (2 ^ 128)) [
      | inl lt ↦ ap fit (sized_number_wide n le lt)
      | inr far ↦ ap fit (sized_number_large n far)
    ]

pub count_small : (n : ℕ) → n < 2 ^ 128 → fit_count (sized_number n) ≡ Ok n
count_small n lt =
    elim (cases_lt n (2 ^ 64)) [
      | inl less ↦ ap fit_count (sized_number_small n less)
      | inr le ↦ ap fit_count (sized_number_wide n le lt)
    ]

pub count_large : (n : ℕ) → 2 ^ 128 ≤ n → fit_count (sized_number n) ≡ Err NumberTooLarge
count_large n le = ap fit_count (sized_number_large n le)

fold-sized_number : (digits : List ℕ) (n : ℕ) → fold with_digit (sized_number n) digits ≡ sized_number (fold (λ m b. m * 10 + (b - 48)) n digits)
fold-sized_number [] n = refl
fold-sized_number (b ∷ bs) n = ap (λ (v : Number). fold with_digit v bs) (with_digit-sized_number n b) ∙ fold-sized_number bs (n * 10 + (b - 48))

-- ---- a number at the front

stops_at : (value : Number) (rest : List ℕ) → Stops rest → digits_from value rest ≡ (value, rest)
stops_at value [] stops = refl
stops_at value (b ∷ bs) stops = rw stops refl

digits_are : (digits rest : List ℕ) (value : Number) → All IsDigit digits → Stops rest → digits_from value (digits ++ rest) ≡ (fold with_digit value digits, rest)
digits_are [] rest value each stops = stops_at value rest stops
digits_are (d ∷ ds) rest value each stops =
    let test : is_digit d ≡ true = digit_is d (All-head IsDigit d ds each) in
    rw test (digits_are ds rest (with_digit value d) (All-tail IsDigit d ds each) stops)

number_at-digit : (d : ℕ) (ds : List ℕ) → is_digit d ≡ true → number_at (d ∷ ds) ≡ Some (digits_from (Value 0) (d ∷ ds))
number_at-digit d ds test = ap (λ (t : Bool). cond t (Some (digits_from (Value 0) (d ∷ ds))) None) test

-- a numeral is read as its number
pub number_is : (digits rest : List ℕ) (n : ℕ) → IsNumeral digits n → Stops rest → number_at (digits ++ rest) ≡ Some (sized_number n, rest)
number_is [] rest n numeral stops = absurd (omega (arith, numeral.some))
number_is (d ∷ ds) rest n numeral stops =
    let test : is_digit d ≡ true = digit_is d (All-head IsDigit d ds numeral.each) in
    let value : fold with_digit (sized_number 0) (d ∷ ds) ≡ sized_number n = fold-sized_number (d ∷ ds) 0 ∙ ap sized_number (sym numeral.value) in
    let all : digits_from (Value 0) (d ∷ ds ++ rest) ≡ (fold with_digit (Value 0) (d ∷ ds), rest) = digits_are (d ∷ ds) rest (Value 0) numeral.each stops in
    let same : Some (digits_from (Value 0) (d ∷ ds ++ rest)) ≡ Some (sized_number n, rest) = ap (λ (p : Number × List ℕ). Some p) all ∙ ap (λ (v : Number). Some (v, rest)) value in
    number_at-digit d (ds ++ rest) test ∙ same

-- a text in two parts: all digits at its front, and the rest, which doesn't begin with a digit
record Front (text : List ℕ) : Type 0 where
  digits : List ℕ
  rest : List ℕ
  parts : text ≡ digits ++ rest
  each : All IsDigit digits
  stops : Stops rest

front_of : (text : List ℕ) → Front text
front_of [] = record { digits = []; rest = []; parts = refl; each = All-nil IsDigit; stops = tt }
front_of (b ∷ bs) =
    elim (cases_Bool (is_digit b)) [
      | inl digit ↦ let others = front_of bs in
          record { digits = b ∷ others.digits; rest = others.rest; parts = ap (λ (t : List ℕ). b ∷ t) others.parts; each = All-cons IsDigit b others.digits (digit_from b digit) others.each; stops = others.stops }
      | inr other ↦ record { digits = []; rest = b ∷ bs; parts = refl; each = All-nil IsDigit; stops = other }
    ]

-- the text begins with a numeral, and no digit follows this
pub record BeginsWithNumeral (text : List ℕ) : Type 0 where
  pub digits : List ℕ
  pub rest : List ℕ
  pub parts : text ≡ digits ++ rest
  pub numeral : IsNumeral digits (digits_value digits)
  pub stops : Stops rest

number_or_none : (text digits rest : List ℕ) → text ≡ digits ++ rest → All IsDigit digits → Stops rest → BeginsWithNumeral text ⊎ (number_at text ≡ None)
number_or_none text [] [] parts each stops = inr (rw parts refl)
number_or_none text [] (b ∷ bs) parts each stops = inr (rw (parts, stops) refl)
number_or_none text (d ∷ ds) rest parts each stops =
    inl (record { digits = d ∷ ds; rest = rest; parts = parts; numeral = record { some = omega arith; each = each; value = refl }; stops = stops })

-- each text begins with a numeral, or `number_at` reads no number
pub numeral_or_none : (text : List ℕ) → BeginsWithNumeral text ⊎ (number_at text ≡ None)
numeral_or_none text = let front = front_of text in number_or_none text front.digits front.rest front.parts front.each front.stops

-- ---- a number alone

pub whole_is : (text : List ℕ) (n : ℕ) → IsNumeral text n → number_of text ≡ Some (sized_number n)
whole_is text n numeral =
    let e : number_at text ≡ Some (sized_number n, []) = ap number_at (sym (append-nil text)) ∙ number_is text [] n numeral tt in
    ap whole e

whole_from : (text digits rest : List ℕ) → text ≡ digits ++ rest → IsNumeral digits (digits_value digits) → Stops rest → ((n : ℕ) × IsNumeral text n) ⊎ (number_of text ≡ None)
whole_from text digits [] parts numeral stops =
    let e : digits ≡ text = sym (parts ∙ append-nil digits) in
    inl (digits_value digits, let P : List ℕ → Type 0 = λ t. IsNumeral t (digits_value digits) in subst P e numeral)
whole_from text digits (b ∷ bs) parts numeral stops =
    inr (ap whole (ap number_at parts ∙ number_is digits (b ∷ bs) (digits_value digits) numeral stops))

pub whole_or_none : (text : List ℕ) → ((n : ℕ) × IsNumeral text n) ⊎ (number_of text ≡ None)
whole_or_none text =
    elim (numeral_or_none text) [
      | inl front ↦ whole_from text front.digits front.rest front.parts front.numeral front.stops
      | inr none ↦ inr (ap whole none)
    ]

-- ---- a count

count_at-plain : (b : ℕ) (bs : List ℕ) → b ≢ minus → count_at (b ∷ bs) ≡ number_at (b ∷ bs)
count_at-plain b bs differ = let test : eqb b minus ≡ false = ne_eqb b minus differ in rw test refl

count_at-minus : (b : ℕ) (bs : List ℕ) → b ≡ minus → count_at (b ∷ bs) ≡ option_map as_zero (number_at bs)
count_at-minus b bs same = let test : eqb b minus ≡ true = eq-eqb b minus same in rw test refl

numeral_count : (text rest : List ℕ) (n : ℕ) → IsNumeral text n → Stops rest → count_at (text ++ rest) ≡ Some (sized_number n, rest)
numeral_count [] rest n numeral stops = absurd (omega (arith, numeral.some))
numeral_count (d ∷ ds) rest n numeral stops =
    let digit = All-head IsDigit d ds numeral.each in
    let differ : d ≢ minus = λ e. omega (arith, digit.0) in
    count_at-plain d (ds ++ rest) differ ∙ number_is (d ∷ ds) rest n numeral stops

-- a count is read as its number
pub count_is : (text rest : List ℕ) (n : ℕ) → IsCount text n → Stops rest → count_at (text ++ rest) ≡ Some (sized_number n, rest)
count_is text rest n (inl numeral) stops = numeral_count text rest n numeral stops
count_is text rest n (inr below) stops =
    let zero_is : Value 0 ≡ sized_number n = ap sized_number (sym below.4) in
    ap (λ (t : List ℕ). count_at (t ++ rest)) below.2
    ∙ ap (option_map as_zero) (number_is below.0 rest below.1 below.3 stops)
    ∙ ap (λ (v : Number). Some (v, rest)) zero_is

-- the text begins with a count, and no digit follows this
pub record BeginsWithCount (text : List ℕ) : Type 0 where
  pub counted : List ℕ
  pub rest : List ℕ
  pub count : ℕ
  pub parts : text ≡ counted ++ rest
  pub counts : IsCount counted count
  pub stops : Stops rest

from_minus : (b : ℕ) (bs : List ℕ) → b ≡ minus → BeginsWithNumeral bs → BeginsWithCount (b ∷ bs)
from_minus b bs same front = record {
  counted = minus ∷ front.digits;
  rest = front.rest;
  count = 0;
  parts = ap (λ (c : ℕ). c ∷ bs) same ∙ ap (λ (t : List ℕ). minus ∷ t) front.parts;
  counts = inr (front.digits, digits_value front.digits, refl, front.numeral, refl);
  stops = front.stops;
}

from_plain : (text : List ℕ) → BeginsWithNumeral text → BeginsWithCount text
from_plain text front =
    record { counted = front.digits; rest = front.rest; count = digits_value front.digits; parts = front.parts; counts = inl front.numeral; stops = front.stops }

-- each text begins with a count, or `count_at` reads no count
pub count_or_none : (text : List ℕ) → BeginsWithCount text ⊎ (count_at text ≡ None)
count_or_none [] = inr refl
count_or_none (b ∷ bs) =
    elim (cases_eq b minus) [
      | inl same ↦ elim (numeral_or_none bs) [
        | inl front ↦ inl (from_minus b bs same front)
        | inr none ↦ inr (count_at-minus b bs same ∙ ap (option_map as_zero) none)
      ]
      | inr differ ↦ elim (numeral_or_none (b ∷ bs)) [
        | inl front ↦ inl (from_plain (b ∷ bs) front)
        | inr none ↦ inr (count_at-plain b bs differ ∙ none)
      ]
    ]

-- ---- a number or a count, and the comma after it

pub field_is : (digits rest : List ℕ) (n : ℕ) → IsNumeral digits n → field_at (digits ++ comma ∷ rest) ≡ Some (sized_number n, rest)
field_is digits rest n numeral = ap field_of (number_is digits (comma ∷ rest) n numeral refl)

-- the text begins with a comma
abbrev pub HasComma : List ℕ → Type 0
HasComma text = (rest : List ℕ) × (text ≡ comma ∷ rest)

pub comma_or_none : (number : Number) (text : List ℕ) → HasComma text ⊎ (before_comma number text ≡ None)
comma_or_none number [] = inr refl
comma_or_none number (b ∷ bs) =
    elim (cases_eq b comma) [
      | inl same ↦ inl (bs, ap (λ (c : ℕ). c ∷ bs) same)
      | inr differ ↦ let test : eqb b comma ≡ false = ne_eqb b comma differ in inr (rw test refl)
    ]

-- the text begins with a numeral and a comma
pub record BeginsWithField (text : List ℕ) : Type 0 where
  pub digits : List ℕ
  pub rest : List ℕ
  pub number : ℕ
  pub parts : text ≡ digits ++ comma ∷ rest
  pub numeral : IsNumeral digits number

field_from : (text : List ℕ) (front : BeginsWithNumeral text) → BeginsWithField text ⊎ (field_at text ≡ None)
field_from text front =
    let number = digits_value front.digits in
    let read : number_at text ≡ Some (sized_number number, front.rest) = ap number_at front.parts ∙ number_is front.digits front.rest number front.numeral front.stops in
    elim (comma_or_none (sized_number number) front.rest) [
      | inl found ↦ inl (record { digits = front.digits; rest = found.0; number = number; parts = front.parts ∙ ap (λ (t : List ℕ). front.digits ++ t) found.1; numeral = front.numeral })
      | inr none ↦ inr (ap field_of read ∙ none)
    ]

pub field_or_none : (text : List ℕ) → BeginsWithField text ⊎ (field_at text ≡ None)
field_or_none text =
    elim (numeral_or_none text) [
      | inl front ↦ field_from text front
      | inr none ↦ inr (ap field_of none)
    ]

pub field_read : (text : List ℕ) (field : BeginsWithField text) → field_at text ≡ Some (sized_number field.number, field.rest)
field_read text field = ap field_at field.parts ∙ field_is field.digits field.rest field.number field.numeral

pub count_read : (text : List ℕ) (front : BeginsWithCount text) → count_at text ≡ Some (sized_number front.count, front.rest)
count_read text front = ap count_at front.parts ∙ count_is front.counted front.rest front.count front.counts front.stops

-- ---- how often a branch was taken

pub taken_is : (text : List ℕ) (taken : Option ℕ) → IsTaken text taken → taken_of text ≡ Some (option_map sized_number taken)
taken_is text None same = ap taken_of same
taken_is [] (Some n) numeral = absurd (omega (arith, numeral.some))
taken_is (b ∷ []) (Some n) numeral =
    let digit = All-head IsDigit b [] numeral.each in
    let differ : b ≢ minus = λ e. omega (arith, digit.0) in
    let test : eqb b minus ≡ false = ne_eqb b minus differ in
    rw test (ap (option_map (λ (v : Number). Some v)) (whole_is (b ∷ []) n numeral))
taken_is (b ∷ c ∷ cs) (Some n) numeral = ap (option_map (λ (v : Number). Some v)) (whole_is (b ∷ c ∷ cs) n numeral)

-- if `taken_of` reads the text as a whole number, the text says how often a branch was taken, or nothing is read
taken_from : (text : List ℕ) → taken_of text ≡ option_map (λ (v : Number). Some v) (number_of text) → ((taken : Option ℕ) × IsTaken text taken) ⊎ (taken_of text ≡ None)
taken_from text plain =
    elim (whole_or_none text) [
      | inl found ↦ inl (Some found.0, found.1)
      | inr none ↦ inr (plain ∙ ap (option_map (λ (v : Number). Some v)) none)
    ]

pub taken_or_none : (text : List ℕ) → ((taken : Option ℕ) × IsTaken text taken) ⊎ (taken_of text ≡ None)
taken_or_none [] = inr refl
taken_or_none (b ∷ []) =
    elim (cases_eq b minus) [
      | inl same ↦ inl (None, ap (λ (c : ℕ). c ∷ []) same)
      | inr differ ↦ let test : eqb b minus ≡ false = ne_eqb b minus differ in taken_from (b ∷ []) (rw test refl)
    ]
taken_or_none (b ∷ c ∷ cs) = taken_from (b ∷ c ∷ cs) refl
