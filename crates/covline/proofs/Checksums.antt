-- Checksums: the test `is_checksum` agrees with the definition `IsChecksum`, and a checksum at the front of a text or after a
-- count is read.
use Rattle.std.proofs.Common.{◌≡◌, ◌≢◌, ◌↔◌, ◌⊎◌, inl, inr, ℕ, Bool, true, false, ◌&&◌, not, eqb, List, [], ◌∷◌, ◌++◌, length, take, ◌+◌, ◌-◌, ◌≤◌, All, Option, Some, None, refl, sym, ap, ◌∙◌, arith}
use Rattle.std.specs.Prelude.{IsTrue}
use Rattle.std.proofs.lemmas.Bool.{and_from, and_parts, ne_eqb, eq-eqb, cases_eq, cases_Bool, false≢true}
use Rattle.std.proofs.lemmas.List.{length-append}
use Rattle.std.proofs.Math.Seq.{take-append_seam}
use Rattle.std.proofs.lemmas.List.Elements.{All-cons, All-nil, All-head, All-tail}
use Rattle.covdata.specs.Lawful.{IsChecksum, IsChecksumByte}
use Rattle.covdata.specs.Delimiters.{comma}
use Rattle.covline.specs.Fronts.{after_checksum, checksum_bytes, checksum_front, some_front}
use Rattle.covline.specs.Reading.{is_checksum_byte, all_checksum_bytes, is_checksum, checksum_of}

differ : (a b : ℕ) → not (eqb a b) ≡ true → a ≢ b
differ a b e same = false≢true (sym (ap not (eq-eqb a b same)) ∙ e)

pub byte_is : (b : ℕ) → IsChecksumByte b → is_checksum_byte b ≡ true
byte_is b byte = rw (ne_eqb b 44 byte.no_comma, ne_eqb b 32 byte.no_space, ne_eqb b 9 byte.no_tab, ne_eqb b 13 byte.no_return, ne_eqb b 10 byte.no_feed) refl

pub byte_from : (b : ℕ) → is_checksum_byte b ≡ true → IsChecksumByte b
byte_from b e =
    let p = and_parts (not (eqb b 44)) (not (eqb b 32) && (not (eqb b 9) && (not (eqb b 13) && not (eqb b 10)))) e in
    let q = and_parts (not (eqb b 32)) (not (eqb b 9) && (not (eqb b 13) && not (eqb b 10))) p.1 in
    let r = and_parts (not (eqb b 9)) (not (eqb b 13) && not (eqb b 10)) q.1 in
    let s = and_parts (not (eqb b 13)) (not (eqb b 10)) r.1 in
    record { no_comma = differ b 44 p.0; no_space = differ b 32 q.0; no_tab = differ b 9 r.0; no_return = differ b 13 s.0; no_feed = differ b 10 s.1 }

all_are : (text : List ℕ) → All IsChecksumByte text → all_checksum_bytes text ≡ true
all_are [] all = refl
all_are (b ∷ bs) all =
    and_from (is_checksum_byte b) (all_checksum_bytes bs) (byte_is b (All-head IsChecksumByte b bs all)) (all_are bs (All-tail IsChecksumByte b bs all))

all_from : (text : List ℕ) → all_checksum_bytes text ≡ true → All IsChecksumByte text
all_from [] e = All-nil IsChecksumByte
all_from (b ∷ bs) e =
    let p = and_parts (is_checksum_byte b) (all_checksum_bytes bs) e in
    All-cons IsChecksumByte b bs (byte_from b p.0) (all_from bs p.1)

-- the test holds of checksums, and of nothing else
pub checksum_is : (text : List ℕ) → IsChecksum text → is_checksum text ≡ true
checksum_is [] checksum = absurd (omega (arith, checksum.some))
checksum_is (b ∷ bs) checksum = all_are (b ∷ bs) checksum.each

pub checksum_from : (text : List ℕ) → is_checksum text ≡ true → IsChecksum text
checksum_from [] e = absurd (false≢true e)
checksum_from (b ∷ bs) e = record { some = omega arith; each = all_from (b ∷ bs) e }

-- a result that is true exactly if the text is a checksum equals the test
pub checksum_test : (text : List ℕ) (test : Bool) → IsTrue test ↔ IsChecksum text → is_checksum text ≡ test
checksum_test text true told = checksum_is text (told.0 refl)
checksum_test text false told =
    elim (cases_Bool (is_checksum text)) [
      | inl holds ↦ absurd (false≢true (told.1 (checksum_from text holds)))
      | inr fails ↦ fails
    ]

-- ---- at the front of a text, with what follows it

pub checksum_parts : (text : List ℕ) → text ≡ checksum_bytes text ++ after_checksum text
checksum_parts [] = refl
checksum_parts (b ∷ bs) =
    elim (cases_Bool (is_checksum_byte b)) [
      | inl holds ↦ rw holds (ap (λ (u : List ℕ). b ∷ u) (checksum_parts bs))
      | inr fails ↦ rw fails refl
    ]

pub after_fits : (text : List ℕ) → length (after_checksum text) ≤ length text
after_fits text =
    let e : length text ≡ length (checksum_bytes text) + length (after_checksum text) = ap (λ (u : List ℕ). length u) (checksum_parts text) ∙ length-append (checksum_bytes text) (after_checksum text) in
    omega (arith, e)

bytes_are : (text : List ℕ) → take (length text - length (after_checksum text)) text ≡ checksum_bytes text
bytes_are text =
    let bytes : List ℕ = checksum_bytes text in
    let after : List ℕ = after_checksum text in
    let e : length text ≡ length bytes + length after = ap (λ (u : List ℕ). length u) (checksum_parts text) ∙ length-append bytes after in
    let size : length text - length after ≡ length bytes = omega (arith, e) in
    ap (λ (n : ℕ). take n text) size ∙ ap (λ (u : List ℕ). take (length bytes) u) (checksum_parts text) ∙ take-append_seam bytes after

-- if `rest` is what follows the bytes that a checksum may have, the bytes before it are the checksum at the front
pub front_is : (text rest : List ℕ) → rest ≡ after_checksum text → some_front (take (length text - length rest) text) rest ≡ checksum_front text
front_is text rest e =
    ap (λ (u : List ℕ). some_front (take (length text - length u) text) u) e ∙ ap (λ (u : List ℕ). some_front u (after_checksum text)) (bytes_are text)

pub no_front : (checksum rest : List ℕ) → eqb (length checksum) 0 ≡ true → None ≡ some_front checksum rest
no_front [] rest e = refl
no_front (b ∷ bs) rest e = absurd (false≢true (sym (ne_eqb (length (b ∷ bs)) 0 (λ none. omega (arith, none))) ∙ e))

pub whole_front : (checksum rest : List ℕ) → eqb (length checksum) 0 ≡ false → Some (checksum, rest) ≡ some_front checksum rest
whole_front [] rest e = absurd (false≢true (sym e))
whole_front (b ∷ bs) rest e = refl

-- ---- after a count

-- the text after a count: it is empty, or a comma and this checksum
abbrev pub IsAfterCount : List ℕ → Option (List ℕ) → Type 0
IsAfterCount rest None = rest ≡ []
IsAfterCount rest (Some checksum) = (rest ≡ comma ∷ checksum) × IsChecksum checksum

pub checksum_read : (rest : List ℕ) (checksum : Option (List ℕ)) → IsAfterCount rest checksum → checksum_of rest ≡ Some checksum
checksum_read rest None after = ap checksum_of after
checksum_read rest (Some checksum) after =
    let test : is_checksum checksum ≡ true = checksum_is checksum after.1 in
    ap checksum_of after.0 ∙ rw test refl

pub checksum_or_none : (rest : List ℕ) → ((checksum : Option (List ℕ)) × IsAfterCount rest checksum) ⊎ (checksum_of rest ≡ None)
checksum_or_none [] = inl (None, refl)
checksum_or_none (b ∷ bs) =
    elim (cases_eq b comma) [
      | inl same ↦ let after : eqb b comma ≡ true = eq-eqb b comma same in
          elim (cases_Bool (is_checksum bs)) [
            | inl holds ↦ inl (Some bs, (ap (λ (c : ℕ). c ∷ bs) same, checksum_from bs holds))
            | inr fails ↦ inr (rw (after, fails) refl)
          ]
      | inr differs ↦ let after : eqb b comma ≡ false = ne_eqb b comma differs in inr (rw after refl)
    ]
