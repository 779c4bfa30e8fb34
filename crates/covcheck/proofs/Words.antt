-- The beginning of a line is one word.
use Rattle.std.proofs.Common.{◌≢◌, ℕ, ◌<◌, ◌≤◌, inl, inr, List, [], ◌∷◌, length, take, refl, arith}
use Rattle.std.specs.Prelude.{◌&&◌, nat_lt}
use Rattle.std.proofs.lemmas.Bool.{cases_Bool, and_parts, ltb-true}
use Rattle.std.proofs.lemmas.List.{length-take}
use Rattle.covcheck.specs.Skipped.{is_cut, word_at, beginning_of, start_of}
use Rattle.covcheck.specs.SummaryLine.{shown}

word_few : (text : List ℕ) → length (word_at text) ≤ length text
word_few [] = omega arith
word_few (b ∷ bs) =
    elim (cases_Bool (is_cut b)) [
      | inl cut ↦ rw cut (omega arith)
      | inr other ↦ rw other (omega (arith, word_few bs))
    ]

beginning_few : (text : List ℕ) → length (beginning_of text) ≤ length text
beginning_few [] = omega arith
beginning_few (b ∷ bs) =
    elim (cases_Bool (is_cut b)) [
      | inl cut ↦ rw cut (omega (arith, beginning_few bs))
      | inr other ↦ rw other (omega (arith, word_few bs))
    ]

beginning_some : (text : List ℕ) → 0 < length text → 0 < length (beginning_of text)
beginning_some [] some = some
beginning_some (b ∷ bs) some =
    elim (cases_Bool (is_cut b)) [
      | inl cut ↦ rw cut (omega arith)
      | inr other ↦ rw other (omega arith)
    ]

some_length : (line : List ℕ) → line ≢ [] → 0 < length line
some_length [] some = absurd (some refl)
some_length (b ∷ bs) some = omega arith

pub start_some : (line : List ℕ) → line ≢ [] → 0 < length (start_of line)
start_some line some = beginning_some (take 16 line) (omega (arith, length-take 16 line, some_length line some))

pub start_few : (line : List ℕ) → length (start_of line) ≤ 16
start_few line = omega (arith, beginning_few (take 16 line), length-take 16 line)

pub shown_visible : (byte : ℕ) → (32 < shown byte) × (shown byte < 127)
shown_visible byte =
    elim (cases_Bool (nat_lt 32 byte && nat_lt byte 127)) [
      | inl visible ↦ let parts = and_parts (nat_lt 32 byte) (nat_lt byte 127) visible in rw visible (ltb-true 32 byte parts.0, ltb-true byte 127 parts.1)
      | inr other ↦ rw other (omega arith, omega arith)
    ]
