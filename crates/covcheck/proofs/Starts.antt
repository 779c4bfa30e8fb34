-- The beginning of a line, as the code takes it: the text without what `after_word` and `after_cuts` leave of it.
use Rattle.std.proofs.Common.{◌≡◌, ℕ, ◌+◌, ◌-◌, ◌≤◌, List, [], ◌∷◌, ◌++◌, length, take, refl, ap, ◌∙◌, arith, inl, inr}
use Rattle.std.proofs.lemmas.Bool.{cases_Bool}
use Rattle.std.proofs.lemmas.List.{length-append}
use Rattle.std.proofs.Math.Seq.{take-append_seam}
use Rattle.covcheck.specs.Skipped.{is_cut, word_at, beginning_of}
use Rattle.covcheck.specs.CheckSteps.{after_cuts, after_word}

word_parts : (text : List ℕ) → text ≡ word_at text ++ after_word text
word_parts [] = refl
word_parts (b ∷ bs) =
    elim (cases_Bool (is_cut b)) [
      | inl cut ↦ rw cut refl
      | inr other ↦ rw other (ap (λ (t : List ℕ). b ∷ t) (word_parts bs))
    ]

beginning_parts : (text : List ℕ) → text ≡ beginning_of text ++ after_word (after_cuts text)
beginning_parts [] = refl
beginning_parts (b ∷ bs) =
    elim (cases_Bool (is_cut b)) [
      | inl cut ↦ rw cut (ap (λ (t : List ℕ). b ∷ t) (beginning_parts bs))
      | inr other ↦ rw (other, other) (ap (λ (t : List ℕ). b ∷ t) (word_parts bs))
    ]

-- what is left has at most as many bytes as the text
pub left_fits : (text : List ℕ) → length (after_word (after_cuts text)) ≤ length text
left_fits text =
    let e = ap length (beginning_parts text) in
    let f = length-append (beginning_of text) (after_word (after_cuts text)) in
    omega (arith, e, f)

-- the text without what is left is its beginning
pub beginning_taken : (text : List ℕ) → take (length text - length (after_word (after_cuts text))) text ≡ beginning_of text
beginning_taken text =
    let front = beginning_of text in
    let rest = after_word (after_cuts text) in
    let e : length text ≡ length front + length rest = ap length (beginning_parts text) ∙ length-append front rest in
    let n : length text - length rest ≡ length front = omega (arith, e) in
    ap (λ (k : ℕ). take k text) n ∙ ap (λ (t : List ℕ). take (length front) t) (beginning_parts text) ∙ take-append_seam front rest
