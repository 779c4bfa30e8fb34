-- Bytes that are shown one after another, until all are shown or memory runs out.
use Rattle.std.proofs.Common.{◌≡◌, ◌≢◌, ℕ, ◌+◌, ◌<◌, ◌≤◌, true, eqb, cond, codes, List, [], ◌∷◌, ◌++◌, length, get_or, drop, Result, Ok, Err, OnErr, refl, sym, ap, ◌∙◌, append_assoc, arith}
use Rattle.std.specs.List.{flat_map}
use Rattle.std.proofs.lemmas.Bool.{cond-true, cond-false, ne_eqb}
use Rattle.std.proofs.lemmas.List.{append-nil, at_drop_more, at_drop_all}
use Rattle.covlist.specs.Shown.{HasBegun, is_control, shown_byte, shown_control, shown_in_lines}

pub at_err : {T E P : Type 0} (r : Result T E) → P → OnErr r P
at_err (Ok x) p = tt
at_err (Err e) p = p

pub on_err : {T E P Q : Type 0} (r : Result T E) → (P → Q) → OnErr r P → OnErr r Q
on_err (Ok x) f p = tt
on_err (Err e) f p = f p

-- ---- one byte

-- nothing was appended
pub none_begun : (whole text text_after : List ℕ) → text_after ≡ text → HasBegun whole text text_after
none_begun whole text text_after same = record { put = []; rest = whole; appended = same ∙ sym (append-nil text); together = refl }

-- the first of two parts was appended
pub first_begun : (put rest text now text_after : List ℕ) → now ≡ text ++ put → text_after ≡ now → HasBegun (put ++ rest) text text_after
first_begun put rest text now text_after first same = record { put = put; rest = rest; appended = same ∙ first; together = refl }

pub control_is : (b : ℕ) → (b ≡ 92 → ⊥) → is_control b ≡ true → shown_byte b ≡ shown_control b
control_is b other is =
    cond-false (eqb b 92) (codes "\\\\") (cond (is_control b) (shown_control b) (b ∷ [])) (ne_eqb b 92 other)
    ∙ cond-true (is_control b) (shown_control b) (b ∷ []) is

pub same_in_lines : (b : ℕ) → (b ≡ 10 → ⊥) → shown_in_lines b ≡ shown_byte b
same_in_lines b other = cond-false (eqb b 10) (b ∷ []) (shown_byte b) (ne_eqb b 10 other)

-- ---- byte after byte

-- what was appended shows the bytes before `index`
pub record AreShown (shown : ℕ → List ℕ) (bytes text text_after : List ℕ) (index : ℕ) : Type 0 where
  pub put : List ℕ
  pub appended : text_after ≡ text ++ put
  pub together : put ++ flat_map shown (drop index bytes) ≡ flat_map shown bytes

pub shown_none : (shown : ℕ → List ℕ) (bytes text : List ℕ) → AreShown shown bytes text text 0
shown_none shown bytes text = record { put = []; appended = sym (append-nil text); together = refl }

pub isnt_empty : (bytes : List ℕ) (index : ℕ) → index < length bytes → bytes ≢ []
isnt_empty bytes index within none = omega (arith, within, ap length none)

module _ (shown : ℕ → List ℕ) (bytes text now : List ℕ) (index : ℕ) (so_far : AreShown shown bytes text now index) where
  rest_is : index < length bytes → flat_map shown (drop index bytes) ≡ shown (get_or bytes index 0) ++ flat_map shown (drop (index + 1) bytes)
  rest_is within = at_drop_more (flat_map shown) bytes index 0 within

  pub shown_more : (after : List ℕ) → index < length bytes → after ≡ now ++ shown (get_or bytes index 0) → AreShown shown bytes text after (index + 1)
  shown_more after within more =
      let one : List ℕ = shown (get_or bytes index 0) in
      let rest : List ℕ = flat_map shown (drop (index + 1) bytes) in
      record {
        put = so_far.put ++ one;
        appended = more ∙ ap (λ (t : List ℕ). t ++ one) so_far.appended ∙ append_assoc text so_far.put one;
        together = append_assoc so_far.put one rest ∙ ap (λ (t : List ℕ). so_far.put ++ t) (sym (rest_is within)) ∙ so_far.together;
      }

  pub shown_all : length bytes ≤ index → now ≡ text ++ flat_map shown bytes
  shown_all over =
      so_far.appended
      ∙ ap (λ (t : List ℕ). text ++ t) (sym (append-nil so_far.put) ∙ ap (λ (t : List ℕ). so_far.put ++ t) (sym (at_drop_all (flat_map shown) bytes index over)) ∙ so_far.together)

  -- memory ran out before the next byte was shown
  pub shown_partly : (after : List ℕ) → index < length bytes → HasBegun (shown (get_or bytes index 0)) now after → HasBegun (flat_map shown bytes) text after
  shown_partly after within begun =
      let rest : List ℕ = flat_map shown (drop (index + 1) bytes) in
      record {
        put = so_far.put ++ begun.put;
        rest = begun.rest ++ rest;
        appended = begun.appended ∙ ap (λ (t : List ℕ). t ++ begun.put) so_far.appended ∙ append_assoc text so_far.put begun.put;
        together =
            append_assoc so_far.put begun.put (begun.rest ++ rest)
            ∙ ap (λ (t : List ℕ). so_far.put ++ t) (sym (append_assoc begun.put begun.rest rest) ∙ ap (λ (t : List ℕ). t ++ rest) begun.together ∙ sym (rest_is within))
            ∙ so_far.together;
      }
