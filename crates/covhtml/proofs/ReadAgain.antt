-- A shown text has no markup, and reads back as the text that is seen.
use Rattle.std.proofs.Common.{◌≡◌, ℕ, ◌+◌, ◌%◌, ◌≤◌, true, false, ◌==◌, List, [], ◌∷◌, ◌++◌, refl, sym, ap, ◌∙◌, subst, arith, inl, inr}
use Rattle.std.specs.List.{flat_map}
use Rattle.std.specs.Str.Lossy.{utf8_lossy}
use Rattle.std.proofs.lemmas.Bool.{cases_Bool, eqb-true, ne_eqb}
use Rattle.std.proofs.lemmas.List.Concat.{flat_map-cons}
use Rattle.covhtml.specs.ReadBack.{is_escaped, read_after, read_back}
use Rattle.covhtml.specs.Shown.{is_control, picture, shown, shown_byte, visible, visible_byte}

-- what holds of any three bytes with a last one from 128 on holds of a picture
of_picture : (P : List ℕ → Type 0) (b : ℕ) → ((last : ℕ) → 128 ≤ last → P (0xE2 ∷ 0x90 ∷ last ∷ [])) → P (picture b)
of_picture P b each =
    elim (cases_Bool (b == 127)) [
      | inl is ↦ rw is (each 0xA1 (omega arith))
      | inr other ↦ rw other (each (0x80 + b % 32) (omega arith))
    ]

-- what holds of each picture and of each byte that isn't one of the four special ones holds of each byte as it is seen
of_visible : (P : List ℕ → Type 0) (b : ℕ) → ((last : ℕ) → 128 ≤ last → P (0xE2 ∷ 0x90 ∷ last ∷ [])) → P (b ∷ []) → P (visible_byte b)
of_visible P b each plain =
    elim (cases_Bool (is_control b)) [
      | inl is ↦ rw is (of_picture P b each)
      | inr other ↦ rw other plain
    ]

-- what holds of the four special bytes, and of any other byte, holds of each byte
by_kind : (P : ℕ → Type 0) (b : ℕ) → P 60 → P 62 → P 38 → P 34 → ((b == 60) ≡ false → (b == 62) ≡ false → (b == 38) ≡ false → (b == 34) ≡ false → P b) → P b
by_kind P b lt gt amp quot other =
    elim (cases_Bool (b == 60)) [
      | inl is ↦ subst P (sym (eqb-true b 60 is)) lt
      | inr not_lt ↦ elim (cases_Bool (b == 62)) [
        | inl is ↦ subst P (sym (eqb-true b 62 is)) gt
        | inr not_gt ↦ elim (cases_Bool (b == 38)) [
          | inl is ↦ subst P (sym (eqb-true b 38 is)) amp
          | inr not_amp ↦ elim (cases_Bool (b == 34)) [
            | inl is ↦ subst P (sym (eqb-true b 34 is)) quot
            | inr not_quot ↦ other not_lt not_gt not_amp not_quot
          ]
        ]
      ]
    ]

-- a byte without a reference is shown as it is seen
shown_plain : (b : ℕ) → (b == 60) ≡ false → (b == 62) ≡ false → (b == 38) ≡ false → (b == 34) ≡ false → shown_byte b ≡ visible_byte b
shown_plain b not_lt not_gt not_amp not_quot = rw (not_lt, not_gt, not_amp, not_quot) refl

-- ---- reading back

read_last : (last : ℕ) (rest : List ℕ) → 128 ≤ last → read_after 0 (0xE2 ∷ 0x90 ∷ last ∷ rest) ≡ 0xE2 ∷ 0x90 ∷ last ∷ read_after 0 rest
read_last last rest high = let other : (last == 38) ≡ false = ne_eqb last 38 (λ (e : last ≡ 38). omega (arith, e, high)) in rw other refl

read_visible : (b : ℕ) (rest : List ℕ) → (b == 38) ≡ false → read_after 0 (visible_byte b ++ rest) ≡ visible_byte b ++ read_after 0 rest
read_visible b rest not_amp =
    of_visible (λ (bytes : List ℕ). read_after 0 (bytes ++ rest) ≡ bytes ++ read_after 0 rest) b (λ last high. read_last last rest high) (rw not_amp refl)

read_shown : (b : ℕ) (rest : List ℕ) → read_after 0 (shown_byte b ++ rest) ≡ visible_byte b ++ read_after 0 rest
read_shown b rest =
    by_kind (λ (x : ℕ). read_after 0 (shown_byte x ++ rest) ≡ visible_byte x ++ read_after 0 rest) b refl refl refl refl
    (λ not_lt not_gt not_amp not_quot.
    ap (λ (bytes : List ℕ). read_after 0 (bytes ++ rest)) (shown_plain b not_lt not_gt not_amp not_quot) ∙ read_visible b rest not_amp)

reads : (text : List ℕ) → read_after 0 (flat_map shown_byte text) ≡ flat_map visible_byte text
reads [] = refl
reads (b ∷ text) =
    ap (read_after 0) (flat_map-cons shown_byte b text)
    ∙ read_shown b (flat_map shown_byte text)
    ∙ ap (λ (rest : List ℕ). visible_byte b ++ rest) (reads text)
    ∙ sym (flat_map-cons visible_byte b text)

pub reads_back : (text : List ℕ) → read_back (shown text) ≡ visible text
reads_back text = reads (utf8_lossy text)

-- ---- no markup

escaped_last : (last : ℕ) (rest : List ℕ) → 128 ≤ last → is_escaped (0xE2 ∷ 0x90 ∷ last ∷ rest) ≡ is_escaped rest
escaped_last last rest high =
    let not_amp : (last == 38) ≡ false = ne_eqb last 38 (λ (e : last ≡ 38). omega (arith, e, high)) in
    let not_lt : (last == 60) ≡ false = ne_eqb last 60 (λ (e : last ≡ 60). omega (arith, e, high)) in
    let not_gt : (last == 62) ≡ false = ne_eqb last 62 (λ (e : last ≡ 62). omega (arith, e, high)) in
    let not_quot : (last == 34) ≡ false = ne_eqb last 34 (λ (e : last ≡ 34). omega (arith, e, high)) in
    rw (not_amp, not_lt, not_gt, not_quot) refl

escaped_visible : (b : ℕ) (rest : List ℕ) → (b == 60) ≡ false → (b == 62) ≡ false → (b == 38) ≡ false → (b == 34) ≡ false
    → is_escaped (visible_byte b ++ rest) ≡ is_escaped rest
escaped_visible b rest not_lt not_gt not_amp not_quot =
    of_visible (λ (bytes : List ℕ). is_escaped (bytes ++ rest) ≡ is_escaped rest) b (λ last high. escaped_last last rest high)
    (rw (not_amp, not_lt, not_gt, not_quot) refl)

escaped_shown : (b : ℕ) (rest : List ℕ) → is_escaped (shown_byte b ++ rest) ≡ is_escaped rest
escaped_shown b rest =
    by_kind (λ (x : ℕ). is_escaped (shown_byte x ++ rest) ≡ is_escaped rest) b refl refl refl refl
    (λ not_lt not_gt not_amp not_quot.
    ap (λ (bytes : List ℕ). is_escaped (bytes ++ rest)) (shown_plain b not_lt not_gt not_amp not_quot)
    ∙ escaped_visible b rest not_lt not_gt not_amp not_quot)

escapes : (text : List ℕ) → is_escaped (flat_map shown_byte text) ≡ true
escapes [] = refl
escapes (b ∷ text) = ap is_escaped (flat_map-cons shown_byte b text) ∙ escaped_shown b (flat_map shown_byte text) ∙ escapes text

pub escaped : (text : List ℕ) → is_escaped (shown text) ≡ true
escaped text = escapes (utf8_lossy text)
