-- A text that is printed chunk by chunk: the bytes that are UTF-8, and a mark for those after them that aren't.
use Rattle.std.proofs.Common.{◌≡◌, ℕ, ◌<◌, ◌==◌, List, [], ◌∷◌, ◌++◌, length, drop, refl, sym, ap, ◌∙◌, append_assoc, arith, if◌then◌else◌}
use Rattle.std.specs.List.{flat_map}
use Rattle.std.specs.Str.Lossy.{replacement_bytes, utf8_invalid_len, utf8_lossy, utf8_valid_len}
use Rattle.std.proofs.lemmas.Bool.{ne_eqb}
use Rattle.std.proofs.lemmas.List.{append-nil}
use Rattle.std.proofs.lemmas.List.Concat.{flat_map-append}
use Rattle.std.proofs.lemmas.Str.{utf8_lossy_chunk, utf8_lossy_empty, utf8_lossy_last_chunk}
use Rattle.covhtml.specs.Shown.{shown, shown_byte}

-- what is printed for bytes that aren't UTF-8
abbrev pub mark : List ℕ → List ℕ
mark invalid = if length invalid == 0 then [] else replacement_bytes

-- there are some
mark_some : (b : ℕ) (invalid : List ℕ) → mark (b ∷ invalid) ≡ replacement_bytes
mark_some b invalid = rw (ne_eqb (length (b ∷ invalid)) 0 (λ (e : length (b ∷ invalid) ≡ 0). omega (arith, e))) refl

-- the text of the chunk, its mark, and what is left are the whole text
joined : (bs valid middle rest t t1 t2 : List ℕ) → utf8_lossy bs ≡ valid ++ (middle ++ utf8_lossy rest) → flat_map shown_byte middle ≡ middle
    → t1 ≡ t ++ flat_map shown_byte valid → t2 ≡ t1 ++ middle → t2 ++ shown rest ≡ t ++ shown bs
joined bs valid middle rest t t1 t2 is plain first second =
    ap (λ (x : List ℕ). x ++ shown rest) (second ∙ ap (λ (x : List ℕ). x ++ middle) first)
    ∙ append_assoc (t ++ flat_map shown_byte valid) middle (shown rest)
    ∙ append_assoc t (flat_map shown_byte valid) (middle ++ shown rest)
    ∙ ap (λ (x : List ℕ). t ++ x) (sym parts)
  where
    parts : shown bs ≡ flat_map shown_byte valid ++ (middle ++ shown rest)
    parts = ap (flat_map shown_byte) is
        ∙ flat_map-append shown_byte valid (middle ++ utf8_lossy rest)
        ∙ ap (λ (x : List ℕ). flat_map shown_byte valid ++ x)
        (flat_map-append shown_byte middle (utf8_lossy rest) ∙ ap (λ (x : List ℕ). x ++ shown rest) plain)

pub chunk_put : (bs valid invalid rest t t1 t2 whole : List ℕ) → bs ≡ valid ++ (invalid ++ rest) → length valid ≡ utf8_valid_len bs
    → length invalid ≡ utf8_invalid_len (drop (utf8_valid_len bs) bs) → (length invalid ≡ 0 → length rest ≡ 0)
    → t ++ shown bs ≡ whole → t1 ≡ t ++ flat_map shown_byte valid → t2 ≡ t1 ++ mark invalid → t2 ++ shown rest ≡ whole
chunk_put bs valid [] rest t t1 t2 whole cut long short last so_far first second =
    joined bs valid [] rest t t1 t2 (utf8_lossy_last_chunk bs valid [] rest cut long refl (last refl)) refl first second ∙ so_far
chunk_put bs valid (b ∷ invalid) rest t t1 t2 whole cut long short last so_far first second =
    let some : 0 < length (b ∷ invalid) = omega arith in
    joined bs valid replacement_bytes rest t t1 t2 (utf8_lossy_chunk bs valid (b ∷ invalid) rest cut long short some) refl first
    (second ∙ ap (λ (x : List ℕ). t1 ++ x) (mark_some b invalid)) ∙ so_far

pub chunks_end : (bs t whole : List ℕ) → length bs ≡ 0 → t ++ shown bs ≡ whole → t ≡ whole
chunks_end bs t whole none so_far =
    sym (append-nil t) ∙ ap (λ (x : List ℕ). t ++ flat_map shown_byte x) (sym (utf8_lossy_empty bs none)) ∙ so_far
