-- A piece that begins with a block without sections is longer than the block.
use Rattle.std.proofs.Common.{◌≡◌, ℕ, ◌<◌, ◌≤◌, List, [], ◌∷◌, ◌++◌, length, take, refl, sym, ap, subst, ◌∙◌, length-append, take_at, arith, inl, inr}
use Rattle.std.proofs.lemmas.Bool.{cases_lt}
use Rattle.std.proofs.lemmas.List.{take-append-le}
use Rattle.covdata.specs.Delimiters.{line_feed}
use Rattle.covpieces.specs.Sections.{AreWholeSections, EndsSection}

some_bytes : (piece : List ℕ) → EndsSection piece → 0 < length piece
some_bytes piece ends = omega (arith, ap length ends.feed, length-append ends.front (line_feed ∷ []))

pub longer : (block more piece rest : List ℕ) → AreWholeSections block 0 → block ++ more ≡ piece ++ rest → EndsSection piece → length block < length piece
longer block more piece rest none same ends =
    elim (cases_lt (length block) (length piece)) [
      | inl lt ↦ lt
      | inr le ↦
          let part : take (length piece) block ≡ piece = sym (take-append-le (length piece) block more le) ∙ ap (take (length piece)) same ∙ take_at piece rest (length piece) refl in
          absurd (none.longest (length piece) (some_bytes piece ends) le (subst EndsSection (sym part) ends))
    ]

pub too_long : (most : ℕ) (front block more piece rest : List ℕ) → AreWholeSections block 0 → most ≤ length (front ++ block) → block ++ more ≡ piece ++ rest → EndsSection piece → most < length (front ++ piece)
too_long most front block more piece rest none full same ends =
    omega (arith, full, length-append front block, length-append front piece, longer block more piece rest none same ends)
