-- Sections of a tracefile, by the keys of their lines: where a section ends, and where functions are grouped (LCOV 2).
use Rattle.std.specs.Prelude.{◌≡◌, ℕ, ◌<◌, ◌≤◌, Bool, true, false, if◌then◌else◌, List, [], ◌∷◌, ◌++◌, length, take, codes}
use Rattle.std.specs.Option.{is_some}
use Rattle.covdata.specs.Delimiters.{line_feed}
use Rattle.covline.specs.Lines.{lines_of}
use Rattle.covline.specs.Reading.{after_key}
use Rattle.covline.specs.Spells.{Begins}

-- the text ends in a line feed, and its last line begins with `end_of_record`, as the last line of a section does
pub record EndsSection (text : List ℕ) : Type 0 where
  pub front : List ℕ
  pub feed : text ≡ front ++ line_feed ∷ []
  pub above : List (List ℕ)
  pub last : List ℕ
  pub lines : lines_of text ≡ above ++ last ∷ []
  pub ends : Begins last (codes "end_of_record")

-- the line begins with the key
abbrev pub has_key : List ℕ → List ℕ → Bool
has_key key line = is_some (after_key key line)

-- whether functions are grouped after these lines: an `FNL:` line begins it, and a path ends it
abbrev pub grouped_after : Bool → List (List ℕ) → Bool
grouped_after is_grouped [] = is_grouped
grouped_after is_grouped (line ∷ lines) =
    grouped_after (if has_key (codes "SF:") line then false else (if has_key (codes "FNL:") line then true else is_grouped)) lines

-- the longest beginning of the text that ends with the last line of a section has `n` bytes; 0 if there is none
pub record AreWholeSections (text : List ℕ) (n : ℕ) : Type 0 where
  pub within : n ≤ length text
  pub ends : 0 < n → EndsSection (take n text)
  pub longest : (k : ℕ) → n < k → k ≤ length text → ¬ EndsSection (take k text)
