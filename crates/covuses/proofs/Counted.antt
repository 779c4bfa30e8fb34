-- The counted lines that were printed so far.
use Rattle.std.proofs.Common.{◌≡◌, ◌≢◌, ℕ, Option, Bor, refl, List, [], ◌∷◌, ◌++◌, ◌∙◌, ap, sym, subst, append_assoc}
use Rattle.std.proofs.lemmas.List.{append-nil}
use Rattle.std.specs.List.{flat_map}
use Rattle.covdata.specs.declared.trace_line.TraceLine.{TraceLine}
use Rattle.covdata.specs.declared.trace_line.TraceLine.TheVariants as lines
use Rattle.covdata.specs.Records.{LineData, line_data}
use Rattle.covline.specs.Spells.{Spells}
use Rattle.covread.specs.Reads.{AllSpell}
use Rattle.covuses.specs.Counted.{if_counted, AreCounted}

-- the text so far is right: whatever records the lines that are left say, the text and what is printed for these records are
-- together the counted lines of all lines
abbrev pub ArePrinted : (lines : List (List ℕ)) (text : List ℕ) (left : List (List ℕ)) → Type 0
ArePrinted lines text left = (records : List LineData) → AllSpell left records → AreCounted lines (text ++ flat_map if_counted records)

-- the text is still right after what one more line says is printed
pub one_more : (lines : List (List ℕ)) (text after line : List ℕ) (left : List (List ℕ)) (says : LineData) → Spells line says → after ≡ text ++ if_counted says
    → ArePrinted lines text (line ∷ left) → ArePrinted lines after left
one_more lines text after line left says spelled printed so_far records spell =
    let more = flat_map if_counted records in
    subst (AreCounted lines) (sym (ap (λ (t : List ℕ). t ++ more) printed ∙ append_assoc text (if_counted says) more)) (so_far (says ∷ records) (spelled, spell))

-- if no line is left, the text has the counted lines of all lines
pub no_more : (lines : List (List ℕ)) (text : List ℕ) (left : List (List ℕ)) → left ≡ [] → ArePrinted lines text left → AreCounted lines text
no_more lines text left none so_far = subst (AreCounted lines) (append-nil text) (subst (ArePrinted lines text) none so_far [] tt)

-- nothing is printed for a record that doesn't count a line
pub none_printed : (says : TraceLine) → ((line count : ℕ) (checksum : Option (Bor (List ℕ))) → says ≢ lines.Line line count checksum) → if_counted (line_data says) ≡ []
none_printed (lines.Line line count checksum) other = absurd (other line count checksum refl)
none_printed (lines.Test name) other = refl
none_printed (lines.Path path) other = refl
none_printed (lines.FuncStart line name) other = refl
none_printed (lines.FuncCount count name) other = refl
none_printed (lines.Branch line block branch taken) other = refl
none_printed (lines.Total kind value) other = refl
none_printed lines.End other = refl
none_printed lines.Skip other = refl
