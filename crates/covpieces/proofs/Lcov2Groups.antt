-- Where functions are grouped, by the keys of lines: as the lines above the next line have it.
use Rattle.std.proofs.Common.{◌≡◌, ℕ, Bool, true, false, List, [], ◌∷◌, ◌++◌, Option, Some, None, refl, sym, ap, subst, ◌∙◌, inl, inr, if◌then◌else◌}
use Rattle.std.specs.Prelude.{codes}
use Rattle.std.specs.Option.{is_some}
use Rattle.covdata.specs.declared.trace_line.TotalKind.{TotalKind}
use Rattle.covdata.specs.declared.trace_line.TotalKind.TheVariants.{FuncFound, FuncHit, BranchFound, BranchHit, LineFound, LineHit}
use Rattle.covline.specs.Reading.{after_key}
use Rattle.covdata.specs.Records.{LineData, Test, Path, FuncStart, FuncCount, Branch, Line, Total, End, Skip, key_of}
use Rattle.covline.specs.Spells.{Begins}
use Rattle.covline.proofs.SmallNumbers.{after_some}
use Rattle.covlcov2.specs.Spells.{Lcov2Data, Plain, Leader, Alias, Edge, Lcov2Spells}
use Rattle.covlcov2.specs.Reads.{above_after}
use Rattle.covlcov2.proofs.Holds.{Goes}
use Rattle.covpieces.specs.Sections.{has_key, grouped_after}
use Rattle.covpieces.specs.Pieces.{CarriedData, front_lines}
use Rattle.covpieces.proofs.Lcov2Lines.{is_grouped}

-- ---- keys

no_key_found : (key line : List ℕ) (found : Option (List ℕ)) → after_key key line ≡ found → ¬ Begins line key → is_some found ≡ false
no_key_found key line None e none = refl
no_key_found key line (Some rest) e none = absurd (none (rest, after_some key line rest (sym e)))

no_key : (key line : List ℕ) → ¬ Begins line key → has_key key line ≡ false
no_key key line none = no_key_found key line (after_key key line) refl none

-- ---- one line

-- whether functions are grouped after this line
abbrev pub grouped_line : Bool → List ℕ → Bool
grouped_line grouped line = if has_key (codes "SF:") line then false else (if has_key (codes "FNL:") line then true else grouped)

-- a line that begins otherwise changes nothing
changes_nothing : (grouped : Bool) (line : List ℕ) → has_key (codes "SF:") line ≡ false → has_key (codes "FNL:") line ≡ false → grouped ≡ grouped_line grouped line
changes_nothing grouped line a b = rw (a, b) refl

total_line : (grouped : Bool) (line digits : List ℕ) (kind : TotalKind) → line ≡ key_of kind ++ digits → grouped ≡ grouped_line grouped line
total_line grouped line digits FuncFound e = subst (λ (l : List ℕ). grouped ≡ grouped_line grouped l) (sym e) refl
total_line grouped line digits FuncHit e = subst (λ (l : List ℕ). grouped ≡ grouped_line grouped l) (sym e) refl
total_line grouped line digits BranchFound e = subst (λ (l : List ℕ). grouped ≡ grouped_line grouped l) (sym e) refl
total_line grouped line digits BranchHit e = subst (λ (l : List ℕ). grouped ≡ grouped_line grouped l) (sym e) refl
total_line grouped line digits LineFound e = subst (λ (l : List ℕ). grouped ≡ grouped_line grouped l) (sym e) refl
total_line grouped line digits LineHit e = subst (λ (l : List ℕ). grouped ≡ grouped_line grouped l) (sym e) refl

line_groups : (above : List Lcov2Data) (line : List ℕ) (says : Lcov2Data) → Lcov2Spells line says → is_grouped (above_after above says) ≡ grouped_line (is_grouped above) line
line_groups above line (Plain (Test name)) s = subst (λ (l : List ℕ). is_grouped above ≡ grouped_line (is_grouped above) l) (sym s.form) refl
line_groups above line (Plain (Path path)) s = subst (λ (l : List ℕ). false ≡ grouped_line (is_grouped above) l) (sym s.form.0) refl
line_groups above line (Plain (FuncStart number name)) s = subst (λ (l : List ℕ). is_grouped above ≡ grouped_line (is_grouped above) l) (sym s.form.2) refl
line_groups above line (Plain (FuncCount count name)) s = subst (λ (l : List ℕ). is_grouped above ≡ grouped_line (is_grouped above) l) (sym s.form.1) refl
line_groups above line (Plain (Branch number block branch taken)) s = absurd s.form
line_groups above line (Plain (Line number count None)) s = subst (λ (l : List ℕ). is_grouped above ≡ grouped_line (is_grouped above) l) (sym s.form.2) refl
line_groups above line (Plain (Line number count (Some checksum))) s = subst (λ (l : List ℕ). is_grouped above ≡ grouped_line (is_grouped above) l) (sym s.form.2) refl
line_groups above line (Plain (Total kind value)) s = total_line (is_grouped above) line s.form.0 kind s.form.1
line_groups above line (Plain End) s = subst (λ (l : List ℕ). is_grouped above ≡ grouped_line (is_grouped above) l) (sym s.form.1) refl
line_groups above line (Plain Skip) s =
    changes_nothing (is_grouped above) line (no_key (codes "SF:") line (λ begins. s.form.0.0 (inr (inl begins)))) (no_key (codes "FNL:") line s.form.1)
line_groups above line (Leader index number) s = subst (λ (l : List ℕ). true ≡ grouped_line (is_grouped above) l) (sym s.form.3) refl
line_groups above line (Alias index count name) s = subst (λ (l : List ℕ). is_grouped above ≡ grouped_line (is_grouped above) l) (sym s.form.2) refl
line_groups above line (Edge is_excluded number block branch taken) s = subst (λ (l : List ℕ). is_grouped above ≡ grouped_line (is_grouped above) l) (sym s.form.parts) refl

-- ---- lines

pub lines_group : (lines : List (List ℕ)) (above last : List Lcov2Data) (records : List LineData) → Goes lines above records last → is_grouped last ≡ grouped_after (is_grouped above) lines
lines_group [] above last records g = ap is_grouped g.1
lines_group (line ∷ lines) above last records g =
    lines_group lines (above_after above g.0) last g.2 g.6 ∙ ap (λ (b : Bool). grouped_after b lines) (line_groups above line g.0 g.3)

behind : (test : List ℕ) (grouped : Bool) (before : ℕ) (lines : List (List ℕ))
    → let c : CarriedData = record { test = test; is_grouped = grouped; lines = before } in
    grouped_after false (front_lines c ++ lines) ≡ grouped_after grouped lines
behind [] false before lines = refl
behind [] true before lines = refl
behind (b ∷ bs) false before lines = refl
behind (b ∷ bs) true before lines = refl

-- the lines of a front say whether functions are grouped before the piece
pub front_groups : (c : CarriedData) (lines : List (List ℕ)) → grouped_after false (front_lines c ++ lines) ≡ grouped_after c.is_grouped lines
front_groups c lines = behind c.test c.is_grouped c.lines lines
