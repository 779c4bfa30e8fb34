-- A text that is read as sections began one, so memory that runs out while they are unpacked runs out late.
use Rattle.std.proofs.Common.{◌≡◌, ◌≢◌, ℕ, Bool, true, false, ◌||◌, List, [], ◌∷◌, ◌++◌, Option, Some, None, Result, Ok, Err, inl, inr, refl, sym, ap, subst, ◌∙◌, append_assoc}
use Rattle.std.specs.List.{flat_map, list_any}
use Rattle.std.proofs.lemmas.List.Folds.{list_any-append}
use Rattle.covdata.specs.declared.trace_line.TotalKind.{TotalKind}
use Rattle.covdata.specs.declared.trace_line.TotalKind.TheVariants.{FuncFound, FuncHit}
use Rattle.covline.specs.Lines.{lines_of}
use Rattle.covdata.specs.Row.{SubmissionData}
use Rattle.covdata.specs.Records.{LineData, Path, Total, Skip}
use Rattle.covdata.specs.declared.fault.ReadFault.{ReadFault}
use Rattle.covdata.specs.declared.fault.ReadFault.TheVariants as faults
use Rattle.covread.specs.Reads.{Part, Outside, Section, records_of, sects_from, test_after}
use Rattle.covlcov2.specs.Outcome.{Answers, HasBegun, IsLawfulText}
use Rattle.covlcov2.specs.Reads.{StandFor, above_after, alias_said, edge_said, is_leader, leader, plain_said, said, total_said}
use Rattle.covlcov2.specs.Spells.{Lcov2Data, Plain, Leader, Alias, Edge, Lcov2Spells}

abbrev is_path : LineData → Bool
is_path (Path path) = true
is_path says = false

-- one of the records is a path
abbrev AnyPath : List LineData → Type 0
AnyPath records = list_any is_path records ≡ true

-- the line says a path
abbrev SaysPath : Lcov2Data → Type 0
SaysPath says = (path : List ℕ) × (says ≡ Plain (Path path))

total_none : (is_grouped : Bool) (kind : TotalKind) (value : ℕ) → list_any is_path (total_said is_grouped kind value) ≡ false
total_none false kind value = refl
total_none true FuncFound value = refl
total_none true FuncHit value = refl
total_none true kind value = refl

plain_path : (is_grouped : Bool) (says : LineData) → AnyPath (plain_said is_grouped says) → SaysPath (Plain says)
plain_path is_grouped (Path path) any = (path, refl)
plain_path is_grouped (Total kind value) any = absurd (let e : false ≡ true = sym (total_none is_grouped kind value) ∙ any in cc)
plain_path is_grouped says any = absurd (let e : false ≡ true = any in cc)

alias_none : (start : Option ℕ) (count : ℕ) (name : List ℕ) (now : List LineData) → alias_said start count name ≡ Some now → list_any is_path now ≡ false
alias_none None count name now s = absurd cc
alias_none (Some line) count name now s = ap (λ (o : Option (List LineData)). any_in o) (sym s)
  where
    any_in : Option (List LineData) → Bool
    any_in None = false
    any_in (Some records) = list_any is_path records

edge_none : (above : List Lcov2Data) (is_excluded : Bool) (line block : ℕ) (given taken : Option ℕ) → list_any is_path (edge_said above is_excluded line block given taken) ≡ false
edge_none above true line block given taken = refl
edge_none above false line block given taken = refl

some_is : (a b : List LineData) → Some a ≡ Some b → b ≡ a
some_is a b e = cc

said_path : (above : List Lcov2Data) (says : Lcov2Data) (now : List LineData) → said above says ≡ Some now → AnyPath now → SaysPath says
said_path above (Plain says) now s any = plain_path (list_any is_leader above) says (subst AnyPath (some_is (plain_said (list_any is_leader above) says) now s) any)
said_path above (Leader index line) now s any = absurd (let e : false ≡ true = subst AnyPath (some_is [] now s) any in cc)
said_path above (Alias index count name) now s any = absurd (let e : false ≡ true = sym (alias_none (leader index above) count name now s) ∙ any in cc)
said_path above (Edge is_excluded line block number taken) now s any =
    let none = edge_none above is_excluded line block number taken in
    absurd (let e : false ≡ true = sym none ∙ subst AnyPath (some_is (edge_said above is_excluded line block number taken) now s) any in cc)

-- a line that says a path, and the lines before and after it
record HasPath (lines : List (List ℕ)) : Type 0 where
  before : List (List ℕ)
  line : List ℕ
  after : List (List ℕ)
  path : List ℕ
  place : lines ≡ before ++ line ∷ after
  spells : Lcov2Spells line (Plain (Path path))

further : (line : List ℕ) (lines : List (List ℕ)) → HasPath lines → HasPath (line ∷ lines)
further line lines h = record { before = line ∷ h.before; line = h.line; after = h.after; path = h.path; place = ap (λ (ls : List (List ℕ)). line ∷ ls) h.place; spells = h.spells }

or_later : (a b : Bool) → a ≡ false → (a || b) ≡ true → b ≡ true
or_later false b none any = any
or_later true b none any = absurd cc

-- the next line says a path, or one of the lines behind it does
path_here : (line : List ℕ) (lines : List (List ℕ)) (above : List Lcov2Data) (says : Lcov2Data) (now later : List LineData) → Lcov2Spells line says → said above says ≡ Some now
    → AnyPath (now ++ later) → (AnyPath later → HasPath lines) → (b : Bool) → list_any is_path now ≡ b → HasPath (line ∷ lines)
path_here line lines above says now later spells stands any behind true e =
    let k = said_path above says now stands e in
    record { before = []; line = line; after = lines; path = k.0; place = refl; spells = subst (λ (d : Lcov2Data). Lcov2Spells line d) k.1 spells }
path_here line lines above says now later spells stands any behind false e =
    further line lines (behind (or_later (list_any is_path now) (list_any is_path later) e (sym (list_any-append is_path now later) ∙ any)))

has_path : (lines : List (List ℕ)) (above : List Lcov2Data) (records : List LineData) → StandFor lines above records → AnyPath records → HasPath lines
has_path [] above records none any = absurd (let e : false ≡ true = subst AnyPath none any in cc)
has_path (line ∷ lines) above records (says, now, later, spells, stands, split, rest) any =
    path_here line lines above says now later spells stands (subst AnyPath split any) (has_path lines (above_after above says) later rest) (list_any is_path now) refl

or_true : (b : Bool) → (b || true) ≡ true
or_true true = refl
or_true false = refl

records_path : (test : List ℕ) (parts : List Part) → sects_from test parts ≢ [] → AnyPath (flat_map records_of parts)
records_path test [] some = absurd (some refl)
records_path test (Outside says ∷ parts) some = ap (λ (b : Bool). is_path says || b) (records_path (test_after test says) parts some) ∙ or_true (is_path says)
records_path test (Section path inside ∷ parts) some = refl

begun_if_lawful : (lines : List (List ℕ)) → IsLawfulText lines → HasPath lines → HasBegun lines
begun_if_lawful lines lawful h =
    (h.before, h.line, h.after, h.path, h.place, h.spells, (h.after, subst IsLawfulText (h.place ∙ sym (append_assoc h.before (h.line ∷ []) h.after)) lawful))

pub sections_begun : (text : List ℕ) (submission : SubmissionData) → Answers text (Ok submission) → submission.sects ≢ [] → HasBegun (lines_of text)
sections_begun text submission (inl ran_out) some = absurd (let e : Ok submission ≡ Err faults.Memory = ran_out.1 in cc)
sections_begun text submission (inr read) some =
    let r = read.1 in
    begun_if_lawful (lines_of text) (submission, r) (has_path (lines_of text) [] (flat_map records_of r.parts) r.spelled (records_path [] r.parts (λ none. some (r.sects ∙ none))))
