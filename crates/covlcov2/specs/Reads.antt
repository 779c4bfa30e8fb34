-- What the lines of a tracefile of LCOV 2 say together (geninfo(1) of LCOV 2.x, TRACEFILE FORMAT): each line stands for records
-- of version 1, which say the same as in a tracefile of version 1.
use Rattle.std.specs.Prelude.{◌≡◌, ℕ, ◌+◌, ◌-◌, ◌^◌, ◌==◌, ◌&&◌, if◌then◌else◌, min, max, Bool, true, false, List, [], ◌∷◌, ◌++◌, Option, Some, None}
use Rattle.std.specs.List.{flat_map, sum_by, list_any, AllByRecursion}
use Rattle.covdata.specs.declared.trace_line.TotalKind.{TotalKind}
use Rattle.covdata.specs.declared.trace_line.TotalKind.TheVariants.{FuncFound, FuncHit}
use Rattle.covdata.specs.Row.{SubmissionData}
use Rattle.covdata.specs.Records.{LineData, Path, FuncStart, FuncCount, Branch, Total, Skip}
use Rattle.covread.specs.Reads.{Part, IsLawfulPart, records_of, sects_from, odd_in}
use Rattle.covlcov2.specs.Spells.{Lcov2Data, Plain, Leader, Alias, Edge, Lcov2Spells}

-- the start line in the nearest `FNL:` line of this index. `above` are the lines since the last path, the nearest first
abbrev pub leader : ℕ → List Lcov2Data → Option ℕ
leader index [] = None
leader index (Leader other line ∷ above) = if other == index then Some line else leader index above
leader index (says ∷ above) = leader index above

abbrev pub is_leader : Lcov2Data → Bool
is_leader (Leader index line) = true
is_leader says = false

-- a branch of this source line and this block that has an expression
abbrev pub is_expression : (line block : ℕ) → Lcov2Data → Bool
is_expression line block (Edge is_excluded other that None taken) = other == line && that == block
is_expression line block says = false

-- one of these lines is a branch of this block that has an expression
abbrev pub has_expression : (line block : ℕ) → List Lcov2Data → Bool
has_expression line block above = list_any (is_expression line block) above

-- one more than the number, but no more than the largest number that a branch can have
abbrev pub one_more : ℕ → ℕ
one_more number = min (number + 1) (2 ^ 64 - 1)

-- a branch keeps the number that it is given if no expression is above it in its block. Below an expression, or with an
-- expression itself, it gets the next number of the block
abbrev pub number_from : (below_expression : Bool) → (next : ℕ) → (given : Option ℕ) → ℕ
number_from false next (Some number) = number
number_from true next (Some number) = next
number_from below_expression next None = next

-- the next number of this block: `one_more` of the greatest number of its branches above, or 0 if there are none. Excluded
-- branches count too, so excluding a branch leaves the numbers of the others as they are
abbrev pub next_number : (line block : ℕ) → List Lcov2Data → ℕ
next_number line block [] = 0
next_number line block (Edge is_excluded other that given taken ∷ above) =
    if other == line && that == block
    then max (next_number line block above) (one_more (number_from (has_expression line block above) (next_number line block above) given))
    else next_number line block above
next_number line block (says ∷ above) = next_number line block above

-- the number of a branch of this block below these lines. From the first expression of a block on, each of its branches gets a
-- number that none above it has, except that the largest number may come more than once
abbrev pub branch_number : List Lcov2Data → (line block : ℕ) → (given : Option ℕ) → ℕ
branch_number above line block given = number_from (has_expression line block above) (next_number line block above) given

-- below an `FNL:` line the totals of functions say nothing: in them LCOV 2 counts all functions of an index as one. This holds
-- until the next path, also after the section's end
abbrev pub total_said : (is_grouped : Bool) → TotalKind → ℕ → List LineData
total_said false kind value = Total kind value ∷ []
total_said true FuncFound value = []
total_said true FuncHit value = []
total_said true kind value = Total kind value ∷ []

abbrev pub plain_said : (is_grouped : Bool) → LineData → List LineData
plain_said is_grouped Skip = []
plain_said is_grouped (Total kind value) = total_said is_grouped kind value
plain_said is_grouped says = says ∷ []

-- a function's start line and its count, if its index has a start line
abbrev pub alias_said : Option ℕ → ℕ → List ℕ → Option (List LineData)
alias_said None count name = None
alias_said (Some line) count name = Some (FuncStart line name ∷ FuncCount count name ∷ [])

-- an excluded branch says nothing
abbrev pub edge_said : List Lcov2Data → (is_excluded : Bool) → (line block : ℕ) → (given taken : Option ℕ) → List LineData
edge_said above true line block given taken = []
edge_said above false line block given taken = Branch line block (branch_number above line block given) taken ∷ []

-- the records that a line stands for, below these lines; `None` for an `FNA:` line without an `FNL:` line of its index above it
abbrev pub said : List Lcov2Data → Lcov2Data → Option (List LineData)
said above (Plain says) = Some (plain_said (list_any is_leader above) says)
said above (Leader index line) = Some []
said above (Alias index count name) = alias_said (leader index above) count name
said above (Edge is_excluded line block number taken) = Some (edge_said above is_excluded line block number taken)

-- the lines above the next line, since the last path
abbrev pub above_after : List Lcov2Data → Lcov2Data → List Lcov2Data
above_after above (Plain (Path path)) = []
above_after above says = says ∷ above

-- the lines stand for these records, one line after another
abbrev pub StandFor : List (List ℕ) → List Lcov2Data → List LineData → Type 0
StandFor [] above records = records ≡ []
StandFor (line ∷ lines) above records =
    (says : Lcov2Data) × (now : List LineData) × (later : List LineData) × Lcov2Spells line says × (said above says ≡ Some now) × (records ≡ now ++ later)
    × StandFor lines (above_after above says) later

-- the lines are a lawful text, and this is what it says
pub record Reads (lines : List (List ℕ)) (submission : SubmissionData) : Type 0 where
  pub parts : List Part
  pub lawful : AllByRecursion IsLawfulPart parts
  pub spelled : StandFor lines [] (flat_map records_of parts)
  pub sects : submission.sects ≡ sects_from [] parts
  pub odd : submission.odd ≡ sum_by odd_in parts
