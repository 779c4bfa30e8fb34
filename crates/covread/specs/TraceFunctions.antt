-- The functions of a section as the code has them.
use Rattle.std.specs.Prelude.{◌≡◌, ℕ, Bool, true, false, ◌&&◌, not, List, [], ◌∷◌, Option, None, Some, option_map}
use Rattle.std.specs.BTreeMap.{BTreeMap, get_by}
use Rattle.std.specs.Cmp.Lexicographic.{slice_cmp}
use Rattle.std.specs.List.{list_any}
use Rattle.std.specs.Ordering.{nat_cmp}
use Rattle.std.specs.Str.{bytes_eq}
use denote.Ref.{Bor}
use Rattle.covdata.specs.declared.trace_line.TotalKind.TheVariants.{FuncFound, FuncHit}
use Rattle.covdata.specs.Records.{LineData}
use Rattle.covread.specs.declared.trace.functions.Found.{Found}
use Rattle.covread.specs.declared.trace.functions.Function.{Function}
use Rattle.covread.specs.declared.trace.tally.FunctionTotals.{FunctionTotals}
use Rattle.covread.specs.Reads.{own_total, items_of}

-- what the map has for the function of this name
abbrev pub function_at : BTreeMap (Bor (List ℕ)) Function → List ℕ → Option Function
function_at functions name = get_by (λ k. slice_cmp nat_cmp name k.now) functions

-- a function with this start line. The function is hit if `name` is one of `names`
abbrev pub known : List (List ℕ) → List ℕ → ℕ → Function
known names name line = record { start = line; is_hit = list_any (bytes_eq name) names }

-- the map has exactly the functions to which `starts` gives a start line, each with this line. Those whose
-- name is among `names` are hit
pub record AreFunctions (functions : BTreeMap (Bor (List ℕ)) Function) (starts : List ℕ → Option ℕ) (names : List (List ℕ)) : Type 0 where
  pub at : (name : List ℕ) → function_at functions name ≡ option_map (known names name) (starts name)

-- what a count of a function finds, if the functions of these names were hit before
abbrev pub found_by : List (List ℕ) → List ℕ → Bool → ℕ → Found
found_by names name is_hit line = record { start = line; is_first_hit = is_hit && not (list_any (bytes_eq name) names) }

-- the name of the function, if this count hits it: the count is above 0, and the function has a start line
abbrev pub named : List ℕ → Bool → Option ℕ → List (List ℕ)
named name true (Some line) = name ∷ []
named name true None = []
named name false start = []

-- the totals are those of the section's functions
pub record AreFunctionTotals (own : FunctionTotals) (inside : List LineData) : Type 0 where
  pub found : own.found ≡ own_total FuncFound (items_of inside)
  pub hit : own.hit ≡ own_total FuncHit (items_of inside)
