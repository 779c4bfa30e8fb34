-- What becomes of the counts of functions when a section ends.
use Rattle.std.specs.Prelude.{◌≡◌, ℕ, ◌<◌, Bool, false, is_none, List, [], ◌∷◌, Option, None, Some}
use Rattle.std.specs.List.{flat_map, AllByRecursion}
use Rattle.std.specs.Str.{bytes_eq}
use Rattle.covdata.specs.Row.{ItemData}
use Rattle.covdata.specs.Records.{LineData, FuncCount}
use Rattle.covpacked.specs.OpenItems.{start_set}
use Rattle.covread.specs.Reads.{distinct, start_in}
use Rattle.covread.specs.TraceFunctions.{named}
use Rattle.covread.specs.TraceSection.{Mark}

-- the record counts a function without a start line
abbrev pub is_unstarted : List LineData → LineData → Bool
is_unstarted inside (FuncCount count name) = is_none (start_in name inside)
is_unstarted inside says = false

-- the names of the functions that these counts hit, one for each such count
abbrev pub names_in : (List ℕ → Option ℕ) → List Mark → List (List ℕ)
names_in starts marks = flat_map (λ m. named m.name m.is_hit (starts m.name)) marks

-- the place of a count, if its function has no start line
abbrev pub alone : ℕ → Option ℕ → List ℕ
alone at None = at ∷ []
alone at (Some line) = []

abbrev pub unstarted_in : (List ℕ → Option ℕ) → List Mark → List ℕ
unstarted_in starts marks = flat_map (λ m. alone m.at (starts m.name)) marks

abbrev pub start_put : ℕ → Option ℕ → List ItemData → List ItemData
start_put at None items = items
start_put at (Some line) items = start_set at line items

-- the items after each count got the start line of its function, if the function has one
abbrev pub filled : (List ℕ → Option ℕ) → List Mark → List ItemData → List ItemData
filled starts [] items = items
filled starts (m ∷ ms) items = filled starts ms (start_put m.at (starts m.name) items)

-- the places of the counts are places of items
abbrev pub HavePlaces : ℕ → List Mark → Type 0
HavePlaces n marks = AllByRecursion (λ m. m.at < n) marks

-- these counts hit `n` functions, `places` are those of the counts without a start line, and the other counts got theirs
pub record IsSettled (starts : List ℕ → Option ℕ) (marks : List Mark) (n : ℕ) (places : List ℕ) (before after : List ItemData) : Type 0 where
  pub hit : n ≡ distinct bytes_eq (names_in starts marks)
  pub unstarted : places ≡ unstarted_in starts marks
  pub items : after ≡ filled starts marks before
