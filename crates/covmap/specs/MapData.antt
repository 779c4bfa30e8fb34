-- What contracts see of a map: its committed and its staged entries.
use Rattle.std.specs.Prelude.{ℕ, Option, List}
use Rattle.covmap.specs.Staged.{staged_of}
use Rattle.covmap.specs.Slots.{filled, slots_of}

-- the committed and the staged entries, ascending by their keys. A commit replaces the committed entries with the staged ones
pub record MapData (K V : Type 0) : Type 0 where
  pub committed : List (K × V)
  pub staged : List (K × V)

-- the entries of a map, from its pages of slots and its columns of staged values
abbrev pub map_data : {K V : Type 0} → List (List (K × Option V)) → List (ℕ × List (Option V)) → MapData K V
map_data pages columns = record {
  committed = filled (slots_of pages);
  staged = filled (slots_of (staged_of pages columns));
}
