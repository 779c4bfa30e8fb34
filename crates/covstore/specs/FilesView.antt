-- The files that an iterator over the files of a store has left.
use Rattle.std.specs.Prelude.{ℕ, if◌then◌else◌, List, [], ◌∷◌}
use Rattle.std.specs.List.{flat_map}
use Rattle.covtable.specs.Files.{FileTotalsData}
use Rattle.covtable.specs.TotalsExchanged.{finds_nothing}
use Rattle.covstore.specs.State.{FileData, file_totals}

-- the file with the totals that are kept for it
abbrev pub file_seen : List ℕ × FileData → FileTotalsData
file_seen pair = record { path = pair.0; totals = file_totals pair.1 }

-- this file alone, or no file if it has no points
abbrev pub file_if_found : List ℕ × FileData → List FileTotalsData
file_if_found pair = if finds_nothing (file_totals pair.1) then [] else file_seen pair ∷ []

abbrev pub files_with_points : List (List ℕ × FileData) → List FileTotalsData
files_with_points files = flat_map file_if_found files
