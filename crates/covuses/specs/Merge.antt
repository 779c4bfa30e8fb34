-- What a call asks to merge.
use Rattle.std.specs.Prelude.{◌≡◌, ℕ, List, Option, Some, None}
use Rattle.clap.specs.Walk.{Row, Text}
use Rattle.covcommand.specs.declared.asked.Command.{Command}
use Rattle.covcommand.specs.declared.asked.Command.TheVariants.{Merge}
use Rattle.covdata.specs.declared.version.LcovVersion.{LcovVersion}
use Rattle.covcommand.specs.declared.asked.SourceFilter.{SourceFilter}
use Rattle.covcommand.specs.Asked.{AsksFor}

-- a call with this subcommand asks for a merge of these names by this number of jobs; or for a command that is no merge
abbrev pub AsksForMerge : Option (Text × List Row) → Option (ℕ × List Text) → Type 0
AsksForMerge met (Some merge) = (version : LcovVersion) × (filter : SourceFilter) × AsksFor met (Merge version merge.0 filter merge.1)
AsksForMerge met None = (command : Command) × AsksFor met command × ((version : LcovVersion) (jobs : ℕ) (filter : SourceFilter) (names : List Text) → command ≡ Merge version jobs filter names → ⊥)
