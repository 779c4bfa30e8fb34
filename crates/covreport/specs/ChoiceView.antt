-- A `Choice` of the program, seen as plain data.
use Rattle.covreport.specs.declared.choice.Choice.{Choice}
use Rattle.covreport.specs.declared.choice.Choice.TheVariants as choices
use Rattle.covreport.specs.Choice.{ChoiceData, AllFiles, Extracted, Removed, Filtered}

abbrev pub choice_data : {A : Type 0} → Choice A → ChoiceData
choice_data choices.All = AllFiles
choice_data (choices.Extract patterns) = Extracted patterns
choice_data (choices.Remove patterns) = Removed patterns
choice_data (choices.Filter includes excludes) = Filtered includes excludes
