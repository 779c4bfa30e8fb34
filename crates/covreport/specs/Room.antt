-- How much room printing takes: room for the functions of one section at a time.
use Rattle.std.specs.Prelude.{ℕ, List, [], ◌∷◌, length, max, if◌then◌else◌}
use Rattle.covtable.specs.Content.{SectionData}
use Rattle.covreport.specs.Choice.{ChoiceData, is_chosen}

-- the most functions that one section of the chosen files has
abbrev pub most_functions : ChoiceData → List SectionData → ℕ
most_functions choice [] = 0
most_functions choice (s ∷ sections) =
    if is_chosen choice s.key.file
    then max (length s.functions) (most_functions choice sections)
    else most_functions choice sections
