-- The sections of the chosen files, in the content of some rows, are the content of the rows of these files.
use Rattle.std.proofs.Common.{◌≡◌, List, sym}
use Rattle.std.specs.Prelude.{filter}
use Rattle.covdata.specs.Row.{Row}
use Rattle.covtable.specs.Content.{content_of}
use Rattle.covreport.specs.Choice.{ChoiceData, is_chosen}
use Rattle.covtable.proofs.WithoutContent.{content_picked}

pub chosen_content : (choice : ChoiceData) (rows : List Row) → filter (λ s. is_chosen choice s.key.file) (content_of rows) ≡ content_of (filter (λ row. is_chosen choice row.file) rows)
chosen_content choice rows = sym (content_picked (λ key. is_chosen choice key.file) rows)
