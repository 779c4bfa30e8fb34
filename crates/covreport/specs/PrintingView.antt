-- What a text is printed from, seen as the text.
use Rattle.std.specs.Prelude.{ℕ, List}
use Rattle.covreport.specs.declared.printing.PrintedFrom.{PrintedFrom}
use Rattle.covreport.specs.declared.printing.PrintedFrom.TheVariants as sources

abbrev pub text_from : {A T Plan Renaming : Type 0} → PrintedFrom A T Plan Renaming → List ℕ
text_from (sources.Sections tracefile) = tracefile
text_from (sources.Text text) = text
