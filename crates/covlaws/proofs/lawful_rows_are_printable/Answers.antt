use Rattle.covlaws.proofs.ChosenContent.{chosen_content}
use Rattle.covlaws.proofs.LawfulRun.{lawful_run}
use Rattle.covlaws.proofs.PrintableContent.{printable_content}
use Rattle.covlaws.proofs.lawful_rows_are_printable.Goals as goal

pub returns : goal.returns
returns c = record { printable = printable_content; chosen = chosen_content; run = lawful_run }
