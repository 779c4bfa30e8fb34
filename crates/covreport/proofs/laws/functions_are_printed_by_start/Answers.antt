use Rattle.std.proofs.lemmas.List.Sorted.{IsPermutation-sym}
use Rattle.covreport.specs.Report.{by_start}
use Rattle.covreport.proofs.ByStart.{by_start_sorted, by_start_moved}
use Rattle.covreport.proofs.laws.functions_are_printed_by_start.Goals as goal

pub returns : goal.returns
returns c = λ functions. (by_start_sorted functions, IsPermutation-sym (by_start functions) functions (by_start_moved functions))
