use Rattle.std.proofs.Common.{◌≡◌, ◌++◌, drop, map}
use Rattle.std.specs.List.{flat_map}
use Rattle.covtable.specs.ValuesView.{function_data}
use Rattle.covhtml.specs.SourcePage.{function_row}
use Rattle.covhtml.proofs.source_page.put_function_rows.Given as goal

abbrev pub invariant-loop-function : goal.invariant-loop-function
invariant-loop-function g l =
    g.P.Printer.text l.out ++ flat_map function_row (map function_data (drop l.function-index l.functions)) ≡ g.P.Printer.text l.fn.out ++ flat_map function_row (map function_data l.functions)
