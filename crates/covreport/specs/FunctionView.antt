-- A function as it is printed, seen as plain data.
use Rattle.covreport.specs.declared.tracefile.functions.PrintedFunction.{PrintedFunction}
use Rattle.covtable.specs.Content.{FunctionValueData}

abbrev pub printed_function : PrintedFunction → FunctionValueData
printed_function f = record { line = f.line; name = f.name.now; count = f.count }
