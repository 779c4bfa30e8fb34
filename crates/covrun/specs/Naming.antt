-- How names and checksums from outside stand in the messages of a call that collects files.
use Rattle.std.specs.Prelude.{ℕ, List, Option, None, Some}
use Rattle.covdata.specs.declared.version.LcovVersion.TheVariants as versions
use Rattle.covcommand.specs.declared.asked.Strictness.{Strictness}
use Rattle.covcommand.specs.declared.asked.Strictness.TheVariants.{Lenient, Strict}
use Rattle.covlist.specs.Shown.{shown_lines, shown_name}
use Rattle.covrun.specs.Work.{QuestionData, Answer, ChosenReport, ChosenTotals, ChosenList, WorkData}
use Rattle.covrun.specs.declared.naming.Naming.{Naming}
use Rattle.covrun.specs.declared.naming.Naming.TheVariants.{Plain, Shown}
use Rattle.covrun.specs.declared.work.FileFormat.{FileFormat}
use Rattle.covrun.specs.declared.work.FileFormat.TheVariants.{Tracefile, LargeTracefile, GcovOutput}

-- a name in a message: as it is, or with its control bytes in hexadecimal digits
abbrev pub told_name : Naming → List ℕ → List ℕ
told_name Plain name = name
told_name Shown name = shown_name name

-- whole lines that names stand in
abbrev pub told_lines : Naming → List ℕ → List ℕ
told_lines Plain lines = lines
told_lines Shown lines = shown_lines lines

-- the answer to an operation is asked by no option; all else is
abbrev pub naming_asked : QuestionData → Naming
naming_asked (Answer op) = Plain
naming_asked (ChosenReport choice) = Shown
naming_asked (ChosenTotals form choice limits) = Shown
naming_asked (ChosenList form choice) = Shown

-- tracefiles of version 1, not read in pieces, and gcov's text are read without an option
abbrev pub naming_read : FileFormat → QuestionData → Naming
naming_read (Tracefile versions.One) asks = naming_asked asks
naming_read (Tracefile versions.Two) asks = Shown
naming_read (LargeTracefile version) asks = Shown
naming_read (GcovOutput test) asks = naming_asked asks

abbrev pub naming_for : Strictness → FileFormat → QuestionData → Naming
naming_for Lenient format asks = naming_read format asks
naming_for Strict format asks = Shown

-- a call of `merge`, `summary`, `extract`, `remove` or `gcov` without an option but `--jobs` and `--test` has names as they are, and
-- every other call shows them. `file`: the name of the file that the call names for its text
abbrev pub naming_of : (file : Option (List ℕ)) → WorkData → Naming
naming_of None work = naming_for work.strictness work.format work.asks
naming_of (Some name) work = Shown
