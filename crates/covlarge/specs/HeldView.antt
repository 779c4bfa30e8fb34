-- Private steps: how one more piece changes what is held.
use Rattle.std.specs.Prelude.{ℕ, ◌+◌, Option, Some, None}
use Rattle.covcheck.specs.declared.text_summary.SkippedLine.{SkippedLine}
use Rattle.covcheck.specs.declared.text_summary.TextSummary.{TextSummary}
use Rattle.covcheck.specs.declared.format.Format.{Format}
use Rattle.covcheck.specs.declared.format.Format.TheVariants.{Lcov2, Trace}
use Rattle.covdata.specs.declared.version.LcovVersion.{LcovVersion}
use Rattle.covdata.specs.declared.version.LcovVersion.TheVariants.{One, Two}
use Rattle.covlarge.specs.Summary.{SkippedData, SummaryData, or_first, told_number}
use Rattle.covlarge.specs.declared.held.FirstSkipped.{FirstSkipped}

-- the line that is kept, as plain data
abbrev pub first_data : Option FirstSkipped → Option SkippedData
first_data None = None
first_data (Some line) = Some (record { at = line.at; start = line.start })

-- the line of a piece, with its number in the whole text as it is told, if so many lines are before the piece
abbrev pub moved_line : ℕ → Option SkippedLine → Option SkippedData
moved_line lines None = None
moved_line lines (Some line) = Some (record { at = told_number (lines + line.at); start = line.start.now })

-- the same numbers, and this line if there was none
abbrev pub with_first : SummaryData → Option SkippedData → SummaryData
with_first before line =
    record { sections = before.sections; items = before.items; odd = before.odd; skipped = before.skipped; first = or_first before.first line }

-- the same line, and the numbers of one more piece added
abbrev pub with_numbers : SummaryData → TextSummary → SummaryData
with_numbers before summary =
    record {
      sections = told_number (before.sections + summary.sections);
      items = told_number (before.items + summary.items);
      odd = told_number (before.odd + summary.odd);
      skipped = told_number (before.skipped + summary.skipped);
      first = before.first;
    }

-- how covcheck names tracefiles of this version
abbrev pub format_of : LcovVersion → Format
format_of One = Trace
format_of Two = Lcov2
