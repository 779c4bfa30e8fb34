-- The line that says what a text holds.
use Rattle.std.specs.Prelude.{ℕ, ◌&&◌, nat_lt, if◌then◌else◌, List, [], ◌++◌, Option, Some, None, codes, decimal, map}
use Rattle.covcheck.specs.declared.text_summary.TextSummary.{TextSummary}
use Rattle.covcheck.specs.declared.text_summary.SkippedLine.{SkippedLine}

-- a byte as it is shown: a question mark (63) for a space and for any byte that isn't printable ASCII, any other byte as it is
abbrev pub shown : ℕ → ℕ
shown b = if nat_lt 32 b && nat_lt b 127 then b else 63

abbrev pub first_text : Option SkippedLine → List ℕ
first_text None = []
first_text (Some first) = codes " first " ++ map shown first.start.now ++ codes " at " ++ decimal first.at

-- the line, without the name of the file
abbrev pub summary_text : TextSummary → List ℕ
summary_text h =
    codes "sections " ++ decimal h.sections ++ codes " items " ++ decimal h.items ++ codes " odd " ++ decimal h.odd
    ++ codes " skipped " ++ decimal h.skipped ++ first_text h.first ++ codes "\n"
