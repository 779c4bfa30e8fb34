-- Rates of points hit, with their bars.
use Rattle.std.specs.Prelude.{ℕ, ◌/◌, ◌%◌, ◌==◌, if◌then◌else◌, List, [], ◌++◌, codes, decimal}
use Rattle.covtable.specs.declared.totals.Totals.{Totals}
use Rattle.covreport.specs.Summary.{tenths_of}
use Rattle.covhtml.specs.declared.markup.TheConstants.{METER}

-- tenths of a percent, as a percentage with one decimal place
abbrev pub percentage : (tenths : ℕ) → List ℕ
percentage tenths = decimal (tenths / 10) ++ codes "." ++ decimal (tenths % 10) ++ codes "%"

-- the rate of points hit, or `-` if there are no points
abbrev pub rate : (hit found : ℕ) → List ℕ
rate hit found = if found == 0 then codes "-" else percentage (tenths_of hit found)

-- how many points are hit, of how many that are found
abbrev pub numbers : (hit found : ℕ) → List ℕ
numbers hit found = decimal hit ++ codes "/" ++ decimal found

-- a bar as long as the rate of points hit, in tenths of a percent; none if there are no points
abbrev pub bar : (hit found : ℕ) → List ℕ
bar hit found = if found == 0 then [] else METER.now ++ decimal (tenths_of hit found) ++ codes "\"></meter>"

-- the rate and the numbers of one kind of points in a row, each in a cell
abbrev pub rate_cells : (hit found : ℕ) → List ℕ
rate_cells hit found = codes "<td>" ++ rate hit found ++ codes "<td>" ++ numbers hit found

-- the cells of the three kinds of points, with a bar for lines
abbrev pub totals_cells : Totals → List ℕ
totals_cells t = codes "<td>" ++ bar t.lh t.lf ++ rate_cells t.lh t.lf ++ rate_cells t.fh t.ff ++ rate_cells t.bh t.bf ++ codes "\n"

-- how many points of a kind are hit: the rate, the numbers, and the bar
abbrev pub card_value : (hit found : ℕ) → List ℕ
card_value hit found = rate hit found ++ codes "</b> " ++ decimal hit ++ codes " of " ++ decimal found ++ codes " " ++ bar hit found

abbrev pub card : (label : List ℕ) (hit found : ℕ) → List ℕ
card label hit found = codes "<p>" ++ label ++ codes " <b>" ++ card_value hit found ++ codes "</p>\n"

-- a card for each kind of points
abbrev pub cards : Totals → List ℕ
cards t = codes "<div class=\"cards\">\n" ++ card (codes "Lines") t.lh t.lf ++ card (codes "Functions") t.fh t.ff ++ card (codes "Branches") t.bh t.bf ++ codes "</div>\n"
