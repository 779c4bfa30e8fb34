-- The summary of totals, in lines like those of lcov(1), --summary.
use Rattle.std.specs.Prelude.{ℕ, ◌+◌, ◌*◌, ◌/◌, ◌%◌, ◌==◌, min, max, nat_lt, List, [], ◌∷◌, ◌++◌, codes, decimal, if◌then◌else◌}
use Rattle.covdata.specs.Delimiters.{line_feed}
use Rattle.covtable.specs.declared.totals.Totals.{Totals}

-- a rate in tenths of a percent, rounded to the nearest, halves up
abbrev pub rounded : ℕ → ℕ → ℕ
rounded hit found = (2000 * hit + found) / (2 * found)

-- at most 999 tenths if not all points are hit
abbrev pub not_all : ℕ → ℕ → ℕ → ℕ
not_all hit found tenths = if nat_lt hit found then min tenths 999 else tenths

-- at least 1 tenth if a point is hit
abbrev pub not_none : ℕ → ℕ → ℕ
not_none hit tenths = if nat_lt 0 hit then max tenths 1 else tenths

-- the rate that is printed
abbrev pub tenths_of : ℕ → ℕ → ℕ
tenths_of hit found = not_none hit (not_all hit found (rounded hit found))

-- the noun for this number
abbrev pub noun : List ℕ → List ℕ → ℕ → List ℕ
noun one many found = if found == 1 then one else many

abbrev pub rate_text : List ℕ → List ℕ → ℕ → ℕ → List ℕ
rate_text one many hit found =
    decimal (tenths_of hit found / 10) ++ (codes "." ++ (decimal (tenths_of hit found % 10) ++ (codes "% (" ++ (decimal hit ++ (codes " of " ++ (decimal found ++ (codes " " ++ (noun one many found ++ codes ")"))))))))

abbrev pub value_text : List ℕ → List ℕ → ℕ → ℕ → List ℕ
value_text one many hit found = if found == 0 then codes "no data found" else rate_text one many hit found

abbrev pub summary_line : List ℕ → List ℕ → List ℕ
summary_line label value = codes "  " ++ (label ++ (value ++ line_feed ∷ []))

-- a heading, and a line for each kind of points
abbrev pub summary_of : Totals → List ℕ
summary_of t =
    (codes "Summary coverage rate:" ++ line_feed ∷ [])
    ++ (summary_line (codes "lines......: ") (value_text (codes "line") (codes "lines") t.lh t.lf)
    ++ (summary_line (codes "functions..: ") (value_text (codes "function") (codes "functions") t.fh t.ff)
    ++ summary_line (codes "branches...: ") (value_text (codes "branch") (codes "branches") t.bh t.bf)))
