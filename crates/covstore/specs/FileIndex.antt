-- The index of a file: how many of its tests have each point, and the checksums of its lines.
use Rattle.std.specs.Prelude.{◌≡◌, ℕ, true, List}
use Rattle.std.specs.Option.{is_some}
use Rattle.std.specs.Ordering.{nat_cmp}
use Rattle.covtable.specs.declared.totals.Totals.{Totals}
use Rattle.covmap.specs.Puts.{value_of}
use Rattle.covstore.specs.PointIndexCounts.{found_of, hit_of}
use Rattle.covstore.specs.Kinds.{CountsOf, Each}

-- `counts` has for each point how many tests have it, and how many have it above 0. `holders` has for each line with a checksum
-- how many tests hold the checksum. `texts` has the checksums themselves. Some of them may not be held by any test any more
pub record FileIndexData : Type 0 where
  pub counts : Each CountsOf
  pub holders : List (ℕ × ℕ)
  pub texts : List (ℕ × List ℕ)

-- the numbers stay, and so does each held checksum. A checksum that no test holds may be added or replaced
pub record KeepsIndex (before after : FileIndexData) : Type 0 where
  pub counts : after.counts ≡ before.counts
  pub holders : after.holders ≡ before.holders
  pub texts : (line : ℕ) → is_some (value_of nat_cmp line before.holders) ≡ true → value_of nat_cmp line after.texts ≡ value_of nat_cmp line before.texts

abbrev pub counts_totals : Each CountsOf → Totals
counts_totals counts = record {
  lf = found_of counts.lines;
  lh = hit_of counts.lines;
  ff = found_of counts.functions;
  fh = hit_of counts.functions;
  bf = found_of counts.branches;
  bh = hit_of counts.branches;
}

abbrev pub index_totals : FileIndexData → Totals
index_totals index = counts_totals index.counts
