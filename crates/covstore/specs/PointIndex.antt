-- What a test adds to a point's numbers, and the tally of all points of a kind.
use Rattle.std.specs.Prelude.{◌≡◌, Option, Some, None, List}
use Rattle.std.specs.declared.cmp.Ordering.{Ordering}
use Rattle.covstore.specs.declared.point_index.KindTally.{KindTally}
use Rattle.covstore.specs.declared.sums.TestCounts.{TestCounts}
use Rattle.covstore.specs.declared.sums.TestsAddend.{TestsAddend}
use Rattle.covstore.specs.PointIndexCounts.{found_of, hit_of, test_counts_with}
use Rattle.covmap.specs.Puts.{put, value_of}

-- the counts after a test adds this to the numbers of a point. `None` changes nothing
abbrev pub changed : {K : Type 0} → (K → K → Ordering) → K → Option TestsAddend → List (K × TestCounts) → List (K × TestCounts)
changed cmp key None counts = counts
changed cmp key (Some more) counts = put cmp key (test_counts_with more (value_of cmp key counts)) counts

-- the tally is right for these counts: it says how many points are found, and how many of them are hit
pub record IsTallyOf {K : Type 0} (counts : List (K × TestCounts)) (tally : KindTally) : Type 0 where
  pub found : tally.found ≡ found_of counts
  pub hit : tally.hit ≡ hit_of counts
