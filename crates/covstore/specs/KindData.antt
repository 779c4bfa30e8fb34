-- What a file keeps for a kind of points: the counts, and the points of the test that the counts follow.
use Rattle.std.specs.Prelude.{Option, Some, List, []}
use Rattle.covmap.specs.MapData.{MapData}
use Rattle.covstore.specs.declared.sums.TestCounts.{TestCounts}
use Rattle.covstore.specs.SoleTest.{no_points}

-- the counts, committed and staged. If they follow the only test of the file, `follows` has the points of that test
pub record KindData (K V : Type 0) : Type 0 where
  pub committed : List (K × TestCounts)
  pub staged : List (K × TestCounts)
  pub follows : Option (MapData K V)

-- what a file without tests keeps
abbrev pub empty_kind : {K V : Type 0} → KindData K V
empty_kind = record { committed = []; staged = []; follows = Some no_points }
