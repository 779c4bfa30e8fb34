-- A `KindIndex`, seen as plain data.
use Rattle.std.specs.Prelude.{Bool, Some, None}
use Rattle.covstore.specs.declared.kind_index.Counts.{Counts}
use Rattle.covstore.specs.declared.kind_index.Counts.TheVariants.{OfOneTest, OfTests}
use Rattle.covstore.specs.KindData.{KindData}
use Rattle.covstore.specs.SoleTest.{counts_of}

abbrev pub kind_data : {K V A : Type 0} → (V → Bool) → Counts K V A → KindData K V
kind_data is_above (OfOneTest points) = record { committed = counts_of is_above points.committed; staged = counts_of is_above points.staged; follows = Some points }
kind_data is_above (OfTests counts) = record { committed = counts.committed; staged = counts.staged; follows = None }
