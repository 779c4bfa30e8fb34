-- The index of a kind of points follows the only test, or counts the points of all tests: what a step in one of these forms gives.
use Rattle.covstore.proofs.Words.{◌≡◌, ◌+◌, ◌≤◌, Bool, Some, List, [], length, sym, ap, ◌∙◌, subst, Ordering, IfSome, MapData, TestCounts, KeepsCountsOfKind, IsTallyWithout, LosesTest, IsExactOrder}
use Rattle.covstore.specs.declared.kind_index.Counts.{Counts}
use Rattle.covstore.specs.declared.kind_index.Counts.TheVariants.{OfOneTest, OfTests}
use Rattle.covstore.specs.declared.point_index.KindTally.{KindTally}
use Rattle.covstore.specs.KindData.{KindData}
use Rattle.covstore.specs.KindIndex.{kind_data}
use Rattle.covstore.specs.SoleTest.{counts_of}
use Rattle.covstore.proofs.SoleCounts.{sole_loses, sole_tally}

-- the index follows the test with these points
module _ {K V A : Type 0} (cmp : K → K → Ordering) (is_above : V → Bool) (index : KindData K V) (counts : Counts K V A) (sole : MapData K V) (view : kind_data is_above counts ≡ index) (is : counts ≡ OfOneTest sole)
    (points : MapData K V) (follows : IfSome index.follows (λ seen. seen ≡ points)) where
  its_view : index ≡ record { committed = counts_of is_above sole.committed; staged = counts_of is_above sole.staged; follows = Some sole }
  its_view = sym view ∙ ap (kind_data is_above) is

  its_points : sole ≡ points
  its_points = subst (λ (k : KindData K V). IfSome k.follows (λ seen. seen ≡ points)) its_view follows

  its_committed : counts_of is_above points.committed ≡ index.committed
  its_committed = ap (λ (p : MapData K V). counts_of is_above p.committed) (sym its_points) ∙ sym (ap (λ (k : KindData K V). k.committed) its_view)

  its_staged : counts_of is_above points.staged ≡ index.staged
  its_staged = ap (λ (p : MapData K V). counts_of is_above p.staged) (sym its_points) ∙ sym (ap (λ (k : KindData K V). k.staged) its_view)

  pub sole_keeps : (later after : MapData K V) → after ≡ later → KeepsCountsOfKind cmp is_above points.staged later.staged (counts_of is_above points.staged) (counts_of is_above later.staged)
      → KeepsCountsOfKind cmp is_above points.staged later.staged index.staged (counts_of is_above after.staged)
  sole_keeps later after same keeps =
      subst (λ (p : MapData K V). KeepsCountsOfKind cmp is_above points.staged later.staged index.staged (counts_of is_above p.staged)) (sym same)
      (subst (λ (own : List (K × TestCounts)). KeepsCountsOfKind cmp is_above points.staged later.staged own (counts_of is_above later.staged)) its_staged keeps)

  pub sole_few : (later after : MapData K V) → after ≡ later → length (counts_of is_above later.staged) ≤ length (counts_of is_above points.staged) + 1 → length (counts_of is_above after.staged) ≤ length index.staged + 1
  sole_few later after same few =
      subst (λ (p : MapData K V). length (counts_of is_above p.staged) ≤ length index.staged + 1) (sym same)
      (subst (λ (own : List (K × TestCounts)). length (counts_of is_above later.staged) ≤ length own + 1) its_staged few)

  pub sole_dropped : (after : MapData K V) → after.committed ≡ [] → LosesTest cmp is_above points.committed index.committed (counts_of is_above after.committed)
  sole_dropped after none =
      subst (λ (fewer : List (K × TestCounts)). LosesTest cmp is_above points.committed index.committed fewer) (sym (ap (counts_of is_above) none))
      (subst (λ (own : List (K × TestCounts)). LosesTest cmp is_above points.committed own []) its_committed (sole_loses cmp is_above points.committed))

  pub sole_without : (o : IsExactOrder cmp) (tally : KindTally) → tally.found ≡ 0 → tally.hit ≡ 0 → IsTallyWithout cmp is_above points.committed index.committed tally
  sole_without o tally found hit =
      subst (λ (own : List (K × TestCounts)). IsTallyWithout cmp is_above points.committed own tally) its_committed (sole_tally cmp is_above o points.committed tally found hit)

-- all points are counted
module _ {K V A : Type 0} (cmp : K → K → Ordering) (is_above : V → Bool) (index : KindData K V) (counts : Counts K V A) (counted : MapData K TestCounts) (view : kind_data is_above counts ≡ index) (is : counts ≡ OfTests counted) where
  pub counted_committed : counted.committed ≡ index.committed
  counted_committed = sym (ap (λ (k : KindData K V). k.committed) (sym view ∙ ap (kind_data is_above) is))

  pub counted_staged : counted.staged ≡ index.staged
  counted_staged = sym (ap (λ (k : KindData K V). k.staged) (sym view ∙ ap (kind_data is_above) is))
