-- How many points of the only test of a file are found, and how many are hit, after items are staged there.
use Rattle.covstore.proofs.Words.{◌≡◌, ◌+◌, ◌≤◌, Bool, true, false, cond, nat_lt, Option, List, [], ◌∷◌, length, refl, ap, ◌∙◌, arith, Ordering, length-map, sum_by-append, ArePairs, put, value_of, sum_put, summed, reports_one, reports_run, TestCounts, KeepsCountsOfKind, change_by, change_of, found_of, hit_of, is_above_at, is_new, is_newly_hit, one_if, IsExactOrder}
use Rattle.std.specs.List.{count_by}
use Rattle.covstore.specs.declared.sums.TestsAddend.{TestsAddend}
use Rattle.covstore.specs.SoleTest.{count_of_one, counts_of, found_by, hit_by}
use Rattle.covstore.proofs.CountsMapped.{count_by-map}
use Rattle.covstore.proofs.Puts.{ArePairs-put, count_by-put, length-put}
use Rattle.covstore.proofs.SoleCounts.{points_ascend, still_alone}
use Rattle.covstore.proofs.StepsTally.{reports_hit, reports_new, rises}

above_one : (b : Bool) → nat_lt 0 (one_if b) ≡ b
above_one true = refl
above_one false = refl

found_change : (new hit : Bool) → found_by (change_by new hit) ≡ one_if new
found_change true hit = refl
found_change false true = refl
found_change false false = refl

hit_change : (new hit : Bool) → hit_by (change_by new hit) ≡ one_if hit
hit_change true true = refl
hit_change true false = refl
hit_change false true = refl
hit_change false false = refl

module _ {K V : Type 0} (is_above : V → Bool) where
  pub found_counts : (points : List (K × V)) → found_of (counts_of is_above points) ≡ length points
  found_counts points = length-map {B = K × TestCounts} points (λ pair. (pair.0, count_of_one is_above pair.1))

  hit_counts : (points : List (K × V)) → hit_of (counts_of is_above points) ≡ count_by (λ pair. is_above pair.1) points
  hit_counts points =
      count_by-map (λ (pair : K × V). is_above pair.1) (λ (pair : K × TestCounts). nat_lt 0 pair.1.hit) (λ pair. (pair.0, count_of_one is_above pair.1)) (λ pair. above_one (is_above pair.1)) points

  module _ {cmp : K → K → Ordering} (o : IsExactOrder cmp) (key : K) (after : V) (points : List (K × V)) (sorted : ArePairs cmp points) where
    pub found_put : found_of (counts_of is_above (put cmp key after points)) ≡ found_of (counts_of is_above points) + one_if (is_new (value_of cmp key points))
    found_put = omega (arith, found_counts (put cmp key after points), found_counts points, length-put o key after points sorted)

    pub hit_put : (is_above_at is_above (value_of cmp key points) ≡ true → is_above after ≡ true)
        → hit_of (counts_of is_above (put cmp key after points)) ≡ hit_of (counts_of is_above points) + one_if (is_newly_hit is_above (value_of cmp key points) after)
    hit_put stays = omega (
      arith,
      hit_counts (put cmp key after points),
      hit_counts points,
      count_by-put o (λ pair. is_above pair.1) key after points sorted,
      rises (is_above_at is_above (value_of cmp key points)) (is_above after) stays,
    )

    one_at_most : (is : Bool) → one_if is ≤ 1
    one_at_most true = omega arith
    one_at_most false = omega arith

    pub few_put : length (counts_of is_above (put cmp key after points)) ≤ length (counts_of is_above points) + 1
    few_put = omega (arith, found_put, one_at_most (is_new (value_of cmp key points)))

    -- ---- one item

    pub found_by_put : found_of (counts_of is_above (put cmp key after points)) ≡ found_of (counts_of is_above points) + found_by (change_of is_above (value_of cmp key points) after)
    found_by_put = omega (arith, found_put, found_change (is_new (value_of cmp key points)) (is_newly_hit is_above (value_of cmp key points) after))

    pub hit_by_put : (is_above_at is_above (value_of cmp key points) ≡ true → is_above after ≡ true)
        → hit_of (counts_of is_above (put cmp key after points)) ≡ hit_of (counts_of is_above points) + hit_by (change_of is_above (value_of cmp key points) after)
    hit_by_put stays = omega (arith, hit_put stays, hit_change (is_new (value_of cmp key points)) (is_newly_hit is_above (value_of cmp key points) after))

  pub put_alone : {cmp : K → K → Ordering} (o : IsExactOrder cmp) (key : K) (after : V) (points : List (K × V))
      → KeepsCountsOfKind cmp is_above points (put cmp key after points) (counts_of is_above points) (counts_of is_above (put cmp key after points))
  put_alone {cmp} o key after points front back are =
      still_alone cmp is_above front back points are (put cmp key after points) (ArePairs-put o key after points (points_ascend cmp is_above points are.ascending))

-- ---- a run of items

module _ {K V Q M : Type 0} {cmp : K → K → Ordering} (o : IsExactOrder cmp) (is_above : V → Bool) (named : Q → K) (sum : M → Option V → V) (reports : M → Option V → V → Option TestsAddend)
    (stays : (more : M) (before : Option V) → is_above_at is_above before ≡ true → is_above (sum more before) ≡ true)
    (tells : (more : M) (before : Option V) (after : V) → reports more before after ≡ change_of is_above before after) where
  run_ascends : (run : List (Q × M)) (points : List (K × V)) → ArePairs cmp points → ArePairs cmp (summed cmp named sum run points)
  run_ascends [] points sorted = sorted
  run_ascends (item ∷ run) points sorted =
      run_ascends run (sum_put cmp named sum item points) (ArePairs-put o (named item.0) (sum item.1 (value_of cmp (named item.0) points)) points sorted)

  pub run_alone : (run : List (Q × M)) (points : List (K × V))
      → KeepsCountsOfKind cmp is_above points (summed cmp named sum run points) (counts_of is_above points) (counts_of is_above (summed cmp named sum run points))
  run_alone run points front back are =
      still_alone cmp is_above front back points are (summed cmp named sum run points) (run_ascends run points (points_ascend cmp is_above points are.ascending))

  pub found_by_run : (run : List (Q × M)) (points : List (K × V)) → ArePairs cmp points
      → found_of (counts_of is_above (summed cmp named sum run points)) ≡ found_of (counts_of is_above points) + count_by (λ item. item.1.is_new) (reports_run cmp named sum reports run points)
  found_by_run [] points sorted = omega arith
  found_by_run (item ∷ run) points sorted =
      let key = named item.0 in
      let before = value_of cmp key points in
      let after = sum item.1 before in
      let next = put cmp key after points in
      let change = reports item.1 before after in
      let told : count_by (λ (i : Q × TestsAddend). i.1.is_new) (reports_one item.0 change) ≡ one_if (is_new before) =
      ap (λ (c : Option TestsAddend). count_by (λ (i : Q × TestsAddend). i.1.is_new) (reports_one item.0 c)) (tells item.1 before after) ∙ reports_new (is_new before) (is_newly_hit is_above before after) item.0 in
      omega (
        arith,
        found_by_run run next (ArePairs-put o key after points sorted),
        found_put is_above o key after points sorted,
        sum_by-append (λ (i : Q × TestsAddend). cond i.1.is_new 1 0) (reports_one item.0 change) (reports_run cmp named sum reports run next),
        told,
      )

  pub hit_by_run : (run : List (Q × M)) (points : List (K × V)) → ArePairs cmp points
      → hit_of (counts_of is_above (summed cmp named sum run points)) ≡ hit_of (counts_of is_above points) + count_by (λ item. item.1.is_hit) (reports_run cmp named sum reports run points)
  hit_by_run [] points sorted = omega arith
  hit_by_run (item ∷ run) points sorted =
      let key = named item.0 in
      let before = value_of cmp key points in
      let after = sum item.1 before in
      let next = put cmp key after points in
      let change = reports item.1 before after in
      let told : count_by (λ (i : Q × TestsAddend). i.1.is_hit) (reports_one item.0 change) ≡ one_if (is_newly_hit is_above before after) =
      ap (λ (c : Option TestsAddend). count_by (λ (i : Q × TestsAddend). i.1.is_hit) (reports_one item.0 c)) (tells item.1 before after) ∙ reports_hit (is_new before) (is_newly_hit is_above before after) item.0 in
      omega (
        arith,
        hit_by_run run next (ArePairs-put o key after points sorted),
        hit_put is_above o key after points sorted (stays item.1 before),
        sum_by-append (λ (i : Q × TestsAddend). cond i.1.is_hit 1 0) (reports_one item.0 change) (reports_run cmp named sum reports run next),
        told,
      )
