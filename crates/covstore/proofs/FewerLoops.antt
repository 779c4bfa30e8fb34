-- The points of a test are removed one by one: the counts after each step, and their tally.
use Rattle.covstore.proofs.Words.{◌≡◌, Bool, Some, List, [], ◌∷◌, sym, ap, ◌∙◌, subst, Ordering, none-some, TestCounts, IsTallyOf, AreCounts, AreWith, CanLose, IsTallyAt, IsTallyWithout, LosesTest, counts_without, ArePairs, value_of, IsExactOrder}
use Rattle.covstore.specs.declared.point_index.KindTally.{KindTally}
use Rattle.covstore.proofs.Assigned.{any_key}
use Rattle.covstore.proofs.Counts.{counts_unempty}
use Rattle.covstore.proofs.Fewer.{can_lose, counts_fewer, one_rest, same_numbers}
use Rattle.covstore.proofs.Puts.{value_of_before, value_of_first, value_of_later}

-- these points of the test are still to be removed
pub record IsLosing {K V : Type 0} (cmp : K → K → Ordering) (is_above : V → Bool) (points : List (K × V)) (counts : List (K × TestCounts)) (left : List (K × V)) (fewer : List (K × TestCounts)) : Type 0 where
  pub sorted : ArePairs cmp left
  pub counted : (others : List (List (K × V))) → AreCounts cmp is_above (points ∷ others) counts → AreCounts cmp is_above (left ∷ others) fewer

-- likewise for a tally alone: it counts the other tests and the test with the points that are left. These have the values that
-- they have in the test
pub record IsTallying {K V : Type 0} (cmp : K → K → Ordering) (is_above : V → Bool) (points : List (K × V)) (counts : List (K × TestCounts)) (left : List (K × V)) (tally : KindTally) : Type 0 where
  pub sorted : ArePairs cmp left
  pub values : (key : K) (value : V) → value_of cmp key left ≡ Some value → value_of cmp key points ≡ Some value
  pub tallied : (others : List (List (K × V))) → AreCounts cmp is_above (points ∷ others) counts → (fewer : List (K × TestCounts)) × AreCounts cmp is_above (left ∷ others) fewer × IsTallyOf fewer tally

module _ {K V : Type 0} {cmp : K → K → Ordering} (o : IsExactOrder cmp) (is_above : V → Bool) (points : List (K × V)) (counts : List (K × TestCounts)) where
  -- ---- the counts

  -- the next point of the test, the query that names it, and whether its value was read as above 0
  module _ (key : K) (value : V) (asked : K) (named : asked ≡ key) (above : Bool) (read : above ≡ is_above value) (left rest : List (K × V)) (first : left ≡ (key, value) ∷ rest) (fewer : List (K × TestCounts))
      (is : IsLosing cmp is_above points counts left fewer) where
    pub losing_can : AreWith cmp is_above points counts → CanLose above (value_of cmp asked fewer)
    losing_can are =
        subst (λ (b : Bool). CanLose b (value_of cmp asked fewer)) (sym read)
        (subst (λ (k : K). CanLose (is_above value) (value_of cmp k fewer)) (sym named)
        (can_lose o left are.0 fewer (is.counted are.0 are.1) key value (ap (value_of cmp key) first ∙ value_of_first o key value rest)))

    pub losing_more : (more : List (K × TestCounts)) → more ≡ counts_without cmp asked above fewer → IsLosing cmp is_above points counts rest more
    losing_more more moved =
        let sorted = subst (ArePairs cmp) first is.sorted in
        let same : more ≡ counts_without cmp key (is_above value) fewer =
        moved ∙ ap (λ (k : K). counts_without cmp k above fewer) named ∙ ap (λ (b : Bool). counts_without cmp key b fewer) read in
        record {
          sorted = sorted.1;
          counted = λ others are.
              subst (AreCounts cmp is_above (rest ∷ others)) (sym same)
              (counts_fewer o key value rest sorted others fewer (subst (λ (own : List (K × V)). AreCounts cmp is_above (own ∷ others) fewer) first (is.counted others are)));
        }

  pub losing_all : (left : List (K × V)) (fewer : List (K × TestCounts)) → left ≡ [] → IsLosing cmp is_above points counts left fewer → LosesTest cmp is_above points counts fewer
  losing_all left fewer none is others are =
      counts_unempty cmp is_above [] others fewer (subst (λ (own : List (K × V)). AreCounts cmp is_above (own ∷ others) fewer) none (is.counted others are))

  -- ---- the tally

  module _ (key : K) (value : V) (asked : K) (named : asked ≡ key) (above : Bool) (read : above ≡ is_above value) (left rest : List (K × V)) (first : left ≡ (key, value) ∷ rest) (tally : KindTally)
      (is : IsTallying cmp is_above points counts left tally) where
    value_there : value_of cmp key left ≡ Some value
    value_there = ap (value_of cmp key) first ∙ value_of_first o key value rest

    pub tallying_can : AreWith cmp is_above points counts → CanLose above (value_of cmp asked counts)
    tallying_can are =
        subst (λ (b : Bool). CanLose b (value_of cmp asked counts)) (sym read)
        (subst (λ (k : K). CanLose (is_above value) (value_of cmp k counts)) (sym named) (can_lose o points are.0 counts are.1 key value (is.values key value value_there)))

    tally_at : (others : List (List (K × V))) → AreCounts cmp is_above (points ∷ others) counts → (fewer : List (K × TestCounts)) → AreCounts cmp is_above (left ∷ others) fewer → IsTallyOf fewer tally
        → IsTallyAt cmp asked counts fewer tally
    tally_at others are fewer own tallied =
        subst (λ (k : K). IsTallyAt cmp k counts fewer tally) (sym named) (record {
          ascending = own.ascending;
          same = same_numbers o points left others counts fewer are own key value (is.values key value value_there) value_there;
          tallied = tallied;
        })

    pub tallying_at : AreWith cmp is_above points counts → (fewer : List (K × TestCounts)) × IsTallyAt cmp asked counts fewer tally
    tallying_at are = let of = is.tallied are.0 are.1 in (of.0, tally_at are.0 are.1 of.0 of.1 of.2)

    rest_value : ArePairs cmp ((key, value) ∷ rest) → (other : K) (found : V) → value_of cmp other rest ≡ Some found → value_of cmp other left ≡ Some found
    rest_value sorted other found e =
        any_key o (λ (k : K). value_of cmp k rest ≡ Some found → value_of cmp k left ≡ Some found) key
        (λ there. absurd (none-some found (sym (value_of_before o key rest sorted.0) ∙ there)))
        (λ k apart there. ap (value_of cmp k) first ∙ value_of_later o k (key, value) rest apart ∙ there) other e

    pub tallying_more : (less : KindTally) → ((fewer : List (K × TestCounts)) → IsTallyAt cmp asked counts fewer tally → IsTallyOf (counts_without cmp asked above fewer) less)
        → IsTallying cmp is_above points counts rest less
    tallying_more less moved =
        let sorted = subst (ArePairs cmp) first is.sorted in
        record {
          sorted = sorted.1;
          values = λ other found e. is.values other found (rest_value sorted other found e);
          tallied = λ others are.
              let of = is.tallied others are in (
                counts_without cmp key (is_above value) of.0,
                counts_fewer o key value rest sorted others of.0 (subst (λ (own : List (K × V)). AreCounts cmp is_above (own ∷ others) of.0) first of.1),
                subst (λ (b : Bool). IsTallyOf (counts_without cmp key b of.0) less) read
                    (subst (λ (k : K). IsTallyOf (counts_without cmp k above of.0) less) named (moved of.0 (tally_at others are of.0 of.1 of.2))),
              );
        }

  pub tallying_all : (left : List (K × V)) (tally : KindTally) → left ≡ [] → IsTallying cmp is_above points counts left tally → IsTallyWithout cmp is_above points counts tally
  tallying_all left tally none is others rest are own =
      let of = is.tallied others are in
      let all = counts_unempty cmp is_above [] others of.0 (subst (λ (own : List (K × V)). AreCounts cmp is_above (own ∷ others) of.0) none of.1) in
      subst (λ (kept : List (K × TestCounts)). IsTallyOf kept tally) (one_rest o others of.0 rest all own) of.2
