-- How many points are found, and how many of them are hit, after the numbers of one point change.
use Rattle.covstore.proofs.Words.{◌≡◌, ℕ, ◌+◌, ◌≤◌, Bool, true, false, ◌&&◌, not, cond, nat_lt, Option, Some, None, List, [], ◌∷◌, ◌++◌, length, refl, sym, ap, ◌∙◌, subst, arith, Ordering, false≢true, lt-ltb, ltb-true, sum_by-append, TestCounts, IsTallyOf, change_by, change_of, found_of, hit_of, is_above_at, is_hit_by_some, is_new, is_newly_hit, one_if, test_counts_with, MapData, ArePairs, put, value_of, sum_put, summed, reports_one, reports_run, IsExactOrder}
use Rattle.std.specs.List.{count_by}
use Rattle.covstore.specs.declared.point_index.KindTally.{KindTally}
use Rattle.covstore.specs.declared.sums.TestsAddend.{TestsAddend}
use Rattle.covstore.proofs.Puts.{ArePairs-put, count_by-put, length-put}

module _ {K : Type 0} {cmp : K → K → Ordering} (o : IsExactOrder cmp) (key : K) (after : TestCounts) (counts : List (K × TestCounts)) (sorted : ArePairs cmp counts) where
  -- if the tally changes as the point's numbers require, it is the tally of the new counts
  pub tally_put : (before : Option TestCounts) → before ≡ value_of cmp key counts → (tally more : KindTally) → IsTallyOf counts tally → more.found ≡ tally.found + one_if (is_new before)
      → more.hit + one_if (is_above_at (λ numbers. nat_lt 0 numbers.hit) before) ≡ tally.hit + one_if (nat_lt 0 after.hit) → IsTallyOf (put cmp key after counts) more
  tally_put before e tally more is found hit =
      let new = ap (λ (committed : Option TestCounts). one_if (is_new committed)) e in
      let above = ap (λ (committed : Option TestCounts). one_if (is_above_at (λ (tests : TestCounts). nat_lt 0 tests.hit) committed)) e in
      record {
        found = omega (arith, length-put o key after counts sorted, found, is.found, new);
        hit = omega (arith, count_by-put o (λ pair. nat_lt 0 pair.1.hit) key after counts sorted, hit, is.hit, above);
      }

  -- likewise for the program's two tallies: the committed one stays, and the staged one changes
  pub tallies_put : (before : Option TestCounts) (old middle new : MapData K TestCounts) (committed staged more : KindTally) → IsTallyOf old.committed committed × IsTallyOf old.staged staged → counts ≡ old.staged → middle ≡ old
      → new.committed ≡ middle.committed → new.staged ≡ put cmp key after middle.staged → before ≡ value_of cmp key old.staged → more.found ≡ staged.found + one_if (is_new before)
      → more.hit + one_if (is_above_at (λ numbers. nat_lt 0 numbers.hit) before) ≡ staged.hit + one_if (nat_lt 0 after.hit) → IsTallyOf new.committed committed × IsTallyOf new.staged more
  tallies_put before old middle new committed staged more are own same stays puts e found hit =
      let first = subst (λ (points : List (K × TestCounts)). IsTallyOf points committed) (sym (stays ∙ ap (λ (points : MapData K TestCounts). points.committed) same)) are.0 in
      let there = tally_put before (e ∙ ap (value_of cmp key) (sym own)) staged more (subst (λ (points : List (K × TestCounts)). IsTallyOf points staged) (sym own) are.1) found hit in
      (first, subst (λ (points : List (K × TestCounts)). IsTallyOf points more) (sym (puts ∙ ap (put cmp key after) (ap (λ (points : MapData K TestCounts). points.staged) same ∙ sym own))) there)

-- ---- a run of numbers

pub reports_new : (new hit : Bool) {Q : Type 0} (query : Q) → count_by (λ (item : Q × TestsAddend). item.1.is_new) (reports_one query (change_by new hit)) ≡ one_if new
reports_new true hit query = refl
reports_new false true query = refl
reports_new false false query = refl

pub reports_hit : (new hit : Bool) {Q : Type 0} (query : Q) → count_by (λ (item : Q × TestsAddend). item.1.is_hit) (reports_one query (change_by new hit)) ≡ one_if hit
reports_hit true true query = refl
reports_hit true false query = refl
reports_hit false true query = refl
reports_hit false false query = refl

-- what is above 0 stays above 0. So what is above 0 afterwards was above 0 before, or is so for the first time
pub rises : (before after : Bool) → (before ≡ true → after ≡ true) → one_if after ≡ one_if before + one_if (after && not before)
rises true true stays = refl
rises true false stays = absurd (false≢true (stays refl))
rises false true stays = refl
rises false false stays = refl

numbers_stay : (more : TestsAddend) (before : Option TestCounts) → is_above_at is_hit_by_some before ≡ true → is_hit_by_some (test_counts_with more before) ≡ true
numbers_stay more None e = absurd (false≢true e)
numbers_stay more (Some tests) e = lt-ltb 0 (tests.hit + one_if more.is_hit) (omega (arith, ltb-true 0 tests.hit e))

-- what a run reports from the file's counts
abbrev pub reports_of_counts : {K Q : Type 0} → (K → K → Ordering) → (Q → K) → List (Q × TestsAddend) → List (K × TestCounts) → List (Q × TestsAddend)
reports_of_counts cmp named run counts = reports_run cmp named test_counts_with (λ more before after. change_of is_hit_by_some before after) run counts

module _ {K Q : Type 0} {cmp : K → K → Ordering} (o : IsExactOrder cmp) (named : Q → K) where
  -- a run finds as many points more as it reports new ones
  pub found_run : (run : List (Q × TestsAddend)) (counts : List (K × TestCounts)) → ArePairs cmp counts
      → found_of (summed cmp named test_counts_with run counts) ≡ found_of counts + count_by (λ item. item.1.is_new) (reports_of_counts cmp named run counts)
  found_run [] counts sorted = omega arith
  found_run (item ∷ run) counts sorted =
      let key = named item.0 in
      let before = value_of cmp key counts in
      let after = test_counts_with item.1 before in
      let next = put cmp key after counts in
      let change = change_of is_hit_by_some before after in
      omega (
        arith,
        found_run run next (ArePairs-put o key after counts sorted),
        length-put o key after counts sorted,
        sum_by-append (λ (item : Q × TestsAddend). cond item.1.is_new 1 0) (reports_one item.0 change) (reports_of_counts cmp named run next),
        reports_new (is_new before) (is_newly_hit is_hit_by_some before after) item.0,
      )

  pub hit_run : (run : List (Q × TestsAddend)) (counts : List (K × TestCounts)) → ArePairs cmp counts
      → hit_of (summed cmp named test_counts_with run counts) ≡ hit_of counts + count_by (λ item. item.1.is_hit) (reports_of_counts cmp named run counts)
  hit_run [] counts sorted = omega arith
  hit_run (item ∷ run) counts sorted =
      let key = named item.0 in
      let before = value_of cmp key counts in
      let after = test_counts_with item.1 before in
      let next = put cmp key after counts in
      let change = change_of is_hit_by_some before after in
      omega (
        arith,
        hit_run run next (ArePairs-put o key after counts sorted),
        count_by-put o (λ pair. nat_lt 0 pair.1.hit) key after counts sorted,
        rises (is_above_at is_hit_by_some before) (is_hit_by_some after) (numbers_stay item.1 before),
        sum_by-append (λ (item : Q × TestsAddend). cond item.1.is_hit 1 0) (reports_one item.0 change) (reports_of_counts cmp named run next),
        reports_hit (is_new before) (is_newly_hit is_hit_by_some before after) item.0,
      )

  pub tally_run : (run : List (Q × TestsAddend)) (counts : List (K × TestCounts)) → ArePairs cmp counts → (tally more : KindTally) → IsTallyOf counts tally
      → more.found ≡ tally.found + count_by (λ item. item.1.is_new) (reports_of_counts cmp named run counts) → more.hit ≡ tally.hit + count_by (λ item. item.1.is_hit) (reports_of_counts cmp named run counts)
      → IsTallyOf (summed cmp named test_counts_with run counts) more
  tally_run run counts sorted tally more is found hit = record {
    found = omega (arith, found_run run counts sorted, found, is.found);
    hit = omega (arith, hit_run run counts sorted, hit, is.hit);
  }

-- ---- how much a run reports

few_reports : {Q N : Type 0} (query : Q) (note : Option N) (rest : List (Q × N)) (n : ℕ) → length rest ≤ n → length (reports_one query note ++ rest) ≤ n + 1
few_reports query None rest n few = omega (arith, few)
few_reports query (Some note) rest n few = omega (arith, few)

pub length_reports : {K V Q M N : Type 0} (cmp : K → K → Ordering) (named : Q → K) (sum : M → Option V → V) (reports : M → Option V → V → Option N) (run : List (Q × M)) (pairs : List (K × V))
    → length (reports_run cmp named sum reports run pairs) ≤ length run
length_reports cmp named sum reports [] pairs = omega arith
length_reports cmp named sum reports (item ∷ run) pairs =
    let before = value_of cmp (named item.0) pairs in
    let next = sum_put cmp named sum item pairs in
    omega (arith, few_reports item.0 (reports item.1 before (sum item.1 before)) (reports_run cmp named sum reports run next) (length run) (length_reports cmp named sum reports run next))
