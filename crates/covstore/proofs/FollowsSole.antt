-- The index of a file follows the only test of the file. What this gives for one test, and how it stays so when a test is
-- written, inserted or removed.
use Rattle.covstore.proofs.Words.{◌≡◌, Bool, true, false, cond, Option, Some, None, List, [], ◌∷◌, refl, sym, ap, ◌∙◌, subst, insert_entry, Ordering, lookup, remove_entry, set_value, IfSome, cond-false, cond-true, none-some, same_Some, MapData, Test, TestData, test_of, test_committed, test_staged}
use Rattle.covstore.specs.declared.index.FileIndex.{FileIndex}
use Rattle.covstore.specs.Follows.{CanFollow, CountsAll, Follows, FollowsSole, StillFollows, no_test}

-- ---- one test

none_follows : {X : Type 0} (P : X → Type 0) (follows : Option X) → follows ≡ None → IfSome follows P
none_follows P follows none = subst (λ (o : Option _). IfSome o P) (sym none) tt

pub counts_follow : {A : Type 0} (test : Test A) (index : FileIndex A) → CountsAll index → Follows test index
counts_follow test index counts = record {
  lines = none_follows (λ seen. seen ≡ test.lines) index.lines.follows counts.lines;
  functions = none_follows (λ seen. seen ≡ test.functions) index.functions.follows counts.functions;
  branches = none_follows (λ seen. seen ≡ test.branches) index.branches.follows counts.branches;
}

same_data : {K V : Type 0} (points : MapData K V) (committed staged : List (K × V)) → points.committed ≡ committed → points.staged ≡ staged → points ≡ record { committed = committed; staged = staged }
same_data points committed staged e f = λ i. record { committed = e i; staged = f i }

-- a test without points, as contracts see it
pub is_no_test : {A : Type 0} (test : Test A) → test_committed test ≡ test_of [] → test_staged test ≡ test_of [] → test ≡ no_test
is_no_test {A} test committed staged =
    let lines = same_data test.lines [] [] (ap (λ (t : TestData). t.lines) committed) (ap (λ (t : TestData). t.lines) staged) in
    let functions = same_data test.functions [] [] (ap (λ (t : TestData). t.functions) committed) (ap (λ (t : TestData). t.functions) staged) in
    let branches = same_data test.branches [] [] (ap (λ (t : TestData). t.branches) committed) (ap (λ (t : TestData). t.branches) staged) in
    λ i. record { lines = lines i; functions = functions i; branches = branches i }

-- ---- the tests of a file

module _ {K A : Type 0} where
  pub sole_counted : (entries : List (K × Test A)) (index : FileIndex A) → CountsAll index → FollowsSole entries index
  sole_counted [] index counts = counts_follow no_test index counts
  sole_counted (pair ∷ []) index counts = counts_follow pair.1 index counts
  sole_counted (pair ∷ other ∷ pairs) index counts = counts

  -- a test is inserted
  pub sole_inserted : (cmp : K → K → Ordering) (entries : List (K × Test A)) (key : K) (test : Test A) (index : FileIndex A) → test ≡ no_test → CanFollow entries index
      → FollowsSole (insert_entry cmp entries key test) index
  sole_inserted cmp [] key test index none can = subst (λ (t : Test A). Follows t index) (sym none) can
  sole_inserted cmp (pair ∷ pairs) key test index none counts = sole_counted (insert_entry cmp (pair ∷ pairs) key test) index counts

  module _ (here : K → Bool) where
    alone : (is : Bool) (pair : K × Test A) (test : Test A) (index : FileIndex A) → cond is (Some pair.1) None ≡ Some test → Follows pair.1 index → Follows test index
    alone true pair test index found follows = subst (λ (t : Test A). Follows t index) (same_Some pair.1 test found) follows
    alone false pair test index found follows = absurd (none-some test found)

    -- where the index follows a test, it is any test that is found
    pub sole_found : (entries : List (K × Test A)) (index : FileIndex A) (test : Test A) → lookup here entries ≡ Some test → FollowsSole entries index → Follows test index
    sole_found [] index test found follows = absurd (none-some test found)
    sole_found (pair ∷ []) index test found follows = alone (here pair.0) pair test index found follows
    sole_found (pair ∷ other ∷ pairs) index test found counts = counts_follow test index counts

    -- a test is written
    pub sole_written : (entries : List (K × Test A)) (before after : FileIndex A) (test later : Test A) → lookup here entries ≡ Some test → FollowsSole entries before → StillFollows before later after
        → FollowsSole (set_value here entries later) after
    sole_written [] before after test later found follows still = absurd (none-some test found)
    sole_written (pair ∷ []) before after test later found follows still = at (here pair.0) found
      where
        at : (is : Bool) → cond is (Some pair.1) None ≡ Some test → FollowsSole (cond is ((pair.0, later) ∷ []) (pair ∷ [])) after
        at true found = still.follows
        at false found = absurd (none-some test found)
    sole_written (pair ∷ other ∷ pairs) before after test later found counts still = sole_counted (set_value here (pair ∷ other ∷ pairs) later) after (still.counts counts)

    -- the test that is written last counts
    pub written_again : (entries : List (K × Test A)) (test later : Test A) → set_value here (set_value here entries test) later ≡ set_value here entries later
    written_again [] test later = refl
    written_again (pair ∷ pairs) test later = at (here pair.0) refl (written_again pairs test later)
      where
        at : (is : Bool) → here pair.0 ≡ is → set_value here (set_value here pairs test) later ≡ set_value here pairs later
            → set_value here (cond is ((pair.0, test) ∷ pairs) (pair ∷ set_value here pairs test)) later ≡ cond is ((pair.0, later) ∷ pairs) (pair ∷ set_value here pairs later)
        at true e rest = cond-true (here pair.0) ((pair.0, later) ∷ pairs) ((pair.0, test) ∷ set_value here pairs later) e
        at false e rest = cond-false (here pair.0) ((pair.0, later) ∷ set_value here pairs test) (pair ∷ set_value here (set_value here pairs test) later) e ∙ ap (λ (all : List (K × Test A)). pair ∷ all) rest

    -- a test is removed
    pub sole_removed : (entries : List (K × Test A)) (before after : FileIndex A) (test : Test A) → lookup here entries ≡ Some test → FollowsSole entries before → StillFollows before no_test after
        → FollowsSole (remove_entry here entries) after
    sole_removed [] before after test found follows still = absurd (none-some test found)
    sole_removed (pair ∷ []) before after test found follows still = at (here pair.0) found
      where
        at : (is : Bool) → cond is (Some pair.1) None ≡ Some test → FollowsSole (cond is [] (pair ∷ [])) after
        at true found = still.follows
        at false found = absurd (none-some test found)
    sole_removed (pair ∷ other ∷ pairs) before after test found counts still = sole_counted (remove_entry here (pair ∷ other ∷ pairs)) after (still.counts counts)
