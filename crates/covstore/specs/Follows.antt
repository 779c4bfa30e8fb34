-- Which test the index of a file follows: as long as the file has at most one test, the counts are those of the test's points.
use Rattle.std.specs.Prelude.{◌≡◌, None, IfSome, List, [], ◌∷◌}
use Rattle.covstore.specs.declared.index.FileIndex.{FileIndex}
use Rattle.covstore.specs.declared.test.Test.{Test}
use Rattle.covstore.specs.SoleTest.{after_commit, after_rollback, no_points}

-- if the index follows a test, the points that the index saw last are those of `test`
pub record Follows {A : Type 0} (test : Test A) (index : FileIndex A) : Type 0 where
  pub lines : IfSome index.lines.follows (λ seen. seen ≡ test.lines)
  pub functions : IfSome index.functions.follows (λ seen. seen ≡ test.functions)
  pub branches : IfSome index.branches.follows (λ seen. seen ≡ test.branches)

-- if the index follows a test, `test` is that test after a commit
pub record FollowsCommitted {A : Type 0} (test : Test A) (index : FileIndex A) : Type 0 where
  pub lines : IfSome index.lines.follows (λ seen. test.lines ≡ after_commit seen)
  pub functions : IfSome index.functions.follows (λ seen. test.functions ≡ after_commit seen)
  pub branches : IfSome index.branches.follows (λ seen. test.branches ≡ after_commit seen)

-- if the index follows a test, `test` is that test after a rollback
pub record FollowsRolledBack {A : Type 0} (test : Test A) (index : FileIndex A) : Type 0 where
  pub lines : IfSome index.lines.follows (λ seen. test.lines ≡ after_rollback seen)
  pub functions : IfSome index.functions.follows (λ seen. test.functions ≡ after_rollback seen)
  pub branches : IfSome index.branches.follows (λ seen. test.branches ≡ after_rollback seen)

-- the index follows no test: all points are counted
pub record CountsAll {A : Type 0} (index : FileIndex A) : Type 0 where
  pub lines : index.lines.follows ≡ None
  pub functions : index.functions.follows ≡ None
  pub branches : index.branches.follows ≡ None

-- if the index follows a test, it follows `test`. If the index followed no test before, it still follows none
pub record StillFollows {A : Type 0} (before : FileIndex A) (test : Test A) (after : FileIndex A) : Type 0 where
  pub follows : Follows test after
  pub counts : CountsAll before → CountsAll after

-- a test without points
abbrev pub no_test : {A : Type 0} → Test A
no_test = record { lines = no_points; functions = no_points; branches = no_points }

-- if the index follows a test, it follows the only one of these, or a test without points if there is none. If there are two or
-- more tests, the index follows no test
abbrev pub FollowsSole : {K A : Type 0} → List (K × Test A) → FileIndex A → Type 0
FollowsSole [] index = Follows no_test index
FollowsSole (pair ∷ []) index = Follows pair.1 index
FollowsSole (pair ∷ other ∷ pairs) index = CountsAll index

-- a test without points can be added: there is no test yet, or the index follows none
abbrev pub CanFollow : {K A : Type 0} → List (K × Test A) → FileIndex A → Type 0
CanFollow [] index = Follows no_test index
CanFollow (pair ∷ pairs) index = CountsAll index
