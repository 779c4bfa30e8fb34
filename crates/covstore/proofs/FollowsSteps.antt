-- The index of a file still follows the only test after one step, and after two.
use Rattle.covstore.specs.declared.index.FileIndex.{FileIndex}
use Rattle.covstore.specs.declared.test.Test.{Test}
use Rattle.covstore.specs.Follows.{Follows, StillFollows}

pub follows_first : {A : Type 0} (test : Test A) (index : FileIndex A) → Follows test index → StillFollows index test index
follows_first test index follows = record { follows = follows; counts = λ counts. counts }

pub follows_both : {A : Type 0} (before between after : FileIndex A) (test later : Test A) → StillFollows before test between → StillFollows between later after → StillFollows before later after
follows_both before between after test later first second = record { follows = second.follows; counts = λ counts. second.counts (first.counts counts) }
