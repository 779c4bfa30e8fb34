use Rattle.covstore.proofs.Words.{length, file_staged}
use Rattle.covstore.proofs.Settled.{IsSettling}
use Rattle.covstore.proofs.store.commit_staged.Given as goal

abbrev pub invariant-loop-last : goal.invariant-loop-last
invariant-loop-last g l = IsSettling file_staged l.touched.items l.initial.files.entries l.files.entries

abbrev pub decreases-loop-last : goal.decreases-loop-last
decreases-loop-last g l = length l.touched.items
