use Rattle.covworkers.proofs.Stopped.{AreCounted, AreSoFar}
use Rattle.covworkers.proofs.done.all_well.Given as goal

-- the least place of an input that can't be read, and the first fault, are those of the ends so far. If there is neither, these ends
-- are the workers so far
abbrev pub invariant-loop-end : goal.invariant-loop-end
invariant-loop-end g l =
    AreSoFar l.workers.items l.least l.refused l.end-iterator.rest.items l.fn.ended.items
    × AreCounted l.submitted l.refused l.end-iterator.rest.items l.fn.ended.items
