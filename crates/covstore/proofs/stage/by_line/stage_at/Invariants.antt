use Rattle.std.specs.Slice.Iter.{chunks_rest}
use Rattle.covstore.specs.Order.{at_spots}
use Rattle.covstore.proofs.RunsAdds.{HasTakenTo}
use Rattle.covstore.proofs.stage.by_line.stage_at.Given as goal

abbrev pub invariant-loop-some : goal.invariant-loop-some
invariant-loop-some g l = HasTakenTo (at_spots l.items) l.spots (chunks_rest l.some-iterator) l.initial.test l.initial.index l.test l.index
