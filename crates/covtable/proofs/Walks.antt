-- An iterator whose state shows the list of what is left.
use Rattle.std.proofs.Common.{List}
use Rattle.std.specs.Iterator.{YieldsFirstBy}
use Rattle.covtable.specs.Walks.{GivesInTurn}

pub in_turn : {I X Y : Type 0} (view : X → Y) (left : I → List Y) → GivesInTurn view left (YieldsFirstBy view left)
in_turn view left = record {
  some = λ before after next is. is;
  none = λ before after is. is.0;
}
