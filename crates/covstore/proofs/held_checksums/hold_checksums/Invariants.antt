use Rattle.covstore.proofs.Words.{◌≡◌, ◌++◌, List, ItemData}
use Rattle.covstore.proofs.TextsHeld.{HasHeldIn}
use Rattle.covstore.specs.Follows.{StillFollows}
use Rattle.covstore.proofs.held_checksums.hold_checksums.Given as goal

abbrev pub invariant-loop-item : goal.invariant-loop-item
invariant-loop-item g l = (taken : List ItemData) × (taken ++ l.item-iterator ≡ l.items) × HasHeldIn taken l.initial.test l.initial.index l.test l.index × StillFollows l.initial.index l.test l.index
