use Rattle.std.proofs.Common.{map}
use Rattle.covtable.specs.Value.{key_of_row}
use Rattle.covtable.proofs.Ascend.{ascending_is}
use Rattle.covtable.proofs.Orders.{keys_order}
use Rattle.covtable.proofs.laws.keys_stand_in_order.Goals as goal

pub returns : goal.returns
returns c = λ rows. ascending_is keys_order (map key_of_row rows)
