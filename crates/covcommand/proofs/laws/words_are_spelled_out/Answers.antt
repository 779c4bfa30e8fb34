use Rattle.std.proofs.Common.{refl}
use Rattle.covcommand.proofs.laws.words_are_spelled_out.Goals as goal

pub returns : goal.returns
returns c = record { alone = refl; named = refl; name = refl }
