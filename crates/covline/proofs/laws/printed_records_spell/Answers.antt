use Rattle.covline.proofs.PrintedLaws.{printed-spells}
use Rattle.covline.proofs.laws.printed_records_spell.Goals as goal

pub returns : goal.returns
returns c = printed-spells
