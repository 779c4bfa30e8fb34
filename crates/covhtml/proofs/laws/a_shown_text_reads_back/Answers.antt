use Rattle.covhtml.proofs.ReadAgain.{reads_back}
use Rattle.covhtml.proofs.laws.a_shown_text_reads_back.Goals as goal

pub returns : goal.returns
returns c = reads_back
