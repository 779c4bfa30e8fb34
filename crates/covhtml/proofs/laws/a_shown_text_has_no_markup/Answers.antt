use Rattle.covhtml.proofs.ReadAgain.{escaped}
use Rattle.covhtml.proofs.laws.a_shown_text_has_no_markup.Goals as goal

pub returns : goal.returns
returns c = escaped
