use Rattle.covcheck.proofs.Words.{start_some, start_few, shown_visible}
use Rattle.covcheck.proofs.laws.a_beginning_is_one_word.Goals as goal

pub returns : goal.returns
returns c = record { some = start_some; few = start_few; shown = shown_visible }
