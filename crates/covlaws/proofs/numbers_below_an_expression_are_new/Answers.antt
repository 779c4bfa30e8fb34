use Rattle.covlaws.proofs.Numbered.{new_below, new_expression}
use Rattle.covlaws.proofs.numbers_below_an_expression_are_new.Goals as goal

pub returns : goal.returns
returns c = record { below = new_below; expression = new_expression }
