use Rattle.covhtml.proofs.LaterRows.{no_row, own_row}
use Rattle.covhtml.proofs.laws.a_line_shows_its_own_row.Goals as goal

pub returns : goal.returns
returns c = record { own = own_row; blank = no_row }
