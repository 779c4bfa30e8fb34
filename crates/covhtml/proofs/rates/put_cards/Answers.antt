use Rattle.std.specs.Prelude.{codes}
use Rattle.covhtml.specs.Rates.{card}
use Rattle.covhtml.proofs.Texts.{five}
use Rattle.covhtml.proofs.rates.put_cards.Goals as goal

pub returns : goal.returns
returns g c =
    let text = g.P.Printer.text in
    let totals = c.args.totals.now in
    five (text c.args.out.now) (text c.put.new.self) (text c.put_card.new.out) (text c.put_card-2.new.out) (text c.put_card-3.new.out) (text c.put-2.new.self)
    (codes "<div class=\"cards\">\n") (card (codes "Lines") totals.lh totals.lf) (card (codes "Functions") totals.fh totals.ff) (card (codes "Branches") totals.bh totals.bf) (codes "</div>\n")
    c.put.ensures c.put_card.ensures c.put_card-2.ensures c.put_card-3.ensures c.put-2.ensures
