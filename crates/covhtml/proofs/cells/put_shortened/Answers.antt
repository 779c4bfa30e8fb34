use Rattle.covhtml.proofs.Digits.{shortened_few, shortened_put}
use Rattle.std.proofs.Common.{◌++◌, ℕ, List, ap, ◌∙◌}
use Rattle.covhtml.proofs.cells.put_shortened.Goals as goal

pub returns-in-len2-up : goal.returns-in-len2-up
returns-in-len2-up g c =
    let text = g.P.Printer.text in
    shortened_put c.args.digits.now (text c.args.out.now) (text c.put-in-len2-up.new.self) (text c.put_number.new.out) c.in-len2-up.len_at_least c.put-in-len2-up.ensures c.put_number.ensures

pub returns-in_default : goal.returns-in_default
returns-in_default g c =
    c.put.ensures ∙ ap (λ (x : List ℕ). g.P.Printer.text c.args.out.now ++ x) (shortened_few c.args.digits.now c.in_default.len_below)
