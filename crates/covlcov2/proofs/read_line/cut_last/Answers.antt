use Rattle.std.proofs.Common.{◌+◌, sym}
use Rattle.std.proofs.lemmas.List.{take_rest}
use Rattle.covlcov2.proofs.EdgeParts.{cut_at, cut_nowhere}
use Rattle.covlcov2.proofs.read_line.cut_last.Goals as goal

pub returns-in-Some : goal.returns-in-Some
returns-in-Some c =
    let text = c.args.text.now in
    rw (take_rest text (c.in-Some.at + 1)) (sym (cut_at text c.in-Some.at c.in-Some.ensures))

pub returns-in-None : goal.returns-in-None
returns-in-None c = sym (cut_nowhere c.args.text.now c.in-None.ensures)
