use Rattle.std.proofs.Common.{false}
use Rattle.covlcov2.proofs.Passing.{some_indexes}
use Rattle.covlcov2.proofs.Fast.{branch_text, branch_taken, branch_outside, branch_refused}
use Rattle.covlcov2.proofs.read.take_numbered.Goals as goal

pub returns-then-is_none : goal.returns-then-is_none
returns-then-is_none g c = λ text means above inside is.
    let point = c.args.point in
    branch_outside (Unit {0}) c.args.reader.now c.args.reader.now text c.args.at above inside point.line point.block point.branch c.args.taken c.if-is_none.ensures means

pub returns-in-Err : goal.returns-in-Err
returns-in-Err g c = λ text means above inside is.
    let point = c.args.point in
    let old = c.args.reader.now in
    branch_refused (Unit {0}) old (record { plain = old.plain; indexes = c.number.new.self; is_grouped = old.is_grouped }) text c.args.at above inside point.line point.block point.branch c.args.taken c.if-is_none.ensures means

pub returns : goal.returns
returns g c = λ text means above inside is.
    let point = c.args.point in
    let old = c.args.reader.now in
    let before = some_indexes old.plain.section old.indexes above c.if-is_none.ensures is.indexes in
    branch_taken c.take_branch.result old c.take_branch.new.reader c.number.new.self text c.args.at above inside point.line point.block point.branch c.in-Ok.branch c.args.taken is means
    (c.in-Ok.ensures.number above before) (λ are. c.in-Ok.ensures.counted above false c.args.taken are)
    (λ spells. c.take_branch.ensures (branch_text point.line point.block c.in-Ok.branch c.args.taken) spells inside is.is_open)
