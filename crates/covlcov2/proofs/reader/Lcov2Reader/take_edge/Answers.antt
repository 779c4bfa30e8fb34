use Rattle.std.proofs.Common.{true, false, refl}
use Rattle.covlcov2.proofs.Passing.{some_indexes, outside_taken, edge_excluded, edge_taken}
use Rattle.covlcov2.specs.declared.reader.Lcov2Reader.{Lcov2Reader}
use Rattle.covlcov2.proofs.reader.Lcov2Reader.take_edge.Goals as goal

pub returns-then-is_none : goal.returns-then-is_none
returns-then-is_none g c = λ above inside is.
    outside_taken c.args.self.now above inside c.args.is_excluded c.args.block.line c.args.block.block c.args.given c.args.taken c.outside_edge.result c.outside_edge.ensures is c.if-is_none.ensures

pub returns-then-is_excluded : goal.returns-then-is_excluded
returns-then-is_excluded g c = λ above inside is.
    let old = c.args.self.now in
    let new : Lcov2Reader _ = record { plain = old.plain; indexes = c.number.new.self; is_grouped = old.is_grouped } in
    let are = c.in-Ok.ensures.counted above true c.args.taken (some_indexes old.plain.section old.indexes above c.if-is_none.ensures is.indexes) in
    rw c.if-is_excluded.true (edge_excluded old new above inside c.args.block.line c.args.block.block c.args.given c.args.taken is refl refl are)

pub returns : goal.returns
returns g c = λ above inside is.
    let old = c.args.self.now in
    let before = some_indexes old.plain.section old.indexes above c.if-is_none.ensures is.indexes in
    rw c.if-is_excluded.false (
    edge_taken c.give.result old c.give.new.reader c.number.new.self above inside c.args.block.line c.args.block.block c.in-Ok.branch c.args.given c.args.taken is (c.in-Ok.ensures.number above before)
    (λ are. c.in-Ok.ensures.counted above false c.args.taken are) (c.give.ensures inside is.is_open)
    )
