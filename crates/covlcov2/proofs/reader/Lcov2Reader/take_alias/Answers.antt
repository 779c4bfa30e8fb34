use Rattle.std.proofs.Common.{◌≡◌, Some, sym, ◌∙◌}
use Rattle.covlcov2.specs.Reads.{leader}
use Rattle.covlcov2.proofs.Passing.{some_indexes, alias_taken}
use Rattle.covlcov2.proofs.reader.Lcov2Reader.take_alias.Goals as goal

pub returns-in-Ok : goal.returns-in-Ok
returns-in-Ok g c = λ above inside is.
    let old = c.args.self.now in
    let are = some_indexes old.plain.section old.indexes above c.if-is_none.ensures is.indexes in
    let found : leader c.args.index above ≡ Some c.in-Some.line = sym (c.start_of.ensures above are) ∙ c.in-Some.is in
    let one = c.in-Ok.ensures inside is.is_open in
    alias_taken c.give-in-Ok.result old c.give.new.reader c.give-in-Ok.new.reader above inside one.0 c.in-Some.line c.args.index c.args.count c.args.name.now is c.if-is_none.ensures found one.1
    (c.give-in-Ok.ensures one.0 one.2)
