use Rattle.std.proofs.Common.{refl, false}
use Rattle.covread.specs.TraceSteps.{held_data}
use Rattle.covlcov2.proofs.Passing.{path_taken, path_refused}
use Rattle.covlcov2.proofs.reader.Lcov2Reader.take_path.Goals as goal

pub returns-in-Ok : goal.returns-in-Ok
returns-in-Ok g c = λ above inside is.
    let given = c.in-Ok.ensures inside is.is_open in
    path_taken (record { plain = c.give.new.reader; indexes = c.clear.new.self; is_grouped = false }) (held_data c.args.self.now.plain inside) above given.0 c.args.path.now given.1 given.2 c.clear.ensures refl

pub returns-in-Err : goal.returns-in-Err
returns-in-Err g c = λ above inside is.
    path_refused c.in-Err.why c.give.result (held_data c.args.self.now.plain inside) c.give.new.reader _ above c.args.path.now c.in-Err.is (c.give.ensures inside is.is_open)
