use Rattle.covread.specs.TraceSteps.{held_data}
use Rattle.covlcov2.specs.Spells.{lcov2_data}
use Rattle.covlcov2.proofs.Loop.{stops_so, takes_so}
use Rattle.covlcov2.proofs.read.take_line.Goals as goal

pub returns-in-Ok-take : goal.returns-in-Ok-take
returns-in-Ok-take g c = λ above inside is.
    takes_so c.args.line.now (lcov2_data c.in-Ok.says) above (held_data c.args.reader.now.plain inside) c.take.new.self c.in-Ok.ensures.ok (c.in-Ok-take.ensures above inside is)

pub returns-in-Err-take : goal.returns-in-Err-take
returns-in-Err-take g c = λ above inside is.
    rw c.at.ensures (
    stops_so c.in-Err-take.why c.take.result above (held_data c.args.reader.now.plain inside) c.take.new.self c.args.line.now (lcov2_data c.in-Ok.says) c.args.at c.in-Err-take.is c.in-Ok.ensures.ok (c.take.ensures above inside is)
    )
