use Rattle.covdata.specs.Records.{line_data}
use Rattle.covlcov2.proofs.Passing.{passed}
use Rattle.covlcov2.proofs.reader.Lcov2Reader.pass.Goals as goal

pub returns : goal.returns
returns g c = λ above inside line is stands quiet.
    passed c.give.result c.args.self.now c.give.new.reader above inside line (line_data c.args.says) is stands quiet (c.give.ensures inside is.is_open)
