use Rattle.covlcov2.proofs.Passing.{skipped}
use Rattle.covlcov2.proofs.reader.Lcov2Reader.take_plain.Goals as goal

pub returns-in-Skip : goal.returns-in-Skip
returns-in-Skip g c = λ above inside is. rw c.in-Skip.is (skipped c.args.self.now above inside is)
