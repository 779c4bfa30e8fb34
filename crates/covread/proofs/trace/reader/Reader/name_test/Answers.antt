use Rattle.covread.specs.TraceSteps.{held_data}
use Rattle.covread.proofs.TraceBetween.{test_within, test_between}
use Rattle.covread.proofs.trace.reader.Reader.name_test.Goals as goal

pub returns-then-is_some : goal.returns-then-is_some
returns-then-is_some g c = λ inside is. test_within inside (held_data c.args.self.now inside) c.args.name.now c.args.self.now.section c.if-is_some.ensures

pub returns : goal.returns
returns g c = λ inside is. (inside, test_between inside (held_data c.args.self.now inside) c.args.name.now c.args.self.now.section c.if-is_some.ensures, is)
