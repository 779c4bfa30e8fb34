use Rattle.std.proofs.Common.{[]}
use Rattle.covread.specs.TraceSteps.{held_data}
use Rattle.covread.proofs.TraceBetween.{ends_within, ends_between, lawful_between}
use Rattle.covread.proofs.trace.reader.Reader.finish.Goals as goal

pub returns-then-is_some : goal.returns-then-is_some
returns-then-is_some g c = ends_within [] (held_data c.args.self []) c.args.self.section c.if-is_some.ensures

pub of_lawful-requires : goal.of_lawful-requires
of_lawful-requires g c = record { lawful = lawful_between [] (held_data c.args.self []) c.args.self.section c.if-is_some.ensures c.requires }

pub returns : goal.returns
returns g c = rw c.of_lawful.ensures (ends_between [] (held_data c.args.self []) c.args.self.section c.if-is_some.ensures)
