use Rattle.covread.specs.TraceSteps.{held_data}
use Rattle.covread.proofs.TraceBetween.{skipped}
use Rattle.covread.proofs.trace.reader.Reader.take.Goals as goal

pub keep-requires-clause-room : goal.keep-requires-clause-room
keep-requires-clause-room g c = c.requires

pub end-requires : goal.end-requires
end-requires g c = c.requires

pub returns-in-Test : goal.returns-in-Test
returns-in-Test g c = λ inside is. rw c.in-Test.is (c.name_test.ensures inside is)

pub returns-in-Path : goal.returns-in-Path
returns-in-Path g c = λ inside is. rw c.in-Path.is (c.begin.ensures inside is)

pub returns-in-FuncStart : goal.returns-in-FuncStart
returns-in-FuncStart g c = c.keep.ensures

pub returns-in-End : goal.returns-in-End
returns-in-End g c = λ inside is. rw c.in-End.is (c.end.ensures inside is)

pub returns-in-Skip : goal.returns-in-Skip
returns-in-Skip g c = λ inside is. rw c.in-Skip.is (inside, skipped inside (held_data c.args.self.now inside) c.args.self.now.section, is)
