use Rattle.std.proofs.Common.{refl, sym, ap, Ok}
use Rattle.covread.proofs.gcov.reader.Reader.take.Goals as goal

pub returns-in-Path-clause-steps : goal.returns-in-Path-clause-steps
returns-in-Path-clause-steps g c = rw c.in-Path.is c.begin.ensures.steps

pub returns-in-Path-clause-test : goal.returns-in-Path-clause-test
returns-in-Path-clause-test g c = c.begin.ensures.test

pub returns-in-Source-clause-steps : goal.returns-in-Source-clause-steps
returns-in-Source-clause-steps g c = rw c.in-Source.is c.source.ensures.steps

pub returns-in-Source-clause-test : goal.returns-in-Source-clause-test
returns-in-Source-clause-test g c = c.source.ensures.test

pub returns-in-Function-clause-steps : goal.returns-in-Function-clause-steps
returns-in-Function-clause-steps g c = rw (c.in-Function.is, sym c.from.ensures) c.wait.ensures.steps

pub returns-in-Function-clause-test : goal.returns-in-Function-clause-test
returns-in-Function-clause-test g c = c.wait.ensures.test

pub returns-in-Branch-clause-steps : goal.returns-in-Branch-clause-steps
returns-in-Branch-clause-steps g c = rw c.in-Branch.is c.branch-self.ensures.steps

pub returns-in-Branch-clause-test : goal.returns-in-Branch-clause-test
returns-in-Branch-clause-test g c = c.branch-self.ensures.test

pub returns-in-Block-clause-steps : goal.returns-in-Block-clause-steps
returns-in-Block-clause-steps g c = rw c.in-Block.is (ap Ok (sym c.enter.ensures.held))

pub returns-in-Block-clause-test : goal.returns-in-Block-clause-test
returns-in-Block-clause-test g c = c.enter.ensures.test

pub returns-in-Skip-clause-steps : goal.returns-in-Skip-clause-steps
returns-in-Skip-clause-steps g c = rw c.in-Skip.is refl

pub returns-in-Skip-clause-test : goal.returns-in-Skip-clause-test
returns-in-Skip-clause-test g c = refl
