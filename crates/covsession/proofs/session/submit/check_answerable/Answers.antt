use Rattle.std.proofs.Common.{◌≡◌, true, refl, sym, ◌∙◌}
use Rattle.std.proofs.lemmas.Bool.{false≢true}
use Rattle.covdata.specs.Fault.{is_memory}
use Rattle.covdata.specs.declared.fault.ReadFault.{ReadFault}
use Rattle.covdata.specs.declared.fault.ReadFault.TheVariants as faults
use Rattle.covsession.proofs.session.submit.check_answerable.Goals as goal

memory_alone : (fault : ReadFault) → is_memory fault ≡ true → fault ≡ faults.Memory
memory_alone faults.Memory is = refl
memory_alone fault is = absurd (false≢true is)

pub returns-then-is_memory-clause-fault : goal.returns-then-is_memory-clause-fault
returns-then-is_memory-clause-fault c = (memory_alone c.args.fault (sym c.is_memory.ensures ∙ c.if-is_memory.true), refl)

pub returns-clause-answerable : goal.returns-clause-answerable
returns-clause-answerable c = sym c.is_memory.ensures ∙ c.if-is_memory.false
