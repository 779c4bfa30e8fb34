use Rattle.covbook.specs.declared.gather_fault.GatherFault.TheVariants.{Stranger, Differs, Backwards, Missing, BadReading, SameJob}
use Rattle.covbook.proofs.Causes.{cause_of, stranger_told, differs_told, backwards_told, missing_is_told, bad_reading_told, same_job_told}
use Rattle.covbook.proofs.laws.each_fault_has_its_cause.Goals as goal

pub returns-clause-stranger : goal.returns-clause-stranger
returns-clause-stranger c = λ entries logs log index. (cause_of entries logs (Stranger log index), stranger_told entries logs log index)

pub returns-clause-differs : goal.returns-clause-differs
returns-clause-differs c = λ entries logs log index. (cause_of entries logs (Differs log index), differs_told entries logs log index)

pub returns-clause-backwards : goal.returns-clause-backwards
returns-clause-backwards c = λ entries logs log index. (cause_of entries logs (Backwards log index), backwards_told entries logs log index)

pub returns-clause-missing : goal.returns-clause-missing
returns-clause-missing c = λ entries logs place. (cause_of entries logs (Missing place), missing_is_told entries logs place)

pub returns-clause-bad_reading : goal.returns-clause-bad_reading
returns-clause-bad_reading c = λ entries logs log index. (cause_of entries logs (BadReading log index), bad_reading_told entries logs log index)

pub returns-clause-same_job : goal.returns-clause-same_job
returns-clause-same_job c = λ entries logs log. (cause_of entries logs (SameJob log), same_job_told entries logs log)
