-- The jobs and the submitters of a shared book may go to other threads.
use denote.RattleType.{RattleType}
use denote.Param.Send.{IsSend, recorded_send, sendable, struct_send}
use denote.Struct.Declared.{shape}
use Rattle.std.proofs.Crossing as heap
use Rattle.std.specs.contracts.alloc.Global as Heap
use Rattle.std.specs.contracts.impls.GlobalAllocator.TheImpl.{ghosts}
use Rattle.anyhow.proofs.error.Error.TheSendSync as error
use Rattle.covbook.proofs.log.JobLog.TheSendSync as log
use Rattle.covbook.specs.contracts.log.JobLog as JobLog
use Rattle.covlock.proofs.Crossing.{live_send, seat_send}
use Rattle.covbench.specs.contracts.job.Job as Job
use Rattle.covbench.specs.contracts.pace.Submitter as Submitter

log_send : IsSend (JobLog.the_field Heap.the_row ghosts).row
log_send = search (sendable, heap.crosses, log.the_field_send) depth 40 fits 20000

-- the fields one by one, since a search for all of them runs to its limit
pub job_send : (L : RattleType) (n : _) (l : _) → IsSend (Job.the_row L n l)
job_send L n l =
    recorded_send (Job.the_field L n l).row _ _ (Job.the_type L n l).to_one
    (struct_send (shape (Job.the_type L n l)) (seat_send L n l, (live_send L n l, (search sendable depth 20, (log_send, (search sendable depth 20, (search (sendable, error.the_send) depth 20, tt)))))))

pub submitter_send : (L : RattleType) (n : _) (l : _) → IsSend (Submitter.the_row L n l)
submitter_send L n l = search (sendable, heap.crosses, seat_send) depth 40 fits 20000
