use Rattle.std.proofs.Common.{ap}
use Rattle.covtable.specs.declared.refuse.Refuse.{Refuse}
use Rattle.covtable.specs.RefuseView.{refuse_data}
use Rattle.covbook.specs.Refusal.{refusal_answer}
use Rattle.covbook.proofs.book.clash_of.Goals as goal

pub returns-in-Clash : goal.returns-in-Clash
returns-in-Clash g c = ap (λ (r : Refuse g.row.A.Denot). refusal_answer (refuse_data r)) c.in-Clash.is

pub returns-in-Memory : goal.returns-in-Memory
returns-in-Memory g c = ap (λ (r : Refuse g.row.A.Denot). refusal_answer (refuse_data r)) c.in-Memory.is
