use Rattle.covread.proofs.OnOk.{on_ok_then}
use Rattle.covread.proofs.trace.section.SectionBuilder.take.Goals as goal

pub returns-in-Total-clause-built : goal.returns-in-Total-clause-built
returns-in-Total-clause-built g c = rw c.in-Total.is (on_ok_then c.take_total.result (λ built. built c.args.sects.now.items) c.take_total.ensures)
