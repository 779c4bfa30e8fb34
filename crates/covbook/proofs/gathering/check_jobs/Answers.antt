use Rattle.std.proofs.Common.{Err, sym, ◌∙◌}
use Rattle.std.proofs.lemmas.Bool.{false≢true}
use Rattle.covbook.specs.declared.gather_fault.GatherFault.TheVariants.{SameJob}
use Rattle.covbook.proofs.Checked.{job_on, job_stops}
use Rattle.covbook.proofs.gathering.check_jobs.Goals as goal

pub returns-then-not-is_new_job : goal.returns-then-not-is_new_job
returns-then-not-is_new_job g c =
    let i = c.loop-number.number in
    c.loop-number.invariant (Err (SameJob i))
    (job_stops c.args.logs.now i c.index-logs-number.result c.loop-number-test.true c.index-logs-number.is
    (λ all. false≢true (sym c.if-not-is_new_job.true ∙ c.is_new_job.ensures.1 all)))

pub loop-number-preserved : goal.loop-number-preserved
loop-number-preserved g c = λ r told.
    c.loop-number.invariant r
    (job_on c.args.logs.now c.loop-number.number c.index-logs-number.result c.loop-number-test.true c.index-logs-number.is
    (c.is_new_job.ensures.0 c.if-not-is_new_job.false) r told)
