use Rattle.std.proofs.Common.{◌∙◌, ap, max}
use Rattle.covlcov2.specs.Numbers.{next_in_run, next_in_runs}
use Rattle.covlcov2.proofs.Blocks.{run_ended}
use Rattle.covlcov2.proofs.numbers.Runs.add.Goals as goal

pub returns : goal.returns
returns g c = λ q.
    let old = c.args.self.now in
    run_ended q old.ended.items c.push.new.self.items old.current (record { block = c.args.block; next = c.one_more-next.result }) c.in_ok-push.ensures.items
    ∙ ap (λ n. max (next_in_runs q old) (next_in_run q (record { block = c.args.block; next = n }))) c.one_more-next.ensures
