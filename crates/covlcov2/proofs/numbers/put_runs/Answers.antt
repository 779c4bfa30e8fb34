use Rattle.std.proofs.Common.{List, take, sym, subst}
use Rattle.std.proofs.lemmas.List.{take_more}
use Rattle.covlcov2.specs.declared.numbers.Run.{Run}
use Rattle.covlcov2.specs.Numbers.{ArePut}
use Rattle.covlcov2.proofs.Blocks.{put_more}
use Rattle.covlcov2.proofs.numbers.put_runs.Goals as goal

pub loop-run-preserved : goal.loop-run-preserved
loop-run-preserved g c =
    let i = c.loop-run.run-index in
    let all = c.args.runs.now in
    subst (λ (runs : List Run). ArePut runs c.args.numberings.now c.put_run.new.numberings) (sym (take_more all i _ c.loop-run-test.true))
    (put_more (take i all) _ c.args.numberings.now c.loop-run.numberings c.put_run.new.numberings c.loop-run.invariant c.in_ok-put_run.ensures)
