use Rattle.std.proofs.Common.{refl, ◌∙◌, arith}
use Rattle.std.proofs.lemmas.Result.{err_from_is_err_and}
use Rattle.covstream.proofs.ReadBlocks.{read_begun, read_on, read_long, read_so_long, read_over, read_failed}
use Rattle.covstream.proofs.blocks.read_at_most.Goals as goal

pub loop-room-init : goal.loop-room-init
loop-room-init g c = record { took = read_begun _ _ _; reads = omega arith; failed = refl }

pub loop-room-preserved : goal.loop-room-preserved
loop-room-preserved g c =
    let i = c.loop-room.invariant in
    let read = c.in_ok-got.ensures.read in
    let long = read_long _ _ _ _ _ _ read in
    record {
      took = read_on _ _ _ _ _ _ _ _ _ _ _ i.took read (omega (arith, long.1));
      reads = omega (arith, i.reads, long.0, c.in_ok-got.ensures.counted);
      failed = c.in_ok-got.ensures.good ∙ i.failed;
    }

pub returns-then-got-eq0 : goal.returns-then-got-eq0
returns-then-got-eq0 g c =
    let i = c.loop-room.invariant in
    let read = c.in_ok-got.ensures.read in
    let long = read_long _ _ _ _ _ _ read in
    let many = read_so_long _ _ _ _ _ _ i.took in
    record {
      read = read_over _ _ _ _ _ _ _ _ _ _ i.took read c.if-got-eq0.true c.loop-room-test.true;
      few = omega (arith, many, long.0, c.if-got-eq0.true);
      counted = omega (arith, i.reads, long.0, c.in_ok-got.ensures.counted);
      good = c.in_ok-got.ensures.good ∙ i.failed;
      failed = tt;
    }

pub returns-in_err-got-clause-failed : goal.returns-in_err-got-clause-failed
returns-in_err-got-clause-failed g c =
    let i = c.loop-room.invariant in
    let told = err_from_is_err_and c.from_residual.result c.from_residual.ensures.1 in
    rw (told.1, told.2) (read_failed _ _ _ _ _ _ _ _ i.took.1 i.failed c.in_err-got.ensures.failed)
