use Rattle.std.proofs.Common.{arith, ◌∙◌}
use Rattle.covsession.proofs.SessionBytes.{Appends-step}
use Rattle.covsession.proofs.SessionBreaks.{begun_to}
use Rattle.covsession.proofs.session.output.put_bytes.Goals as goal

pub loop-at-preserved : goal.loop-at-preserved
loop-at-preserved g c = record {
  in_range = omega (arith, c.in-Ok.ensures.bound);
  written = Appends-step _ _ _ c.args.bytes.now c.loop-at.at c.in-Ok.taken c.loop-at.invariant.written c.in-Ok.ensures.bytes;
  failed = c.in-Ok.ensures.good ∙ c.loop-at.invariant.failed;
}

pub returns-in_default-clause-begun : goal.returns-in_default-clause-begun
returns-in_default-clause-begun g c =
    begun_to _ _ _ c.args.bytes.now c.loop-at.at c.loop-at.invariant.written c.in_default.ensures.bytes
