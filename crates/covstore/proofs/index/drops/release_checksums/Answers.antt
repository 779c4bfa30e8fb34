use Rattle.std.proofs.Common.{◌∙◌}
use Rattle.covstore.proofs.FewerHolders.{releasing_all, releasing_can, releasing_more, releasing_none}
use Rattle.covstore.proofs.index.drops.release_checksums.Goals as goal

pub release-requires : goal.release-requires
release-requires g c =
    releasing_can c.args.lines.now.committed c.args.checksums.now.committed c.in-Some.line.now c.in-Some.sum.now c.loop-line.line-iterator c.next.new.self c.in-Some.ensures.steps c.loop-line.checksums.committed c.loop-line.invariant.0
    c.requires c.if-sum.true

pub loop-line-preserved-then-sum : goal.loop-line-preserved-then-sum
loop-line-preserved-then-sum g c = (
  releasing_more c.args.lines.now.committed c.args.checksums.now.committed c.in-Some.line.now c.in-Some.sum.now c.loop-line.line-iterator c.next.new.self c.in-Some.ensures.steps c.loop-line.checksums.committed c.loop-line.invariant.0
      c.release.new.self.committed c.if-sum.true c.release.ensures.committed,
  c.release.ensures.staged,
  c.release.ensures.texts ∙ c.loop-line.invariant.2,
)

pub loop-line-preserved : goal.loop-line-preserved
loop-line-preserved g c = (
  releasing_none c.args.lines.now.committed c.args.checksums.now.committed c.in-Some.line.now c.in-Some.sum.now c.loop-line.line-iterator c.next.new.self c.in-Some.ensures.steps c.loop-line.checksums.committed c.loop-line.invariant.0
      c.if-sum.false,
  c.loop-line.invariant.1,
  c.loop-line.invariant.2,
)

pub returns-clause-committed : goal.returns-clause-committed
returns-clause-committed g c =
    releasing_all c.args.lines.now.committed c.args.checksums.now.committed c.loop-line.line-iterator c.loop-line.checksums.committed c.in-None.ensures.steps.0 c.loop-line.invariant.0
