use Rattle.std.proofs.Common.{ℕ, ◌+◌, List, length, ap, subst, arith}
use Rattle.std.specs.List.{enumerate_from}
use Rattle.covline.specs.Lines.{lines_of}
use Rattle.covcheck.specs.Skipped.{IsSkippedIn}
use Rattle.covcheck.proofs.Passing.{Line, Passing, passing_skipped, passing_ends}
use Rattle.covcheck.proofs.skipped_lines.skipped_lines_in.Goals as goal

pub loop-line-preserved-then-skips : goal.loop-line-preserved-then-skips
loop-line-preserved-then-skips c =
    let holds = λ (x : Line). IsSkippedIn c.args.format x.1 in
    let all = enumerate_from 1 (lines_of c.args.text.now) in
    let at = c.loop-line.at + 1 in
    let kept = c.loop-line.invariant in
    let step = c.in-Some.ensures.steps in
    record {
      passing = passing_skipped holds all (enumerate_from (at + 1) (lines_of c.next.new.self)) (at, c.in-Some.line.now) c.loop-line.count c.loop-line.first c.first_with-first.result
          (subst (λ (lines : List (List ℕ)). Passing holds all (enumerate_from at lines) c.loop-line.count c.loop-line.first) step kept.passing)
          (c.skips.ensures.0 c.if-skips.true) c.first_with-first.ensures.kept c.first_with-first.ensures.new;
      lines = omega (arith, kept.lines, ap length step);
      counted = omega (arith, kept.counted);
    }

pub returns : goal.returns
returns c =
    let holds = λ (x : Line). IsSkippedIn c.args.format x.1 in
    let all = enumerate_from 1 (lines_of c.args.text.now) in
    let at = c.loop-line.at + 1 in
    passing_ends holds all c.loop-line.count c.loop-line.first
    (subst (λ (lines : List (List ℕ)). Passing holds all (enumerate_from at lines) c.loop-line.count c.loop-line.first) c.in-None.ensures.steps.0 c.loop-line.invariant.passing)
