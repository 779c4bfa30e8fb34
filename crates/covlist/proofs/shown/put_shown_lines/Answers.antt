use Rattle.covlist.proofs.Begun.{at_err, isnt_empty, shown_none, shown_more, shown_all, shown_partly}
use Rattle.covlist.specs.Shown.{shown_in_lines}
use Rattle.covlist.proofs.shown.put_shown_lines.Goals as goal

pub loop-byte-init : goal.loop-byte-init
loop-byte-init g c = shown_none shown_in_lines c.args.lines.now c.args.text.now

pub loop-byte-preserved : goal.loop-byte-preserved
loop-byte-preserved g c = shown_more shown_in_lines c.args.lines.now c.args.text.now c.loop-byte.text c.loop-byte.byte-index c.loop-byte.invariant c.put_shown_in_lines.new.text c.loop-byte-test.true c.in_ok-put_shown_in_lines.ensures.ok

pub returns-in_err-put_shown_in_lines-clause-err : goal.returns-in_err-put_shown_in_lines-clause-err
returns-in_err-put_shown_in_lines-clause-err g c =
    at_err c.from_residual.result (shown_partly shown_in_lines c.args.lines.now c.args.text.now c.loop-byte.text c.loop-byte.byte-index c.loop-byte.invariant c.put_shown_in_lines.new.text c.loop-byte-test.true c.in_err-put_shown_in_lines.ensures.err)

pub returns-in_err-put_shown_in_lines-clause-some : goal.returns-in_err-put_shown_in_lines-clause-some
returns-in_err-put_shown_in_lines-clause-some g c = at_err c.from_residual.result (isnt_empty c.args.lines.now c.loop-byte.byte-index c.loop-byte-test.true)

pub returns-clause-ok : goal.returns-clause-ok
returns-clause-ok g c = shown_all shown_in_lines c.args.lines.now c.args.text.now c.loop-byte.text c.loop-byte.byte-index c.loop-byte.invariant c.loop-byte-test.false
