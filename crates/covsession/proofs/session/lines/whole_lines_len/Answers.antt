use Rattle.covsession.proofs.SessionLines.{lines_to_dot, lines_to_last}
use Rattle.covsession.proofs.session.lines.whole_lines_len.Goals as goal

pub returns-in-Some-clause-lines : goal.returns-in-Some-clause-lines
returns-in-Some-clause-lines c = lines_to_dot c.args.bytes.now c.in-Some.feed _ c.begins_with_dot.ensures c.if-begins_with_dot.false c.in-Some.ensures

pub returns-in-Some-memrchr-clause-lines : goal.returns-in-Some-memrchr-clause-lines
returns-in-Some-memrchr-clause-lines c = lines_to_last c.args.bytes.now c.in-Some-memrchr.last _ c.begins_with_dot.ensures c.if-begins_with_dot.false c.in-None.ensures c.in-Some-memrchr.ensures
