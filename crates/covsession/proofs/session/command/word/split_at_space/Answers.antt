use Rattle.std.proofs.Common.{sym}
use Rattle.covsession.proofs.SessionWords.{front_some, front_none}
use Rattle.covsession.proofs.session.command.word.split_at_space.Goals as goal

pub returns-in-Some-clause-name : goal.returns-in-Some-clause-name
returns-in-Some-clause-name c = sym (front_some c.args.words.now c.in-Some.at c.in-Some.ensures)

pub returns-in-None-clause-name : goal.returns-in-None-clause-name
returns-in-None-clause-name c = front_none c.args.words.now c.in-None.ensures
