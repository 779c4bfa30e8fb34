use Rattle.std.proofs.Common.{rules}
use Rattle.covsession.proofs.SessionBreaks.{err_put}
use Rattle.covsession.proofs.SessionMoves.{says_waiting_at}
use Rattle.covsession.proofs.session.output.Output.say.Goals as goal

pub returns-then-len-gt-MAX_WAITING-clause-breaks : goal.returns-then-len-gt-MAX_WAITING-clause-breaks
returns-then-len-gt-MAX_WAITING-clause-breaks g c =
    err_put c.args.self.now _ c.put_out.new.self c.args.bytes.now c.put_out.result
    (says_waiting_at c.args.self.now _ c.args.bytes.now (search rules) (search rules) (search rules) (search rules)) c.put_out.ensures.fault c.put_out.ensures.breaks
