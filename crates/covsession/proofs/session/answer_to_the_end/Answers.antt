use Rattle.std.proofs.Common.{arith, refl}
use Rattle.covsession.specs.Streams.{moment}
use Rattle.covsession.proofs.SessionBroken.{err_end, few_failed, stopped}
use Rattle.covsession.proofs.session.answer_to_the_end.Goals as goal

pub returns-in-Ok-clause-broken : goal.returns-in-Ok-clause-broken
returns-in-Ok-clause-broken g c =
    err_end (moment c.args.input.now c.args.output.now) (moment c.answer_all.new.input c.answer_all.new.output) (moment c.answer_all.new.input c.send_on.new.self)
    c.send_on.result c.in-Ok.ensures.done refl c.send_on.ensures.fault c.send_on.ensures.breaks

pub returns-in-Err-clause-broken : goal.returns-in-Err-clause-broken
returns-in-Err-clause-broken g c =
    (stopped (moment c.args.input.now c.args.output.now) (moment c.answer_all.new.input c.answer_all.new.output) (moment c.answer_all.new.input c.stop.new.self)
    c.stop.result refl c.in-Err.fault c.in-Err.ensures.broken c.stop.ensures).0

pub returns-in-Err-clause-idle : goal.returns-in-Err-clause-idle
returns-in-Err-clause-idle g c =
    (stopped (moment c.args.input.now c.args.output.now) (moment c.answer_all.new.input c.answer_all.new.output) (moment c.answer_all.new.input c.stop.new.self)
    c.stop.result refl c.in-Err.fault c.in-Err.ensures.broken c.stop.ensures).1

pub stop-requires : goal.stop-requires
stop-requires g c =
    let few = few_failed (moment c.args.input.now c.args.output.now) (moment c.answer_all.new.input c.answer_all.new.output) c.in-Err.fault c.in-Err.ensures.broken in
    let start = c.requires.few in
    omega arith
