use Rattle.std.proofs.Common.{[], ◌∷◌, append-nil, refl, sym}
use Rattle.covsession.specs.Command.{Refuse, Unfinished, format_of}
use Rattle.covdata.specs.declared.fault.ReadFault.TheVariants as faults
use Rattle.covsession.proofs.SessionSteps.{answered, ok_map, says_nil}
use Rattle.covbook.specs.Step.{ops_in}
use Rattle.std.proofs.Common.{codes}
use Rattle.covsession.specs.Session.{refused_text, said}
use Rattle.covsession.proofs.SessionBroken.{err_given, err_saying}
use Rattle.covsession.proofs.session.submit.answer_given.Goals as goal

pub returns-in-TooLong-clause-answered : goal.returns-in-TooLong-clause-answered
returns-in-TooLong-clause-answered g c = ok_map c.refuse.result (λ says. (
  Refuse faults.TooLong ∷ [],
  answered (format_of c.args.given.format) c.args.given.taken _ _ c.in-TooLong.is refl,
  sym (append-nil _),
  says_nil _ _ _ says,
)) c.refuse.ensures.says

pub returns-in-Unfinished-clause-answered : goal.returns-in-Unfinished-clause-answered
returns-in-Unfinished-clause-answered g c = ok_map c.say.result (λ says. (
  Unfinished ∷ [],
  answered (format_of c.args.given.format) c.args.given.taken _ _ c.in-Unfinished.is refl,
  sym (append-nil _),
  says_nil _ _ _ says,
)) c.say.ensures.says

pub returns-in-TooLong-clause-fails : goal.returns-in-TooLong-clause-fails
returns-in-TooLong-clause-fails g c =
    err_given (format_of c.args.given.format) c.args.given.taken _ _ _ (Refuse faults.TooLong ∷ []) _ (answered (format_of c.args.given.format) c.args.given.taken _ _ c.in-TooLong.is refl)
    (err_saying _ _ (ops_in c.args.book.now.entries) (Refuse faults.TooLong ∷ []) (refused_text faults.TooLong) _ refl c.refuse.ensures.fault c.refuse.ensures.breaks)

pub returns-in-Unfinished-clause-fails : goal.returns-in-Unfinished-clause-fails
returns-in-Unfinished-clause-fails g c =
    err_given (format_of c.args.given.format) c.args.given.taken _ _ _ (Unfinished ∷ []) _ (answered (format_of c.args.given.format) c.args.given.taken _ _ c.in-Unfinished.is refl)
    (err_saying _ _ (ops_in c.args.book.now.entries) (Unfinished ∷ []) (said (codes "unfinished")) _ refl c.say.ensures.fault c.say.ensures.breaks)
