use Rattle.std.proofs.Common.{OnOk, ap, ◌∙◌, subst}
use Rattle.std.proofs.lemmas.List.{map_push}
use Rattle.covbook.specs.Op.{AnswerData, EntryData}
use Rattle.covbook.specs.Step.{next_entry, ops_in}
use Rattle.covbook.specs.View.{op_data}
use Rattle.covsession.specs.Session.{answer_text}
use Rattle.covsession.specs.Streams.{Says}
use Rattle.covsession.proofs.SessionSteps.{ok_map}
use Rattle.std.proofs.lemmas.Result.{err_from_is_err_and}
use Rattle.std.proofs.Common.{refl}
use Rattle.covsession.proofs.SessionBreaks.{breaks_book}
use Rattle.covsession.proofs.session.command.step.Goals as goal

pub returns-clause-said : goal.returns-clause-said
returns-clause-said g c =
    subst (λ (a : AnswerData). OnOk c.say_answer.result (Says c.args.output.now c.say_answer.new.output (answer_text a))) c.in_ok-receipt.ensures.answer c.say_answer.ensures.says

pub returns-clause-asked : goal.returns-clause-asked
returns-clause-asked g c =
    let entries = c.args.book.now.entries in
    ok_map c.say_answer.result
    (λ _. ap ops_in c.in_ok-receipt.ensures.entry ∙ map_push (λ (e : EntryData). e.op) entries (next_entry entries 0 (op_data c.args.op.now))) c.say_answer.ensures.says

pub returns-clause-entry : goal.returns-clause-entry
returns-clause-entry g c = ok_map c.say_answer.result (λ _. c.in_ok-receipt.ensures.entry) c.say_answer.ensures.says

pub returns-in_err-receipt-clause-breaks : goal.returns-in_err-receipt-clause-breaks
returns-in_err-receipt-clause-breaks g c =
    let p = err_from_is_err_and c.from_residual.result c.from_residual.ensures.1 in
    rw (p.1, p.2) (breaks_book c.args.output.now _ c.in_err-receipt.field-0.0 _ refl)
