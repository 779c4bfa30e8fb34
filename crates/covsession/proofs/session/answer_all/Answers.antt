use Rattle.std.proofs.Common.{ap, subst}
use Rattle.covbook.specs.Step.{ops_in}
use Rattle.covsession.specs.Streams.{moment}
use Rattle.covsession.specs.Run.{TakesCommand}
use Rattle.covsession.specs.declared.session.text.LineEnd.{LineEnd}
use Rattle.covsession.proofs.SessionSteps.{so_far_none, so_far_more, so_far_done}
use Rattle.std.proofs.Common.{◌∙◌, Err}
use Rattle.std.proofs.lemmas.List.{length-map}
use Rattle.std.proofs.lemmas.Result.{err_from_is_err_and}
use Rattle.covbook.specs.Op.{EntryData}
use Rattle.covsession.proofs.SessionBroken.{either_breaks}
use Rattle.covsession.proofs.session.answer_all.Goals as goal

pub loop-book-init : goal.loop-book-init
loop-book-init g c =
    so_far_none (moment c.args.input.now c.args.output.now) (ops_in c.keeping-book.result.entries) (ap ops_in c.keeping-book.ensures)

pub loop-book-preserved : goal.loop-book-preserved
loop-book-preserved g c =
    let m = moment c.args.input.now c.args.output.now in
    let n = moment c.loop-book.input c.loop-book.output in
    let o = moment c.answer_command.new.input c.answer_command.new.output in
    let P : LineEnd → Type 0 = λ e. TakesCommand n o (ops_in c.loop-book.book.entries) (ops_in c.answer_command.new.book.entries) e in
    so_far_more m n o (ops_in c.loop-book.book.entries) (ops_in c.answer_command.new.book.entries) c.loop-book.invariant (subst P c.in-Feed.is c.in_ok-answer_command.ensures.takes)

pub returns-in-Input-clause-done : goal.returns-in-Input-clause-done
returns-in-Input-clause-done g c =
    let m = moment c.args.input.now c.args.output.now in
    let n = moment c.loop-book.input c.loop-book.output in
    let o = moment c.answer_command.new.input c.answer_command.new.output in
    let P : LineEnd → Type 0 = λ e. TakesCommand n o (ops_in c.loop-book.book.entries) (ops_in c.answer_command.new.book.entries) e in
    so_far_done m n o (ops_in c.loop-book.book.entries) (ops_in c.answer_command.new.book.entries) c.loop-book.invariant (subst P c.in-Input.is c.in_ok-answer_command.ensures.takes)

pub returns-in_err-answer_command-clause-broken : goal.returns-in_err-answer_command-clause-broken
returns-in_err-answer_command-clause-broken g c =
    let m = moment c.args.input.now c.args.output.now in
    let n = moment c.loop-book.input c.loop-book.output in
    let o = moment c.answer_command.new.input c.answer_command.new.output in
    let p = err_from_is_err_and c.from_residual.result c.from_residual.ensures.1 in
    rw (p.1, p.2) (either_breaks m n o (ops_in c.loop-book.book.entries) c.in_err-answer_command.field-0.0 c.loop-book.invariant
    (λ full. length-map c.loop-book.book.entries (λ (e : EntryData). e.op) ∙ c.in_err-answer_command.ensures.full (ap Err full))
    c.in_err-answer_command.ensures.fails)
