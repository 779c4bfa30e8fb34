use Rattle.std.proofs.Common.{◌∙◌, ap, subst, sym}
use Rattle.covmap.specs.RunPage.{FirstHere}
use Rattle.covmap.specs.Slots.{filled, page_at, slots_of}
use Rattle.covmap.specs.Staged.{AreColumnsOf, staged_of}
use Rattle.covmap.proofs.RunPages.{filled_grown, first_grown, staged_grown}
use Rattle.covmap.proofs.StagedGrowth.{columns_pushed}
use Rattle.covmap.proofs.slots.run.put_run.Goals as goal

pub returns-clause-columns : goal.returns-clause-columns
returns-clause-columns g c =
    let grown = c.in_ok-push_run.ensures.ok in
    subst (λ pages. AreColumnsOf pages c.args.staged.now) (sym grown.is) (columns_pushed c.args.slots.now c.args.staged.now grown.page c.requires.columns)

pub returns-clause-committed : goal.returns-clause-committed
returns-clause-committed g c =
    let grown = c.in_ok-push_run.ensures.ok in
    ap (λ pages. filled (slots_of pages)) grown.is ∙ filled_grown g.Q.Query.named c.args.run.now c.args.slots.now grown.page grown.is_new c.args.slots.now

pub returns-clause-staged : goal.returns-clause-staged
returns-clause-staged g c =
    let grown = c.in_ok-push_run.ensures.ok in
    ap (λ pages. filled (slots_of (staged_of pages c.args.staged.now))) grown.is ∙ staged_grown g.Q.Query.named c.args.run.now c.args.slots.now grown.page grown.is_new c.args.staged.now c.requires.columns

pub returns-clause-place : goal.returns-clause-place
returns-clause-place g c =
    let grown = c.in_ok-push_run.ensures.ok in
    let run = c.args.run.now in
    let number = c.count-count.result in
    subst (λ pages. FirstHere g.K.Key.cmp g.Q.Query.named (page_at pages number) 0 run) (sym grown.is)
    (first_grown g.Q.Query.named run c.args.slots.now grown.page grown.is_new number c.count-count.ensures)

pub returns-in_err-push_run-clause-columns : goal.returns-in_err-push_run-clause-columns
returns-in_err-push_run-clause-columns g c = subst (λ pages. AreColumnsOf pages c.args.staged.now) (sym c.in_err-push_run.ensures.err) c.requires.columns

pub returns-in_err-push_run-clause-committed : goal.returns-in_err-push_run-clause-committed
returns-in_err-push_run-clause-committed g c = ap (λ pages. filled (slots_of pages)) c.in_err-push_run.ensures.err
