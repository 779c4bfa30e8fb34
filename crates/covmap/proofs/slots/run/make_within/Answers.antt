use Rattle.std.proofs.Common.{◌∙◌, get_or}
use Rattle.std.proofs.lemmas.Result.{IfOk-weaker}
use Rattle.covmap.specs.RunPage.{FirstHere}
use Rattle.covmap.specs.SlotPlace.{at}
use Rattle.covmap.specs.Slots.{IsPlace, page_at}
use Rattle.covmap.proofs.RunPages.{first_here}
use Rattle.covmap.proofs.SlotWrites.{on_ok_more}
use Rattle.covmap.proofs.slots.run.make_within.Goals as goal

pub returns-in_err-make_ahead-clause-columns : goal.returns-in_err-make_ahead-clause-columns
returns-in_err-make_ahead-clause-columns g c = c.in_err-make_ahead.ensures.columns

pub returns-in_err-make_ahead-clause-committed : goal.returns-in_err-make_ahead-clause-committed
returns-in_err-make_ahead-clause-committed g c = c.in_err-make_ahead.ensures.committed

pub make_slot-requires : goal.make_slot-requires
make_slot-requires g c = c.in_ok-make_ahead.ensures.columns

pub returns-clause-columns : goal.returns-clause-columns
returns-clause-columns g c = c.make_slot.ensures.columns

pub returns-clause-committed : goal.returns-clause-committed
returns-clause-committed g c = c.make_slot.ensures.committed ∙ c.in_ok-make_ahead.ensures.committed

pub returns-clause-staged : goal.returns-clause-staged
returns-clause-staged g c = on_ok_more c.make_slot.result (λ same. same ∙ c.in_ok-make_ahead.ensures.staged) c.make_slot.ensures.staged

pub returns-clause-place : goal.returns-clause-place
returns-clause-place g c =
    let cmp = g.K.Key.cmp in
    let named = g.Q.Query.named in
    let run = c.args.run.now in
    let first = c.index-run-0.result in
    let slots = c.make_slot.new.slots in
    IfOk-weaker c.make_slot.result (λ place. IsPlace (λ key. cmp key (named (get_or run 0 first).0)) slots (at place)) (λ place. FirstHere cmp named (page_at slots place.page) place.index run)
    (λ place here. first_here cmp named run first (page_at slots place.page) place.index c.requires.some here) c.make_slot.ensures.place
