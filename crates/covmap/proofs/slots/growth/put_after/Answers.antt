use Rattle.std.proofs.Common.{◌-◌, ap, ◌∙◌, sym, subst, [], ◌∷◌, arith, None}
use Rattle.covmap.specs.Staged.{AreColumnsOf, staged_of}
use Rattle.covmap.specs.Slots.{filled, slots_of}
use Rattle.covmap.proofs.StagedGrowth.{columns_pushed, staged_made_after, filled_pushed}
use Rattle.covmap.proofs.SlotWrites.{last_gap}
use Rattle.covmap.proofs.slots.growth.put_after.Goals as goal

pub put_at-requires-clause-gap : goal.put_at-requires-clause-gap
put_at-requires-clause-gap g c =
    last_gap (λ other. g.K.Key.cmp other c.args.key) c.args.slots.now (c.count-count.result - 1) _ (omega (arith, c.count-count.ensures)) c.len_of-then-len_of-lt-PAGE_SLOTS.ensures.long c.requires.last

pub returns-clause-columns : goal.returns-clause-columns
returns-clause-columns g c = subst (λ pages. AreColumnsOf pages c.args.staged.now) (sym c.in_ok-push_page.ensures.ok) (columns_pushed c.args.slots.now c.args.staged.now ((c.args.key, None) ∷ []) c.requires.columns)

pub returns-clause-committed : goal.returns-clause-committed
returns-clause-committed g c = ap (λ pages. filled (slots_of pages)) c.in_ok-push_page.ensures.ok ∙ filled_pushed c.args.slots.now c.args.key

pub returns-clause-staged : goal.returns-clause-staged
returns-clause-staged g c =
    ap (λ pages. filled (slots_of (staged_of pages c.args.staged.now))) c.in_ok-push_page.ensures.ok ∙ staged_made_after c.args.slots.now c.args.staged.now c.args.key c.requires.columns

pub push_page-requires : goal.push_page-requires
push_page-requires g c = c.requires.last

pub overflow_sub-count : goal.overflow_sub-count
overflow_sub-count g c = c.if-count-gt0.true

pub returns-in_err-push_page-clause-columns : goal.returns-in_err-push_page-clause-columns
returns-in_err-push_page-clause-columns g c = subst (λ pages. AreColumnsOf pages c.args.staged.now) (sym c.in_err-push_page.ensures.err) c.requires.columns

pub returns-in_err-push_page-clause-committed : goal.returns-in_err-push_page-clause-committed
returns-in_err-push_page-clause-committed g c = ap (λ pages. filled (slots_of pages)) c.in_err-push_page.ensures.err

pub put_at-requires-clause-there : goal.put_at-requires-clause-there
put_at-requires-clause-there g c = omega (arith, c.count-count.ensures, c.if-count-gt0.true)

pub put_at-requires-clause-room : goal.put_at-requires-clause-room
put_at-requires-clause-room g c = omega (arith, c.len_of.ensures.long, c.if-len_of-lt-PAGE_SLOTS.true)
