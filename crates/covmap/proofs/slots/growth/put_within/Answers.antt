use Rattle.std.proofs.Common.{◌≡◌, ◌+◌, ◌-◌, ◌<◌, ap, ◌∙◌, sym, subst, arith, length, length-take}
use Rattle.std.specs.Prelude.{OnOk}
use Rattle.covmap.specs.Staged.{staged_of}
use Rattle.covmap.specs.Slots.{IsGap, filled, page_at, slots_of}
use Rattle.covmap.proofs.SlotWrites.{page_le}
use Rattle.covmap.proofs.SlotSplit.{page_low, split_length, length_high, gap_low, gap_after_half}
use Rattle.covmap.proofs.slots.growth.put_within.Goals as goal

pub put_at-requires-then-place-le-HALF-clause-room : goal.put_at-requires-then-place-le-HALF-clause-room
put_at-requires-then-place-le-HALF-clause-room g c =
    let page = ap (λ pages. length (page_at pages c.args.place.page)) c.in_ok-split.ensures.ok ∙ ap length (page_low c.args.slots.now c.args.place.page c.requires.there) in
    omega (arith, page, length-take 128 (page_at c.args.slots.now c.args.place.page))

pub put_at-requires-then-place-le-HALF-clause-gap : goal.put_at-requires-then-place-le-HALF-clause-gap
put_at-requires-then-place-le-HALF-clause-gap g c =
    let at_most = page_le c.args.slots.now c.args.place.page c.len_of.ensures.whole.pages_fit in
    let full : length (page_at c.args.slots.now c.args.place.page) ≡ 256 = omega (arith, at_most, c.len_of.ensures.long, c.if-len_of-lt-PAGE_SLOTS.false) in
    subst (λ pages. IsGap (λ other. g.K.Key.cmp other c.args.key) pages (c.args.place.page, c.args.place.index)) (sym c.in_ok-split.ensures.ok)
    (gap_low (λ other. g.K.Key.cmp other c.args.key) c.args.slots.now c.args.place.page c.args.place.index c.requires.there full c.if-place-le-HALF.true c.requires.gap)

pub put_at-requires-2-clause-room : goal.put_at-requires-2-clause-room
put_at-requires-2-clause-room g c =
    let at_most = page_le c.args.slots.now c.args.place.page c.len_of.ensures.whole.pages_fit in
    subst (λ pages. length (page_at pages (c.args.place.page + 1)) < 256) (sym c.in_ok-split.ensures.ok) (length_high c.args.slots.now c.args.place.page (c.args.place.page + 1) c.requires.there (omega arith) at_most)

pub put_at-requires-2-clause-gap : goal.put_at-requires-2-clause-gap
put_at-requires-2-clause-gap g c =
    let at_most = page_le c.args.slots.now c.args.place.page c.len_of.ensures.whole.pages_fit in
    let full : length (page_at c.args.slots.now c.args.place.page) ≡ 256 = omega (arith, at_most, c.len_of.ensures.long, c.if-len_of-lt-PAGE_SLOTS.false) in
    let order = λ (other : g.row.K.Denot). g.K.Key.cmp other c.args.key in
    subst (λ pages. IsGap order pages (c.args.place.page + 1, c.args.place.index - 128)) (sym c.in_ok-split.ensures.ok)
    (gap_after_half order c.args.slots.now c.args.place.page (c.args.place.page + 1) (c.args.place.index - 128) c.args.place.index c.requires.there full (omega arith) (omega (arith, c.if-place-le-HALF.false)) c.requires.gap)

pub split-requires-clause-full : goal.split-requires-clause-full
split-requires-clause-full g c =
    let at_most = page_le c.args.slots.now c.args.place.page c.len_of.ensures.whole.pages_fit in
    omega (arith, at_most, c.len_of.ensures.long, c.if-len_of-lt-PAGE_SLOTS.false)

pub put_at-requires-then-place-le-HALF-clause-there : goal.put_at-requires-then-place-le-HALF-clause-there
put_at-requires-then-place-le-HALF-clause-there g c =
    omega (arith, c.requires.there, ap length c.in_ok-split.ensures.ok, split_length c.args.slots.now c.args.place.page c.requires.there)

pub put_at-requires-2-clause-there : goal.put_at-requires-2-clause-there
put_at-requires-2-clause-there g c =
    omega (arith, c.requires.there, ap length c.in_ok-split.ensures.ok, split_length c.args.slots.now c.args.place.page c.requires.there)

pub returns-then-place-le-HALF-clause-committed : goal.returns-then-place-le-HALF-clause-committed
returns-then-place-le-HALF-clause-committed g c = c.put_at-then-place-le-HALF.ensures.committed ∙ c.in_ok-split.ensures.committed

pub returns-then-place-le-HALF-clause-staged : goal.returns-then-place-le-HALF-clause-staged
returns-then-place-le-HALF-clause-staged g c =
    let after = c.put_at-then-place-le-HALF in
    subst (λ slots. OnOk after.result (filled (slots_of (staged_of after.new.slots after.new.staged)) ≡ slots)) c.in_ok-split.ensures.staged after.ensures.staged

pub returns-clause-committed : goal.returns-clause-committed
returns-clause-committed g c = c.put_at-2.ensures.committed ∙ c.in_ok-split.ensures.committed

pub returns-clause-staged : goal.returns-clause-staged
returns-clause-staged g c =
    let after = c.put_at-2 in
    subst (λ slots. OnOk after.result (filled (slots_of (staged_of after.new.slots after.new.staged)) ≡ slots)) c.in_ok-split.ensures.staged after.ensures.staged

pub put_at-requires-clause-there : goal.put_at-requires-clause-there
put_at-requires-clause-there g c = c.requires.there

pub put_at-requires-clause-room : goal.put_at-requires-clause-room
put_at-requires-clause-room g c = omega (arith, c.len_of.ensures.long, c.if-len_of-lt-PAGE_SLOTS.true)

pub put_at-requires-clause-gap : goal.put_at-requires-clause-gap
put_at-requires-clause-gap g c = c.requires.gap

pub put_at-requires-clause-columns : goal.put_at-requires-clause-columns
put_at-requires-clause-columns g c = c.requires.columns

pub put_at-requires-then-place-le-HALF-clause-columns : goal.put_at-requires-then-place-le-HALF-clause-columns
put_at-requires-then-place-le-HALF-clause-columns g c = c.in_ok-split.ensures.columns

pub put_at-requires-2-clause-columns : goal.put_at-requires-2-clause-columns
put_at-requires-2-clause-columns g c = c.in_ok-split.ensures.columns

pub split-requires-clause-there : goal.split-requires-clause-there
split-requires-clause-there g c = c.requires.there

pub split-requires-clause-columns : goal.split-requires-clause-columns
split-requires-clause-columns g c = c.requires.columns

pub returns-in_err-split-clause-columns : goal.returns-in_err-split-clause-columns
returns-in_err-split-clause-columns g c = c.in_err-split.ensures.columns

pub returns-in_err-split-clause-committed : goal.returns-in_err-split-clause-committed
returns-in_err-split-clause-committed g c = c.in_err-split.ensures.committed

pub returns-then-len_of-lt-PAGE_SLOTS-clause-committed : goal.returns-then-len_of-lt-PAGE_SLOTS-clause-committed
returns-then-len_of-lt-PAGE_SLOTS-clause-committed g c = c.put_at.ensures.committed

pub returns-then-len_of-lt-PAGE_SLOTS-clause-columns : goal.returns-then-len_of-lt-PAGE_SLOTS-clause-columns
returns-then-len_of-lt-PAGE_SLOTS-clause-columns g c = c.put_at.ensures.columns

pub returns-then-len_of-lt-PAGE_SLOTS-clause-staged : goal.returns-then-len_of-lt-PAGE_SLOTS-clause-staged
returns-then-len_of-lt-PAGE_SLOTS-clause-staged g c = c.put_at.ensures.staged

pub returns-then-len_of-lt-PAGE_SLOTS-clause-place : goal.returns-then-len_of-lt-PAGE_SLOTS-clause-place
returns-then-len_of-lt-PAGE_SLOTS-clause-place g c = c.put_at.ensures.place

pub returns-then-place-le-HALF-clause-columns : goal.returns-then-place-le-HALF-clause-columns
returns-then-place-le-HALF-clause-columns g c = c.put_at-then-place-le-HALF.ensures.columns

pub returns-then-place-le-HALF-clause-place : goal.returns-then-place-le-HALF-clause-place
returns-then-place-le-HALF-clause-place g c = c.put_at-then-place-le-HALF.ensures.place

pub returns-clause-columns : goal.returns-clause-columns
returns-clause-columns g c = c.put_at-2.ensures.columns

pub returns-clause-place : goal.returns-clause-place
returns-clause-place g c = c.put_at-2.ensures.place
