use Rattle.covstore.proofs.Words.{[], ◌∷◌, ◌++◌, List, sym, ap, subst, ◌∙◌, append-nil, append_assoc, err_from_is_err_and, ItemData, Clashes, index_staged, test_staged}
use Rattle.covpacked.specs.ItemRefs.{item_ref_data}
use Rattle.covstore.specs.HeldChecksums.{HoldsTexts}
use Rattle.covstore.proofs.StepsMore.{held_both}
use Rattle.covstore.proofs.HeldChecksumsAdds.{held_clashes}
use Rattle.covstore.proofs.TextsHeld.{its_apart, next_held_in, next_room_in, none_held_in}
use Rattle.covstore.proofs.FollowsSteps.{follows_both, follows_first}
use Rattle.covstore.proofs.held_checksums.hold_checksums.Goals as goal

pub loop-item-init : goal.loop-item-init
loop-item-init g c = (
  [],
  c.into_iter-item-iterator.ensures.into_iter_gives ∙ c.copy-item-items.ensures,
  none_held_in c.args.test.now c.args.index.now,
  follows_first c.args.test.now c.args.index.now c.requires.follows,
)

pub hold_checksum-requires : goal.hold_checksum-requires
hold_checksum-requires g c =
    let l = c.loop-item in
    let h = l.invariant in
    let all = sym (ap (λ (left : List ItemData). h.0 ++ left) (sym c.in-Some.ensures.steps) ∙ h.1) in
    record {
      room = next_room_in h.0 (item_ref_data c.in-Some.item) c.next.new.self c.args.items.now all c.requires.ascend c.args.test.now c.args.index.now l.test l.index h.2 c.requires.room;
      follows = h.3.follows;
    }

pub returns-in_err-hold_checksum-clause-index_committed : goal.returns-in_err-hold_checksum-clause-index_committed
returns-in_err-hold_checksum-clause-index_committed g c =
    held_both c.args.index.now c.loop-item.index c.hold_checksum.new.index c.loop-item.invariant.2.same_index c.hold_checksum.ensures.index_committed

pub returns-in_err-hold_checksum-clause-clash : goal.returns-in_err-hold_checksum-clause-clash
returns-in_err-hold_checksum-clause-clash g c =
    let l = c.loop-item in
    let h = l.invariant in
    let item = item_ref_data c.in-Some.item in
    let all = sym (ap (λ (left : List ItemData). h.0 ++ left) (sym c.in-Some.ensures.steps) ∙ h.1) in
    let p = err_from_is_err_and c.from_residual.result c.from_residual.ensures.1 in
    rw (p.1, p.2)
    (subst (λ (xs : List ItemData). Clashes xs (test_staged c.args.test.now) (index_staged c.args.index.now) c.in_err-hold_checksum.field-0.0) (sym all)
    (held_clashes h.0 item c.next.new.self (test_staged c.args.test.now) (index_staged c.args.index.now) (index_staged l.index) h.2.so_far
    (its_apart h.0 item c.next.new.self c.args.items.now all c.requires.ascend)
    c.in_err-hold_checksum.field-0.0 c.in_err-hold_checksum.ensures.clash))

pub loop-item-preserved : goal.loop-item-preserved
loop-item-preserved g c =
    let l = c.loop-item in
    let h = l.invariant in
    let item = item_ref_data c.in-Some.item in
    let all = sym (ap (λ (left : List ItemData). h.0 ++ left) (sym c.in-Some.ensures.steps) ∙ h.1) in (
      h.0 ++ item ∷ [],
      append_assoc h.0 (item ∷ []) c.next.new.self ∙ sym all,
      next_held_in h.0 item c.next.new.self c.args.items.now all c.requires.ascend c.args.test.now c.args.index.now l.test l.index h.2
          c.hold_checksum.new.test c.hold_checksum.new.index c.hold_checksum.ensures.test c.hold_checksum.ensures.index_committed c.in_ok-hold_checksum.ensures.ok,
      follows_both c.args.index.now l.index c.hold_checksum.new.index l.test c.hold_checksum.new.test h.3 c.hold_checksum.ensures.follows,
    )

pub returns-clause-ok : goal.returns-clause-ok
returns-clause-ok g c =
    let l = c.loop-item in
    let h = l.invariant in
    let all = sym (append-nil h.0) ∙ ap (λ (left : List ItemData). h.0 ++ left) (sym c.in-None.ensures.steps.0) ∙ h.1 in
    subst (λ (some : List ItemData). HoldsTexts some (test_staged c.args.test.now) (index_staged c.args.index.now) (index_staged l.index)) all h.2.so_far.held
