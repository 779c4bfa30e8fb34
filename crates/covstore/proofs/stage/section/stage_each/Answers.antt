use Rattle.covstore.proofs.Words.{[], ◌∷◌, List, ap, length, refl, ◌∙◌, err_from_is_err_and, ItemData, index_staged, test_staged}
use Rattle.covpacked.specs.ItemRefs.{item_ref_data}
use Rattle.covstore.proofs.AddsItem.{item_adds}
use Rattle.covstore.proofs.AddsMore.{one_clashes}
use Rattle.covstore.proofs.AddsRoom.{has_room}
use Rattle.covstore.proofs.FollowsSteps.{follows_both}
use Rattle.covstore.proofs.RunsAdds.{next_added, next_clash, next_have_room, none_to, taken_to_end}
use Rattle.covstore.proofs.StepsMore.{held_both}
use Rattle.covstore.proofs.stage.section.stage_each.Goals as goal

pub loop-item-init : goal.loop-item-init
loop-item-init g c =
    none_to (λ xs. xs) (λ xs ys. refl) c.args.items.now c.args.test.now c.args.index.now refl c.requires.room c.requires.follows _
    (c.into_iter-item-iterator.ensures.into_iter_gives ∙ c.copy-item-items.ensures)

pub stage_item-requires : goal.stage_item-requires
stage_item-requires g c =
    let l = c.loop-item in
    let one = item_ref_data c.in-Some.item ∷ [] in
    record {
      room = has_room one (test_staged l.test) (index_staged l.index)
          (next_have_room (λ xs. xs) (λ xs ys. refl) c.args.items.now c.args.test.now c.args.index.now l.item-iterator one c.next.new.self c.in-Some.ensures.steps l.test l.index l.invariant);
      follows = l.invariant.follows.follows;
    }

pub returns-in_err-stage_item-clause-index_committed : goal.returns-in_err-stage_item-clause-index_committed
returns-in_err-stage_item-clause-index_committed g c = held_both c.args.index.now c.loop-item.index c.stage_item.new.index c.loop-item.invariant.same_index c.stage_item.ensures.index_committed

pub returns-in_err-stage_item-clause-follows : goal.returns-in_err-stage_item-clause-follows
returns-in_err-stage_item-clause-follows g c =
    follows_both c.args.index.now c.loop-item.index c.stage_item.new.index c.loop-item.test c.stage_item.new.test c.loop-item.invariant.follows c.stage_item.ensures.follows

pub returns-in_err-stage_item-clause-clash : goal.returns-in_err-stage_item-clause-clash
returns-in_err-stage_item-clause-clash g c =
    let l = c.loop-item in
    let item = item_ref_data c.in-Some.item in
    let stop = c.in_err-stage_item.field-0.0 in
    let p = err_from_is_err_and c.from_residual.result c.from_residual.ensures.1 in
    rw (p.1, p.2)
    (next_clash (λ xs. xs) (λ xs ys. refl) c.args.items.now c.args.test.now c.args.index.now l.item-iterator (item ∷ []) c.next.new.self c.in-Some.ensures.steps l.test l.index l.invariant stop
    (one_clashes item (test_staged l.test) (index_staged l.index) stop c.in_err-stage_item.ensures.clash))

pub loop-item-preserved : goal.loop-item-preserved
loop-item-preserved g c =
    let l = c.loop-item in
    let item = item_ref_data c.in-Some.item in
    let after = c.stage_item.new.test in
    let more = c.stage_item.new.index in
    let kept = c.stage_item.ensures in
    let e = c.in_ok-stage_item.ensures in
    next_added (λ xs. xs) (λ xs ys. refl) c.args.items.now c.args.test.now c.args.index.now l.item-iterator (item ∷ []) c.next.new.self c.in-Some.ensures.steps l.test l.index l.invariant
    after more kept.test_committed kept.index_committed kept.follows
    (item_adds item (test_staged l.test) (test_staged after) (index_staged l.index) (index_staged more) e.test e.counts e.text e.others)

pub returns-clause-ok : goal.returns-clause-ok
returns-clause-ok g c =
    let l = c.loop-item in
    taken_to_end (λ xs. xs) (λ xs ys. refl) c.args.items.now c.args.test.now c.args.index.now l.item-iterator l.test l.index (ap (λ (left : List ItemData). length left) c.in-None.ensures.steps.0) l.invariant
