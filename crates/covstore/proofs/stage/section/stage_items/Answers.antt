use Rattle.covstore.proofs.Words.{refl, err_from_is_err_and}
use Rattle.covstore.proofs.Parted.{none_left, parted}
use Rattle.covstore.proofs.RunsAdds.{next_added, next_clash, next_have_room, none_to, taken_to_end}
use Rattle.covstore.proofs.StepsMore.{held_both}
use Rattle.covstore.proofs.FollowsSteps.{follows_both}
use Rattle.covstore.proofs.stage.section.stage_items.Goals as goal

pub loop-rest-init : goal.loop-rest-init
loop-rest-init g c =
    none_to (λ xs. xs) (λ xs ys. refl) c.args.items.now c.args.test.now c.args.index.now refl c.requires.room c.requires.follows _ c.copy-rest.ensures

pub stage_some-requires : goal.stage_some-requires
stage_some-requires g c =
    let l = c.loop-rest in
    record {
      room = next_have_room (λ xs. xs) (λ xs ys. refl) c.args.items.now c.args.test.now c.args.index.now l.rest c.split_at-some.result.0 c.split_at-some.result.1 (parted l.rest _ _ _ c.split_at-some.ensures.first c.split_at-some.ensures.others)
          l.test l.index l.invariant;
      follows = l.invariant.follows.follows;
    }

pub returns-in_err-stage_some-clause-index_committed : goal.returns-in_err-stage_some-clause-index_committed
returns-in_err-stage_some-clause-index_committed g c = held_both c.args.index.now c.loop-rest.index c.stage_some.new.index c.loop-rest.invariant.same_index c.stage_some.ensures.index_committed

pub returns-in_err-stage_some-clause-clash : goal.returns-in_err-stage_some-clause-clash
returns-in_err-stage_some-clause-clash g c =
    let l = c.loop-rest in
    let p = err_from_is_err_and c.from_residual-in_err-stage_some.result c.from_residual-in_err-stage_some.ensures.1 in
    rw (p.1, p.2)
    (next_clash (λ xs. xs) (λ xs ys. refl) c.args.items.now c.args.test.now c.args.index.now l.rest c.split_at-some.result.0 c.split_at-some.result.1 (parted l.rest _ _ _ c.split_at-some.ensures.first c.split_at-some.ensures.others)
    l.test l.index l.invariant c.in_err-stage_some.field-0.0 c.in_err-stage_some.ensures.clash)

pub loop-rest-preserved : goal.loop-rest-preserved
loop-rest-preserved g c =
    let l = c.loop-rest in
    next_added (λ xs. xs) (λ xs ys. refl) c.args.items.now c.args.test.now c.args.index.now l.rest c.split_at-some.result.0 c.split_at-some.result.1 (parted l.rest _ _ _ c.split_at-some.ensures.first c.split_at-some.ensures.others)
    l.test l.index l.invariant c.stage_some.new.test c.stage_some.new.index c.stage_some.ensures.test_committed c.stage_some.ensures.index_committed c.stage_some.ensures.follows c.in_ok-stage_some.ensures.ok

pub returns-clause-ok : goal.returns-clause-ok
returns-clause-ok g c =
    let l = c.loop-rest in
    taken_to_end (λ xs. xs) (λ xs ys. refl) c.args.items.now c.args.test.now c.args.index.now l.rest l.test l.index (none_left l.rest _ c.is_empty.ensures c.loop-rest-test.false) l.invariant

pub returns-in_err-stage_some-clause-follows : goal.returns-in_err-stage_some-clause-follows
returns-in_err-stage_some-clause-follows g c =
    follows_both c.args.index.now c.loop-rest.index c.stage_some.new.index c.loop-rest.test c.stage_some.new.test c.loop-rest.invariant.follows c.stage_some.ensures.follows
