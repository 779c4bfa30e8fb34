use Rattle.covstore.proofs.Words.{refl, index_staged, KeepsCountsOfKind, Branch, CountsOf, Function, Kind, Line, PointsOf, above_of, at, cmp_of, merged, TestData, test_committed, test_staged}
use Rattle.covstore.proofs.AddsPoints.{points_added, points_room}
use Rattle.covstore.proofs.EachKind.{each_kind, same_test}
use Rattle.covstore.proofs.stage.copied.stage_points.Goals as goal

pub hold_again-requires : goal.hold_again-requires
hold_again-requires g c = c.requires.room.holders

pub add_points-requires : goal.add_points-requires
add_points-requires g c = λ k. ((refl, tt), (c.requires.follows.lines, points_room Line (test_committed c.args.source.now) (test_staged c.args.test.now) (index_staged c.args.index.now) c.requires.room))

pub add_points-requires-2 : goal.add_points-requires-2
add_points-requires-2 g c = λ k. ((refl, tt), (c.requires.follows.functions, points_room Function (test_committed c.args.source.now) (test_staged c.args.test.now) (index_staged c.args.index.now) c.requires.room))

pub add_points-requires-3 : goal.add_points-requires-3
add_points-requires-3 g c = λ k. ((refl, tt), (c.requires.follows.branches, points_room Branch (test_committed c.args.source.now) (test_staged c.args.test.now) (index_staged c.args.index.now) c.requires.room))

pub returns-clause-ok : goal.returns-clause-ok
returns-clause-ok g c =
    let source = test_committed c.args.source.now in
    let test = test_staged c.args.test.now in
    let index = index_staged c.args.index.now in
    let lines = c.add_points.new.points.staged in
    let functions = c.add_points-2.new.points.staged in
    let branches = c.add_points-3.new.points.staged in
    let after : TestData = record { lines = lines; functions = functions; branches = branches } in
    let held = c.hold_again.ensures in
    points_added source test after index _ held.ascending
    (same_test after (merged source test) c.in_ok-add_points.ensures.test c.in_ok-add_points-2.ensures.test c.in_ok-add_points-3.ensures.test)
    (each_kind
    (λ (kind : Kind).
    KeepsCountsOfKind (cmp_of kind) (above_of kind) (at kind test) (at {T = PointsOf} kind (record { lines = lines; functions = functions; branches = branches })) (at kind index.counts)
    (at {T = CountsOf} kind (record { lines = c.add_points.new.kept.staged; functions = c.add_points-2.new.kept.staged; branches = c.add_points-3.new.kept.staged })))
    c.in_ok-add_points.ensures.counts c.in_ok-add_points-2.ensures.counts c.in_ok-add_points-3.ensures.counts)
    c.in_ok-hold_again.ensures.ok held.texts

pub returns-clause-follows : goal.returns-clause-follows
returns-clause-follows g c = record {
  follows = record { lines = c.add_points.ensures.follows; functions = c.add_points-2.ensures.follows; branches = c.add_points-3.ensures.follows };
  counts = λ none. record {
    lines = c.add_points.ensures.counted none.lines;
    functions = c.add_points-2.ensures.counted none.functions;
    branches = c.add_points-3.ensures.counted none.branches;
  };
}
