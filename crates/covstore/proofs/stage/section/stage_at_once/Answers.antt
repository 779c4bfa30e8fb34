use Rattle.covstore.proofs.Words.{index_staged, test_staged}
use Rattle.covstore.specs.RunsView.{runs_seen}
use Rattle.covstore.proofs.AddsRoom.{has_room}
use Rattle.covstore.proofs.StepsMore.{held_both}
use Rattle.covstore.proofs.HeldChecksumsAdds.{held_add_in, room_of_held_in}
use Rattle.covstore.proofs.FollowsSteps.{follows_both}
use Rattle.covstore.proofs.stage.section.stage_at_once.Goals as goal

pub hold_checksums-requires : goal.hold_checksums-requires
hold_checksums-requires g c = record {
  room = has_room c.args.items.now (test_staged c.args.test.now) (index_staged c.args.index.now) c.requires.room;
  ascend = c.requires.ascend;
  follows = c.requires.follows;
}

pub stage_runs-requires : goal.stage_runs-requires
stage_runs-requires g c = record {
  room = room_of_held_in c.args.items.now (runs_seen c.in_ok-runs.runs) c.in_ok-runs.ensures c.args.test.now c.hold_checksums.new.test c.args.index.now c.hold_checksums.new.index c.hold_checksums.ensures.test
      c.in_ok-hold_checksums.ensures.ok c.requires.room;
  follows = c.hold_checksums.ensures.follows.follows;
}

pub returns-clause-index_committed : goal.returns-clause-index_committed
returns-clause-index_committed g c = held_both c.args.index.now c.hold_checksums.new.index c.stage_runs.new.index c.hold_checksums.ensures.index_committed c.stage_runs.ensures.index_committed

pub returns-clause-ok : goal.returns-clause-ok
returns-clause-ok g c =
    let e = c.in_ok-stage_runs.ensures in
    held_add_in c.args.items.now (runs_seen c.in_ok-runs.runs) c.in_ok-runs.ensures c.args.test.now c.hold_checksums.new.test c.args.index.now c.hold_checksums.new.index c.hold_checksums.ensures.test
    c.in_ok-hold_checksums.ensures.ok c.stage_runs.new.test c.stage_runs.new.index e.test e.counts e.held

pub returns-in_err-stage_runs-clause-follows : goal.returns-in_err-stage_runs-clause-follows
returns-in_err-stage_runs-clause-follows g c = follows_both c.args.index.now c.hold_checksums.new.index c.stage_runs.new.index c.hold_checksums.new.test c.stage_runs.new.test c.hold_checksums.ensures.follows c.stage_runs.ensures.follows

pub returns-clause-follows : goal.returns-clause-follows
returns-clause-follows g c = follows_both c.args.index.now c.hold_checksums.new.index c.stage_runs.new.index c.hold_checksums.new.test c.stage_runs.new.test c.hold_checksums.ensures.follows c.stage_runs.ensures.follows
