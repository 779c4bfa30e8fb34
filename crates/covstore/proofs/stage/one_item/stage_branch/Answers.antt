use Rattle.covstore.proofs.Words.{refl, index_staged, Branch, test_staged}
use Rattle.covstore.proofs.EachKind.{room_in}
use Rattle.covstore.proofs.StepsKept.{keeps_point}
use Rattle.covstore.proofs.stage.one_item.stage_branch.Goals as goal

pub stage_addend-requires-clause-room : goal.stage_addend-requires-clause-room
stage_addend-requires-clause-room g c = room_in Branch _ _ c.requires.room

pub returns-clause-counts : goal.returns-clause-counts
returns-clause-counts g c =
    keeps_point Branch c.stage_addend.new.points.staged c.stage_addend.new.kept.staged (test_staged c.args.test.now) (index_staged c.args.index.now) _ c.in_ok-stage_addend.ensures.counts refl (λ line. refl) refl
