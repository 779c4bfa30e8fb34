use Rattle.covstore.proofs.Words.{[], sym, ap, ◌∙◌, subst, slice_cmp, nat_cmp, IfErr-weaker, on_ok_weaker, value_of, AddsItems, ClashesIn, HasRoomIn, KeepsIn, file_staged, file_committed, with_test, FileData, test_of}
use Rattle.std.specs.Option.{is_some}
use Rattle.covstore.proofs.KeepsMore.{keeps_both, keeps_same, made_ready, test_keeps}
use Rattle.covstore.proofs.Ready.{adds_ready, clashes_ready, room_ready}
use Rattle.covstore.proofs.file.File.add.Goals as goal

pub returns-in_err-open-clause-committed : goal.returns-in_err-open-clause-committed
returns-in_err-open-clause-committed g c = keeps_same (file_committed c.args.self.now) (file_committed c.open.new.self) c.in_err-open.ensures.err_committed

pub returns-in_err-open-clause-settled : goal.returns-in_err-open-clause-settled
returns-in_err-open-clause-settled g c = λ tests among settled. c.open.ensures.settled tests settled

pub stage_in-requires-clause-room : goal.stage_in-requires-clause-room
stage_in-requires-clause-room g c =
    let before = file_staged c.args.self.now in
    let test = c.args.test.now in
    let items = c.args.items.now in
    subst (HasRoomIn items) (sym c.in_ok-open.ensures.staged) (room_ready before (with_test test before) (test_keeps test before) items c.requires)

pub stage_in-requires-clause-there : goal.stage_in-requires-clause-there
stage_in-requires-clause-there g c =
    let test = c.args.test.now in
    ap (λ (f : FileData). is_some (value_of (slice_cmp nat_cmp) test f.tests)) c.in_ok-open.ensures.staged ∙ ap is_some (made_ready test (test_of []) (file_staged c.args.self.now).tests).1

pub returns-clause-committed : goal.returns-clause-committed
returns-clause-committed g c =
    let before = file_committed c.args.self.now in
    let after = file_committed c.stage_in.new.self in
    let ready = with_test c.args.test.now before in
    keeps_both before ready after (test_keeps c.args.test.now before) (subst (λ (file : FileData). KeepsIn file after) c.in_ok-open.ensures.committed c.stage_in.ensures.committed)

pub returns-clause-ok : goal.returns-clause-ok
returns-clause-ok g c =
    let before = file_staged c.args.self.now in
    let test = c.args.test.now in
    let items = c.args.items.now in
    let after = file_staged c.stage_in.new.self in
    on_ok_weaker c.stage_in.result
    (λ adds. adds_ready before (with_test test before) (test_keeps test before) items test after (subst (λ (file : FileData). AddsItems items test file after) c.in_ok-open.ensures.staged adds))
    c.stage_in.ensures.ok

pub returns-clause-clash : goal.returns-clause-clash
returns-clause-clash g c =
    let before = file_staged c.args.self.now in
    let test = c.args.test.now in
    let items = c.args.items.now in
    IfErr-weaker c.stage_in.result (ClashesIn items test (file_staged c.open.new.self)) (ClashesIn items test before)
    (λ stop clash. clashes_ready before (with_test test before) (test_keeps test before) items test stop (subst (λ (file : FileData). ClashesIn items test file stop) c.in_ok-open.ensures.staged clash))
    c.stage_in.ensures.clash

pub returns-clause-settled : goal.returns-clause-settled
returns-clause-settled g c = λ tests among settled. c.stage_in.ensures.settled tests among (c.open.ensures.settled tests settled)
