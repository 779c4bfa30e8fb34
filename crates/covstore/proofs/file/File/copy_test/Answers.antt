use Rattle.covstore.proofs.Words.{◌≡◌, [], sym, ap, ◌∙◌, subst, on_ok_weaker, KeepsIn, file_staged, file_committed, with_test, CopiesIn, HasRoomToCopyIn, FileData, test_of, value_of, slice_cmp, nat_cmp}
use Rattle.std.specs.Option.{is_some}
use Rattle.covstore.proofs.KeepsMore.{file_keeps, keeps_both, keeps_same, made_ready, test_keeps}
use Rattle.covstore.proofs.Ready.{copies_ready, other_test, room_to_copy}
use Rattle.covstore.proofs.file.File.copy_test.Goals as goal

pub returns-in_err-open-clause-committed : goal.returns-in_err-open-clause-committed
returns-in_err-open-clause-committed g c = keeps_same (file_committed c.args.self.now) (file_committed c.open.new.self) c.in_err-open.ensures.err_committed

pub copy_points-requires-clause-room : goal.copy_points-requires-clause-room
copy_points-requires-clause-room g c =
    let before = file_staged c.args.self.now in
    let old = c.args.old.now in
    let new = c.args.new.now in
    subst (HasRoomToCopyIn old) (sym c.in_ok-open.ensures.staged)
    (room_to_copy before (with_test new before) (test_keeps new before) old (other_test new old before.tests (λ same. c.requires.apart (sym same))) c.requires.room)

pub copy_points-requires-clause-there : goal.copy_points-requires-clause-there
copy_points-requires-clause-there g c =
    let new = c.args.new.now in
    ap (λ (f : FileData). is_some (value_of (slice_cmp nat_cmp) new f.tests)) c.in_ok-open.ensures.staged ∙ ap is_some (made_ready new (test_of []) (file_staged c.args.self.now).tests).1

pub copy_points-requires-clause-same : goal.copy_points-requires-clause-same
copy_points-requires-clause-same g c =
    let old = c.args.old.now in
    let new = c.args.new.now in
    let apart : new ≡ old → ⊥ = λ same. c.requires.apart (sym same) in
    ap (λ (f : FileData). value_of (slice_cmp nat_cmp) old f.tests) c.in_ok-open.ensures.staged ∙ other_test new old (file_staged c.args.self.now).tests apart ∙ c.requires.same
    ∙ sym (ap (λ (f : FileData). value_of (slice_cmp nat_cmp) old f.tests) c.in_ok-open.ensures.committed ∙ other_test new old (file_committed c.args.self.now).tests apart)

pub returns-clause-committed : goal.returns-clause-committed
returns-clause-committed g c =
    let before = file_committed c.args.self.now in
    let after = file_committed c.copy_points.new.self in
    let ready = with_test c.args.new.now before in
    keeps_both before ready after (test_keeps c.args.new.now before)
    (subst (λ (file : FileData). KeepsIn file after) c.in_ok-open.ensures.committed (file_keeps (file_committed c.open.new.self) after c.copy_points.ensures.committed))

pub returns-clause-ok : goal.returns-clause-ok
returns-clause-ok g c =
    let before = file_staged c.args.self.now in
    let old = c.args.old.now in
    let new = c.args.new.now in
    let after = file_staged c.copy_points.new.self in
    on_ok_weaker c.copy_points.result
    (λ copies. copies_ready before (with_test new before) (test_keeps new before) old new after (subst (λ (file : FileData). CopiesIn old new file after) c.in_ok-open.ensures.staged copies))
    c.copy_points.ensures.ok

pub returns-in_err-open-clause-settled : goal.returns-in_err-open-clause-settled
returns-in_err-open-clause-settled g c = λ tests among settled. c.open.ensures.settled tests settled

pub returns-clause-settled : goal.returns-clause-settled
returns-clause-settled g c = λ tests among settled. c.copy_points.ensures.settled tests among (c.open.ensures.settled tests settled)
