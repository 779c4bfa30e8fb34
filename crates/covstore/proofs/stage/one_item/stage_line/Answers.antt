use Rattle.covstore.proofs.Words.{Bool, sym, ap, ◌∙◌, nat_cmp, value_of, held_more, is_above_at, has_checksum, line_with, test_staged, index_staged, Line}
use Rattle.std.specs.Option.{is_some}
use Rattle.covstore.specs.declared.index.FileIndex.{FileIndex}
use Rattle.covstore.proofs.EachKind.{room_in}
use Rattle.covstore.proofs.StepsItems.{held_by_test, holders_few}
use Rattle.covstore.proofs.StepsKept.{keeps_line_bare, keeps_line_checked}
use Rattle.covstore.proofs.StepsCounts.{line_bare, line_checked}
use Rattle.covstore.proofs.stage.one_item.stage_line.Goals as goal
use Rattle.covstore.proofs.stage.one_item.stage_line.Goals.{in-Some+in_ok-hold, in_default}

pub stage_addend-requires-clause-room : goal.stage_addend-requires-clause-room
stage_addend-requires-clause-room g c = room_in Line _ _ c.requires.room

pub hold-requires-clause-holds : goal.hold-requires-clause-holds
hold-requires-clause-holds g c = λ is.
    held_by_test _ _ c.requires.room c.args.line (ap (is_above_at has_checksum) (sym c.in_ok-before.ensures.before) ∙ sym c.is_checked-is_held.ensures ∙ is)

pub hold-requires-clause-room : goal.hold-requires-clause-room
hold-requires-clause-room g c = holders_few _ _ c.requires.room c.args.line

pub returns-clause-counts : goal.returns-clause-counts
returns-clause-counts g c =
    let line = c.args.line in
    let count = c.args.count in
    let test = test_staged c.args.test.now in
    let old = index_staged c.args.index.now in
    let before = value_of nat_cmp line test.lines in
    let told = c.in_ok-before.ensures in
    let value = line_with count c.is_some.result before in
    let points = c.stage_addend.new.points.staged in
    let kept = c.stage_addend.new.kept.staged in
    elim c.match-checksum.branch [
      | in-Some+in_ok-hold w ↦
          let some = c.is_some.ensures ∙ ap is_some w.in-Some.is in
          let holders = ap (λ (m : FileIndex g.row.A.Denot). m.checksums.staged) w.index-is
          ∙ w.in_ok-hold.ensures.ok
          ∙ ap (λ (b : Bool). held_more line b old.holders) (w.is_checked-is_held.ensures ∙ ap (is_above_at has_checksum) told.before) in
          keeps_line_checked line value points kept test old _ told.test told.counts (ap (λ (m : FileIndex g.row.A.Denot). (index_staged m).counts) w.index-is)
          (ap (λ (b : Bool). (line_with count b before).has_checksum) some ∙ line_checked count before) holders
      | in_default w ↦
          let none = c.is_some.ensures ∙ ap is_some w.in_default.is in
          keeps_line_bare line value points kept test old _ told.test told.counts (ap (λ (m : FileIndex g.row.A.Denot). (index_staged m).counts) w.index-is)
          (ap (λ (b : Bool). (line_with count b before).has_checksum) none ∙ line_bare count before) (ap (λ (m : FileIndex g.row.A.Denot). m.checksums.staged) w.index-is)
    ]
