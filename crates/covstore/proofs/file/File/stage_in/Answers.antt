use Rattle.covstore.proofs.Words.{◌≡◌, ℕ, ◌≤◌, ◌^◌, true, List, Some, length, sym, ap, ◌∙◌, subst, arith, slice_cmp, nat_cmp, length-map, IfErr-weaker, on_ok_weaker, value_of, File, Clashes, AddsItems, ClashesIn, HasRoomIn, index_staged, file_staged, file_committed, file_with, IsSettledBut, TestData, test_staged, test_committed, names_order}
use Rattle.std.specs.Option.{is_some}
use Rattle.covstore.proofs.AddsFile.{adds_in, clashes_in, not_there, room_for, test_kept, test_value, test_written}
use Rattle.covstore.proofs.AddsSettled.{test_settled}
use Rattle.covstore.proofs.FollowsSole.{sole_found, sole_written}
use Rattle.covstore.proofs.KeepsMore.{file_keeps}
use Rattle.covstore.proofs.MapKeys.{seen}
use Rattle.covstore.proofs.MapNames.{has_name}
use Rattle.covstore.proofs.Settled.{file_name}
use Rattle.covstore.proofs.file.File.stage_in.Goals as goal

pub unreachable-requires : goal.unreachable-requires
unreachable-requires g c =
    not_there file_name test_staged c.args.test.now c.self.inside.tests.entries (sym c.in_default.ensures.value)
    (subst (λ (f : File g.row.A.Denot). is_some (value_of (slice_cmp nat_cmp) c.args.test.now (file_staged f).tests) ≡ true) (sym c.self.view_is) c.requires.there)

pub stage_items-requires-clause-follows : goal.stage_items-requires-clause-follows
stage_items-requires-clause-follows g c =
    sole_found (has_name file_name c.args.test.now) c.self.inside.tests.entries c.self.inside.index c.get_mut-2.result.now (sym c.in-Some.ensures.value ∙ ap Some (sym c.get_mut-2.ensures.value)) c.self.invariant

pub stage_items-requires-clause-room : goal.stage_items-requires-clause-room
stage_items-requires-clause-room g c =
    let pairs = c.self.inside.tests.entries in
    let tests = seen names_order file_name test_staged pairs in
    let points = c.get_mut-2.result.now in
    let test = c.args.test.now in
    let few : length tests ≤ 2 ^ 63 = omega (arith, length-map {B = List ℕ × TestData} pairs (λ pair. (file_name pair.0, test_staged pair.1)), c.len.ensures.len, c.len.ensures.small) in
    room_for c.args.items.now test tests (test_staged points) (index_staged c.self.inside.index) (test_value file_name test_staged test pairs points (sym c.in-Some.ensures.value ∙ ap Some (sym c.get_mut-2.ensures.value)))
    (subst (λ (f : File g.row.A.Denot). HasRoomIn c.args.items.now (file_staged f)) (sym c.self.view_is) c.requires.room) few

pub invariant_of-self : goal.invariant_of-self
invariant_of-self g c =
    let here = has_name file_name c.args.test.now in
    rw (c.get_mut.follows.holds c.stage_items.new.test)
    (sole_written here c.self.inside.tests.entries c.self.inside.index c.stage_items.new.index c.get_mut-2.result.now c.stage_items.new.test (sym c.in-Some.ensures.value ∙ ap Some (sym c.get_mut-2.ensures.value)) c.self.invariant
    c.stage_items.ensures.follows)

pub returns-clause-committed : goal.returns-clause-committed
returns-clause-committed g c =
    let pairs = c.self.inside.tests.entries in
    let after = c.stage_items.new.test in
    let file : File g.row.A.Denot = record { tests = record { entries = pairs }; index = c.self.inside.index } in
    let later : File g.row.A.Denot = record { tests = record { entries = (c.get_mut.follows.lender after).entries }; index = c.stage_items.new.index } in
    rw (← c.self.view_is)
    (file_keeps (file_committed file) (file_committed later) (record {
      tests = test_kept file_name test_committed c.args.test.now pairs c.get_mut-2.result.now after (c.get_mut.follows.lender after).entries c.get_mut.ensures.ordered (sym c.in-Some.ensures.value ∙ ap Some (sym c.get_mut-2.ensures.value))
          (c.get_mut.follows.holds after) c.stage_items.ensures.test_committed;
      index = c.stage_items.ensures.index_committed;
    }))

pub returns-clause-ok : goal.returns-clause-ok
returns-clause-ok g c =
    let pairs = c.self.inside.tests.entries in
    let tests = seen names_order file_name test_staged pairs in
    let points = c.get_mut-2.result.now in
    let after = c.stage_items.new.test in
    let items = c.args.items.now in
    let test = c.args.test.now in
    let index = index_staged c.self.inside.index in
    let found = sym c.in-Some.ensures.value ∙ ap Some (sym c.get_mut-2.ensures.value) in
    let written = test_written file_name test_staged test pairs points after (c.get_mut.follows.lender after).entries c.get_mut.ensures.ordered found (c.get_mut.follows.holds after) in
    rw (← c.self.view_is)
    (on_ok_weaker c.stage_items.result
    (λ adds. subst (λ (list : List (List ℕ × TestData)). AddsItems items test (file_with tests index) (file_with list (index_staged c.stage_items.new.index))) (sym written)
    (adds_in items test tests (test_staged points) index (test_value file_name test_staged test pairs points found) (test_staged after) (index_staged c.stage_items.new.index) adds))
    c.stage_items.ensures.ok)

pub returns-clause-clash : goal.returns-clause-clash
returns-clause-clash g c =
    let pairs = c.self.inside.tests.entries in
    let tests = seen names_order file_name test_staged pairs in
    let points = c.get_mut-2.result.now in
    let items = c.args.items.now in
    let test = c.args.test.now in
    let index = index_staged c.self.inside.index in
    rw (← c.self.view_is)
    (IfErr-weaker c.stage_items.result (Clashes items (test_staged points) index) (ClashesIn items test (file_with tests index))
    (λ stop. clashes_in items test tests (test_staged points) index (test_value file_name test_staged test pairs points (sym c.in-Some.ensures.value ∙ ap Some (sym c.get_mut-2.ensures.value))) stop) c.stage_items.ensures.clash)

pub returns-clause-settled : goal.returns-clause-settled
returns-clause-settled g c = λ tests among settled.
    let after = c.stage_items.new.test in
    let file : File g.row.A.Denot = record { tests = record { entries = c.self.inside.tests.entries }; index = c.self.inside.index } in
    let later : File g.row.A.Denot = record { tests = record { entries = (c.get_mut.follows.lender after).entries }; index = c.stage_items.new.index } in
    test_settled tests c.args.test.now among file later c.get_mut-2.result.now after (sym c.in-Some.ensures.value ∙ ap Some (sym c.get_mut-2.ensures.value)) (c.get_mut.follows.holds after) (subst (λ (f : File g.row.A.Denot). IsSettledBut tests f) (sym c.self.view_is) settled)
