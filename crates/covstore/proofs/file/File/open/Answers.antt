use Rattle.covstore.proofs.Words.{◌≡◌, Vec, ℕ, List, refl, sym, ap, ◌∙◌, subst, slice_cmp, nat_cmp, File, Test, index_committed, index_staged, file_staged, file_committed, FileData, IsSettledBut, test_staged, test_committed}
use Rattle.covmap.proofs.SlotWrites.{on_err}
use Rattle.covstore.specs.FileParts.{FileTests}
use Rattle.covstore.specs.Follows.{CanFollow}
use Rattle.covstore.proofs.AddsSettled.{test_inserted}
use Rattle.covstore.proofs.FollowsSettled.{settled_same}
use Rattle.covstore.proofs.FollowsSole.{is_no_test, sole_inserted}
use Rattle.covstore.proofs.MapNames.{names_with}
use Rattle.covstore.proofs.Settled.{file_name, same_file}
use Rattle.covstore.proofs.WithTest.{not_found, test_there, test_opened}
use Rattle.covstore.proofs.file.File.open.Goals as goal

-- the test is there

pub returns-then-contains-clause-committed : goal.returns-then-contains-clause-committed
returns-then-contains-clause-committed g c =
    let file : File g.row.A.Denot = record { tests = record { entries = c.self.inside.tests.entries }; index = c.self.inside.index } in
    rw (← c.self.view_is) (test_there file_name test_committed (file_committed file) c.self.inside.tests.entries refl c.args.test.now c.contains.result c.contains.ensures c.if-contains.true)

pub returns-then-contains-clause-staged : goal.returns-then-contains-clause-staged
returns-then-contains-clause-staged g c =
    let file : File g.row.A.Denot = record { tests = record { entries = c.self.inside.tests.entries }; index = c.self.inside.index } in
    rw (← c.self.view_is) (test_there file_name test_staged (file_staged file) c.self.inside.tests.entries refl c.args.test.now c.contains.result c.contains.ensures c.if-contains.true)

-- the tests can't be counted

pub returns-in_err-start_counting-clause-err_committed : goal.returns-in_err-start_counting-clause-err_committed
returns-in_err-start_counting-clause-err_committed g c =
    on_err c.from_residual-in_err-start_counting.result
    (same_file (ap (λ (f : FileTests g.row.A.Denot). names_with file_name test_committed f.entries) c.start_counting.ensures.same) c.start_counting.ensures.committed)

pub returns-in_err-start_counting-clause-err_staged : goal.returns-in_err-start_counting-clause-err_staged
returns-in_err-start_counting-clause-err_staged g c =
    on_err c.from_residual-in_err-start_counting.result
    (same_file (ap (λ (f : FileTests g.row.A.Denot). names_with file_name test_staged f.entries) c.start_counting.ensures.same) c.start_counting.ensures.staged)

pub returns-in_err-start_counting-clause-settled : goal.returns-in_err-start_counting-clause-settled
returns-in_err-start_counting-clause-settled g c = λ tests settled. settled_same tests c.args.self.now c.start_counting.new.self c.start_counting.ensures.same c.start_counting.ensures.committed c.start_counting.ensures.staged settled

pub returns-in_err-start_counting-clause-there : goal.returns-in_err-start_counting-clause-there
returns-in_err-start_counting-clause-there g c = λ there.
    let first = ap (λ (f : File g.row.A.Denot). f.tests.entries) c.self.view_is in
    absurd (not_found file_name test_committed (file_committed c.args.self.now) c.self.inside.tests.entries (ap (names_with file_name test_committed) first) c.args.test.now c.contains.result c.contains.ensures c.if-contains.false there)

-- the test can't be inserted

pub returns-in_err-insert-clause-err_committed : goal.returns-in_err-insert-clause-err_committed
returns-in_err-insert-clause-err_committed g c =
    let entries = c.in_err-insert.ensures.err ∙ ap (λ (f : File g.row.A.Denot). f.tests.entries) c.self-2.view_is ∙ ap (λ (t : FileTests g.row.A.Denot). t.entries) c.start_counting.ensures.same in
    on_err c.from_residual-in_err-insert.result
    (same_file (ap (names_with file_name test_committed) entries) (ap (λ (f : File g.row.A.Denot). index_committed f.index) c.self-2.view_is ∙ c.start_counting.ensures.committed))

pub returns-in_err-insert-clause-err_staged : goal.returns-in_err-insert-clause-err_staged
returns-in_err-insert-clause-err_staged g c =
    let entries = c.in_err-insert.ensures.err ∙ ap (λ (f : File g.row.A.Denot). f.tests.entries) c.self-2.view_is ∙ ap (λ (t : FileTests g.row.A.Denot). t.entries) c.start_counting.ensures.same in
    on_err c.from_residual-in_err-insert.result
    (same_file (ap (names_with file_name test_staged) entries) (ap (λ (f : File g.row.A.Denot). index_staged f.index) c.self-2.view_is ∙ c.start_counting.ensures.staged))

pub returns-in_err-insert-clause-settled : goal.returns-in_err-insert-clause-settled
returns-in_err-insert-clause-settled g c = λ tests settled.
    let later : File g.row.A.Denot = record { tests = record { entries = c.insert.new.self.entries }; index = c.self-2.inside.index } in
    let same : later.tests ≡ c.start_counting.new.self.tests = ap (λ (es : List (Vec ℕ g.row.A.Denot × Test g.row.A.Denot)). record { entries = es }) c.in_err-insert.ensures.err ∙ ap (λ (f : File g.row.A.Denot). f.tests) c.self-2.view_is in
    settled_same tests c.args.self.now later (same ∙ c.start_counting.ensures.same) (ap (λ (f : File g.row.A.Denot). index_committed f.index) c.self-2.view_is ∙ c.start_counting.ensures.committed)
    (ap (λ (f : File g.row.A.Denot). index_staged f.index) c.self-2.view_is ∙ c.start_counting.ensures.staged) settled

pub returns-in_err-insert-clause-there : goal.returns-in_err-insert-clause-there
returns-in_err-insert-clause-there g c = λ there.
    let first = ap (λ (f : File g.row.A.Denot). f.tests.entries) c.self.view_is in
    absurd (not_found file_name test_committed (file_committed c.args.self.now) c.self.inside.tests.entries (ap (names_with file_name test_committed) first) c.args.test.now c.contains.result c.contains.ensures c.if-contains.false there)

-- the test is inserted

pub invariant_of-self-2 : goal.invariant_of-self-2
invariant_of-self-2 g c =
    let points = c.in_ok-points.points in
    let none = is_no_test points (ap test_committed c.in_ok-points.ensures ∙ c.new.ensures.committed) (ap test_staged c.in_ok-points.ensures ∙ c.new.ensures.staged) in
    rw c.in_ok-insert.ensures.entries
    (sole_inserted (λ (a b : Vec ℕ g.row.A.Denot). slice_cmp nat_cmp a.items b.items) c.self-2.inside.tests.entries c.in_ok-name.name points c.self-2.inside.index none
    (subst (λ (f : File g.row.A.Denot). CanFollow f.tests.entries f.index) (sym c.self-2.view_is) c.in_ok-start_counting.ensures.ok))

pub returns-clause-committed : goal.returns-clause-committed
returns-clause-committed g c =
    let first = ap (λ (f : File g.row.A.Denot). f.tests.entries) c.self.view_is in
    let entries = ap (λ (f : File g.row.A.Denot). f.tests.entries) c.self-2.view_is ∙ ap (λ (t : FileTests g.row.A.Denot). t.entries) c.start_counting.ensures.same in
    let opened = test_opened file_name test_committed (file_committed c.args.self.now) c.self-2.inside.tests.entries (ap (names_with file_name test_committed) entries) c.args.test.now c.contains.result
    (rw (entries ∙ sym first) c.contains.ensures) c.if-contains.false
    c.in_ok-name.name c.in_ok-name.ensures.items c.in_ok-points.points (ap test_committed c.in_ok-points.ensures ∙ c.new.ensures.committed) c.insert.new.self.entries c.in_ok-insert.ensures.entries in
    same_file (ap (λ (f : FileData). f.tests) opened) (ap (λ (f : File g.row.A.Denot). index_committed f.index) c.self-2.view_is ∙ c.start_counting.ensures.committed)

pub returns-clause-staged : goal.returns-clause-staged
returns-clause-staged g c =
    let first = ap (λ (f : File g.row.A.Denot). f.tests.entries) c.self.view_is in
    let entries = ap (λ (f : File g.row.A.Denot). f.tests.entries) c.self-2.view_is ∙ ap (λ (t : FileTests g.row.A.Denot). t.entries) c.start_counting.ensures.same in
    let opened = test_opened file_name test_staged (file_staged c.args.self.now) c.self-2.inside.tests.entries (ap (names_with file_name test_staged) entries) c.args.test.now c.contains.result
    (rw (entries ∙ sym first) c.contains.ensures) c.if-contains.false
    c.in_ok-name.name c.in_ok-name.ensures.items c.in_ok-points.points (ap test_staged c.in_ok-points.ensures ∙ c.new.ensures.staged) c.insert.new.self.entries c.in_ok-insert.ensures.entries in
    same_file (ap (λ (f : FileData). f.tests) opened) (ap (λ (f : File g.row.A.Denot). index_staged f.index) c.self-2.view_is ∙ c.start_counting.ensures.staged)

pub returns-clause-settled : goal.returns-clause-settled
returns-clause-settled g c = λ tests settled.
    let middle : File g.row.A.Denot = record { tests = record { entries = c.self-2.inside.tests.entries }; index = c.self-2.inside.index } in
    let later : File g.row.A.Denot = record { tests = record { entries = c.insert.new.self.entries }; index = c.self-2.inside.index } in
    test_inserted tests (λ a b. slice_cmp nat_cmp a.items b.items) middle later c.in_ok-name.name c.in_ok-points.points
    (ap test_staged c.in_ok-points.ensures ∙ c.new.ensures.staged ∙ sym (ap test_committed c.in_ok-points.ensures ∙ c.new.ensures.committed)) refl c.in_ok-insert.ensures.entries
    (subst (λ (f : File g.row.A.Denot). IsSettledBut tests f) (sym c.self-2.view_is) (settled_same tests c.args.self.now c.start_counting.new.self c.start_counting.ensures.same c.start_counting.ensures.committed c.start_counting.ensures.staged settled))

pub returns-clause-there : goal.returns-clause-there
returns-clause-there g c = λ there.
    let first = ap (λ (f : File g.row.A.Denot). f.tests.entries) c.self.view_is in
    absurd (not_found file_name test_committed (file_committed c.args.self.now) c.self.inside.tests.entries (ap (names_with file_name test_committed) first) c.args.test.now c.contains.result c.contains.ensures c.if-contains.false there)
