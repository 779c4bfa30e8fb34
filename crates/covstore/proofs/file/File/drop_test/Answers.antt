use Rattle.covstore.proofs.Words.{◌≡◌, ℕ, option_map, List, sym, ap, ◌∙◌, subst, IsConsistentFile, file_with, File, IsSettledBut, IsWithoutTest, tests_without, file_committed, index_committed, TestData, test_committed}
use Rattle.covstore.proofs.DropsKept.{index_first, points_of_all, without_found, without_unfound}
use Rattle.covstore.proofs.DropsMaps.{removed_settled}
use Rattle.covstore.proofs.DropsTests.{others_of_none, removed}
use Rattle.covstore.proofs.FollowsSole.{sole_found, sole_removed}
use Rattle.covstore.proofs.MapNames.{has_name, names_with, value_of_named}
use Rattle.covstore.proofs.Settled.{file_name}
use Rattle.covstore.proofs.file.File.drop_test.Goals as goal

pub uncount_test-requires-clause-follows : goal.uncount_test-requires-clause-follows
uncount_test-requires-clause-follows g c =
    rw c.get.ensures (sole_found (has_name file_name c.args.test.now) c.self.inside.tests.entries c.self.inside.index c.in-Some.points (sym c.in-Some.ensures.value) c.self.invariant)

pub uncount_test-requires-clause-counted : goal.uncount_test-requires-clause-counted
uncount_test-requires-clause-counted g c =
    let entries = c.self.inside.tests.entries in
    let tests = names_with file_name test_committed entries in
    let test = c.args.test.now in
    let found = value_of_named file_name test_committed test entries ∙ ap (option_map test_committed) (sym c.in-Some.ensures.value) in
    rw c.get.ensures (points_of_all (tests_without test tests), index_first test (test_committed c.in-Some.points) tests (index_committed c.self.inside.index) (subst (λ (f : File g.row.A.Denot). IsConsistentFile (file_committed f)) (sym c.self.view_is) c.requires) found)

pub returns-in-Some-clause-committed : goal.returns-in-Some-clause-committed
returns-in-Some-clause-committed g c =
    let file : File g.row.A.Denot = record { tests = record { entries = c.self.inside.tests.entries }; index = c.self.inside.index } in
    let entries = c.self.inside.tests.entries in
    let tests = names_with file_name test_committed entries in
    let test = c.args.test.now in
    let index = index_committed c.self.inside.index in
    let rest = index_committed c.uncount_test.new.self in
    let points = test_committed c.in-Some.points in
    let found = value_of_named file_name test_committed test entries ∙ ap (option_map test_committed) (sym c.in-Some.ensures.value) in
    let left : names_with file_name test_committed c.remove.new.self.entries ≡ tests_without test tests =
    ap (names_with file_name test_committed) c.in-Some.ensures.entries ∙ removed file_name test_committed test entries (subst (λ (f : File g.row.A.Denot). IsConsistentFile (file_committed f)) (sym c.self.view_is) c.requires).ascending in
    let counted = c.uncount_test.ensures.committed (points_of_all (tests_without test tests)) (rw c.get.ensures (index_first test points tests index (subst (λ (f : File g.row.A.Denot). IsConsistentFile (file_committed f)) (sym c.self.view_is) c.requires) found)) in
    rw (← c.self.view_is)
    (subst (λ (list : List (List ℕ × TestData)). IsWithoutTest test (file_committed file) (file_with list rest)) (sym left)
    (without_found test points tests index (subst (λ (f : File g.row.A.Denot). IsConsistentFile (file_committed f)) (sym c.self.view_is) c.requires) found rest c.uncount_test.ensures.texts counted))

pub returns-in-Some-clause-settled : goal.returns-in-Some-clause-settled
returns-in-Some-clause-settled g c = λ tests settled.
    let file : File g.row.A.Denot = record { tests = record { entries = c.self.inside.tests.entries }; index = c.self.inside.index } in
    let later : File g.row.A.Denot = record { tests = record { entries = c.remove.new.self.entries }; index = c.uncount_test.new.self } in
    removed_settled tests (has_name file_name c.args.test.now) file later c.uncount_test.ensures.staged c.in-Some.ensures.entries (subst (λ (f : File g.row.A.Denot). IsSettledBut tests f) (sym c.self.view_is) settled)

pub invariant_of-self : goal.invariant_of-self
invariant_of-self g c =
    rw c.in-Some.ensures.entries (sole_removed (has_name file_name c.args.test.now) c.self.inside.tests.entries c.self.inside.index c.uncount_test.new.self c.in-Some.points (sym c.in-Some.ensures.value) c.self.invariant c.uncount_test.ensures.follows)

pub returns-in_default-clause-committed : goal.returns-in_default-clause-committed
returns-in_default-clause-committed g c =
    let file : File g.row.A.Denot = record { tests = record { entries = c.self.inside.tests.entries }; index = c.self.inside.index } in
    let entries = c.self.inside.tests.entries in
    let tests = names_with file_name test_committed entries in
    let test = c.args.test.now in
    let none = value_of_named file_name test_committed test entries ∙ ap (option_map test_committed) (sym c.in_default.ensures.value) in
    let left : names_with file_name test_committed c.remove.new.self.entries ≡ tests =
    ap (names_with file_name test_committed) c.in_default.ensures.entries ∙ removed file_name test_committed test entries (subst (λ (f : File g.row.A.Denot). IsConsistentFile (file_committed f)) (sym c.self.view_is) c.requires).ascending ∙ others_of_none test tests none in
    rw (← c.self.view_is)
    (subst (λ (list : List (List ℕ × TestData)). IsWithoutTest test (file_committed file) (file_with list (index_committed c.self.inside.index))) (sym left)
    (without_unfound test (file_committed file) (subst (λ (f : File g.row.A.Denot). IsConsistentFile (file_committed f)) (sym c.self.view_is) c.requires) none))
