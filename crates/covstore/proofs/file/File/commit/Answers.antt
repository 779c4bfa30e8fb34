use Rattle.covstore.proofs.Words.{Some, [], ◌∷◌, ◌++◌, refl, sym, ap, ◌∙◌, subst, File, IsSettledBut, test_staged}
use Rattle.covstore.specs.FileParts.{FileTests}
use Rattle.covstore.proofs.FollowsSole.{sole_written}
use Rattle.covstore.proofs.MapNames.{has_name}
use Rattle.covstore.proofs.Settled.{file_name, same_file, settled_found, settled_unfound, tests_written}
use Rattle.covstore.proofs.file.File.commit.Goals as goal

-- the file doesn't have the test

pub returns-in_default-clause-settled : goal.returns-in_default-clause-settled
returns-in_default-clause-settled g c = λ tests was.
    let file : File g.row.A.Denot = record { tests = record { entries = c.self.inside.tests.entries }; index = c.self.inside.index } in
    let later : File g.row.A.Denot = record { tests = record { entries = c.get_mut.follows.lender-at-none.entries }; index = c.self.inside.index } in
    let settled = subst (λ (f : File g.row.A.Denot). IsSettledBut (tests ++ c.args.test.now ∷ []) f) (sym c.self.view_is) was in
    settled_unfound tests c.args.test.now file later settled (sym c.in_default.ensures.value) (ap (λ (m : FileTests g.row.A.Denot). m.entries) c.get_mut.follows.holds-at-none) refl

-- the file has the test

pub invariant_of-self-2 : goal.invariant_of-self-2
invariant_of-self-2 g c =
    rw (c.get_mut.follows.holds c.commit.new.self)
    (sole_written (has_name file_name c.args.test.now) c.self.inside.tests.entries c.self.inside.index c.commit-2.new.self c.get_mut-points.result.now c.commit.new.self (sym c.in-Some.ensures.value ∙ ap Some (sym c.get_mut-points.ensures.value)) c.self.invariant
    c.commit-2.ensures.follows)

pub returns-clause-staged : goal.returns-clause-staged
returns-clause-staged g c =
    rw (← c.self.view_is)
    (same_file
    (tests_written test_staged c.args.test.now c.self.inside.tests.entries (c.get_mut.follows.lender c.commit.new.self).entries c.get_mut-points.result.now c.commit.new.self (c.get_mut.follows.holds c.commit.new.self) (sym c.in-Some.ensures.value ∙ ap Some (sym c.get_mut-points.ensures.value))
    c.commit.ensures.staged)
    c.commit-2.ensures.staged)

pub returns-clause-settled : goal.returns-clause-settled
returns-clause-settled g c = λ tests was.
    let file : File g.row.A.Denot = record { tests = record { entries = c.self.inside.tests.entries }; index = c.self.inside.index } in
    let later : File g.row.A.Denot = record { tests = record { entries = (c.get_mut.follows.lender c.commit.new.self).entries }; index = c.commit-2.new.self } in
    let settled = subst (λ (f : File g.row.A.Denot). IsSettledBut (tests ++ c.args.test.now ∷ []) f) (sym c.self.view_is) was in
    settled_found tests c.args.test.now file later settled c.get_mut-points.result.now c.commit.new.self c.get_mut.ensures.ordered (c.get_mut.follows.holds c.commit.new.self)
    (sym c.in-Some.ensures.value ∙ ap Some (sym c.get_mut-points.ensures.value)) (c.commit.ensures.staged ∙ sym c.commit.ensures.committed) (c.commit-2.ensures.staged ∙ sym c.commit-2.ensures.committed)
