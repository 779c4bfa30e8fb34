use Rattle.covstore.proofs.Words.{Vec, ℕ, refl, sym, ap, ◌∙◌, subst, AllByRecursion, File, file_committed, sections_of_file}
use Rattle.covstore.specs.ContentView.{IsFewOf, tests_seen}
use Rattle.covstore.proofs.SeenTests.{tests_of_pairs}
use Rattle.covstore.proofs.file.File.sections.Goals as goal

pub of-requires : goal.of-requires
of-requires g c =
    let name = λ (key : Vec ℕ g.row.A.Denot). key.items in
    let file : File g.row.A.Denot = record { tests = record { entries = c.self.inside.tests.entries }; index = c.self.inside.index } in
    subst (AllByRecursion IsFewOf) (tests_of_pairs name c.args.name.now (file_committed file) file.tests.entries refl ∙ sym (ap (tests_seen name c.args.name.now file.index.checksums.texts) c.iter.ensures.rest))
    (subst (λ (f : File g.row.A.Denot). AllByRecursion IsFewOf (sections_of_file (c.args.name.now, file_committed f))) (sym c.self.view_is) c.requires)

pub returns : goal.returns
returns g c =
    let name = λ (key : Vec ℕ g.row.A.Denot). key.items in
    let file : File g.row.A.Denot = record { tests = record { entries = c.self.inside.tests.entries }; index = c.self.inside.index } in
    rw (← c.self.view_is)
    (c.of.ensures ∙ ap (tests_seen name c.args.name.now file.index.checksums.texts) c.iter.ensures.rest ∙ sym (tests_of_pairs name c.args.name.now (file_committed file) file.tests.entries refl))
