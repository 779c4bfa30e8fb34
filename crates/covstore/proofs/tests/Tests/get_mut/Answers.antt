use Rattle.covstore.proofs.Words.{◌≡◌, ℕ, Vec, [], refl, sym, ap, ◌∙◌, slice_cmp, nat_cmp}
use Rattle.covstore.specs.FileParts.{FileTests}
use Rattle.covstore.specs.TestsHeld.{tests_held}
use Rattle.covstore.proofs.OneTest.{none_sorted}
use Rattle.covstore.proofs.tests.Tests.get_mut.Goals as goal

pub returns-in-None : goal.returns-in-None
returns-in-None g c =
    let entries : c.args.self.now.entries ≡ [] = sym (ap (λ (t : FileTests g.row.A.Denot). t.entries) c.self.view_is) ∙ ap tests_held c.in-None.is in (
      (refl, (λ w. rw entries refl), c.self.view_is),
      record {
        writes_back = tt;
        value = rw entries refl;
        ordered = rw entries (none_sorted (λ (a b : Vec ℕ g.row.A.Denot). slice_cmp nat_cmp a.items b.items));
      },
    )
