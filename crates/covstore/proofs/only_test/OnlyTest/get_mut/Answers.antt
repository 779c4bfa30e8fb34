use Rattle.covstore.proofs.Words.{◌≡◌, ℕ, true, false, is_some, Vec, [], ◌∷◌, refl, sym, ap, ◌∙◌, slice_cmp, lookup, nat_cmp}
use Rattle.covstore.specs.FileParts.{FileTests}
use Rattle.covstore.proofs.MapNames.{has_name}
use Rattle.covstore.proofs.OneTest.{one_found, one_missing, one_sorted, one_unwritten, one_written}
use Rattle.covstore.proofs.Settled.{file_name}
use Rattle.covstore.proofs.only_test.OnlyTest.get_mut.Goals as goal

pub returns-then-is_named : goal.returns-then-is_named
returns-then-is_named g c =
    let name = c.self.inside.name in
    let points = c.self.inside.points in
    let here = has_name file_name c.args.name.now in
    let entries : c.args.self.now.entries ≡ (name, points) ∷ [] = sym (ap (λ (t : FileTests g.row.A.Denot). t.entries) c.self.view_is) in
    let there : is_some (lookup here ((name, points) ∷ [])) ≡ true = sym c.is_named.ensures ∙ c.if-is_named.true in (
      (refl, (λ w. rw entries (sym (one_written here name points w there))), refl),
      record {
        writes_back = tt;
        value = rw entries (sym (one_found here name points there));
        ordered = rw entries (one_sorted (λ (a b : Vec ℕ g.row.A.Denot). slice_cmp nat_cmp a.items b.items) name);
      },
    )

pub returns : goal.returns
returns g c =
    let name = c.self.inside.name in
    let points = c.self.inside.points in
    let here = has_name file_name c.args.name.now in
    let entries : c.args.self.now.entries ≡ (name, points) ∷ [] = sym (ap (λ (t : FileTests g.row.A.Denot). t.entries) c.self.view_is) in
    let none : is_some (lookup here ((name, points) ∷ [])) ≡ false = sym c.is_named.ensures ∙ c.if-is_named.false in (
      (refl, (λ w. rw entries (sym (one_unwritten here name points w none))), c.self.view_is),
      record {
        writes_back = tt;
        value = rw entries (sym (one_missing here name points none));
        ordered = rw entries (one_sorted (λ (a b : Vec ℕ g.row.A.Denot). slice_cmp nat_cmp a.items b.items) name);
      },
    )
