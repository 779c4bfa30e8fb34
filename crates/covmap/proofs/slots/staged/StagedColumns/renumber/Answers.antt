use Rattle.std.proofs.Common.{◌≡◌, ◌∙◌, ◌<◌, ◌+◌, ◌^◌, ◌++◌, refl, ap, sym, subst, map, take, drop, length}
use Rattle.std.specs.List.{AllByRecursion}
use Rattle.covmap.specs.Staged.{AreAscending, number_after}
use Rattle.covmap.proofs.StagedGrowth.{all_seen, moved_seen, moved_ascending}
use Rattle.covmap.proofs.MapCommits.{written_back}
use Rattle.covmap.proofs.SlotSearch.{length_map}
use Rattle.covmap.proofs.slots.staged.StagedColumns.renumber.Goals as goal

pub renumber-requires : goal.renumber-requires
renumber-requires g c =
    let few = subst (AllByRecursion (λ column. column.0 + 1 < 2 ^ 64)) (sym c.self.view_is) c.requires in
    subst (AllByRecursion (λ column. column.0 + 1 < 2 ^ 64)) (sym c.deref_mut.ensures.value)
    (all_seen (λ column. column.0 + 1 < 2 ^ 64) (λ column. (column.0, column.1.items)) c.self.inside.columns.items few)

pub returns : goal.returns
returns g c =
    let columns = c.self.inside.columns in
    let new = c.renumber.new.columns in
    let is = c.renumber.ensures ∙ ap (map (λ column. (number_after c.args.page column.0, column.1))) c.deref_mut.ensures.value in
    let long : columns.len ≡ length new = columns.ok.0 ∙ sym (ap length is ∙ length_map (λ column. (number_after c.args.page column.0, column.1)) columns.items) in
    moved_seen (λ column. (column.0, column.1.items)) (λ column. (number_after c.args.page column.0, column.1)) c.args.page columns.items (take columns.len (new ++ drop (length new) columns.items)) c.args.self.now
    (λ column. refl) c.self.view_is (written_back new (drop (length new) columns.items) columns.len long ∙ is)

pub invariant_of-self : goal.invariant_of-self
invariant_of-self g c = subst AreAscending (sym (returns g c)) (moved_ascending c.args.page c.args.self.now (subst AreAscending c.self.view_is c.self.invariant))
