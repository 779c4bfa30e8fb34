use Rattle.std.proofs.Common.{◌≡◌, ◌<◌, ◌++◌, ◌∷◌, List, length, map, sym, ap, subst, ◌∙◌, arith}
use Rattle.std.proofs.lemmas.List.{map-set, length-map}
use Rattle.covdata.specs.Row.{ItemData, item_data, with_start}
use Rattle.covdata.specs.Lawful.{FitsItem, AllFit}
use Rattle.covdata.specs.declared.item.Item.{Item}
use Rattle.covdata.specs.declared.item.Item.TheVariants as items
use Rattle.covdata.proofs.ItemStarts.{all_fit_set, stood, started, others_stay, fits_at}
use Rattle.covdata.proofs.item.Items.set_start.Goals as goal
use Rattle.covdata.proofs.item.Items.set_start.Goals.{in-Func, in_default}

pub returns : goal.returns
returns g c = λ before after item is at.
    let all = c.self.inside.items.items in
    let e : map (item_data {A = g.row.A.Denot}) all ≡ before ++ item ∷ after = c.self.view_is ∙ is in
    let len : length (map (item_data {A = g.row.A.Denot}) all) ≡ length all = length-map all (item_data {A = g.row.A.Denot}) in
    let low : c.args.at < length all = omega (arith, c.requires, len, ap length c.self.view_is) in
    let was : item_data c.index_mut.result.now ≡ item = ap item_data c.index_mut.ensures.value ∙ stood all c.args.at before after item c.index_mut.result.now e at low in
    elim c.match-index_mut.branch [
      | in-Func w ↦
          let new : Item g.row.A.Denot = items.Func w.in-Func.name c.args.line w.in-Func.count in
          let here : item_data new ≡ with_start c.args.line item = ap (λ (i : Item g.row.A.Denot). with_start c.args.line (item_data i)) (sym w.in-Func.is) ∙ ap (with_start c.args.line) was in
          rw w.self-inside-is (started all c.args.at new before after item e at ∙ ap (λ (x : ItemData). before ++ x ∷ after) here)
      | in_default w ↦
          let new = c.index_mut.result.now in
          let here : item_data new ≡ with_start c.args.line item = sym (others_stay new c.args.line w.in_default.not-Func) ∙ ap (with_start c.args.line) was in
          rw w.self-inside-is (started all c.args.at new before after item e at ∙ ap (λ (x : ItemData). before ++ x ∷ after) here)
    ]

pub invariant_of-self : goal.invariant_of-self
invariant_of-self g c =
    let all = c.self.inside.items.items in
    let len : length (map (item_data {A = g.row.A.Denot}) all) ≡ length all = length-map all (item_data {A = g.row.A.Denot}) in
    let low : c.args.at < length all = omega (arith, c.requires, len, ap length c.self.view_is) in
    let fits : FitsItem (item_data {A = g.row.A.Denot} c.index_mut.result.now) = subst (λ (i : Item g.row.A.Denot). FitsItem (item_data {A = g.row.A.Denot} i)) (sym c.index_mut.ensures.value) (fits_at all c.args.at c.index_mut.result.now c.self.invariant low) in
    elim c.match-index_mut.branch [
      | in-Func w ↦
          let new : Item g.row.A.Denot = items.Func w.in-Func.name c.args.line w.in-Func.count in
          let was : FitsItem (item_data {A = g.row.A.Denot} (items.Func w.in-Func.name w.in-Func.start w.in-Func.count)) = subst (λ (i : Item g.row.A.Denot). FitsItem (item_data {A = g.row.A.Denot} i)) w.in-Func.is fits in
          rw w.self-inside-is (subst (λ (xs : List ItemData). AllFit xs) (sym (map-set (item_data {A = g.row.A.Denot}) all c.args.at new)) (all_fit_set (map (item_data {A = g.row.A.Denot}) all) c.args.at (item_data {A = g.row.A.Denot} new) c.self.invariant (c.ranges.line.fits, was.1)))
      | in_default w ↦
          let new : Item g.row.A.Denot = c.index_mut.result.now in
          let fits' : FitsItem (item_data {A = g.row.A.Denot} new) = fits in
          rw w.self-inside-is (subst (λ (xs : List ItemData). AllFit xs) (sym (map-set (item_data {A = g.row.A.Denot}) all c.args.at new)) (all_fit_set (map (item_data {A = g.row.A.Denot}) all) c.args.at (item_data {A = g.row.A.Denot} new) c.self.invariant fits'))
    ]
