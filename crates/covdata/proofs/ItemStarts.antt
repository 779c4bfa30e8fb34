-- A list of items in which the start line of one function's item is replaced.
use Rattle.std.proofs.Common.{◌≡◌, ℕ, zero, suc, ◌<◌, List, [], ◌∷◌, ◌++◌, length, get_or, set, map, refl, sym, ap, ◌∙◌, arith}
use Rattle.std.proofs.Math.Seq.{get_or-append_seam}
use Rattle.std.proofs.lemmas.List.{map-set, set_at, get_or-map}
use Rattle.covdata.specs.Lawful.{FitsItem, AllFit}
use Rattle.covdata.specs.Row.{ItemData, with_start, item_data}
use Rattle.covdata.specs.declared.bytes.Bytes.{Bytes}
use Rattle.covdata.specs.declared.item.Item.{Item}
use Rattle.covdata.specs.declared.item.Item.TheVariants as items

pub all_fit_set : (xs : List ItemData) (at : ℕ) (x : ItemData) → AllFit xs → FitsItem x → AllFit (set xs at x)
all_fit_set [] at x all fits = all
all_fit_set (y ∷ ys) zero x all fits = (fits, all.1)
all_fit_set (y ∷ ys) (suc at) x all fits = (all.0, all_fit_set ys at x all.1 fits)

module _ {A : Type 0} where
  -- the item that the code finds at this place is the one between `before` and `after`
  pub stood : (items : List (Item A)) (at : ℕ) (before after : List ItemData) (item : ItemData) (d : Item A) → map item_data items ≡ before ++ item ∷ after → at ≡ length before → at < length items
      → item_data (get_or items at d) ≡ item
  stood items at before after item d e place low =
      sym (get_or-map item_data items at d (item_data d) low) ∙ ap (λ (xs : List ItemData). get_or xs at (item_data d)) e
      ∙ ap (λ (n : ℕ). get_or (before ++ item ∷ after) n (item_data d)) place ∙ get_or-append_seam before item after (item_data d)

  pub started : (items : List (Item A)) (at : ℕ) (new : Item A) (before after : List ItemData) (other : ItemData) → map item_data items ≡ before ++ other ∷ after → at ≡ length before
      → map item_data (set items at new) ≡ before ++ item_data new ∷ after
  started items at new before after other e place =
      map-set item_data items at new ∙ ap (λ (xs : List ItemData). set xs at (item_data new)) e ∙ set_at before other after (item_data new) at (sym place)

  pub fits_at : (items : List (Item A)) (at : ℕ) (d : Item A) → AllFit (map item_data items) → at < length items → FitsItem (item_data (get_or items at d))
  fits_at [] at d all low = absurd (omega (arith, low))
  fits_at (i ∷ is) zero d all low = all.0
  fits_at (i ∷ is) (suc at) d all low = fits_at is at d all.1 (omega (arith, low))

  pub others_stay : (i : Item A) (line : ℕ) → ((name : Bytes A) (start count : ℕ) → i ≡ items.Func name start count → ⊥) → with_start line (item_data i) ≡ item_data i
  others_stay (items.Line number count checksum) line h = refl
  others_stay (items.Branch number block branch taken) line h = refl
  others_stay (items.Func name start count) line h = absurd (h name start count refl)
