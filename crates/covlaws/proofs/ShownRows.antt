-- The rows that a printed report is read as. They have the same files and tests as the rows that the report was printed from. For
-- each file and test, their items are those that its printed section shows. So they have the same content.
use Rattle.std.proofs.Common.{◌≡◌, Bool, true, ◌&&◌, List, [], ◌∷◌, ◌++◌, map, filter, refl, sym, ap, ◌∙◌, subst}
use Rattle.std.specs.List.{flat_map}
use Rattle.std.proofs.lemmas.Bool.{cond-true}
use Rattle.std.proofs.lemmas.List.Folds.{flat_map-map}
use Rattle.covtable.specs.Content.{SectionData, section_with, section_of, content_of}
use Rattle.covlaws.specs.Printable.{items_shown, sect_shown, submission_shown}
use Rattle.covdata.specs.Row.{ItemData, Row, rows_of_sect, rows_of}
use Rattle.covtable.specs.Value.{Key, key_cmp, key_of_row, keys_of, has_key, items_at}
use Rattle.covtable.proofs.ContentsChecksums.{own_row}
use Rattle.covtable.proofs.Ascend.{ascending_sorted, In-ascending}
use Rattle.covtable.proofs.ContentsLists.{In-flat, In-unflat, In-filter}
use Rattle.covtable.proofs.ContentsSections.{items_at-append, no_row}
use Rattle.covtable.proofs.Members.{In, In-map, In-unmap}
use Rattle.covtable.proofs.Orders.{keys_order}
use Rattle.covlaws.proofs.ShownLists.{flat_one, map_same_in, ascending_again}
use Rattle.covlaws.proofs.ShownValues.{section_shown, some_shown}

-- ---- the rows of one section

abbrev row_with : Key → ItemData → Row
row_with key item = record { test = key.test; file = key.file; item = item }

abbrev rows_with : Key → List ItemData → List Row
rows_with key items = map (row_with key) items

both_true : (x y : Bool) → x ≡ true → y ≡ true → (x && y) ≡ true
both_true x y a b = ap (λ (x : Bool). x && y) a ∙ b

items_own : (key : Key) (items : List ItemData) → items_at key (rows_with key items) ≡ items
items_own key [] = refl
items_own key (item ∷ items) =
    ap (map (λ (row : Row). row.item))
    (cond-true (has_key key (row_with key item)) (row_with key item ∷ filter (has_key key) (rows_with key items)) (filter (has_key key) (rows_with key items)) (own_row (row_with key item)))
    ∙ ap (λ (others : List ItemData). item ∷ others) (items_own key items)

-- each row of a section has the section's key
one_key : (key other : Key) (items : List ItemData) (row : Row) → In row (rows_with key items) → key_of_row row ≡ other → key ≡ other
one_key key other items row i e = let item = In-unmap (row_with key) items row i in ap key_of_row item.2 ∙ e

items_other : (key other : Key) (items : List ItemData) → (other ≡ key → ⊥) → items_at key (rows_with other items) ≡ []
items_other key other items differs =
    ap (map (λ (row : Row). row.item))
    (no_row key (rows_with other items) (λ i. let row = In-unmap key_of_row (rows_with other items) key i in differs (one_key other key items row.0 row.1 row.2)))

-- ---- the rows of all sections

items_at-flat : (key : Key) (g : Key → List Row) (keys : List Key) → items_at key (flat_map g keys) ≡ flat_map (λ k. items_at key (g k)) keys
items_at-flat key g [] = refl
items_at-flat key g (k ∷ keys) = items_at-append key (g k) (flat_map g keys) ∙ ap (λ (others : List ItemData). items_at key (g k) ++ others) (items_at-flat key g keys)

module _ (rows : List Row) where
  -- the rows that the section of a key is read as
  abbrev rows_at : Key → List Row
  rows_at key = rows_with key (items_shown (section_of rows key))

  abbrev shown_rows : List Row
  shown_rows = rows_of (submission_shown (content_of rows))

  shown_by_key : shown_rows ≡ flat_map rows_at (keys_of rows)
  shown_by_key =
      flat_map-map rows_of_sect sect_shown (content_of rows)
      ∙ flat_map-map (λ (s : SectionData). rows_of_sect (sect_shown s)) (section_of rows) (keys_of rows)

  items_shown_at : (key : Key) → In key (keys_of rows) → items_at key shown_rows ≡ items_shown (section_of rows key)
  items_shown_at key i =
      ap (items_at key) shown_by_key
      ∙ items_at-flat key rows_at (keys_of rows)
      ∙ flat_one keys_order.total (λ k. items_at key (rows_at k)) (keys_of rows) key (ascending_sorted keys_order.total (map key_of_row rows)) i
      (λ k differs. items_other key k (items_shown (section_of rows k)) differs)
      ∙ items_own key (items_shown (section_of rows key))

  -- ---- the keys

  shown_key : (key : Key) → In key (map key_of_row shown_rows) → In key (keys_of rows)
  shown_key key i =
      let row = In-unmap key_of_row shown_rows key i in
      let from = In-unflat rows_at (keys_of rows) row.0 (subst (In row.0) shown_by_key row.1) in
      subst (λ (k : Key). In k (keys_of rows)) (one_key from.0 key (items_shown (section_of rows from.0)) row.0 from.2 row.2) from.1

  item_of_key : (key : Key) → In key (keys_of rows) → (item : ItemData) × In item (items_at key rows)
  item_of_key key i =
      let row = In-unmap key_of_row rows key (In-ascending keys_order.exact key (map key_of_row rows) i) in
      let own : has_key key row.0 ≡ true = subst (λ (k : Key). has_key k row.0 ≡ true) row.2 (own_row row.0) in
      (row.0.item, In-map (λ (row : Row). row.item) (filter (has_key key) rows) row.0 (In-filter (has_key key) rows row.0 row.1 own))

  key_shown : (key : Key) → In key (keys_of rows) → In key (map key_of_row shown_rows)
  key_shown key i =
      let item = item_of_key key i in
      let shown = some_shown key (items_at key rows) item.0 item.1 in
      let row = row_with key shown.0 in
      let here : In row (rows_at key) = In-map (row_with key) (items_shown (section_of rows key)) shown.0 shown.1 in
      In-map key_of_row shown_rows row (subst (In row) (sym shown_by_key) (In-flat rows_at (keys_of rows) key row i here))

  keys_shown : keys_of shown_rows ≡ keys_of rows
  keys_shown = ascending_again key_cmp keys_order (map key_of_row rows) (map key_of_row shown_rows) shown_key key_shown

  -- ---- the content

  pub content_shown : content_of shown_rows ≡ content_of rows
  content_shown =
      ap (map (section_of shown_rows)) keys_shown
      ∙ map_same_in (section_of shown_rows) (section_of rows) (keys_of rows)
      (λ key i. ap (section_with key) (items_shown_at key i) ∙ section_shown key (items_at key rows))
