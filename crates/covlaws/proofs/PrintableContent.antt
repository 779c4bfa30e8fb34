-- The content of lawful rows is printable, if their checksums agree.
use Rattle.std.proofs.Common.{◌≡◌, ℕ, Bool, true, false, cond, eqb, Option, Some, None, List, [], ◌∷◌, map, filter, refl, sym, ap, ◌∙◌, subst, inl, inr}
use Rattle.std.specs.Prelude.{Contains}
use Rattle.std.specs.List.{AllByRecursion, flat_map}
use Rattle.std.specs.List.Sorted.{IsStrictlySortedBy}
use Rattle.std.proofs.lemmas.Bool.{eqb-true}
use Rattle.covtable.specs.Clash.{Agree, Checksum, checksum_of, checksum_of_row, checksums_in}
use Rattle.covtable.specs.Content.{content_of, section_of}
use Rattle.covdata.specs.Lawful.{FitsItem, IsLawfulItem}
use Rattle.covlaws.specs.Printable.{IsLawfulRow, IsPrintable, IsPrintableSection, items_shown, sect_shown, submission_shown}
use Rattle.covdata.specs.Row.{ItemData, LineItem, FuncItem, BranchItem, Row, rows_of, rows_of_sect}
use Rattle.covtable.specs.Value.{Key, checksum_said, has_key, items_at, key_cmp, key_of_row, keys_of, line_checksum, line_value}
use Rattle.covtable.proofs.ContentsChecksums.{own_row}
use Rattle.covtable.proofs.WithoutContent.{All-picked}
use Rattle.covtable.proofs.ContentsSections.{own_key}
use Rattle.covlaws.proofs.PrintablePoints.{all_shown, first_in, fit_shown, lawful_shown, map_back, points_in_order, some_shown}
use Rattle.covtable.proofs.Members.{In, All-in, Contains-from, In-from, In-map, In-unmap, All-from, All-joined}
use Rattle.covlaws.proofs.Mapped.{All-mapped}
use Rattle.covtable.proofs.ContentsLists.{In-filter, In-flat, In-unfilter, In-unflat}
use Rattle.covtable.proofs.Ascend.{All-weaker, In-ascending, ascending_sorted}
use Rattle.covtable.proofs.Orders.{keys_order}

-- ---- the checksums that are shown are among those of the rows

abbrev checksum_with : List ℕ → ℕ → List ℕ → Checksum
checksum_with file line checksum = record { file = file; line = line; checksum = checksum }

-- a checksum that an item gives a line is among the item's checksums, as one of this line
said_of_line : (file : List ℕ) (line : ℕ) (said : List ℕ) (item : ItemData) → In said (checksum_said line item) → In (checksum_with file line said) (checksum_of file item)
said_of_line file line said (LineItem at count (Some checksum)) i = by (eqb at line) refl i
  where
    by : (own : Bool) → eqb at line ≡ own → In said (cond own (checksum ∷ []) []) → In (checksum_with file line said) (checksum_with file at checksum ∷ [])
    by true e (inl is) = inl (ap (λ (n : ℕ). checksum_with file n checksum) (eqb-true at line e) ∙ ap (checksum_with file line) is)
    by true e (inr none) = absurd none
    by false e j = absurd j
said_of_line file line said (LineItem at count None) i = absurd i
said_of_line file line said (FuncItem name start count) i = absurd i
said_of_line file line said (BranchItem at block branch taken) i = absurd i

module _ (rows : List Row) where
  -- a checksum that the items of a file and a test give a line is among the checksums of the rows
  said_among : (key : Key) (line : ℕ) (said : List ℕ) → In said (flat_map (checksum_said line) (items_at key rows)) → In (checksum_with key.file line said) (checksums_in rows)
  said_among key line said i =
      let item = In-unflat (checksum_said line) (items_at key rows) said i in
      let row = In-unmap (λ (row : Row). row.item) (filter (has_key key) rows) item.0 item.1 in
      let own = In-unfilter (has_key key) rows row.0 row.1 in
      let here : In (checksum_with row.0.file line said) (checksum_of_row row.0) =
      said_of_line row.0.file line said row.0.item (subst (λ (x : ItemData). In said (checksum_said line x)) (sym row.2) item.2) in
      subst (λ (k : Key). In (checksum_with k.file line said) (checksums_in rows)) (own_key key row.0 own.1)
      (In-flat checksum_of_row rows row.0 (checksum_with row.0.file line said) own.0 here)

  -- the checksums of an item in this file are among those of the rows
  abbrev IsAmong : List ℕ → ItemData → Type 0
  IsAmong file item = (c : Checksum) → In c (checksum_of file item) → In c (checksums_in rows)

  line_among : (key : Key) (line : ℕ) (said : Option (List ℕ)) → line_checksum line (items_at key rows) ≡ said → IsAmong key.file (LineItem line (line_value line (items_at key rows)) said)
  line_among key line None e c i = absurd i
  line_among key line (Some said) e c (inl is) =
      subst (λ (d : Checksum). In d (checksums_in rows)) is (said_among key line said (first_in (flat_map (checksum_said line) (items_at key rows)) said e))
  line_among key line (Some said) e c (inr none) = absurd none

  section_among : (key : Key) → AllByRecursion (IsAmong key.file) (items_shown (section_of rows key))
  section_among key =
      all_shown (IsAmong key.file) key (items_at key rows) (λ name i c j. absurd j) (λ name i c j. absurd j) (λ point i c j. absurd j)
      (λ line i. line_among key line (line_checksum line (items_at key rows)) refl)

  rows_among : (keys : List Key) → AllByRecursion (λ row. IsAmong row.file row.item) (flat_map rows_of_sect (map sect_shown (map (section_of rows) keys)))
  rows_among [] = tt
  rows_among (key ∷ keys) =
      All-joined (λ row. IsAmong row.file row.item) (rows_of_sect (sect_shown (section_of rows key))) (flat_map rows_of_sect (map sect_shown (map (section_of rows) keys)))
      (All-mapped (λ row. IsAmong row.file row.item) (λ (item : ItemData). record { test = key.test; file = key.file; item = item }) (items_shown (section_of rows key)) (section_among key))
      (rows_among keys)

  pub checksums_shown : (c : Checksum) → Contains (checksums_in (rows_of (submission_shown (content_of rows)))) c → Contains (checksums_in rows) c
  checksums_shown c shown =
      let given = rows_of (submission_shown (content_of rows)) in
      let from = In-unflat checksum_of_row given c (In-from (checksums_in given) c shown) in
      Contains-from (checksums_in rows) c (All-in (λ row. IsAmong row.file row.item) given from.0 (rows_among (keys_of rows)) from.1 c from.2)

-- ---- each section is printable

module _ (rows : List Row) (lawful : AllByRecursion IsLawfulRow rows) where
  -- what holds of the item of any lawful row holds of all items of a file and a test
  items_hold : (P : ItemData → Type 0) → ((row : Row) → IsLawfulRow row → P row.item) → (key : Key) → AllByRecursion P (items_at key rows)
  items_hold P each key =
      let own = filter (has_key key) rows in
      All-mapped P (λ (row : Row). row.item) own (All-weaker IsLawfulRow (λ row. P row.item) own each (All-picked IsLawfulRow (has_key key) rows lawful))

  row_printable : (row : Row) → In row rows → IsPrintableSection (section_of rows (key_of_row row))
  row_printable row i =
      let key = key_of_row row in
      let items = items_at key rows in
      let good = All-in IsLawfulRow rows row lawful i in
      record {
        order = points_in_order key items;
        some = some_shown key items row.item (In-map (λ (own : Row). own.item) (filter (has_key key) rows) row (In-filter (has_key key) rows row i (own_row row)));
        lawful = record { test = good.test; file = good.file; items = lawful_shown items (items_hold IsLawfulItem (λ own is. is.item) key) key };
        fit = fit_shown items (items_hold FitsItem (λ own is. is.fits) key) key;
      }

  key_printable : (key : Key) → In key (keys_of rows) → IsPrintableSection (section_of rows key)
  key_printable key i =
      let from = In-unmap key_of_row rows key (In-ascending keys_order.exact key (map key_of_row rows) i) in
      subst (λ (k : Key). IsPrintableSection (section_of rows k)) from.2 (row_printable from.0 from.1)

  pub printable_content : Agree (checksums_in rows) → IsPrintable (content_of rows)
  printable_content agree = record {
    keys = subst (IsStrictlySortedBy key_cmp) (sym (map_back (section_of rows) (λ s. s.key) (keys_of rows) (λ key. refl))) (ascending_sorted keys_order.total (map key_of_row rows));
    each = All-mapped IsPrintableSection (section_of rows) (keys_of rows) (All-from (λ key. IsPrintableSection (section_of rows key)) (keys_of rows) key_printable);
    agree = λ a b i j. agree a b (checksums_shown rows a i) (checksums_shown rows b j);
  }
