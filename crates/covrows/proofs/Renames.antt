-- Rows whose checksums agree, and which have the same content, still have the same content after a test is renamed in both.
use Rattle.std.proofs.Common.{◌≡◌, ℕ, ◌+◌, Bool, true, false, ◌&&◌, not, cond, List, [], ◌∷◌, ◌++◌, map, filter, refl, sym, ap, ◌∙◌, subst, inl, inr, ⊎_elim, arith}
use Rattle.std.specs.Prelude.{Contains}
use Rattle.std.specs.List.{sum_by}
use Rattle.std.specs.Str.{bytes_eq}
use Rattle.std.proofs.lemmas.Bool.{cond-true, false≢true}
use Rattle.std.proofs.lemmas.List.Concat.{flat_map-append}
use Rattle.std.proofs.lemmas.List.Sorted.{IsPermutation-append_comm}
use Rattle.std.proofs.lemmas.List.Sums.{sum_by-append, sum_by-cons}
use Rattle.covdata.specs.Row.{ItemData, Row}
use Rattle.covtable.specs.Clash.{Agree, Checksum, checksum_of_row, checksums_in}
use Rattle.covtable.specs.Content.{SectionData, content_of, section_of, section_with}
use Rattle.covtable.specs.Renamed.{moved_rows, renamed_row}
use Rattle.covtable.specs.Value.{Key, has_key, items_at, key_cmp, key_of_row, keys_of}
use Rattle.covtable.specs.Without.{is_of_test}
use Rattle.covtable.proofs.Alike.{AreAlike, alike_permuted}
use Rattle.covtable.proofs.AlikeContents.{content_alike}
use Rattle.covtable.proofs.Ascend.{In-ascending, In-to_ascending}
use Rattle.covtable.proofs.Contents.{content-append}
use Rattle.covtable.proofs.ContentsChecksums.{checksums_there}
use Rattle.covtable.proofs.ContentsKinds.{map_of_map, map_same, same_ascending}
use Rattle.covtable.proofs.ContentsLists.{In-filter, In-flat, In-unfilter, In-unflat}
use Rattle.covtable.proofs.ContentsSections.{same_section, sections_same}
use Rattle.covtable.proofs.Members.{Contains-from, In, In-from, In-joined, In-map, In-parts, In-unmap}
use Rattle.covtable.proofs.Orders.{keys_order}
use Rattle.covtable.proofs.RenamedTables.{agree_renamed, items_picked, row_stays}
use Rattle.covtable.proofs.WithoutContent.{content_left, held_before, rows_without}

-- ---- a list in which some elements change has the elements that stay and those that change

module _ {X : Type 0} (p : X → Bool) (f : X → X) (stays : (x : X) → p x ≡ false → f x ≡ x) where
  abbrev parts : List X → List X
  parts xs = filter (λ x. not (p x)) xs ++ map f (filter p xs)

  sums_parted : (g : X → ℕ) (xs : List X) → sum_by g (map f xs) ≡ sum_by g (filter (λ x. not (p x)) xs) + sum_by g (map f (filter p xs))
  sums_parted g [] = refl
  sums_parted g (x ∷ xs) = by (p x) refl (sums_parted g xs)
    where
      by : (b : Bool) → p x ≡ b → sum_by g (map f xs) ≡ sum_by g (filter (λ x. not (p x)) xs) + sum_by g (map f (filter p xs))
          → sum_by g (map f (x ∷ xs)) ≡ sum_by g (cond (not b) (x ∷ filter (λ x. not (p x)) xs) (filter (λ x. not (p x)) xs)) + sum_by g (map f (cond b (x ∷ filter p xs) (filter p xs)))
      by true e rest = omega (arith, rest, sum_by-cons g (f x) (map f xs), sum_by-cons g (f x) (map f (filter p xs)))
      by false e rest = omega (arith, rest, sum_by-cons g (f x) (map f xs), ap g (stays x e), sum_by-cons g x (filter (λ x. not (p x)) xs))

  there : (y : X) (xs : List X) → In y (map f xs) → In y (parts xs)
  there y xs i = let found = In-unmap f xs y i in by found.0 found.1 found.2 (p found.0) refl
    where
      by : (x : X) → In x xs → f x ≡ y → (b : Bool) → p x ≡ b → In y (parts xs)
      by x j is true e = In-joined (filter (λ x. not (p x)) xs) (map f (filter p xs)) y (inr (subst (λ (z : X). In z (map f (filter p xs))) is (In-map f (filter p xs) x (In-filter p xs x j e))))
      by x j is false e = In-joined (filter (λ x. not (p x)) xs) (map f (filter p xs)) y (inl (subst (λ (z : X). In z (filter (λ x. not (p x)) xs)) (sym (stays x e) ∙ is) (In-filter (λ x. not (p x)) xs x j (ap not e))))

  not_true : (b : Bool) → not b ≡ true → b ≡ false
  not_true true e = absurd (false≢true e)
  not_true false e = refl

  back : (y : X) (xs : List X) → In y (parts xs) → In y (map f xs)
  back y xs i =
      ⊎_elim {C = In y (map f xs)}
      (λ (j : In y (filter (λ x. not (p x)) xs)).
      let own = In-unfilter (λ x. not (p x)) xs y j in
      subst (λ (z : X). In z (map f xs)) (stays y (not_true (p y) own.1)) (In-map f xs y own.0))
      (λ (j : In y (map f (filter p xs))).
      let found = In-unmap f (filter p xs) y j in
      subst (λ (z : X). In z (map f xs)) found.2 (In-map f xs found.0 (In-unfilter p xs found.0 found.1).0))
      (In-parts (filter (λ x. not (p x)) xs) (map f (filter p xs)) y i)

  alike_parted : (xs : List X) → AreAlike (map f xs) (parts xs)
  alike_parted xs = record {
    there = λ y. there y xs;
    back = λ y. back y xs;
    sums = λ g. sums_parted g xs ∙ sym (sum_by-append g (filter (λ x. not (p x)) xs) (map f (filter p xs)));
  }

-- ---- the moved rows

module _ (old new : List ℕ) where
  other_stays : (row : Row) → is_of_test old row ≡ false → renamed_row old new row ≡ row
  other_stays row e = row_stays old new row (λ own. absurd (false≢true (sym e ∙ own)))

  -- a moved row is of this key if it has its file and the key has the new name
  abbrev moves_to : Key → Row → Bool
  moves_to key row = has_key key (renamed_row old new row)

  abbrev old_key : Key → Key
  old_key key = record { file = key.file; test = old }

  moved_items : (key : Key) (rows : List Row) → items_at key (moved_rows old new rows) ≡ cond (bytes_eq new key.test) (items_at (old_key key) rows) []
  moved_items key rows = items_picked (has_key key) (moves_to key) (renamed_row old new) (λ row. refl) (λ row. refl) (filter (is_of_test old) rows) ∙ by (bytes_eq new key.test) refl rows
    where
      one : (b : Bool) → bytes_eq new key.test ≡ b → (row : Row) → is_of_test old row ≡ true → moves_to key row ≡ (bytes_eq row.file key.file && b)
      one b e row own = ap (λ (test : List ℕ). bytes_eq row.file key.file && bytes_eq test key.test) (cond-true (bytes_eq row.test old) new row.test own) ∙ ap (λ (c : Bool). bytes_eq row.file key.file && c) e

      none : (c : Bool) → (c && false) ≡ false
      none true = refl
      none false = refl

      by : (b : Bool) → bytes_eq new key.test ≡ b → (rows : List Row) → map (λ row. row.item) (filter (moves_to key) (filter (is_of_test old) rows)) ≡ cond b (items_at (old_key key) rows) []
      by true e [] = refl
      by false e [] = refl
      by true e (row ∷ rows) = at (is_of_test old row) refl (by true e rows)
        where
          at : (c : Bool) → is_of_test old row ≡ c → map (λ (r : Row). r.item) (filter (moves_to key) (filter (is_of_test old) rows)) ≡ items_at (old_key key) rows
              → map (λ (r : Row). r.item) (filter (moves_to key) (cond c (row ∷ filter (is_of_test old) rows) (filter (is_of_test old) rows))) ≡ map (λ (r : Row). r.item) (cond (bytes_eq row.file key.file && c) (row ∷ filter (has_key (old_key key)) rows) (filter (has_key (old_key key)) rows))
          at true own rest =
              ap (λ (d : Bool). map (λ (r : Row). r.item) (cond d (row ∷ filter (moves_to key) (filter (is_of_test old) rows)) (filter (moves_to key) (filter (is_of_test old) rows)))) (one true e row own)
              ∙ both (bytes_eq row.file key.file && true) rest
            where
              both : (d : Bool) → map (λ (r : Row). r.item) (filter (moves_to key) (filter (is_of_test old) rows)) ≡ items_at (old_key key) rows
                  → map (λ (r : Row). r.item) (cond d (row ∷ filter (moves_to key) (filter (is_of_test old) rows)) (filter (moves_to key) (filter (is_of_test old) rows))) ≡ map (λ (r : Row). r.item) (cond d (row ∷ filter (has_key (old_key key)) rows) (filter (has_key (old_key key)) rows))
              both true rest = ap (λ (is : List ItemData). row.item ∷ is) rest
              both false rest = rest
          at false own rest = rest ∙ sym (ap (λ (d : Bool). map (λ (r : Row). r.item) (cond d (row ∷ filter (has_key (old_key key)) rows) (filter (has_key (old_key key)) rows))) (none (bytes_eq row.file key.file)))
      by false e (row ∷ rows) = at (is_of_test old row) refl (by false e rows)
        where
          at : (c : Bool) → is_of_test old row ≡ c → map (λ (r : Row). r.item) (filter (moves_to key) (filter (is_of_test old) rows)) ≡ []
              → map (λ (r : Row). r.item) (filter (moves_to key) (cond c (row ∷ filter (is_of_test old) rows) (filter (is_of_test old) rows))) ≡ []
          at true own rest =
              ap (λ (d : Bool). map (λ (r : Row). r.item) (cond d (row ∷ filter (moves_to key) (filter (is_of_test old) rows)) (filter (moves_to key) (filter (is_of_test old) rows)))) (one false e row own ∙ none (bytes_eq row.file key.file))
              ∙ rest
          at false own rest = rest

  module _ (rows others : List Row) (same : content_of rows ≡ content_of others) where
    same_items : (key other : Key) → section_with key (items_at other rows) ≡ section_with key (items_at other others)
    same_items key other =
        let e = sections_same rows others same other in
        same_section key (items_at other rows) (items_at other others) (ap (λ (s : SectionData). s.functions) e) (ap (λ (s : SectionData). s.branches) e) (ap (λ (s : SectionData). s.lines) e)

    moved_section : (key : Key) → section_of (moved_rows old new rows) key ≡ section_of (moved_rows old new others) key
    moved_section key =
        ap (section_with key) (moved_items key rows) ∙ by (bytes_eq new key.test) ∙ sym (ap (section_with key) (moved_items key others))
      where
        by : (b : Bool) → section_with key (cond b (items_at (old_key key) rows) []) ≡ section_with key (cond b (items_at (old_key key) others) [])
        by true = same_items key (old_key key)
        by false = refl

    key_there : (key : Key) → In key (map key_of_row rows) → In key (map key_of_row others)
    key_there key i =
        let keys : map (λ (k : Key). k) (keys_of rows) ≡ map (λ (k : Key). k) (keys_of others) =
        sym (map_of_map (section_of rows) (λ (s : SectionData). s.key) (λ (k : Key). k) (keys_of rows) (λ k. refl)) ∙ ap (map (λ (s : SectionData). s.key)) same
        ∙ map_of_map (section_of others) (λ (s : SectionData). s.key) (λ (k : Key). k) (keys_of others) (λ k. refl) in
        let found = In-unmap (λ (k : Key). k) (keys_of others) key
        (subst (In key) keys (In-map (λ (k : Key). k) (keys_of rows) key (In-to_ascending keys_order.exact key (map key_of_row rows) i))) in
        In-ascending keys_order.exact key (map key_of_row others) (subst (λ (k : Key). In k (keys_of others)) found.2 found.1)

    moved_key : (key : Key) → In key (map key_of_row (moved_rows old new rows)) → In key (map key_of_row (moved_rows old new others))
    moved_key key i =
        let moved = In-unmap key_of_row (moved_rows old new rows) key i in
        let row = In-unmap (renamed_row old new) (filter (is_of_test old) rows) moved.0 moved.1 in
        let own = In-unfilter (is_of_test old) rows row.0 row.1 in
        let other = In-unmap key_of_row others (key_of_row row.0) (key_there (key_of_row row.0) (In-map key_of_row rows row.0 own.0)) in
        let test : is_of_test old other.0 ≡ true = ap (λ (k : Key). bytes_eq k.test old) other.2 ∙ own.1 in
        let file : other.0.file ≡ row.0.file = ap (λ (k : Key). k.file) other.2 in
        let name : (renamed_row old new other.0).test ≡ (renamed_row old new row.0).test = cond-true (bytes_eq other.0.test old) new other.0.test test ∙ sym (cond-true (bytes_eq row.0.test old) new row.0.test own.1) in
        let is : key_of_row (renamed_row old new other.0) ≡ key = (λ i. record { file = file i; test = name i }) ∙ ap key_of_row row.2 ∙ moved.2 in
        subst (λ (k : Key). In k (map key_of_row (moved_rows old new others))) is
        (In-map key_of_row (moved_rows old new others) (renamed_row old new other.0) (In-map (renamed_row old new) (filter (is_of_test old) others) other.0 (In-filter (is_of_test old) others other.0 other.1 test)))

  module _ (rows others : List Row) (same : content_of rows ≡ content_of others) where
    moved_content : content_of (moved_rows old new rows) ≡ content_of (moved_rows old new others)
    moved_content =
        map_same (section_of (moved_rows old new rows)) (section_of (moved_rows old new others)) (keys_of (moved_rows old new rows)) (moved_section rows others same)
        ∙ ap (map (section_of (moved_rows old new others)))
        (same_ascending key_cmp keys_order (map key_of_row (moved_rows old new rows)) (map key_of_row (moved_rows old new others)) (moved_key rows others same) (moved_key others rows (sym same)))

    -- ---- the renamed rows

    left_content : content_of (rows_without old rows) ≡ content_of (rows_without old others)
    left_content = content_left old rows ∙ ap (filter (λ (s : SectionData). not (bytes_eq s.key.test old))) same ∙ sym (content_left old others)

  moved_held : (rows : List Row) (c : Checksum) → In c (checksums_in (moved_rows old new rows)) → In c (checksums_in rows)
  moved_held rows c i =
      let row = In-unflat checksum_of_row (filter (is_of_test old) rows) c (subst (In c) (agree_renamed old new (filter (is_of_test old) rows)) i) in
      In-flat checksum_of_row rows row.0 c (In-unfilter (is_of_test old) rows row.0 row.1).0 row.2

  agree_mixed : (rows others : List Row) → content_of rows ≡ content_of others → Agree (checksums_in rows) → Agree (checksums_in others) → Agree (checksums_in (rows_without old others ++ moved_rows old new rows))
  agree_mixed rows others same agree agrees a b i j = agrees a b (held a i) (held b j)
    where
      held : (c : Checksum) → Contains (checksums_in (rows_without old others ++ moved_rows old new rows)) c → Contains (checksums_in others) c
      held c k =
          ⊎_elim {C = Contains (checksums_in others) c}
          (λ (l : In c (checksums_in (rows_without old others))). held_before old others c (Contains-from (checksums_in (rows_without old others)) c l))
          (λ (r : In c (checksums_in (moved_rows old new rows))). Contains-from (checksums_in others) c (checksums_there rows others agree same c (moved_held rows c r)))
          (In-parts (checksums_in (rows_without old others)) (checksums_in (moved_rows old new rows)) c
          (subst (In c) (flat_map-append checksum_of_row (rows_without old others) (moved_rows old new rows)) (In-from (checksums_in (rows_without old others ++ moved_rows old new rows)) c k)))

  parted : (rows : List Row) → Agree (checksums_in rows) → content_of (map (renamed_row old new) rows) ≡ content_of (rows_without old rows ++ moved_rows old new rows)
  parted rows agree =
      content_alike (map (renamed_row old new) rows) (rows_without old rows ++ moved_rows old new rows) (alike_parted (is_of_test old) (renamed_row old new) other_stays rows)
      (subst Agree (sym (agree_renamed old new rows)) agree)

  pub content_renamed : (rows others : List Row) → Agree (checksums_in rows) → Agree (checksums_in others) → content_of rows ≡ content_of others → content_of (map (renamed_row old new) rows) ≡ content_of (map (renamed_row old new) others)
  content_renamed rows others agree agrees same =
      let left = rows_without old others in
      let moved = moved_rows old new rows in
      let moved_too = moved_rows old new others in
      parted rows agree
      ∙ content-append (rows_without old rows) left moved (left_content rows others same)
      ∙ content_alike (left ++ moved) (moved ++ left) (alike_permuted (left ++ moved) (moved ++ left) (IsPermutation-append_comm left moved)) (agree_mixed rows others same agree agrees)
      ∙ content-append moved moved_too left (moved_content rows others same)
      ∙ sym (content_alike (left ++ moved_too) (moved_too ++ left) (alike_permuted (left ++ moved_too) (moved_too ++ left) (IsPermutation-append_comm left moved_too)) (agree_mixed others others refl agrees agrees))
      ∙ sym (parted others agrees)
