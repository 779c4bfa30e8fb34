-- A store after a test is dropped: what it represents, and its totals.
use Rattle.covstore.proofs.Words.{◌≡◌, ℕ, ◌≤◌, ◌^◌, not, List, [], ◌∷◌, length, filter, map, refl, sym, ap, ◌∙◌, arith, AllByRecursion, bytes_eq, length-map, length-filter, File, Totals, SectionData, content_at, AreWithoutTest, FitTotals, file_committed, names_with, IsStore, files_committed, FileData, IsConsistentFile, has_points_of, sections_of, totals_in, StandsFor, StoreData, Table, all_rows, AreTotals, totals_of}
use Rattle.std.specs.List.{count_by}
use Rattle.covtable.specs.Without.{is_of_test, sections_of_test, without_test}
use Rattle.covstore.proofs.AddsPlace.{state_agrees}
use Rattle.covstore.proofs.DropsRest.{files_without}
use Rattle.covstore.proofs.ExchangedFiles.{totals_few}
use Rattle.covstore.proofs.Prepares.{rows_in_table}
use Rattle.covstore.proofs.StateSections.{sections_are}
use Rattle.covstore.proofs.Stores.{store_bounds, store_of, store_sections, store_totals}
use Rattle.covtable.proofs.WithoutContent.{content_left, content_without, rows_without, sections_counted, agree_left}
use Rattle.covstore.proofs.WithoutSections.{count_in_files}
use Rattle.covstore.proofs.WithoutState.{fewer, state_without, store_without}

module _ (test : List ℕ) (members : ℕ) (committed : Totals) (files : List (List ℕ × FileData)) (is : IsStore members committed files) where
  -- the sections of other tests
  abbrev of_others : List SectionData → List SectionData
  of_others sections = filter (λ s. not (bytes_eq s.key.test test)) sections

  module _ (after : List (List ℕ × FileData)) (are : AreWithoutTest test files after) where
    left : IsStore members (totals_in after) after
    left = store_without test members committed files after is are (totals_in after) refl

    pub sections_left : sections_of after ≡ of_others (sections_of files)
    sections_left =
        let state = state_without test (all_rows is.own) files after is.state are in
        sections_are (rows_without test (all_rows is.own)) after state (state_agrees (rows_without test (all_rows is.own)) after state)
        ∙ content_left test (all_rows is.own) ∙ ap of_others (sym (store_sections members committed files is))

    pub totals_bounds : AreTotals (totals_in after)
    totals_bounds = store_bounds members (totals_in after) after left

    pub totals_fit : FitTotals (totals_in after)
    totals_fit =
        let few : length (all_rows left.own) ≤ 2 ^ 47 = omega (arith, rows_in_table left.own left.small, left.few) in
        let most = totals_few (all_rows left.own) after left.state in
        record {
          lf = omega (arith, few, most.lf);
          lh = omega (arith, few, most.lh);
          ff = omega (arith, few, most.ff);
          fh = omega (arith, few, most.fh);
          bf = omega (arith, few, most.bf);
          bh = omega (arith, few, most.bh);
        }

    -- the totals are those of a table with this content, after the test is dropped from it
    pub totals_left : (table : Table) → sections_of files ≡ content_at table → totals_in after ≡ totals_of (content_at (without_test test table))
    totals_left table content =
        store_totals members (totals_in after) after left ∙ ap totals_of (sections_left ∙ ap of_others content ∙ sym (content_without test table))

    -- if the store represents a table, the store without the test represents the table without it
    pub stands_left : (staged after_staged : List (List ℕ × FileData)) (totals later : Totals) (table : Table) → StandsFor (store_of members files staged totals) table
        → StandsFor (store_of members after after_staged later) (without_test test table)
    stands_left staged after_staged totals later table stands = record {
      content = sections_left ∙ ap of_others stands.content ∙ sym (content_without test table);
      members = stands.members ∙ sym (length-map table (filter (λ row. not (is_of_test test row))));
      agree = agree_left table test stands.agree;
      few = omega (arith, stands.few, length-map table (filter (λ row. not (is_of_test test row))));
      small = fewer test table stands.small;
    }

  -- if these totals are those without the test of each table that the store represents, they are the totals of the files without the test
  pub totals_told : (store : StoreData) → store.sections ≡ sections_of files → store.members ≡ members → (totals : Totals)
      → ((table : Table) → StandsFor store table → totals ≡ totals_of (content_at (without_test test table))) → (after : List (List ℕ × FileData)) → AreWithoutTest test files after → totals ≡ totals_in after
  totals_told store sections counted totals told after are =
      let content = store_sections members committed files is in
      told is.own (record { content = sections ∙ content; members = counted ∙ is.counted; agree = is.agree; few = is.few; small = is.small })
      ∙ sym (totals_left after are is.own content)

  -- there are files that are these files without the test, and their totals fit in 64 bits
  pub some_left : (after : List (List ℕ × FileData)) × AreWithoutTest test files after × FitTotals (totals_in after)
  some_left = let found = files_without test files is.state.whole in (found.0, found.1, totals_fit found.0 found.1)

  -- the test has as many sections as there are files in which it has points
  pub sections_with : (table : Table) → sections_of files ≡ content_at table → count_by (λ pair. has_points_of test pair.1) files ≡ sections_of_test test table
  sections_with table content =
      count_in_files test files is.state.whole ∙ ap (count_by (λ s. bytes_eq s.key.test test)) content ∙ sym (sections_counted test table)

  -- the test has as many sections as there are names of such files
  pub sections_named : (table : Table) → sections_of files ≡ content_at table → length (names_with test files) ≡ sections_of_test test table
  sections_named table content =
      length-map (filter (λ pair. has_points_of test pair.1) files) (λ (pair : List ℕ × FileData). pair.0) ∙ length-filter (λ pair. has_points_of test pair.1) files ∙ sections_with table content

  pub names_counted : {X : Type 0} (name : X → List ℕ) (names : List X) (n : ℕ) → n ≡ length names → map name names ≡ names_with test files → (table : Table) → sections_of files ≡ content_at table → n ≡ sections_of_test test table
  names_counted name names n same are table content = same ∙ sym (length-map names name) ∙ ap length are ∙ sections_named table content

-- a store with the same content represents the same tables
pub stands_too : (store other : StoreData) (table : Table) → other.sections ≡ store.sections → other.members ≡ store.members → StandsFor store table → StandsFor other table
stands_too store other table sections members stands = record {
  content = sections ∙ stands.content;
  members = members ∙ stands.members;
  agree = stands.agree;
  few = stands.few;
  small = stands.small;
}

-- if the files as contracts see them are consistent, so are those of the map
pub whole_files : {K A : Type 0} (name : K → List ℕ) (pairs : List (K × File A)) → AllByRecursion (λ pair. IsConsistentFile pair.1) (files_committed name pairs) → AllByRecursion (λ pair. IsConsistentFile (file_committed pair.1)) pairs
whole_files name [] whole = tt
whole_files name (pair ∷ pairs) whole = (whole.0, whole_files name pairs whole.1)
