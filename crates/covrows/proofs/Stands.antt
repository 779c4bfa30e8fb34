-- What a list of rows represents after a step, for each table that it represents before.
use Rattle.std.proofs.Common.{◌≡◌, ℕ, ◌+◌, ◌≤◌, ◌<◌, not, None, List, [], ◌∷◌, ◌++◌, length, map, filter, count_by, refl, sym, ap, ◌∙◌, subst, arith}
use Rattle.std.specs.Prelude.{Result, Ok, Err, IfOk, IfErr, OnErr}
use Rattle.std.specs.List.{AllByRecursion, list_any}
use Rattle.std.specs.Str.{bytes_eq}
use Rattle.std.proofs.lemmas.List.{length-map, length_push}
use Rattle.std.proofs.lemmas.List.Concat.{flat_map-append}
use Rattle.std.proofs.lemmas.List.Sums.{count_by-le-length, length-filter}
use Rattle.covdata.specs.Lawful.{IsLawful, max_items}
use Rattle.covdata.specs.Row.{Row, SubmissionData, rows_of}
use Rattle.covtable.specs.Clash.{Agree, checksum_of_row, checksums_in, clash_of}
use Rattle.covtable.specs.Content.{SectionData, content_at, content_of}
use Rattle.covtable.specs.Refuse.{RefuseData, ClashRefuse, MemoryRefuse, IsRefusedAt}
use Rattle.covtable.specs.Renamed.{renamed, renamed_row}
use Rattle.covtable.specs.Shown.{ShownData, StandsFor, max_members}
use Rattle.covtable.specs.Table.{Table, all_rows, clash_at}
use Rattle.covtable.specs.Without.{is_of_test, sections_of_test, without_test}
use Rattle.covtable.proofs.Bounds.{length-rows_of_sects}
use Rattle.covtable.proofs.Clashes.{agree_empty, agree_none, agree_submitted, none_told, rows_accepted}
use Rattle.covtable.proofs.Contents.{clash_by_content, content-append, test_by_content}
use Rattle.covtable.proofs.Members.{All-joined}
use Rattle.covtable.proofs.RenamedTables.{agree_in_renamed, rows_renamed, small_renamed}
use Rattle.covtable.proofs.WithoutContent.{agree_left, content_left, content_without, held_before, sections_counted}
use Rattle.covrows.proofs.Renames.{content_renamed}
use Rattle.covrows.specs.View.{IsRefusedBy}

pub few_rows : (s : SubmissionData) → IsLawful s → length (rows_of s) ≤ max_items
few_rows s lawful = omega (arith, length-rows_of_sects s.sects, lawful.few)

pub agree_joined : (rows given : List Row) → Agree (checksums_in rows) → clash_of rows given ≡ None → Agree (checksums_in (rows ++ given))
agree_joined rows given agree none =
    subst Agree (sym (flat_map-append checksum_of_row rows given)) (none_told (checksums_in rows) (checksums_in given) agree none)

pub agree_kept : (test : List ℕ) (rows : List Row) → Agree (checksums_in rows) → Agree (checksums_in (filter (λ row. not (is_of_test test row)) rows))
agree_kept test rows agree a b i j = agree a b (held_before test rows a i) (held_before test rows b j)

fewer : (test : List ℕ) (table : Table) → AllByRecursion (λ rows. length rows ≤ max_items) table → AllByRecursion (λ rows. length rows ≤ max_items) (without_test test table)
fewer test [] small = tt
fewer test (rows ∷ table) small =
    let left = λ (row : Row). not (is_of_test test row) in
    (omega (arith, small.0, length-filter left rows, count_by-le-length left rows), fewer test table small.1)

-- ---- results

pub if_ok : {T E : Type 0} {P Q : T → Type 0} → ((x : T) → P x → Q x) → (r : Result T E) → IfOk r P → IfOk r Q
if_ok f (Ok x) h = f x h
if_ok f (Err e) h = tt

pub if_err : {T E : Type 0} {P Q : E → Type 0} → ((e : E) → P e → Q e) → (r : Result T E) → IfErr r P → IfErr r Q
if_err f (Ok x) h = tt
if_err f (Err e) h = f e h

pub on_err : {T E P Q : Type 0} → (P → Q) → (r : Result T E) → OnErr r P → OnErr r Q
on_err f (Ok x) h = tt
on_err f (Err e) h = f h

-- ---- tables

abbrev shown : List Row → ℕ → ShownData
shown rows members = record { sections = content_of rows; members = members }

pub stands_empty : StandsFor (shown [] 0) []
stands_empty = record {
  content = refl;
  members = refl;
  agree = agree_empty;
  few = omega arith;
  small = tt;
}

pub stands_as : (rows others : List Row) (members count : ℕ) (table : Table) → rows ≡ others → members ≡ count → StandsFor (shown others count) table → StandsFor (shown rows members) table
stands_as rows others members count table same counted stands = subst (λ (n : ℕ). StandsFor (shown rows n) table) (sym counted) (subst (λ (rs : List Row). StandsFor (shown rs count) table) (sym same) stands)

module _ (rows : List Row) (members : ℕ) (table : Table) (stands : StandsFor (shown rows members) table) where
  pub content_more : (given : List Row) → content_of (rows ++ given) ≡ content_at (table ++ given ∷ [])
  content_more given = content-append rows (all_rows table) given stands.content ∙ ap content_of (sym (rows_accepted table given))

  pub has_test_told : (test : List ℕ) → list_any (is_of_test test) rows ≡ list_any (λ row. bytes_eq row.test test) (all_rows table)
  has_test_told test =
      sym (test_by_content rows test) ∙ ap (list_any (λ (s : SectionData). bytes_eq s.key.test test)) stands.content ∙ test_by_content (all_rows table) test

  pub sections_told : (test : List ℕ) → count_by (λ s. bytes_eq s.key.test test) (content_of rows) ≡ sections_of_test test table
  sections_told test = ap (count_by (λ (s : SectionData). bytes_eq s.key.test test)) stands.content ∙ sym (sections_counted test table)

  pub without_told : (test : List ℕ) → filter (λ s. not (bytes_eq s.key.test test)) (content_of rows) ≡ content_at (without_test test table)
  without_told test = ap (filter (λ (s : SectionData). not (bytes_eq s.key.test test))) stands.content ∙ sym (content_without test table)

  pub stands_without : (test : List ℕ) → StandsFor (shown (filter (λ row. not (is_of_test test row)) rows) members) (without_test test table)
  stands_without test = record {
    content = content_left test rows ∙ without_told test;
    members = stands.members ∙ sym (length-map table (filter (λ row. not (is_of_test test row))));
    agree = agree_left table test stands.agree;
    few = omega (arith, stands.few, length-map table (filter (λ row. not (is_of_test test row))));
    small = fewer test table stands.small;
  }

  module _ (agree : Agree (checksums_in rows)) where
    pub clash_told : (given : List Row) → clash_of rows given ≡ clash_of (all_rows table) given
    clash_told given = clash_by_content rows (all_rows table) given agree stands.agree stands.content

    pub refused_told : (s : SubmissionData) (r : RefuseData) → IsRefusedBy rows s r → IsRefusedAt table s r
    refused_told s (ClashRefuse clash) told = sym (clash_told (rows_of s)) ∙ told
    refused_told s MemoryRefuse told = tt

    no_clash : (s : SubmissionData) → Agree (checksums_in (rows ++ rows_of s)) → clash_at table s ≡ None
    no_clash s all =
        sym (clash_told (rows_of s))
        ∙ agree_none (checksums_in rows) (checksums_in (rows_of s)) agree (subst Agree (flat_map-append checksum_of_row rows (rows_of s)) all)

    pub stands_more : (s : SubmissionData) → Agree (checksums_in (rows ++ rows_of s)) → members < max_members → length (rows_of s) ≤ max_items → StandsFor (shown (rows ++ rows_of s) (members + 1)) (table ++ rows_of s ∷ [])
    stands_more s all few small = record {
      content = content_more (rows_of s);
      members = omega (arith, stands.members, length_push table (rows_of s));
      agree = agree_submitted table s (no_clash s all) stands.agree;
      few = omega (arith, stands.members, few, length_push table (rows_of s));
      small = All-joined (λ (rows : List Row). length rows ≤ max_items) table (rows_of s ∷ []) stands.small (small, tt);
    }

    pub stands_renamed : (old new : List ℕ) → StandsFor (shown (map (renamed_row old new) rows) members) (renamed old new table)
    stands_renamed old new = record {
      content = content_renamed old new rows (all_rows table) agree stands.agree stands.content ∙ ap content_of (sym (rows_renamed old new table));
      members = stands.members ∙ sym (length-map table (map (renamed_row old new)));
      agree = agree_in_renamed old new table stands.agree;
      few = omega (arith, stands.few, length-map table (map (renamed_row old new)));
      small = small_renamed old new table stands.small;
    }
