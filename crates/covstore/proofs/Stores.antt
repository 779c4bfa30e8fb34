-- A store over maps: what it represents, also after one more submission.
use Rattle.covstore.proofs.Words.{◌≡◌, ℕ, ◌+◌, ◌≤◌, List, [], ◌∷◌, ◌++◌, length, refl, sym, ap, ◌∙◌, subst, arith, length_push, Row, SubmissionData, rows_of, Totals, Agree, checksums_in, clash_of, content_of, IsPlanOf, PlanData, StandsFor, StoreData, IsStore, FileData, IsStateOf, sections_of, Table, all_rows, clash_at, AreTotals, totals_of, All-joined}
use Rattle.std.specs.Prelude.{None}
use Rattle.covdata.specs.Lawful.{IsLawful, max_items}
use Rattle.covtable.proofs.Bounds.{length-rows_of_sects}
use Rattle.covtable.proofs.Clashes.{agree_empty, agree_submitted, rows_accepted}
use Rattle.covtable.proofs.Contents.{clash_by_content, content-append}
use Rattle.covstore.proofs.StateSections.{no_rows, sections_are}
use Rattle.covstore.proofs.StateTotals.{totals_are}
use Rattle.covtable.proofs.TotalsDifferent.{are_totals}

-- ---- rows of a submission

pub few_rows : (s : SubmissionData) → IsLawful s → length (rows_of s) ≤ max_items
few_rows s lawful = omega (arith, length-rows_of_sects s.sects, lawful.few)

-- ---- the committed files

pub no_store : IsStore 0 (record { lf = 0; lh = 0; ff = 0; fh = 0; bf = 0; bh = 0 }) []
no_store = record {
  own = [];
  state = no_rows;
  agree = agree_empty;
  counted = refl;
  few = omega arith;
  small = tt;
  totals = refl;
}

module _ (members : ℕ) (committed : Totals) (files : List (List ℕ × FileData)) (is : IsStore members committed files) where
  pub store_sections : sections_of files ≡ content_of (all_rows is.own)
  store_sections = sections_are (all_rows is.own) files is.state is.agree

  pub store_totals : committed ≡ totals_of (sections_of files)
  store_totals = is.totals ∙ sym (totals_are (all_rows is.own) files is.state is.agree)

  pub store_bounds : AreTotals committed
  store_bounds = subst AreTotals (sym store_totals) (are_totals (sections_of files))

-- ---- one more submission

-- a store, seen as plain data
abbrev pub store_of : ℕ → List (List ℕ × FileData) → List (List ℕ × FileData) → Totals → StoreData
store_of members committed staged after = record { sections = sections_of committed; members = members; committed = committed; staged = staged; after = after }

module _ (members : ℕ) (totals : Totals) (committed staged : List (List ℕ × FileData)) (after : Totals) (is : IsStore members totals committed) (s : SubmissionData) (plan : PlanData)
    (p : IsPlanOf (store_of members committed staged after) s plan) where
  more : (clash_of (all_rows is.own) (rows_of s) ≡ None) × IsStateOf (all_rows is.own ++ rows_of s) staged × Agree (checksums_in (all_rows is.own ++ rows_of s))
  more = p.adds (all_rows is.own) is.state is.agree

  rows_more : all_rows (is.own ++ rows_of s ∷ []) ≡ all_rows is.own ++ rows_of s
  rows_more = rows_accepted is.own (rows_of s)

  pub store_more : IsStore (members + 1) plan.after staged
  store_more = record {
    own = is.own ++ rows_of s ∷ [];
    state = subst (λ (rows : List Row). IsStateOf rows staged) (sym rows_more) more.1;
    agree = subst (λ (rows : List Row). Agree (checksums_in rows)) (sym rows_more) more.2;
    counted = omega (arith, is.counted, length_push is.own (rows_of s));
    few = omega (arith, is.counted, p.few, length_push is.own (rows_of s));
    small = All-joined (λ (rows : List Row). length rows ≤ max_items) is.own (rows_of s ∷ []) is.small (few_rows s p.lawful, tt);
    totals = p.planned ∙ p.totals;
  }

  -- the submission is one more member of each table that the store represents
  module _ (table : Table) (stands : StandsFor (store_of members committed staged after) table) where
    same_content : content_of (all_rows is.own) ≡ content_of (all_rows table)
    same_content = sym (store_sections members totals committed is) ∙ stands.content

    no_clash : clash_at table s ≡ None
    no_clash = sym (clash_by_content (all_rows is.own) (all_rows table) (rows_of s) is.agree stands.agree same_content) ∙ more.0

    pub stands_more : StandsFor (store_of (members + 1) staged staged plan.after) (table ++ rows_of s ∷ [])
    stands_more = record {
      content =
          sections_are (all_rows is.own ++ rows_of s) staged more.1 more.2
          ∙ content-append (all_rows is.own) (all_rows table) (rows_of s) same_content
          ∙ ap content_of (sym (rows_accepted table (rows_of s)));
      members = omega (arith, stands.members, length_push table (rows_of s));
      agree = agree_submitted table s no_clash stands.agree;
      few = omega (arith, stands.members, p.few, length_push table (rows_of s));
      small = All-joined (λ (rows : List Row). length rows ≤ max_items) table (rows_of s ∷ []) stands.small (few_rows s p.lawful, tt);
    }

-- ---- stores that are equal part by part

pub same_members : {committed other : Totals} {files others : List (List ℕ × FileData)} (members count : ℕ) → members ≡ count → committed ≡ other → files ≡ others → IsStore count other others → IsStore members committed files
same_members {committed} {other} {files} {others} members count counted totals same is =
    subst (λ (m : ℕ). IsStore m committed files) (sym counted) (subst (λ (t : Totals). IsStore count t files) (sym totals) (subst (λ (xs : List (List ℕ × FileData)). IsStore count other xs) (sym same) is))

pub stands_same : (table : Table) (members count : ℕ) (committed staged others : List (List ℕ × FileData)) (after other : Totals) → members ≡ count → committed ≡ others
    → StandsFor (store_of count others others other) table → StandsFor (store_of members committed staged after) table
stands_same table members count committed staged others after other counted same stands = record {
  content = ap sections_of same ∙ stands.content;
  members = counted ∙ stands.members;
  agree = stands.agree;
  few = stands.few;
  small = stands.small;
}
