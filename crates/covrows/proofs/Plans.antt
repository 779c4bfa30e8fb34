-- The plan of a submission: whether it has rows, which rows it adds, and why it is refused.
use Rattle.std.proofs.Common.{◌≡◌, ◌≢◌, ℕ, ◌<◌, ◌≤◌, Option, Some, None, List, [], ◌∷◌, ◌++◌, length, map, take, drop, sym, ap, ◌∙◌, subst, append-nil, arith}
use Rattle.std.specs.Prelude.{Result, Ok, Err, OnErr}
use Rattle.std.specs.List.{count_by}
use Rattle.std.specs.Str.{bytes_eq}
use Rattle.std.specs.declared.vec.Vec.{Vec}
use Rattle.std.proofs.lemmas.List.{length-map, nil_from_length}
use Rattle.covdata.specs.Lawful.{IsLawful}
use Rattle.covdata.specs.Row.{Row, SubmissionData, items_in, rows_of}
use Rattle.covtable.specs.Clash.{Agree, ClashData, checksums_in, clash_of}
use Rattle.covtable.specs.Content.{content_of, section_of}
use Rattle.covtable.specs.Refuse.{RefuseData, ClashRefuse, MemoryRefuse}
use Rattle.covtable.specs.Renamed.{renamed_row}
use Rattle.covtable.specs.Shown.{max_members}
use Rattle.covtable.specs.Table.{Table}
use Rattle.covtable.specs.Value.{key_cmp, key_of_row, keys_of}
use Rattle.covtable.proofs.Ascend.{length-ascending}
use Rattle.covtable.proofs.Bounds.{length-rows_of_sects}
use Rattle.covtable.proofs.RenamedTables.{renamed_none_counted, renamed_same}
use Rattle.covtable.proofs.WithoutContent.{sections_counted}
use Rattle.covrows.specs.Data.{row_data}
use Rattle.covrows.specs.View.{IsClashOrMemory, IsPlanOf, IsRefusedBy, rows_after, rows_in}
use Rattle.covrows.specs.declared.row.Row as code
use Rattle.covrows.specs.declared.rows.Plan.{Plan}
use Rattle.covrows.specs.declared.rows.Rows.{Rows}
use Rattle.covrows.proofs.Stands.{few_rows}
use Rattle.covrows.proofs.Walks.{first_part, other_part}

-- ---- rows

pub none_rows : (s : SubmissionData) → items_in s.sects ≡ 0 → rows_of s ≡ []
none_rows s none = nil_from_length (rows_of s) (length-rows_of_sects s.sects ∙ none)

pub some_rows : (s : SubmissionData) → (items_in s.sects ≡ 0 → ⊥) → rows_of s ≢ []
some_rows s some none = some (sym (length-rows_of_sects s.sects) ∙ ap length none)

pub nothing_more : (rows : List Row) (s : SubmissionData) → items_in s.sects ≡ 0 → rows ++ rows_of s ≡ rows
nothing_more rows s none = ap (λ (more : List Row). rows ++ more) (none_rows s none) ∙ append-nil rows

pub few_sections : (rows : List Row) → length (content_of rows) ≤ length rows
few_sections rows = omega (arith, length-map (keys_of rows) (section_of rows), length-ascending key_cmp (map key_of_row rows), length-map rows key_of_row)

-- ---- plans

pub plan_of_nothing : {A : Type 0} (table : Rows A) (s : SubmissionData) (plan : Plan A) → items_in s.sects ≡ 0 → table.members < max_members → IsLawful s → plan.rows ≡ None → IsPlanOf table s plan
plan_of_nothing {A} table s plan none members lawful is = record {
  members = members;
  rows = ap (λ (after : Option (Vec (code.Row A) A)). rows_after after (rows_in table)) is ∙ sym (nothing_more (rows_in table) s none);
  small = few_rows s lawful;
  agree = subst (λ (rows : List Row). Agree (checksums_in rows)) (sym (nothing_more (rows_in table) s none)) table.agree;
}

pub refused_by : (rows : List Row) (s : SubmissionData) (clash : ClashData) (r : RefuseData) → clash_of rows (rows_of s) ≡ Some clash → IsClashOrMemory clash r → IsRefusedBy rows s r
refused_by rows s clash (ClashRefuse told) is same = is ∙ ap (λ (c : ClashData). Some c) (sym same)
refused_by rows s clash MemoryRefuse is same = tt

-- the clash of the code's rows, of which the first are a table's and the others a submission's
pub clash_seen : {A : Type 0} (all : List (code.Row A)) (n : ℕ) (rows more : List Row) → map row_data all ≡ rows ++ more → n ≡ length rows → clash_of (map row_data (take n all)) (map row_data (drop n all)) ≡ clash_of rows more
clash_seen all n rows more joined e = λ i. clash_of (first_part row_data all n rows more joined e i) (other_part row_data all n rows more joined e i)

pub at_err : {T E P : Type 0} (r : Result T E) → P → OnErr r P
at_err (Ok x) p = tt
at_err (Err e) p = p

-- ---- renames that change nothing

first : List Row → Table → List Row
first other [] = other
first other (rows ∷ table) = rows

pub none_moved : (old new : List ℕ) (rows : List Row) → count_by (λ s. bytes_eq s.key.test old) (content_of rows) ≡ 0 → map (renamed_row old new) rows ≡ rows
unfolding first
none_moved old new rows none =
    ap (first []) (renamed_none_counted old new (rows ∷ [])
    (sections_counted old (rows ∷ []) ∙ ap (λ (rs : List Row). count_by (λ s. bytes_eq s.key.test old) (content_of rs)) (append-nil rows) ∙ none))

pub same_moved : (old new : List ℕ) (rows : List Row) → old ≡ new → map (renamed_row old new) rows ≡ rows
unfolding first
same_moved old new rows same = ap (λ (name : List ℕ). map (renamed_row old name) rows) (sym same) ∙ ap (first []) (renamed_same old (rows ∷ []))
