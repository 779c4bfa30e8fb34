-- Keys (files and tests) with their sections satisfy `IsKind` of `ContentsKinds` too.
use Rattle.std.proofs.Common.{◌≡◌, ℕ, Bool, true, false, ◌&&◌, List, [], ◌∷◌, ◌++◌, map, filter, refl, sym, ap, ◌∙◌, inl, inr}
use Rattle.std.specs.Cmp.Lexicographic.{slice_cmp}
use Rattle.std.specs.Ordering.{nat_cmp}
use Rattle.std.specs.Str.{bytes_eq}
use Rattle.std.proofs.lemmas.Bool.{cond-false, false≢true}
use Rattle.std.proofs.lemmas.List.{map-append}
use Rattle.std.proofs.lemmas.List.Elements.{filter-append}
use Rattle.std.proofs.lemmas.Slice.Eq.{bytes_eq-Decides}
use Rattle.covdata.specs.Points.{line_points, func_points, branch_points}
use Rattle.covdata.specs.Row.{ItemData, Row}
use Rattle.covtable.specs.Content.{FunctionValueData, BranchValueData, LineValueData, SectionData, function_at, branch_at, line_at, section_with, section_of, content_of}
use Rattle.covtable.specs.Value.{Key, key_cmp, key_of_row, has_key, items_at, branch_cmp}
use Rattle.covtable.proofs.ContentsKinds.{IsKind, same_values, same_with_more}
use Rattle.covtable.proofs.ContentsPoints.{lines_kind, functions_kind, branches_kind}
use Rattle.covtable.proofs.Members.{In}
use Rattle.covtable.proofs.Orders.{keys_order}

pub items_at-append : (key : Key) (xs ys : List Row) → items_at key (xs ++ ys) ≡ items_at key xs ++ items_at key ys
items_at-append key xs ys = ap (map (λ (row : Row). row.item)) (filter-append (has_key key) xs ys) ∙ map-append (λ (row : Row). row.item) (filter (has_key key) xs) (filter (has_key key) ys)

-- ---- the section of a key that no row has

pub both : (x y : Bool) → (x && y) ≡ true → (x ≡ true) × (y ≡ true)
both true true e = (refl, refl)
both true false e = absurd (false≢true e)
both false y e = absurd (false≢true e)

-- if `has_key` is true of a row, this is the row's key
pub own_key : (key : Key) (row : Row) → has_key key row ≡ true → key_of_row row ≡ key
own_key key row e =
    let same = both (bytes_eq row.file key.file) (bytes_eq row.test key.test) e in
    λ i. record { file = (bytes_eq-Decides row.file key.file).0 same.0 i; test = (bytes_eq-Decides row.test key.test).0 same.1 i }

pub no_row : (key : Key) (rows : List Row) → (In key (map key_of_row rows) → ⊥) → filter (has_key key) rows ≡ []
no_row key [] none = refl
no_row key (row ∷ rows) none = by (has_key key row) refl (no_row key rows (λ i. none (inr i)))
  where
    by : (own : Bool) → has_key key row ≡ own → filter (has_key key) rows ≡ [] → filter (has_key key) (row ∷ rows) ≡ []
    by true is others = absurd (none (inl (own_key key row is)))
    by false is others = cond-false (has_key key row) (row ∷ filter (has_key key) rows) (filter (has_key key) rows) is ∙ others

-- ---- the section of a key with more rows

pub same_section : (key : Key) (xs ys : List ItemData) → (section_with key xs).functions ≡ (section_with key ys).functions → (section_with key xs).branches ≡ (section_with key ys).branches
    → (section_with key xs).lines ≡ (section_with key ys).lines → section_with key xs ≡ section_with key ys
same_section key xs ys functions branches lines = λ i. record { key = key; functions = functions i; branches = branches i; lines = lines i }

section_more : (key : Key) (xs ys zs : List ItemData) → section_with key xs ≡ section_with key ys → section_with key (xs ++ zs) ≡ section_with key (ys ++ zs)
section_more key xs ys zs e =
    same_section key (xs ++ zs) (ys ++ zs)
    (same_with_more (slice_cmp nat_cmp) func_points function_at (λ (v : FunctionValueData). v.name) functions_kind xs ys (ap (λ (s : SectionData). s.functions) e) zs)
    (same_with_more branch_cmp branch_points branch_at (λ (v : BranchValueData). v.point) branches_kind xs ys (ap (λ (s : SectionData). s.branches) e) zs)
    (same_with_more nat_cmp line_points line_at (λ (v : LineValueData). v.line) lines_kind xs ys (ap (λ (s : SectionData). s.lines) e) zs)

pub sections_kind : IsKind key_cmp (map key_of_row) section_of (λ (s : SectionData). s.key)
sections_kind = record {
  order = keys_order;
  joins = λ xs ys. map-append key_of_row xs ys;
  own = λ rows key. refl;
  absent = λ rows key none. ap (λ (own : List Row). section_with key (map (λ (row : Row). row.item) own)) (no_row key rows none);
  extends = λ xs ys zs key e there back.
      ap (section_with key) (items_at-append key xs zs)
      ∙ section_more key (items_at key xs) (items_at key ys) (items_at key zs) e
      ∙ sym (ap (section_with key) (items_at-append key ys zs));
}

-- lists of rows with the same content have the same section for each key, even for a key that they don't have
pub sections_same : (rows others : List Row) → content_of rows ≡ content_of others → (key : Key) → section_of rows key ≡ section_of others key
sections_same rows others e key = same_values key_cmp (map key_of_row) section_of (λ (s : SectionData). s.key) sections_kind rows others e key

-- lists of rows with the same content have the same value for each line of each key
pub lines_same : (rows others : List Row) → content_of rows ≡ content_of others → (key : Key) (line : ℕ) → line_at (items_at key rows) line ≡ line_at (items_at key others) line
lines_same rows others e key line =
    same_values nat_cmp line_points line_at (λ (v : LineValueData). v.line) lines_kind (items_at key rows) (items_at key others)
    (ap (λ (s : SectionData). s.lines) (sections_same rows others e key)) line
