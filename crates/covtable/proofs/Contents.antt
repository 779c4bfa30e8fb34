-- The content of rows: which tests it has, how large it is, and that equal contents stay equal after the same rows are added.
use Rattle.std.proofs.Common.{◌≡◌, ◌≤◌, ℕ, List, ◌++◌, length, map, filter, ◌∙◌, arith}
use Rattle.std.specs.declared.cmp.Ordering.{Ordering}
use Rattle.std.specs.Str.{bytes_eq}
use Rattle.std.specs.List.{flat_map, list_any}
use Rattle.std.proofs.lemmas.List.{length-map}
use Rattle.std.proofs.lemmas.List.Sums.{length-filter, count_by-le-length}
use Rattle.covdata.specs.Points.{line_point, func_point, branch_point}
use Rattle.covdata.specs.Row.{ItemData, Row}
use Rattle.covtable.specs.Ascending.{ascending}
use Rattle.covtable.specs.Clash.{Agree, checksums_in, clash_of}
use Rattle.covtable.specs.Content.{SectionData, section_of, content_of, function_at, branch_at, line_at}
use Rattle.covtable.specs.Value.{Key, key_cmp, key_of_row, keys_of, has_key, items_at}
use Rattle.covtable.proofs.Ascend.{In-ascending, In-to_ascending, length-ascending}
use Rattle.covtable.proofs.ContentsChecksums.{same_checksums_clash}
use Rattle.covtable.proofs.ContentsKinds.{same_with_more}
use Rattle.covtable.proofs.ContentsLists.{any-map, any_members}
use Rattle.covtable.proofs.ContentsSections.{sections_kind}
use Rattle.covtable.proofs.Orders.{keys_order}
use Rattle.covtable.proofs.Few.{few_parts, one_branch, one_function, one_line}

-- ---- tests

pub test_by_content : (rows : List Row) (test : List ℕ) → list_any (λ s. bytes_eq s.key.test test) (content_of rows) ≡ list_any (λ row. bytes_eq row.test test) rows
test_by_content rows test =
    let is_test = λ (key : Key). bytes_eq key.test test in
    any-map (λ (s : SectionData). bytes_eq s.key.test test) (section_of rows) (keys_of rows)
    ∙ any_members is_test (keys_of rows) (map key_of_row rows)
    (λ key i. In-ascending keys_order.exact key (map key_of_row rows) i)
    (λ key i. In-to_ascending keys_order.exact key (map key_of_row rows) i)
    ∙ any-map is_test key_of_row rows

-- ---- sizes

length-items_at : (key : Key) (rows : List Row) → length (items_at key rows) ≤ length rows
length-items_at key rows =
    omega (arith, length-map (filter (has_key key) rows) (λ (row : Row). row.item), length-filter (has_key key) rows, count_by-le-length (has_key key) rows)

few_points : {P V : Type 0} (cmp : P → P → Ordering) (point : ItemData → List P) (value : P → V) → ((item : ItemData) → length (point item) ≤ 1) → (rows : List Row) (key : Key)
    → length (map value (ascending cmp (flat_map point (items_at key rows)))) ≤ length rows
few_points cmp point value one rows key =
    let items = items_at key rows in
    omega (arith, length-map (ascending cmp (flat_map point items)) value, length-ascending cmp (flat_map point items), few_parts point one items, length-items_at key rows)

pub points_few : (rows : List Row) (key : Key) → (length (section_of rows key).functions ≤ length rows) × (length (section_of rows key).branches ≤ length rows) × (length (section_of rows key).lines ≤ length rows)
points_few rows key =
    let items = items_at key rows in
    (few_points _ func_point (function_at items) one_function rows key, few_points _ branch_point (branch_at items) one_branch rows key, few_points _ line_point (line_at items) one_line rows key)

-- ---- equal contents

-- if two lists of rows have the same content, they still do after the same rows are added to both
pub content-append : (rows others more : List Row) → content_of rows ≡ content_of others → content_of (rows ++ more) ≡ content_of (others ++ more)
content-append rows others more same = same_with_more key_cmp (map key_of_row) section_of (λ (s : SectionData). s.key) sections_kind rows others same more

-- lists of rows whose checksums agree, and which have the same content, have the same clash with given rows
pub clash_by_content : (rows others given : List Row) → Agree (checksums_in rows) → Agree (checksums_in others) → content_of rows ≡ content_of others → clash_of rows given ≡ clash_of others given
clash_by_content rows others given agree agrees same = same_checksums_clash rows others (checksums_in given) agree agrees same
