-- The totals of the content, kind by kind, are those counted over rows.
use Rattle.std.proofs.Common.{◌≡◌, ℕ, Bool, true, false, cond, if◌then◌else◌, ◌==◌, ◌&&◌, ◌||◌, nat_lt, Some, None, List, [], ◌∷◌, length, map, refl, sym, ap, ◌∙◌, subst, inl, arith}
use Rattle.std.specs.Cmp.Lexicographic.{slice_cmp}
use Rattle.std.specs.List.{flat_map, list_any, sum_by, count_by}
use Rattle.std.specs.Ordering.{nat_cmp}
use Rattle.std.specs.Str.{bytes_eq}
use Rattle.std.proofs.lemmas.Bool.{false≢true, and_parts, and_from, eqb-true, eq-eqb}
use Rattle.std.proofs.lemmas.List.Sums.{sum_by-cons}
use Rattle.std.proofs.lemmas.Slice.Eq.{bytes_eq-Decides}
use Rattle.covdata.specs.Points.{BranchPoint, line_point, func_point, branch_point}
use Rattle.covdata.specs.Row.{ItemData, LineItem, FuncItem, BranchItem, Row}
use Rattle.covtable.specs.declared.totals.Totals.{Totals}
use Rattle.covtable.specs.Content.{SectionData, LineValueData, FunctionValueData, BranchValueData, line_at, function_at, branch_at, content_of}
use Rattle.covtable.specs.Totals.{own_sections, lines_found, is_line_hit, functions_found, is_function_hit, branches_found, is_branch_hit, over_files, totals_of}
use Rattle.covtable.specs.TotalsSteps.{files_of, items_of_file, is_hit_in, found_in, hit_in, hits_line, hits_function, hits_branch, totals_over}
use Rattle.covtable.specs.Value.{items_at, lines_in, line_added, line_value, names_in, function_added, function_count, branch_cmp, branches_in, branch_value, is_branch, is_taken, sum_if_any, taken_said}
use Rattle.covtable.proofs.Bounds.{bounded_above}
use Rattle.covtable.proofs.Members.{In}
use Rattle.covtable.proofs.Orders.{lines_order, names_order, branches_order}
use Rattle.covtable.proofs.TotalsRows.{files_are, points_found, hit_in_file, hit_in_section, sum_above, any_agree, any_flat}

-- if each point can be read back from what is made from it, the list of points can be read back
read_back : {X Y : Type 0} (read : Y → X) (at : X → Y) → ((x : X) → read (at x) ≡ x) → (xs : List X) → map read (map at xs) ≡ xs
read_back read at same [] = refl
read_back {X} read at same (x ∷ xs) = ap (λ (y : X). y ∷ map read (map at xs)) (same x) ∙ ap (λ (ys : List X). x ∷ ys) (read_back read at same xs)

above_if : (own : Bool) (n : ℕ) → nat_lt 0 (if own then n else 0) ≡ (own && nat_lt 0 n)
above_if true n = refl
above_if false n = refl

-- ---- lines

line_hit_is : (line : ℕ) (item : ItemData) → nat_lt 0 (line_added line item) ≡ hits_line line item
line_hit_is line (LineItem at count checksum) = above_if (at == line) count
line_hit_is line (FuncItem name start count) = refl
line_hit_is line (BranchItem at block branch taken) = refl

pub line_above : (line : ℕ) (items : List ItemData) → nat_lt 0 (line_value line items) ≡ list_any (hits_line line) items
line_above line items = bounded_above (sum_by (line_added line) items) ∙ sum_above (line_added line) items ∙ any_agree (λ item. nat_lt 0 (line_added line item)) (hits_line line) (line_hit_is line) items

line_speaks : (line : ℕ) (item : ItemData) → hits_line line item ≡ true → In line (line_point item)
line_speaks line (LineItem at count checksum) h = inl (eqb-true at line (and_parts (at == line) (nat_lt 0 count) h).0)
line_speaks line (FuncItem name start count) h = absurd (false≢true h)
line_speaks line (BranchItem at block branch taken) h = absurd (false≢true h)

abbrev line_test : ℕ → LineValueData → Bool
line_test line l = l.line == line && nat_lt 0 l.count

line_hit_at : (line : ℕ) (items : List ItemData) → list_any (line_test line) (map (line_at items) (lines_in items)) ≡ list_any (hits_line line) items
line_hit_at line items =
    hit_in_section lines_order line_point (line_at items) (line_test line) line (hits_line line) items
    (λ y h. let p = and_parts (y == line) (nat_lt 0 (line_value y items)) h in
    sym (line_above line items) ∙ subst (λ (n : ℕ). nat_lt 0 (line_value n items) ≡ true) (eqb-true y line p.0) p.1)
    (λ h. and_from (line == line) (nat_lt 0 (line_value line items)) (eq-eqb line line refl) (line_above line items ∙ h))
    (line_speaks line)

lines_are : (file : List ℕ) (rows : List Row) → lines_found (own_sections file (content_of rows)) ≡ lines_in (items_of_file file rows)
lines_are file rows =
    points_found lines_order line_point (λ s. map (λ l. l.line) s.lines)
    (λ all key. read_back (λ (l : LineValueData). l.line) (line_at (items_at key all)) (λ x. refl) (lines_in (items_at key all))) file rows

line_hits_are : (file : List ℕ) (rows : List Row) (line : ℕ) → is_line_hit (own_sections file (content_of rows)) line ≡ is_hit_in hits_line (items_of_file file rows) line
line_hits_are file rows line = hit_in_file (λ s. list_any (line_test line) s.lines) (hits_line line) (λ all key. line_hit_at line (items_at key all)) file rows

-- ---- functions

function_hit_is : (name : List ℕ) (item : ItemData) → nat_lt 0 (function_added name item) ≡ hits_function name item
function_hit_is name (FuncItem other line count) = above_if (bytes_eq other name) count
function_hit_is name (LineItem line count checksum) = refl
function_hit_is name (BranchItem line block branch taken) = refl

pub function_above : (name : List ℕ) (items : List ItemData) → nat_lt 0 (function_count name items) ≡ list_any (hits_function name) items
function_above name items = bounded_above (sum_by (function_added name) items) ∙ sum_above (function_added name) items ∙ any_agree (λ item. nat_lt 0 (function_added name item)) (hits_function name) (function_hit_is name) items

function_speaks : (name : List ℕ) (item : ItemData) → hits_function name item ≡ true → In name (func_point item)
function_speaks name (FuncItem other line count) h = inl ((bytes_eq-Decides other name).0 (and_parts (bytes_eq other name) (nat_lt 0 count) h).0)
function_speaks name (LineItem line count checksum) h = absurd (false≢true h)
function_speaks name (BranchItem line block branch taken) h = absurd (false≢true h)

abbrev function_test : List ℕ → FunctionValueData → Bool
function_test name f = bytes_eq f.name name && nat_lt 0 f.count

function_hit_at : (name : List ℕ) (items : List ItemData) → list_any (function_test name) (map (function_at items) (names_in items)) ≡ list_any (hits_function name) items
function_hit_at name items =
    hit_in_section names_order func_point (function_at items) (function_test name) name (hits_function name) items
    (λ y h. let p = and_parts (bytes_eq y name) (nat_lt 0 (function_count y items)) h in
    sym (function_above name items) ∙ subst (λ (n : List ℕ). nat_lt 0 (function_count n items) ≡ true) ((bytes_eq-Decides y name).0 p.0) p.1)
    (λ h. and_from (bytes_eq name name) (nat_lt 0 (function_count name items)) ((bytes_eq-Decides name name).1 refl) (function_above name items ∙ h))
    (function_speaks name)

functions_are : (file : List ℕ) (rows : List Row) → functions_found (own_sections file (content_of rows)) ≡ names_in (items_of_file file rows)
functions_are file rows =
    points_found names_order func_point (λ s. map (λ f. f.name) s.functions)
    (λ all key. read_back (λ (f : FunctionValueData). f.name) (function_at (items_at key all)) (λ x. refl) (names_in (items_at key all))) file rows

function_hits_are : (file : List ℕ) (rows : List Row) (name : List ℕ) → is_function_hit (own_sections file (content_of rows)) name ≡ is_hit_in hits_function (items_of_file file rows) name
function_hits_are file rows name = hit_in_file (λ s. list_any (function_test name) s.functions) (hits_function name) (λ all key. function_hit_at name (items_at key all)) file rows

-- ---- branches

never : (b : Bool) → false ≡ (b && false)
never true = refl
never false = refl

one_above : (own : Bool) (n : ℕ) → list_any (nat_lt 0) (if own then n ∷ [] else []) ≡ (own && nat_lt 0 n)
one_above true n = by (nat_lt 0 n)
  where
    by : (b : Bool) → (b || false) ≡ b
    by true = refl
    by false = refl
one_above false n = refl

branch_hit_is : (point : BranchPoint) (item : ItemData) → list_any (nat_lt 0) (taken_said point item) ≡ hits_branch point item
branch_hit_is point (BranchItem line block branch None) = never (is_branch point line block branch)
branch_hit_is point (BranchItem line block branch (Some taken)) = one_above (is_branch point line block branch) taken
branch_hit_is point (LineItem line count checksum) = refl
branch_hit_is point (FuncItem name line count) = refl

taken_above : (numbers : List ℕ) → is_taken (sum_if_any numbers) ≡ list_any (nat_lt 0) numbers
taken_above [] = refl
taken_above (n ∷ numbers) = bounded_above (sum_by (λ m. m) (n ∷ numbers)) ∙ sum_above (λ m. m) (n ∷ numbers)

pub branch_above : (point : BranchPoint) (items : List ItemData) → is_taken (branch_value point items) ≡ list_any (hits_branch point) items
branch_above point items =
    taken_above (flat_map (taken_said point) items) ∙ any_flat (nat_lt 0) (taken_said point) items
    ∙ any_agree (λ item. list_any (nat_lt 0) (taken_said point item)) (hits_branch point) (branch_hit_is point) items

pub same_branch : (point : BranchPoint) (line block branch : ℕ) → is_branch point line block branch ≡ true → record { line = line; block = block; branch = branch } ≡ point
same_branch point line block branch h =
    let p = and_parts (line == point.line && block == point.block) (branch == point.branch) h in
    let q = and_parts (line == point.line) (block == point.block) p.0 in
    λ i. record { line = eqb-true line point.line q.0 i; block = eqb-true block point.block q.1 i; branch = eqb-true branch point.branch p.1 i }

pub itself : (point : BranchPoint) → is_branch point point.line point.block point.branch ≡ true
itself point =
    and_from (point.line == point.line && point.block == point.block) (point.branch == point.branch)
    (and_from (point.line == point.line) (point.block == point.block) (eq-eqb point.line point.line refl) (eq-eqb point.block point.block refl)) (eq-eqb point.branch point.branch refl)

branch_speaks : (point : BranchPoint) (item : ItemData) → hits_branch point item ≡ true → In point (branch_point item)
branch_speaks point (BranchItem line block branch taken) h = inl (same_branch point line block branch (and_parts (is_branch point line block branch) (is_taken taken) h).0)
branch_speaks point (LineItem line count checksum) h = absurd (false≢true h)
branch_speaks point (FuncItem name line count) h = absurd (false≢true h)

abbrev branch_test : BranchPoint → BranchValueData → Bool
branch_test point b = is_branch point b.point.line b.point.block b.point.branch && is_taken b.taken

branch_hit_at : (point : BranchPoint) (items : List ItemData) → list_any (branch_test point) (map (branch_at items) (branches_in items)) ≡ list_any (hits_branch point) items
branch_hit_at point items =
    hit_in_section branches_order branch_point (branch_at items) (branch_test point) point (hits_branch point) items
    (λ y h. let p = and_parts (is_branch point y.line y.block y.branch) (is_taken (branch_value y items)) h in
    sym (branch_above point items) ∙ subst (λ (b : BranchPoint). is_taken (branch_value b items) ≡ true) (same_branch point y.line y.block y.branch p.0) p.1)
    (λ h. and_from (is_branch point point.line point.block point.branch) (is_taken (branch_value point items)) (itself point) (branch_above point items ∙ h))
    (branch_speaks point)

branches_are : (file : List ℕ) (rows : List Row) → branches_found (own_sections file (content_of rows)) ≡ branches_in (items_of_file file rows)
branches_are file rows =
    points_found branches_order branch_point (λ s. map (λ b. b.point) s.branches)
    (λ all key. read_back (λ (b : BranchValueData). b.point) (branch_at (items_at key all)) (λ x. refl) (branches_in (items_at key all))) file rows

branch_hits_are : (file : List ℕ) (rows : List Row) (point : BranchPoint) → is_branch_hit (own_sections file (content_of rows)) point ≡ is_hit_in hits_branch (items_of_file file rows) point
branch_hits_are file rows point = hit_in_file (λ s. list_any (branch_test point) s.branches) (hits_branch point) (λ all key. branch_hit_at point (items_at key all)) file rows

-- ---- all files

pub sum_agree : {X : Type 0} (f g : X → ℕ) → ((x : X) → f x ≡ g x) → (xs : List X) → sum_by f xs ≡ sum_by g xs
sum_agree f g same [] = refl
sum_agree f g same (x ∷ xs) = omega (arith, sum_by-cons f x xs, sum_by-cons g x xs, same x, sum_agree f g same xs)

pub count_agree : {X : Type 0} (p q : X → Bool) → ((x : X) → p x ≡ q x) → (xs : List X) → count_by p xs ≡ count_by q xs
count_agree p q same xs = sum_agree (λ x. cond (p x) 1 0) (λ x. cond (q x) 1 0) (λ x. ap (λ (b : Bool). cond {A = ℕ} b 1 0) (same x)) xs

over_are : (count : List SectionData → ℕ) (f : List ℕ → ℕ) (rows : List Row) → ((file : List ℕ) → count (own_sections file (content_of rows)) ≡ f file) → over_files count (content_of rows) ≡ sum_by f (files_of rows)
over_are count f rows same =
    ap (sum_by (λ file. count (own_sections file (content_of rows)))) (files_are rows) ∙ sum_agree (λ file. count (own_sections file (content_of rows))) f same (files_of rows)

pub same_totals : (a b : Totals) → a.lf ≡ b.lf → a.lh ≡ b.lh → a.ff ≡ b.ff → a.fh ≡ b.fh → a.bf ≡ b.bf → a.bh ≡ b.bh → a ≡ b
same_totals a b lf lh ff fh bf bh = λ i. record { lf = lf i; lh = lh i; ff = ff i; fh = fh i; bf = bf i; bh = bh i }

pub totals_of_rows : (rows : List Row) → totals_of (content_of rows) ≡ totals_over rows
totals_of_rows rows =
    let own = λ (file : List ℕ). own_sections file (content_of rows) in
    let items = λ (file : List ℕ). items_of_file file rows in
    same_totals (totals_of (content_of rows)) (totals_over rows)
    (over_are (λ s. length (lines_found s)) (λ file. found_in nat_cmp line_point (items file)) rows (λ file. ap (λ (ls : List ℕ). length ls) (lines_are file rows)))
    (over_are (λ s. count_by (is_line_hit s) (lines_found s)) (λ file. hit_in nat_cmp line_point hits_line (items file)) rows
    (λ file. ap (count_by (is_line_hit (own file))) (lines_are file rows) ∙ count_agree (is_line_hit (own file)) (is_hit_in hits_line (items file)) (line_hits_are file rows) (lines_in (items file))))
    (over_are (λ s. length (functions_found s)) (λ file. found_in (slice_cmp nat_cmp) func_point (items file)) rows (λ file. ap (λ (ns : List (List ℕ)). length ns) (functions_are file rows)))
    (over_are (λ s. count_by (is_function_hit s) (functions_found s)) (λ file. hit_in (slice_cmp nat_cmp) func_point hits_function (items file)) rows
    (λ file. ap (count_by (is_function_hit (own file))) (functions_are file rows) ∙ count_agree (is_function_hit (own file)) (is_hit_in hits_function (items file)) (function_hits_are file rows) (names_in (items file))))
    (over_are (λ s. length (branches_found s)) (λ file. found_in branch_cmp branch_point (items file)) rows (λ file. ap (λ (bs : List BranchPoint). length bs) (branches_are file rows)))
    (over_are (λ s. count_by (is_branch_hit s) (branches_found s)) (λ file. hit_in branch_cmp branch_point hits_branch (items file)) rows
    (λ file. ap (count_by (is_branch_hit (own file))) (branches_are file rows) ∙ count_agree (is_branch_hit (own file)) (is_hit_in hits_branch (items file)) (branch_hits_are file rows) (branches_in (items file))))
