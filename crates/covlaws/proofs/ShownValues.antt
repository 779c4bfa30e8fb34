-- The items of a printed section have the values that they were printed from.
use Rattle.std.proofs.Common.{◌≡◌, ℕ, Bool, true, false, ◌&&◌, cond, eqb, min, Option, Some, None, unwrap_or, List, [], ◌∷◌, ◌++◌, map, refl, sym, ap, ap₂, ◌∙◌, subst, inl, inr, ⊎_elim, arith}
use Rattle.std.specs.Cmp.Lexicographic.{slice_cmp}
use Rattle.std.specs.Ordering.{nat_cmp}
use Rattle.std.specs.Str.{bytes_eq}
use Rattle.std.specs.List.{flat_map, sum_by}
use Rattle.std.proofs.lemmas.Bool.{cond-true, eq-eqb}
use Rattle.std.proofs.lemmas.List.Folds.{flat_map-map}
use Rattle.std.proofs.lemmas.List.Sums.{sum_by-cons}
use Rattle.std.proofs.lemmas.Slice.Eq.{bytes_eq-Decides}
use Rattle.covtable.specs.Ascending.{ascending}
use Rattle.covtable.specs.Content.{FunctionValueData, SectionData, function_at, branch_at, line_at, section_with}
use Rattle.covdata.specs.Points.{BranchPoint, line_point, func_point, branch_point, line_points, func_points, branch_points, least}
use Rattle.covlaws.specs.Printable.{start_item, call_item, branch_item, line_item, items_shown}
use Rattle.covreport.specs.Report.{by_start}
use Rattle.covdata.specs.Row.{ItemData, LineItem, FuncItem, BranchItem}
use Rattle.covtable.specs.Value.{Key, bounded, branch_cmp, lines_in, names_in, branches_in, line_added, line_value, checksum_said, line_checksum, first_of, start_said, function_start, function_added, function_count, is_branch, taken_said, sum_if_any, branch_value}
use Rattle.covtable.proofs.TotalsKinds.{itself}
use Rattle.covtable.proofs.Alike.{alike_said, least_alike, sum_by-map}
use Rattle.covtable.proofs.Ascend.{ascending_sorted, In-to_ascending}
use Rattle.covtable.proofs.ContentsLists.{In-flat, In-unflat}
use Rattle.covtable.proofs.ContentsPoints.{line_unadded, checksum_unsaid, same_line, count_unadded, start_unsaid, taken_unsaid, same_branch}
use Rattle.covtable.proofs.ContentsSections.{same_section}
use Rattle.covtable.proofs.Members.{In, In-joined, In-parts}
use Rattle.covtable.proofs.Orders.{lines_order, names_order, branches_order}
use Rattle.covlaws.proofs.ShownItems.{items_by_name, shown_alike, said_of_lines, said_of_branches, said_of_functions, added_by_lines, added_by_calls}
use Rattle.covlaws.proofs.ShownLists.{flat_one, sum_one, flat_self, map_same_in, ascending_again}

not_one : {P : Type 0} (p q : P) → (q ≡ p → ⊥) → In p (q ∷ []) → ⊥
not_one p q other (inl is) = other is
not_one p q other (inr i) = i

bounded_twice : (n : ℕ) → bounded (bounded n) ≡ bounded n
bounded_twice n = omega arith

-- ---- lines

own_count : (line n : ℕ) (checksum : Option (List ℕ)) → line_added line (LineItem line n checksum) ≡ n
own_count line n checksum = cond-true (eqb line line) n 0 (eq-eqb line line refl)

own_checksum : (line n : ℕ) (checksum : Option (List ℕ)) → first_of (checksum_said line (LineItem line n checksum)) ≡ checksum
own_checksum line n None = refl
own_checksum line n (Some checksum) = ap first_of (cond-true (eqb line line) (checksum ∷ []) [] (eq-eqb line line refl))

-- ---- branches

all_true : (x y z : Bool) → x ≡ true → y ≡ true → z ≡ true → (x && y && z) ≡ true
all_true x y z a b c = ap (λ (x : Bool). x && y && z) a ∙ ap (λ (y : Bool). y && z) b ∙ c

bounded_one : (n : ℕ) → bounded (sum_by (λ m. m) (bounded n ∷ [])) ≡ bounded n
bounded_one n =
    let nothing : sum_by (λ m. m) [] ≡ 0 = refl in
    omega (arith, sum_by-cons (λ m. m) (bounded n) [], nothing)

abbrev branch_with : ℕ → ℕ → ℕ → BranchPoint
branch_with line block branch = record { line = line; block = block; branch = branch }

-- if a branch's item has the sum of these numbers, it adds the same to the branch as they do
own_taken : (point : BranchPoint) (numbers : List ℕ) → sum_if_any (taken_said point (BranchItem point.line point.block point.branch (sum_if_any numbers))) ≡ sum_if_any numbers
own_taken point [] = refl
own_taken point (n ∷ numbers) =
    let sum = sum_by (λ (m : ℕ). m) (n ∷ numbers) in
    ap sum_if_any (cond-true (is_branch point point.line point.block point.branch) (bounded sum ∷ []) [] (itself point))
    ∙ ap (λ (k : ℕ). Some k) (bounded_one sum)

-- ---- functions

own_name : (name : List ℕ) → bytes_eq name name ≡ true
own_name name = (bytes_eq-Decides name name).1 refl

own_start : (name : List ℕ) (line count : ℕ) → start_said name (FuncItem name line count) ≡ line ∷ []
own_start name line count = cond-true (bytes_eq name name) (line ∷ []) [] (own_name name)

own_calls : (name : List ℕ) (line count : ℕ) → function_added name (FuncItem name line count) ≡ count
own_calls name line count = cond-true (bytes_eq name name) count 0 (own_name name)

-- the item of an `FN:` line adds 0 to the count of any function
start_adds : (name : List ℕ) (f : FunctionValueData) → function_added name (start_item f) ≡ 0
start_adds name f = by (bytes_eq f.name name)
  where
    by : (b : Bool) → cond {A = ℕ} b 0 0 ≡ 0
    by true = refl
    by false = refl

min_self : (n : ℕ) → min n n ≡ n
min_self n = omega arith

function_with : ℕ → List ℕ → ℕ → FunctionValueData
function_with line name count = record { line = line; name = name; count = count }

function_from : (name : List ℕ) (xs ys : List ItemData) → function_start name xs ≡ function_start name ys → function_count name xs ≡ function_count name ys → function_at xs name ≡ function_at ys name
unfolding function_with
function_from name xs ys start count = ap₂ (λ (line count : ℕ). function_with line name count) start count

-- ---- the items that a section is made of, and those that it shows

module _ (key : Key) (items : List ItemData) where
  abbrev s : SectionData
  s = section_with key items

  abbrev shown : List ItemData
  shown = items_shown s

  -- ---- lines

  shown_lines : line_points shown ≡ lines_in items
  shown_lines =
      said_of_lines (by_start s.functions) s.branches s.lines line_point (λ f. refl) (λ f. refl) (λ b. refl)
      ∙ flat_map-map (λ l. line_point (line_item l)) (line_at items) (lines_in items)
      ∙ flat_self (lines_in items)

  shown_count : (line : ℕ) → In line (lines_in items) → line_value line shown ≡ line_value line items
  shown_count line i =
      ap bounded
      (added_by_lines (by_start s.functions) s.branches s.lines (line_added line) (λ f. refl) (λ f. refl) (λ b. refl)
      ∙ sum_by-map (λ l. line_added line (line_item l)) (line_at items) (lines_in items)
      ∙ sum_one lines_order.total (λ p. line_added line (line_item (line_at items p))) (lines_in items) line (ascending_sorted lines_order.total (line_points items)) i
      (λ p other. line_unadded line (line_item (line_at items p)) (not_one line p other))
      ∙ own_count line (line_value line items) (line_checksum line items))
      ∙ bounded_twice (sum_by (line_added line) items)

  shown_checksum : (line : ℕ) → In line (lines_in items) → line_checksum line shown ≡ line_checksum line items
  shown_checksum line i =
      ap first_of
      (said_of_lines (by_start s.functions) s.branches s.lines (checksum_said line) (λ f. refl) (λ f. refl) (λ b. refl)
      ∙ flat_map-map (λ l. checksum_said line (line_item l)) (line_at items) (lines_in items)
      ∙ flat_one lines_order.total (λ p. checksum_said line (line_item (line_at items p))) (lines_in items) line (ascending_sorted lines_order.total (line_points items)) i
      (λ p other. checksum_unsaid line (line_item (line_at items p)) (not_one line p other)))
      ∙ own_checksum line (line_value line items) (line_checksum line items)

  lines_shown : map (line_at shown) (lines_in shown) ≡ map (line_at items) (lines_in items)
  lines_shown =
      ap (λ (ps : List ℕ). map (line_at shown) (ascending nat_cmp ps)) shown_lines
      ∙ ap (map (line_at shown)) (ascending_again nat_cmp lines_order (line_points items) (lines_in items) (λ p i. i) (λ p i. i))
      ∙ map_same_in (line_at shown) (line_at items) (lines_in items) (λ line i. same_line line shown items (shown_count line i) (shown_checksum line i))

  -- ---- branches

  shown_branches : branch_points shown ≡ branches_in items
  shown_branches =
      said_of_branches (by_start s.functions) s.branches s.lines branch_point (λ f. refl) (λ f. refl) (λ l. refl)
      ∙ flat_map-map (λ b. branch_point (branch_item b)) (branch_at items) (branches_in items)
      ∙ flat_self (branches_in items)

  shown_taken : (point : BranchPoint) → In point (branches_in items) → branch_value point shown ≡ branch_value point items
  shown_taken point i =
      ap sum_if_any
      (said_of_branches (by_start s.functions) s.branches s.lines (taken_said point) (λ f. refl) (λ f. refl) (λ l. refl)
      ∙ flat_map-map (λ b. taken_said point (branch_item b)) (branch_at items) (branches_in items)
      ∙ flat_one branches_order.total (λ p. taken_said point (branch_item (branch_at items p))) (branches_in items) point (ascending_sorted branches_order.total (branch_points items)) i
      (λ p other. taken_unsaid point (branch_item (branch_at items p)) (not_one point p other)))
      ∙ own_taken point (flat_map (taken_said point) items)

  branches_shown : map (branch_at shown) (branches_in shown) ≡ map (branch_at items) (branches_in items)
  branches_shown =
      ap (λ (ps : List BranchPoint). map (branch_at shown) (ascending branch_cmp ps)) shown_branches
      ∙ ap (map (branch_at shown)) (ascending_again branch_cmp branches_order (branch_points items) (branches_in items) (λ p i. i) (λ p i. i))
      ∙ map_same_in (branch_at shown) (branch_at items) (branches_in items) (λ point i. same_branch point shown items (shown_taken point i))

  -- ---- functions

  names_by_name : func_points (items_by_name s) ≡ names_in items ++ names_in items
  names_by_name =
      said_of_functions s.functions s.branches s.lines func_point (λ b. refl) (λ l. refl)
      ∙ ap (λ (ns : List (List ℕ)). ns ++ ns) (flat_map-map (λ f. func_point (start_item f)) (function_at items) (names_in items) ∙ flat_self (names_in items))

  shown_named : (name : List ℕ) → In name (func_points shown) → In name (names_in items)
  shown_named name i =
      ⊎_elim (λ j. j) (λ j. j)
      (In-parts (names_in items) (names_in items) name (subst (In name) names_by_name ((alike_said func_point shown (items_by_name s) (shown_alike s)).there name i)))

  named_shown : (name : List ℕ) → In name (names_in items) → In name (func_points shown)
  named_shown name i =
      (alike_said func_point shown (items_by_name s) (shown_alike s)).back name
      (subst (In name) (sym names_by_name) (In-joined (names_in items) (names_in items) name (inl i)))

  -- each function has two items. If one of them is taken of each, only one of these says a start line for a given name
  said_once : (item : FunctionValueData → ItemData) → ((f : FunctionValueData) → func_point (item f) ≡ f.name ∷ []) → (name : List ℕ) → In name (names_in items)
      → flat_map (λ f. start_said name (item f)) s.functions ≡ start_said name (item (function_at items name))
  said_once item named name i =
      flat_map-map (λ f. start_said name (item f)) (function_at items) (names_in items)
      ∙ flat_one names_order.total (λ n. start_said name (item (function_at items n))) (names_in items) name (ascending_sorted names_order.total (func_points items)) i
      (λ n other. start_unsaid name (item (function_at items n)) (λ j. not_one name n other (subst (In name) (named (function_at items n)) j)))

  shown_start : (name : List ℕ) → In name (names_in items) → function_start name shown ≡ function_start name items
  shown_start name i =
      ap (λ (o : Option ℕ). unwrap_or o 0)
      (least_alike (flat_map (start_said name) shown) (flat_map (start_said name) (items_by_name s)) (alike_said (start_said name) shown (items_by_name s) (shown_alike s))
      ∙ ap least
      (said_of_functions s.functions s.branches s.lines (start_said name) (λ b. refl) (λ l. refl)
      ∙ ap₂ (λ (ms ns : List ℕ). ms ++ ns)
      (said_once start_item (λ f. refl) name i ∙ own_start name (function_start name items) 0)
      (said_once call_item (λ f. refl) name i ∙ own_start name (function_start name items) (function_count name items))))
      ∙ min_self (function_start name items)

  shown_calls : (name : List ℕ) → In name (names_in items) → function_count name shown ≡ function_count name items
  shown_calls name i =
      ap bounded
      ((shown_alike s).sums (function_added name)
      ∙ added_by_calls s.functions s.branches s.lines (function_added name) (λ f. start_adds name f) (λ b. refl) (λ l. refl)
      ∙ sum_by-map (λ f. function_added name (call_item f)) (function_at items) (names_in items)
      ∙ sum_one names_order.total (λ n. function_added name (call_item (function_at items n))) (names_in items) name (ascending_sorted names_order.total (func_points items)) i
      (λ n other. count_unadded name (call_item (function_at items n)) (not_one name n other))
      ∙ own_calls name (function_start name items) (function_count name items))
      ∙ bounded_twice (sum_by (function_added name) items)

  functions_shown : map (function_at shown) (names_in shown) ≡ map (function_at items) (names_in items)
  functions_shown =
      ap (map (function_at shown)) (ascending_again (slice_cmp nat_cmp) names_order (func_points items) (func_points shown) shown_named named_shown)
      ∙ map_same_in (function_at shown) (function_at items) (names_in items) (λ name i. function_from name shown items (shown_start name i) (shown_calls name i))

  -- ---- the section

  pub section_shown : section_with key shown ≡ section_with key items
  section_shown = same_section key shown items functions_shown branches_shown lines_shown

  -- if a point is among those of the items shown, an item is shown
  shown_of : {P : Type 0} (point : ItemData → List P) (p : P) → In p (flat_map point shown) → (item : ItemData) × In item shown
  shown_of point p i = let found = In-unflat point shown p i in (found.0, found.1)

  pub some_shown : (item : ItemData) → In item items → (shown_item : ItemData) × In shown_item shown
  some_shown (LineItem line count checksum) i =
      shown_of line_point line (subst (In line) (sym shown_lines) (In-to_ascending lines_order.exact line (line_points items) (In-flat line_point items (LineItem line count checksum) line i (inl refl))))
  some_shown (FuncItem name line count) i =
      shown_of func_point name (named_shown name (In-to_ascending names_order.exact name (func_points items) (In-flat func_point items (FuncItem name line count) name i (inl refl))))
  some_shown (BranchItem line block branch taken) i =
      let point = branch_with line block branch in
      shown_of branch_point point
      (subst (In point) (sym shown_branches) (In-to_ascending branches_order.exact point (branch_points items) (In-flat branch_point items (BranchItem line block branch taken) point i (inl refl))))
