-- The items that a printed section shows. Their names, checksums and numbers are made from the items that the section is made
-- of, so they are lawful and fit.
use Rattle.std.proofs.Common.{◌≡◌, ℕ, ◌-◌, ◌<◌, ◌≤◌, ◌^◌, Bool, true, false, cond, eqb, min, Option, Some, None, unwrap_or, List, [], ◌∷◌, ◌++◌, length, map, refl, sym, subst, inl, inr, arith}
use Rattle.std.specs.Cmp.Lexicographic.{slice_cmp}
use Rattle.std.specs.declared.cmp.Ordering.{Ordering}
use Rattle.std.specs.declared.cmp.Ordering.TheVariants.{Less, Equal, Greater}
use Rattle.std.specs.List.{AllByRecursion, flat_map, fold, sum_by}
use Rattle.std.specs.List.Sorted.{IsStrictlySortedBy}
use Rattle.std.specs.Ordering.{match_ordering, nat_cmp}
use Rattle.std.specs.Str.{bytes_eq}
use Rattle.std.proofs.Math.Nat.{min-le_left, min-le_right}
use Rattle.std.proofs.lemmas.Option.{same_Some, none-some}
use Rattle.covtable.specs.Content.{FunctionValueData, SectionData, function_at, branch_at, line_at, section_with}
use Rattle.covdata.specs.Lawful.{AllFit, FitsItem, IsChecksum, IsGoodName, IsLawfulItem}
use Rattle.covdata.specs.Points.{BranchPoint, line_point, func_point, branch_point, line_points, func_points, branch_points, least}
use Rattle.covlaws.specs.Printable.{HasPointsInOrder, start_item, call_item, branch_item, line_item, items_shown}
use Rattle.covreport.specs.Report.{put_in, sorted, function_cmp, by_start}
use Rattle.covdata.specs.Row.{ItemData, LineItem, FuncItem, BranchItem}
use Rattle.covtable.specs.Value.{Key, bounded, branch_cmp, branches_in, checksum_said, first_of, function_start, line_checksum, line_value, lines_in, names_in, start_said, sum_if_any, taken_said}
use Rattle.covtable.proofs.Members.{In, All-in, All-from, All-joined}
use Rattle.covlaws.proofs.Mapped.{All-mapped, In-some}
use Rattle.covtable.proofs.ContentsLists.{In-flat, In-unflat}
use Rattle.covtable.proofs.Ascend.{All-match, In-ascending, In-to_ascending, ascending_sorted}
use Rattle.covtable.proofs.Orders.{branches_order, lines_order, names_order}

-- ---- sorted lists

All-put_in : {X : Type 0} (cmp : X → X → Ordering) (P : X → Type 0) (x : X) (ys : List X) → P x → AllByRecursion P ys → AllByRecursion P (put_in cmp x ys)
All-put_in cmp P x [] here all = (here, tt)
All-put_in cmp P x (y ∷ ys) here all =
    All-match P (cmp x y) (x ∷ y ∷ ys) (x ∷ y ∷ ys) (y ∷ put_in cmp x ys) (here, all) (here, all) (all.0, All-put_in cmp P x ys here all.1)

All-sorted : {X : Type 0} (cmp : X → X → Ordering) (P : X → Type 0) (xs : List X) → AllByRecursion P xs → AllByRecursion P (sorted cmp xs)
All-sorted cmp P [] all = tt
All-sorted cmp P (x ∷ xs) all = All-put_in cmp P x (sorted cmp xs) all.0 (All-sorted cmp P xs all.1)

some-put_in : {X : Type 0} (cmp : X → X → Ordering) (x : X) (ys : List X) → 0 < length (put_in cmp x ys)
some-put_in cmp x [] = omega arith
some-put_in cmp x (y ∷ ys) = by (cmp x y)
  where
    by : (o : Ordering) → 0 < length (match_ordering o (x ∷ y ∷ ys) (x ∷ y ∷ ys) (y ∷ put_in cmp x ys))
    by Less = omega arith
    by Equal = omega arith
    by Greater = omega arith

some-sorted : {X : Type 0} (cmp : X → X → Ordering) (xs : List X) → 0 < length xs → 0 < length (sorted cmp xs)
some-sorted cmp [] some = some
some-sorted cmp (x ∷ xs) some = some-put_in cmp x (sorted cmp xs)

-- if each point has a value that leads back to the point, the list of the values leads back to the list of the points
pub map_back : {P V : Type 0} (f : P → V) (back : V → P) (ps : List P) → ((p : P) → back (f p) ≡ p) → map back (map f ps) ≡ ps
map_back f back [] own = refl
map_back {P} {V} f back (p ∷ ps) own = let here : back (f p) ≡ p = own p in let others : map back (map f ps) ≡ ps = map_back f back ps own in cc

-- ---- the points of a section are in order

pub points_in_order : (key : Key) (items : List ItemData) → HasPointsInOrder (section_with key items)
points_in_order key items = record {
  functions = subst (IsStrictlySortedBy (slice_cmp nat_cmp)) (sym (map_back (function_at items) (λ f. f.name) (names_in items) (λ name. refl))) (ascending_sorted names_order.total (func_points items));
  branches = subst (IsStrictlySortedBy branch_cmp) (sym (map_back (branch_at items) (λ b. b.point) (branches_in items) (λ point. refl))) (ascending_sorted branches_order.total (branch_points items));
  lines = subst (IsStrictlySortedBy nat_cmp) (sym (map_back (line_at items) (λ l. l.line) (lines_in items) (λ line. refl))) (ascending_sorted lines_order.total (line_points items));
}

-- ---- a property of all items shown, from the items of each point

module _ (P : ItemData → Type 0) (key : Key) (items : List ItemData) where
  all_functions : (show : FunctionValueData → ItemData) → ((name : List ℕ) → In name (func_points items) → P (show (function_at items name)))
      → AllByRecursion P (map show (by_start (section_with key items).functions))
  all_functions show each =
      All-mapped P show (by_start (section_with key items).functions)
      (All-sorted function_cmp (λ f. P (show f)) (map (function_at items) (names_in items))
      (All-mapped (λ f. P (show f)) (function_at items) (names_in items)
      (All-from (λ name. P (show (function_at items name))) (names_in items) (λ name i. each name (In-ascending names_order.exact name (func_points items) i)))))

  all_branches : ((point : BranchPoint) → In point (branch_points items) → P (branch_item (branch_at items point))) → AllByRecursion P (map branch_item (section_with key items).branches)
  all_branches each =
      All-mapped P branch_item (map (branch_at items) (branches_in items))
      (All-mapped (λ b. P (branch_item b)) (branch_at items) (branches_in items)
      (All-from (λ point. P (branch_item (branch_at items point))) (branches_in items) (λ point i. each point (In-ascending branches_order.exact point (branch_points items) i))))

  all_lines : ((line : ℕ) → In line (line_points items) → P (line_item (line_at items line))) → AllByRecursion P (map line_item (section_with key items).lines)
  all_lines each =
      All-mapped P line_item (map (line_at items) (lines_in items))
      (All-mapped (λ l. P (line_item l)) (line_at items) (lines_in items)
      (All-from (λ line. P (line_item (line_at items line))) (lines_in items) (λ line i. each line (In-ascending lines_order.exact line (line_points items) i))))

  pub all_shown : ((name : List ℕ) → In name (func_points items) → P (start_item (function_at items name)))
      → ((name : List ℕ) → In name (func_points items) → P (call_item (function_at items name)))
      → ((point : BranchPoint) → In point (branch_points items) → P (branch_item (branch_at items point)))
      → ((line : ℕ) → In line (line_points items) → P (line_item (line_at items line))) → AllByRecursion P (items_shown (section_with key items))
  all_shown starts calls branches lines =
      let s : SectionData = section_with key items in
      All-joined P (map start_item (by_start s.functions)) (map call_item (by_start s.functions) ++ (map branch_item s.branches ++ map line_item s.lines)) (all_functions start_item starts)
      (All-joined P (map call_item (by_start s.functions)) (map branch_item s.branches ++ map line_item s.lines) (all_functions call_item calls)
      (All-joined P (map branch_item s.branches) (map line_item s.lines) (all_branches branches) (all_lines lines)))

-- ---- the texts of what is shown are lawful

lawful_name : (name : List ℕ) (item : ItemData) → In name (func_point item) → IsLawfulItem item → IsGoodName name
lawful_name name (FuncItem other line count) (inl is) lawful = subst IsGoodName is lawful
lawful_name name (FuncItem other line count) (inr none) lawful = absurd none
lawful_name name (LineItem line count checksum) i lawful = absurd i
lawful_name name (BranchItem line block branch taken) i lawful = absurd i

-- in a list that has only x, or nothing, an element equals x
if_there : {X : Type 0} (b : Bool) (x y : X) → In y (cond b (x ∷ []) []) → x ≡ y
if_there true x y (inl is) = is
if_there true x y (inr none) = absurd none
if_there false x y i = absurd i

lawful_said : (line : ℕ) (said : List ℕ) (item : ItemData) → In said (checksum_said line item) → IsLawfulItem item → IsChecksum said
lawful_said line said (LineItem at count (Some checksum)) i lawful = subst IsChecksum (if_there (eqb at line) checksum said i) lawful
lawful_said line said (LineItem at count None) i lawful = absurd i
lawful_said line said (FuncItem name start count) i lawful = absurd i
lawful_said line said (BranchItem at block branch taken) i lawful = absurd i

pub first_in : {X : Type 0} (xs : List X) (x : X) → first_of xs ≡ Some x → In x xs
first_in [] x e = absurd (none-some x e)
first_in (y ∷ ys) x e = inl (same_Some y x e)

module _ (items : List ItemData) (lawful : AllByRecursion IsLawfulItem items) where
  good_names : (name : List ℕ) → In name (func_points items) → IsGoodName name
  good_names name i = let from = In-unflat func_point items name i in lawful_name name from.0 from.2 (All-in IsLawfulItem items from.0 lawful from.1)

  good_checksum : (line : ℕ) (said : Option (List ℕ)) → line_checksum line items ≡ said → IsLawfulItem (LineItem line (line_value line items) said)
  good_checksum line None e = tt
  good_checksum line (Some said) e =
      let from = In-unflat (checksum_said line) items said (first_in (flat_map (checksum_said line) items) said e) in
      lawful_said line said from.0 from.2 (All-in IsLawfulItem items from.0 lawful from.1)

  pub lawful_shown : (key : Key) → AllByRecursion IsLawfulItem (items_shown (section_with key items))
  lawful_shown key = all_shown IsLawfulItem key items good_names good_names (λ point i. tt) (λ line i. good_checksum line (line_checksum line items) refl)

-- ---- the numbers of what is shown fit

least_at_most : (n : ℕ) (ns : List ℕ) → fold min n ns ≤ n
least_at_most n [] = omega arith
least_at_most n (m ∷ ns) = omega (arith, least_at_most (min n m) ns, min-le_left n m)

least_fits : (ns : List ℕ) → AllByRecursion (λ n. n < 2 ^ 64) ns → unwrap_or (least ns) 0 < 2 ^ 64
least_fits [] fit = omega arith
least_fits (n ∷ ns) fit = omega (arith, least_at_most n ns, fit.0)

bounded_fits : (n : ℕ) → bounded n < 2 ^ 128
bounded_fits n = omega (arith, min-le_right n (2 ^ 128 - 1))

start_fits : (name : List ℕ) (n : ℕ) (item : ItemData) → In n (start_said name item) → FitsItem item → n < 2 ^ 64
start_fits name n (FuncItem other line count) i fits = subst (λ (k : ℕ). k < 2 ^ 64) (if_there (bytes_eq other name) line n i) fits.0
start_fits name n (LineItem line count checksum) i fits = absurd i
start_fits name n (BranchItem line block branch taken) i fits = absurd i

line_fits : (line : ℕ) (item : ItemData) → In line (line_point item) → FitsItem item → line < 2 ^ 64
line_fits line (LineItem at count checksum) (inl is) fits = subst (λ (k : ℕ). k < 2 ^ 64) is fits.0
line_fits line (LineItem at count checksum) (inr none) fits = absurd none
line_fits line (FuncItem name start count) i fits = absurd i
line_fits line (BranchItem at block branch taken) i fits = absurd i

abbrev FitsPoint : BranchPoint → Type 0
FitsPoint point = (point.line < 2 ^ 64) × (point.block < 2 ^ 64) × (point.branch < 2 ^ 64)

point_fits : (point : BranchPoint) (item : ItemData) → In point (branch_point item) → FitsItem item → FitsPoint point
point_fits point (BranchItem line block branch None) (inl is) fits = subst FitsPoint is fits
point_fits point (BranchItem line block branch (Some taken)) (inl is) fits = subst FitsPoint is (fits.0, fits.1, fits.2)
point_fits point (BranchItem line block branch taken) (inr none) fits = absurd none
point_fits point (LineItem at count checksum) i fits = absurd i
point_fits point (FuncItem name start count) i fits = absurd i

taken_fits : (point : BranchPoint) (ns : List ℕ) → FitsPoint point → FitsItem (BranchItem point.line point.block point.branch (sum_if_any ns))
taken_fits point [] fits = fits
taken_fits point (n ∷ ns) fits = (fits.0, fits.1, fits.2, bounded_fits (sum_by (λ m. m) (n ∷ ns)))

module _ (items : List ItemData) (fit : AllFit items) where
  starts_fit : (name : List ℕ) → function_start name items < 2 ^ 64
  starts_fit name =
      least_fits (flat_map (start_said name) items)
      (All-from (λ n. n < 2 ^ 64) (flat_map (start_said name) items)
      (λ n i. let from = In-unflat (start_said name) items n i in start_fits name n from.0 from.2 (All-in FitsItem items from.0 fit from.1)))

  lines_fit : (line : ℕ) → In line (line_points items) → line < 2 ^ 64
  lines_fit line i = let from = In-unflat line_point items line i in line_fits line from.0 from.2 (All-in FitsItem items from.0 fit from.1)

  points_fit : (point : BranchPoint) → In point (branch_points items) → FitsPoint point
  points_fit point i = let from = In-unflat branch_point items point i in point_fits point from.0 from.2 (All-in FitsItem items from.0 fit from.1)

  pub fit_shown : (key : Key) → AllFit (items_shown (section_with key items))
  fit_shown key =
      all_shown FitsItem key items
      (λ name i. (starts_fit name, omega arith))
      (λ name i. (starts_fit name, bounded_fits _))
      (λ point i. taken_fits point (flat_map (taken_said point) items) (points_fit point i))
      (λ line i. (lines_fit line i, bounded_fits _))

-- ---- a section that is made of an item shows an item

some_left : {X : Type 0} (xs ys : List X) → 0 < length xs → 0 < length (xs ++ ys)
some_left [] ys some = absurd (omega (arith, some))
some_left (x ∷ xs) ys some = omega arith

some_right : {X : Type 0} (xs ys : List X) → 0 < length ys → 0 < length (xs ++ ys)
some_right [] ys some = some
some_right (x ∷ xs) ys some = omega arith

some_mapped : {X Y : Type 0} (f : X → Y) (xs : List X) → 0 < length xs → 0 < length (map f xs)
some_mapped f [] some = absurd (omega (arith, some))
some_mapped f (x ∷ xs) some = omega arith

module _ (key : Key) (items : List ItemData) where
  abbrev s : SectionData
  s = section_with key items

  some_functions : (name : List ℕ) → In name (func_points items) → 0 < length (items_shown s)
  some_functions name i =
      let names : 0 < length s.functions = some_mapped (function_at items) (names_in items) (In-some (names_in items) name (In-to_ascending names_order.exact name (func_points items) i)) in
      some_left (map start_item (by_start s.functions)) (map call_item (by_start s.functions) ++ (map branch_item s.branches ++ map line_item s.lines))
      (some_mapped start_item (by_start s.functions) (some-sorted function_cmp s.functions names))

  some_later : 0 < length (map branch_item s.branches ++ map line_item s.lines) → 0 < length (items_shown s)
  some_later some =
      some_right (map start_item (by_start s.functions)) (map call_item (by_start s.functions) ++ (map branch_item s.branches ++ map line_item s.lines))
      (some_right (map call_item (by_start s.functions)) (map branch_item s.branches ++ map line_item s.lines) some)

  some_branches : (point : BranchPoint) → In point (branch_points items) → 0 < length (items_shown s)
  some_branches point i =
      some_later (some_left (map branch_item s.branches) (map line_item s.lines)
      (some_mapped branch_item s.branches
      (some_mapped (branch_at items) (branches_in items) (In-some (branches_in items) point (In-to_ascending branches_order.exact point (branch_points items) i)))))

  some_lines : (line : ℕ) → In line (line_points items) → 0 < length (items_shown s)
  some_lines line i =
      some_later (some_right (map branch_item s.branches) (map line_item s.lines)
      (some_mapped line_item s.lines (some_mapped (line_at items) (lines_in items) (In-some (lines_in items) line (In-to_ascending lines_order.exact line (line_points items) i)))))

  pub some_shown : (item : ItemData) → In item items → 0 < length (items_shown s)
  some_shown (LineItem line count checksum) i = some_lines line (In-flat line_point items (LineItem line count checksum) line i (inl refl))
  some_shown (FuncItem name line count) i = some_functions name (In-flat func_point items (FuncItem name line count) name i (inl refl))
  some_shown (BranchItem line block branch taken) i =
      let point : BranchPoint = record { line = line; block = block; branch = branch } in some_branches point (In-flat branch_point items (BranchItem line block branch taken) point i (inl refl))
