-- For each kind of points, the counts of a file give what is found and hit in its sections.
use Rattle.covstore.proofs.Words.{◌≡◌, ℕ, Bool, true, false, ◌==◌, ◌&&◌, nat_lt, List, [], ◌∷◌, length, map, filter, cond, refl, sym, ap, subst, Ordering, Less, slice_cmp, AllByRecursion, flat_map, list_any, is_eq, nat_cmp, bytes_eq, eqb-true, eq-eqb, tied_itself, tells_apart, bytes_eq-Decides, branch_points, func_points, line_points, ItemData, Row, BranchValueData, FunctionValueData, LineValueData, SectionData, branch_at, content_of, function_at, line_at, section_of, section_with, AreCounts, found_of, hit_of, ArePairs, own_sections, Key, branch_cmp, branches_in, is_branch, is_taken, items_at, keys_of, lines_in, names_in, Branch, CountsOf, Function, KeyOf, Kind, Line, cmp_of, IsExactOrder, ascending_sorted, branches_order, lines_order, names_order, same_truth}
use Rattle.std.specs.List.{count_by}
use Rattle.std.specs.List.Sorted.{IsStrictlySortedBy}
use Rattle.covtable.specs.Ascending.{ascending}
use Rattle.covstore.proofs.CountsFound.{section_points_found, section_points_hit}
use Rattle.covtable.proofs.TotalsKinds.{itself, same_branch}
use Rattle.covstore.proofs.EachKind.{order_of}

-- ---- what sections show of a kind

abbrev pub ValueOf : Kind → Type 0
ValueOf Line = LineValueData
ValueOf Function = FunctionValueData
ValueOf Branch = BranchValueData

abbrev pub key_in : (kind : Kind) → ValueOf kind → KeyOf kind
key_in Line l = l.line
key_in Function f = f.name
key_in Branch b = b.point

abbrev pub above_in : (kind : Kind) → ValueOf kind → Bool
above_in Line l = nat_lt 0 l.count
above_in Function f = nat_lt 0 f.count
above_in Branch b = is_taken b.taken

abbrev pub values_in : (kind : Kind) → SectionData → List (ValueOf kind)
values_in Line s = s.lines
values_in Function s = s.functions
values_in Branch s = s.branches

-- the points of a section with their values
abbrev pub valued : (kind : Kind) → SectionData → List (KeyOf kind × ValueOf kind)
valued kind s = map (λ v. (key_in kind v, v)) (values_in kind s)

-- the value is that of this point
abbrev is_at : (kind : Kind) → KeyOf kind → ValueOf kind → Bool
is_at Line line l = l.line == line
is_at Function name f = bytes_eq f.name name
is_at Branch point b = is_branch point b.point.line b.point.block b.point.branch

-- the points of a kind in sections, each once, ascending
abbrev pub found_in : (kind : Kind) → List SectionData → List (KeyOf kind)
found_in kind sections = ascending (cmp_of kind) (flat_map (λ s. map (key_in kind) (values_in kind s)) sections)

abbrev pub is_hit_in : (kind : Kind) → List SectionData → KeyOf kind → Bool
is_hit_in kind sections key = list_any (λ s. list_any (λ v. is_at kind key v && above_in kind v) (values_in kind s)) sections

-- a function that decides equality agrees with the order
same_test : {X : Type 0} {cmp : X → X → Ordering} → IsExactOrder cmp → (equal : X → X → Bool) → ((x y : X) → equal x y ≡ true → x ≡ y) → ((x : X) → equal x x ≡ true)
    → (x y : X) → equal x y ≡ is_eq (cmp x y)
same_test {X} {cmp} o equal to self x y =
    same_truth (equal x y) (is_eq (cmp x y))
    (λ h. subst (λ (z : X). is_eq (cmp x z) ≡ true) (to x y h) (ap is_eq (tied_itself o.total x)))
    (λ h. subst (λ (z : X). equal x z ≡ true) (tells_apart o.exact x y h) (self x))

at_is : (kind : Kind) (key : KeyOf kind) (v : ValueOf kind) → is_at kind key v ≡ is_eq (cmp_of kind (key_in kind v) key)
at_is Line line l = same_test lines_order (λ x y. x == y) eqb-true (λ x. eq-eqb x x refl) l.line line
at_is Function name f = same_test names_order bytes_eq (λ x y. (bytes_eq-Decides x y).0) (λ x. (bytes_eq-Decides x x).1 refl) f.name name
at_is Branch point b = same_test branches_order (λ x y. is_branch y x.line x.block x.branch) (λ x y h. same_branch y x.line x.block x.branch h) itself b.point point

-- the counts of the sections' points give how many are found, and how many of them are hit
pub counted : (kind : Kind) (own : List SectionData) (counts : CountsOf kind) → AllByRecursion (λ s. ArePairs (cmp_of kind) (valued kind s)) own → AreCounts (cmp_of kind) (above_in kind) (map (valued kind) own) counts
    → (length (found_in kind own) ≡ found_of counts) × (count_by (is_hit_in kind own) (found_in kind own) ≡ hit_of counts)
counted kind own counts sorted are = (
  section_points_found (order_of kind) (values_in kind) (key_in kind) (above_in kind) own counts are,
  section_points_hit (order_of kind) (values_in kind) (key_in kind) (above_in kind) own counts are (λ key v. is_at kind key v && above_in kind v)
      (λ key v. ap (λ (b : Bool). b && above_in kind v) (at_is kind key v)) sorted,
)

-- ---- the sections of a content ascend

All-made : {X Y : Type 0} (P : Y → Type 0) (p : Y → Bool) (make : X → Y) → ((x : X) → P (make x)) → (xs : List X) → AllByRecursion P (filter p (map make xs))
All-made P p make all [] = tt
All-made {X} {Y} P p make all (x ∷ xs) = by (p (make x)) (filter p (map make xs)) (All-made P p make all xs)
  where
    by : (b : Bool) (ys : List Y) → AllByRecursion P ys → AllByRecursion P (cond b (make x ∷ ys) ys)
    by true ys rest = (all x, rest)
    by false ys rest = rest

made_after : {X Y : Type 0} (P : X → Type 0) (at : Y → X) (make : X → Y) → ((x : X) → at (make x) ≡ x) → (xs : List X) → AllByRecursion P xs
    → AllByRecursion (λ (next : X × Y). P next.0) (map (λ y. (at y, y)) (map make xs))
made_after P at make same [] all = tt
made_after P at make same (x ∷ xs) all = (subst P (sym (same x)) all.0, made_after P at make same xs all.1)

made_ascending : {X Y : Type 0} (cmp : X → X → Ordering) (at : Y → X) (make : X → Y) → ((x : X) → at (make x) ≡ x) → (xs : List X) → IsStrictlySortedBy cmp xs
    → ArePairs cmp (map (λ y. (at y, y)) (map make xs))
unfolding IsStrictlySortedBy
made_ascending cmp at make same [] sorted = tt
made_ascending {X} {Y} cmp at make same (x ∷ xs) sorted =
    (made_after (λ z. cmp (at (make x)) z ≡ Less) at make same xs (subst (λ (z : X). AllByRecursion (λ w. cmp z w ≡ Less) xs) (sym (same x)) sorted.0), made_ascending cmp at make same xs sorted.1)

section_ascends : (kind : Kind) (items : List ItemData) (key : Key) → ArePairs (cmp_of kind) (valued kind (section_with key items))
section_ascends Line items key = made_ascending nat_cmp (λ (l : LineValueData). l.line) (line_at items) (λ x. refl) (lines_in items) (ascending_sorted lines_order.total (line_points items))
section_ascends Function items key =
    made_ascending (slice_cmp nat_cmp) (λ (f : FunctionValueData). f.name) (function_at items) (λ x. refl) (names_in items) (ascending_sorted names_order.total (func_points items))
section_ascends Branch items key = made_ascending branch_cmp (λ (b : BranchValueData). b.point) (branch_at items) (λ x. refl) (branches_in items) (ascending_sorted branches_order.total (branch_points items))

pub ascend : (kind : Kind) (file : List ℕ) (rows : List Row) → AllByRecursion (λ s. ArePairs (cmp_of kind) (valued kind s)) (own_sections file (content_of rows))
ascend kind file rows =
    All-made (λ s. ArePairs (cmp_of kind) (valued kind s)) (λ s. bytes_eq s.key.file file) (section_of rows) (λ (key : Key). section_ascends kind (items_at key rows) key) (keys_of rows)
