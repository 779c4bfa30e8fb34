-- What contracts see of a test whose points are what items add up to: the section of these items, or no section if there are no
-- items.
use Rattle.covstore.proofs.Words.{◌≡◌, ℕ, Option, Some, None, List, [], ◌∷◌, map, refl, sym, ap, ◌∙◌, subst, inl, inr, ⊎_elim, ◌⊎◌, nat_cmp, BranchPoint, line_points, func_points, branch_points, ItemData, LineItem, FuncItem, BranchItem, LineSum, LineValueData, SectionData, branch_at, function_at, line_at, section_with, value_of, text_at, line_seen, function_seen, branch_seen, section_with_points, section_seen, TestData, test_of, line_sum, function_sum, branch_sum, Key, lines_in, line_checksum, names_in, branches_in, In-to_ascending, In, In-map, lines_order, names_order, branches_order}
use Rattle.std.specs.Option.{is_some}
use Rattle.covstore.specs.declared.sums.FunctionSum.{FunctionSum}
use Rattle.covstore.specs.declared.sums.BranchSum.{BranchSum}
use Rattle.covtable.proofs.ContentsKinds.{map_of_map}

-- ---- a test with points

-- a test has no points of any kind
pub record HasNone (test : TestData) : Type 0 where
  pub lines : test.lines ≡ []
  pub functions : test.functions ≡ []
  pub branches : test.branches ≡ []

not_empty : {X : Type 0} (x : X) (xs : List X) → In x xs → xs ≡ [] → ⊥
not_empty {X} x xs i e = subst (In x) e i

points_from : List (ℕ × LineSum) → List (List ℕ × FunctionSum) → List (BranchPoint × BranchSum) → TestData
points_from lines functions branches = record { lines = lines; functions = functions; branches = branches }

-- what is seen of a test: no section if it has no points, else one section
abbrev pub IsSeen : List ℕ → List (ℕ × List ℕ) → List ℕ → TestData → Type 0
IsSeen file texts test points =
    (HasNone points × (section_seen file texts test points ≡ [])) ⊎ ((HasNone points → ⊥) × (section_seen file texts test points ≡ section_with_points file texts test points ∷ []))

seen_at : (file : List ℕ) (texts : List (ℕ × List ℕ)) (test : List ℕ) (lines : List (ℕ × LineSum)) (functions : List (List ℕ × FunctionSum)) (branches : List (BranchPoint × BranchSum))
    → IsSeen file texts test (points_from lines functions branches)
unfolding points_from
seen_at file texts test [] [] [] = inl (record { lines = refl; functions = refl; branches = refl }, refl)
seen_at file texts test (line ∷ lines) functions branches = inr (λ (none : HasNone (points_from (line ∷ lines) functions branches)). not_empty line (line ∷ lines) (inl refl) none.lines, refl)
seen_at file texts test [] (function ∷ functions) branches =
    inr (λ (none : HasNone (points_from [] (function ∷ functions) branches)). not_empty function (function ∷ functions) (inl refl) none.functions, refl)
seen_at file texts test [] [] (branch ∷ branches) = inr (λ (none : HasNone (points_from [] [] (branch ∷ branches))). not_empty branch (branch ∷ branches) (inl refl) none.branches, refl)

pub seen_or_not : (file : List ℕ) (texts : List (ℕ × List ℕ)) (test : List ℕ) (points : TestData) → IsSeen file texts test points
unfolding points_from
seen_or_not file texts test points = seen_at file texts test points.lines points.functions points.branches

pub seen_whole : (file : List ℕ) (texts : List (ℕ × List ℕ)) (test : List ℕ) (points : TestData) → (HasNone points → ⊥) → section_seen file texts test points ≡ section_with_points file texts test points ∷ []
seen_whole file texts test points some = ⊎_elim (λ seen. absurd (some seen.0)) (λ seen. seen.1) (seen_or_not file texts test points)

-- a section has the file and the test that it was made from
pub seen_key : (file : List ℕ) (texts : List (ℕ × List ℕ)) (test : List ℕ) (points : TestData) (section : SectionData) → In section (section_seen file texts test points)
    → ◌≡◌ {A = Key} (record { file = file; test = test }) section.key
seen_key file texts test points section i =
    ⊎_elim {C = ◌≡◌ {A = Key} (record { file = file; test = test }) section.key}
    (λ seen. absurd (subst (In section) seen.1 i))
    (λ seen. by (subst (In section) seen.1 i))
    (seen_or_not file texts test points)
  where
    by : In section (section_with_points file texts test points ∷ []) → ◌≡◌ {A = Key} (record { file = file; test = test }) section.key
    by (inl is) = ap (λ (s : SectionData). s.key) is
    by (inr none) = absurd none

-- ---- items have points

some_points : (items : List ItemData) (item : ItemData) (others : List ItemData) → items ≡ item ∷ others → HasNone (test_of items) → ⊥
some_points items (LineItem line count checksum) others e none =
    let first : In line (line_points items) = subst (λ (all : List ItemData). In line (line_points all)) (sym e) (inl refl) in
    not_empty (line_sum items line) (test_of items).lines (In-map (line_sum items) (lines_in items) line (In-to_ascending lines_order.exact line (line_points items) first)) none.lines
some_points items (FuncItem name line count) others e none =
    let first : In name (func_points items) = subst (λ (all : List ItemData). In name (func_points all)) (sym e) (inl refl) in
    not_empty (function_sum items name) (test_of items).functions (In-map (function_sum items) (names_in items) name (In-to_ascending names_order.exact name (func_points items) first)) none.functions
some_points items (BranchItem line block branch taken) others e none =
    let point : BranchPoint = record { line = line; block = block; branch = branch } in
    let first : In point (branch_points items) = subst (λ (all : List ItemData). In point (branch_points all)) (sym e) (inl refl) in
    not_empty (branch_sum items point) (test_of items).branches (In-map (branch_sum items) (branches_in items) point (In-to_ascending branches_order.exact point (branch_points items) first)) none.branches

pub some_points_of : (items : List ItemData) (item : ItemData) → In item items → HasNone (test_of items) → ⊥
some_points_of [] item i none = i
some_points_of (first ∷ others) item i none = some_points (first ∷ others) first others refl none

-- ---- the values of the points

pub text_as_said : (texts : List (ℕ × List ℕ)) (line : ℕ) (said : Option (List ℕ)) → ((text : List ℕ) → said ≡ Some text → value_of nat_cmp line texts ≡ Some text) → text_at texts line (is_some said) ≡ said
text_as_said texts line None has = refl
text_as_said texts line (Some text) has = has text refl

line_from : ℕ → ℕ → Option (List ℕ) → LineValueData
line_from line count checksum = record { line = line; count = count; checksum = checksum }

line_as : (texts : List (ℕ × List ℕ)) (items : List ItemData) (line : ℕ) → ((text : List ℕ) → line_checksum line items ≡ Some text → value_of nat_cmp line texts ≡ Some text)
    → line_seen texts (line_sum items line) ≡ line_at items line
unfolding line_from
line_as texts items line has = ap (line_from line (line_sum items line).1.count) (text_as_said texts line (line_checksum line items) has)

-- the texts have the checksums that the items give
abbrev pub HasChecksums : List (ℕ × List ℕ) → List ItemData → Type 0
HasChecksums texts items = (line : ℕ) (text : List ℕ) → line_checksum line items ≡ Some text → value_of nat_cmp line texts ≡ Some text

whole_as : (key : Key) (texts : List (ℕ × List ℕ)) (items : List ItemData) → HasChecksums texts items → section_with_points key.file texts key.test (test_of items) ≡ section_with key items
whole_as key texts items has =
    let functions : map function_seen (test_of items).functions ≡ map (function_at items) (names_in items) = map_of_map (function_sum items) function_seen (function_at items) (names_in items) (λ name. refl) in
    let branches : map branch_seen (test_of items).branches ≡ map (branch_at items) (branches_in items) = map_of_map (branch_sum items) branch_seen (branch_at items) (branches_in items) (λ point. refl) in
    let lines : map (line_seen texts) (test_of items).lines ≡ map (line_at items) (lines_in items) =
    map_of_map (line_sum items) (line_seen texts) (line_at items) (lines_in items) (λ line. line_as texts items line (has line)) in
    λ i. record { key = key; functions = functions i; branches = branches i; lines = lines i }

-- ---- the section

-- if there are items, the section is theirs
pub seen_as : (key : Key) (texts : List (ℕ × List ℕ)) (items : List ItemData) (item : ItemData) → HasChecksums texts items → In item items
    → section_seen key.file texts key.test (test_of items) ≡ section_with key items ∷ []
seen_as key texts [] item has i = absurd i
seen_as key texts (first ∷ others) item has i =
    let items = first ∷ others in
    seen_whole key.file texts key.test (test_of items) (some_points items first others refl) ∙ ap (λ (s : SectionData). s ∷ []) (whole_as key texts items has)

-- if there is a section, it is that of the items, and there is an item
pub seen_is : (key : Key) (texts : List (ℕ × List ℕ)) (items : List ItemData) (section : SectionData) → HasChecksums texts items → In section (section_seen key.file texts key.test (test_of items))
    → (section_with key items ≡ section) × (item : ItemData) × In item items
seen_is key texts [] section has i = absurd i
seen_is key texts (first ∷ others) section has i = by (subst (In section) (seen_as key texts (first ∷ others) first has (inl refl)) i)
  where
    by : In section (section_with key (first ∷ others) ∷ []) → (section_with key (first ∷ others) ≡ section) × (item : ItemData) × In item (first ∷ others)
    by (inl is) = (is, first, inl refl)
    by (inr none) = absurd none
