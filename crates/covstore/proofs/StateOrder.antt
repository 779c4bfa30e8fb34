-- The sections of ascending files with ascending tests are in ascending order.
use Rattle.covstore.proofs.Words.{◌≡◌, ℕ, List, [], ◌∷◌, ◌++◌, map, refl, sym, ap, ◌∙◌, subst, inl, inr, ⊎_elim, slice_cmp, Ordering, Less, AllByRecursion, flat_map, nat_cmp, ordering_then, tied_itself, SectionData, ArePairs, FileData, IsConsistentFile, section_seen, section_with_points, sections_of, sections_of_file, TestData, Key, key_cmp, sorted_none, sorted_one, In-unflat, In, All-in, All-from, All-joined, names_order}
use Rattle.std.specs.List.Sorted.{IsStrictlySortedBy}
use Rattle.covstore.proofs.StateSeen.{seen_or_not, seen_key}

-- ---- lists joined

sorted_joined : {X : Type 0} (cmp : X → X → Ordering) (xs ys : List X) → IsStrictlySortedBy cmp xs → IsStrictlySortedBy cmp ys → ((x y : X) → In x xs → In y ys → cmp x y ≡ Less) → IsStrictlySortedBy cmp (xs ++ ys)
unfolding IsStrictlySortedBy
sorted_joined cmp [] ys left right before = right
sorted_joined {X} cmp (x ∷ xs) ys left right before = (
  All-joined (λ z. cmp x z ≡ Less) xs ys left.0 (All-from (λ z. cmp x z ≡ Less) ys (λ y i. before x y (inl refl) i)),
  sorted_joined cmp xs ys left.1 right (λ z y i j. before z y (inr i) j),
)

-- parts made from ascending pairs and joined are ascending, if each part is ascending and all of it comes before the later parts
pub sorted_parts : {K V X : Type 0} (order : K → K → Ordering) (cmp : X → X → Ordering) (part : K × V → List X) (pairs : List (K × V)) → ArePairs order pairs
    → ((pair : K × V) → In pair pairs → IsStrictlySortedBy cmp (part pair))
    → ((pair next : K × V) (x y : X) → order pair.0 next.0 ≡ Less → In x (part pair) → In y (part next) → cmp x y ≡ Less) → IsStrictlySortedBy cmp (flat_map part pairs)
sorted_parts order cmp part [] ascending each before = sorted_none cmp
sorted_parts {K} {V} {X} order cmp part (pair ∷ pairs) ascending each before =
    sorted_joined cmp (part pair) (flat_map part pairs) (each pair (inl refl)) (sorted_parts order cmp part pairs ascending.1 (λ other i. each other (inr i)) before)
    (λ x y i j. let found = In-unflat part pairs y j in
    before pair found.0 x y (All-in (λ (next : K × V). order pair.0 next.0 ≡ Less) pairs found.0 ascending.0 found.1) i found.2)

-- ---- sections

abbrev pub section_cmp : SectionData → SectionData → Ordering
section_cmp a b = key_cmp a.key b.key

-- the sections of one test: there is at most one
seen_sorted : (file : List ℕ) (texts : List (ℕ × List ℕ)) (test : List ℕ) (points : TestData) → IsStrictlySortedBy section_cmp (section_seen file texts test points)
seen_sorted file texts test points =
    ⊎_elim {C = IsStrictlySortedBy section_cmp (section_seen file texts test points)}
    (λ seen. subst (IsStrictlySortedBy section_cmp) (sym seen.1) (sorted_none section_cmp))
    (λ seen. subst (IsStrictlySortedBy section_cmp) (sym seen.1) (sorted_one section_cmp (section_with_points file texts test points)))
    (seen_or_not file texts test points)

by_key : (a b : SectionData) (k l : Key) → k ≡ a.key → l ≡ b.key → key_cmp k l ≡ Less → section_cmp a b ≡ Less
by_key a b k l left right less = ap (λ (key : Key). key_cmp key b.key) (sym left) ∙ ap (key_cmp k) (sym right) ∙ less

-- sections of one file are ordered by their tests
test_first : (file one other : List ℕ) → slice_cmp nat_cmp one other ≡ Less → ◌≡◌ {A = Ordering} (key_cmp (record { file = file; test = one }) (record { file = file; test = other })) Less
test_first file one other less = ap (λ (o : Ordering). ordering_then o (slice_cmp nat_cmp one other)) (tied_itself names_order.total file) ∙ less

-- sections of different files are ordered by their files
file_first : (file next one other : List ℕ) → slice_cmp nat_cmp file next ≡ Less → ◌≡◌ {A = Ordering} (key_cmp (record { file = file; test = one }) (record { file = next; test = other })) Less
file_first file next one other less = ap (λ (o : Ordering). ordering_then o (slice_cmp nat_cmp one other)) less

-- a section of a file is of one of its tests
pub section_of_test : (pair : List ℕ × FileData) (section : SectionData) → In section (sections_of_file pair)
    → (test : List ℕ × TestData) × In test pair.1.tests × In section (section_seen pair.0 pair.1.index.texts test.0 test.1)
section_of_test pair section i = In-unflat (λ (test : List ℕ × TestData). section_seen pair.0 pair.1.index.texts test.0 test.1) pair.1.tests section i

pub key_of_section : (pair : List ℕ × FileData) (section : SectionData) → In section (sections_of_file pair) → (test : List ℕ) × ◌≡◌ {A = Key} (record { file = pair.0; test = test }) section.key
key_of_section pair section i = let found = section_of_test pair section i in (found.0.0, seen_key pair.0 pair.1.index.texts found.0.0 found.0.1 section found.2)

file_sorted : (pair : List ℕ × FileData) → IsConsistentFile pair.1 → IsStrictlySortedBy section_cmp (sections_of_file pair)
file_sorted pair whole =
    sorted_parts (slice_cmp nat_cmp) section_cmp (λ (test : List ℕ × TestData). section_seen pair.0 pair.1.index.texts test.0 test.1) pair.1.tests whole.ascending
    (λ test i. seen_sorted pair.0 pair.1.index.texts test.0 test.1)
    (λ test next a b less i j.
    by_key a b (record { file = pair.0; test = test.0 }) (record { file = pair.0; test = next.0 }) (seen_key pair.0 pair.1.index.texts test.0 test.1 a i) (seen_key pair.0 pair.1.index.texts next.0 next.1 b j)
    (test_first pair.0 test.0 next.0 less))

pub state_sorted : (files : List (List ℕ × FileData)) → ArePairs (slice_cmp nat_cmp) files → AllByRecursion (λ pair. IsConsistentFile pair.1) files → IsStrictlySortedBy section_cmp (sections_of files)
state_sorted files ascending whole =
    sorted_parts (slice_cmp nat_cmp) section_cmp sections_of_file files ascending
    (λ pair i. file_sorted pair (All-in (λ (p : List ℕ × FileData). IsConsistentFile p.1) files pair whole i))
    (λ pair next a b less i j.
    let one = key_of_section pair a i in
    let other = key_of_section next b j in
    by_key a b (record { file = pair.0; test = one.0 }) (record { file = next.0; test = other.0 }) one.1 other.1 (file_first pair.0 next.0 one.0 other.0 less))

-- ---- the same for a list made from keys

All-made : {K X : Type 0} (cmp : K → K → Ordering) (made : K → X) (key_of : X → K) → ((k : K) → key_of (made k) ≡ k) → (key : K) (keys : List K) → AllByRecursion (λ next. cmp key next ≡ Less) keys
    → AllByRecursion (λ x. cmp (key_of (made key)) (key_of x) ≡ Less) (map made keys)
All-made cmp made key_of own key [] all = tt
All-made {K} {X} cmp made key_of own key (next ∷ keys) all =
    (ap (λ (k : K). cmp k (key_of (made next))) (own key) ∙ ap (cmp key) (own next) ∙ all.0, All-made cmp made key_of own key keys all.1)

pub made_sorted : {K X : Type 0} (cmp : K → K → Ordering) (made : K → X) (key_of : X → K) → ((k : K) → key_of (made k) ≡ k) → (keys : List K) → IsStrictlySortedBy cmp keys
    → IsStrictlySortedBy (λ a b. cmp (key_of a) (key_of b)) (map made keys)
unfolding IsStrictlySortedBy
made_sorted cmp made key_of own [] sorted = tt
made_sorted cmp made key_of own (key ∷ keys) sorted = (All-made cmp made key_of own key keys sorted.0, made_sorted cmp made key_of own keys sorted.1)
