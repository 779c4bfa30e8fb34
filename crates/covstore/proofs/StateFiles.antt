-- What is counted in the sections of a state, file by file: each file with sections is counted once.
use Rattle.covstore.proofs.Words.{◌≡◌, ℕ, Bool, true, false, List, [], ◌∷◌, ◌++◌, map, filter, refl, sym, ap, ◌∙◌, subst, inl, inr, arith, slice_cmp, Less, flat_map, sum_by, nat_cmp, bytes_eq, cond-true, cond-false, false_from_ne_true, sum_by-cons, sum_by-append, bytes_eq-Decides, SectionData, ArePairs, FileData, sections_of, sections_of_file, files_in, over_files, own_sections, In-ascending, In-to_ascending, ascending_sorted, one_sorted, sorted_none, sorted_one, In-flat, In-unflat, All-in, In, In-map, In-unmap, names_order}
use Rattle.std.specs.List.Sorted.{IsStrictlySortedBy}
use Rattle.std.proofs.lemmas.List.{append-nil}
use Rattle.std.proofs.lemmas.List.Elements.{filter-append}
use Rattle.covstore.proofs.StateOrder.{key_of_section, sorted_parts}
use Rattle.covtable.proofs.TotalsDifferent.{not_less}

-- ---- the sections of one file

keep_all : {X : Type 0} (p : X → Bool) (xs : List X) → ((x : X) → In x xs → p x ≡ true) → filter p xs ≡ xs
keep_all p [] each = refl
keep_all {X} p (x ∷ xs) each = cond-true (p x) (x ∷ filter p xs) (filter p xs) (each x (inl refl)) ∙ ap (λ (others : List X). x ∷ others) (keep_all p xs (λ y i. each y (inr i)))

keep_none : {X : Type 0} (p : X → Bool) (xs : List X) → ((x : X) → In x xs → p x ≡ false) → filter p xs ≡ []
keep_none p [] each = refl
keep_none p (x ∷ xs) each = cond-false (p x) (x ∷ filter p xs) (filter p xs) (each x (inl refl)) ∙ keep_none p xs (λ y i. each y (inr i))

file_of_section : (pair : List ℕ × FileData) (section : SectionData) → In section (sections_of_file pair) → pair.0 ≡ section.key.file
file_of_section pair section i = ap (λ key. key.file) (key_of_section pair section i).1

is_own : (file : List ℕ) (pair : List ℕ × FileData) → pair.0 ≡ file → (section : SectionData) → In section (sections_of_file pair) → bytes_eq section.key.file file ≡ true
is_own file pair is section i = (bytes_eq-Decides section.key.file file).1 (sym (file_of_section pair section i) ∙ is)

not_own : (file : List ℕ) (pair : List ℕ × FileData) → (pair.0 ≡ file → ⊥) → (section : SectionData) → In section (sections_of_file pair) → bytes_eq section.key.file file ≡ false
not_own file pair other section i =
    false_from_ne_true (bytes_eq section.key.file file) (λ e. other (file_of_section pair section i ∙ (bytes_eq-Decides section.key.file file).0 e))

own_all : (pair : List ℕ × FileData) → filter (λ s. bytes_eq s.key.file pair.0) (sections_of_file pair) ≡ sections_of_file pair
own_all pair = keep_all (λ s. bytes_eq s.key.file pair.0) (sections_of_file pair) (is_own pair.0 pair refl)

pub own_none : (file : List ℕ) (files : List (List ℕ × FileData)) → ((pair : List ℕ × FileData) → In pair files → pair.0 ≡ file → ⊥) → own_sections file (sections_of files) ≡ []
own_none file files apart =
    keep_none (λ s. bytes_eq s.key.file file) (sections_of files)
    (λ section i. let pair = In-unflat sections_of_file files section i in not_own file pair.0 (apart pair.0 pair.1) section pair.2)

-- the sections of a file, among those of all files, are the ones made from this file
pub own_seen : (files : List (List ℕ × FileData)) → ArePairs (slice_cmp nat_cmp) files → (pair : List ℕ × FileData) → In pair files → own_sections pair.0 (sections_of files) ≡ sections_of_file pair
own_seen [] sorted pair i = absurd i
own_seen (first ∷ files) sorted pair (inl is) =
    let own = λ (s : SectionData). bytes_eq s.key.file first.0 in
    let others : filter own (sections_of files) ≡ [] =
    own_none first.0 files (λ next j same. not_less names_order.total first.0 next.0 (All-in (λ (other : List ℕ × FileData). slice_cmp nat_cmp first.0 other.0 ≡ Less) files next sorted.0 j) (sym same)) in
    subst (λ (p : List ℕ × FileData). own_sections p.0 (sections_of (first ∷ files)) ≡ sections_of_file p) is
    (filter-append own (sections_of_file first) (sections_of files)
    ∙ ap (λ (all : List SectionData). all ++ filter own (sections_of files)) (own_all first)
    ∙ ap (λ (none : List SectionData). sections_of_file first ++ none) others ∙ append-nil (sections_of_file first))
own_seen (first ∷ files) sorted pair (inr i) =
    let own = λ (s : SectionData). bytes_eq s.key.file pair.0 in
    let none : filter own (sections_of_file first) ≡ [] =
    keep_none own (sections_of_file first)
    (not_own pair.0 first (not_less names_order.total first.0 pair.0 (All-in (λ (other : List ℕ × FileData). slice_cmp nat_cmp first.0 other.0 ≡ Less) files pair sorted.0 i))) in
    filter-append own (sections_of_file first) (sections_of files)
    ∙ ap (λ (left : List SectionData). left ++ filter own (sections_of files)) none ∙ own_seen files sorted.1 pair i

-- ---- the files with sections

-- the file's name, if it has a section
abbrev pub name_if : List ℕ → List SectionData → List (List ℕ)
name_if name [] = []
name_if name (section ∷ sections) = name ∷ []

abbrev pub name_seen : List ℕ × FileData → List (List ℕ)
name_seen pair = name_if pair.0 (sections_of_file pair)

name_if_sorted : (name : List ℕ) (sections : List SectionData) → IsStrictlySortedBy (slice_cmp nat_cmp) (name_if name sections)
name_if_sorted name [] = sorted_none (slice_cmp nat_cmp)
name_if_sorted name (section ∷ sections) = sorted_one (slice_cmp nat_cmp) name

In-name_if : (name other : List ℕ) (sections : List SectionData) → In other (name_if name sections) → (name ≡ other) × (section : SectionData) × In section sections
In-name_if name other [] i = absurd i
In-name_if name other (section ∷ sections) (inl is) = (is, section, inl refl)
In-name_if name other (section ∷ sections) (inr i) = absurd i

In-to_name_if : (name : List ℕ) (section : SectionData) (sections : List SectionData) → In section sections → In name (name_if name sections)
In-to_name_if name section [] i = absurd i
In-to_name_if name section (first ∷ sections) i = inl refl

pub names_seen : (files : List (List ℕ × FileData)) → ArePairs (slice_cmp nat_cmp) files → files_in (sections_of files) ≡ flat_map name_seen files
names_seen files sorted =
    one_sorted names_order.total (files_in (sections_of files)) (flat_map name_seen files) (ascending_sorted names_order.total (map file_of (sections_of files)))
    (sorted_parts (slice_cmp nat_cmp) (slice_cmp nat_cmp) name_seen files sorted (λ pair i. name_if_sorted pair.0 (sections_of_file pair)) apart) to from
  where
    file_of : SectionData → List ℕ
    file_of s = s.key.file

    apart : (pair next : List ℕ × FileData) (x y : List ℕ) → slice_cmp nat_cmp pair.0 next.0 ≡ Less → In x (name_seen pair) → In y (name_seen next) → slice_cmp nat_cmp x y ≡ Less
    apart pair next x y less i j =
        ap (λ (name : List ℕ). slice_cmp nat_cmp name y) (sym (In-name_if pair.0 x (sections_of_file pair) i).0)
        ∙ ap (slice_cmp nat_cmp pair.0) (sym (In-name_if next.0 y (sections_of_file next) j).0) ∙ less

    to : (name : List ℕ) → In name (files_in (sections_of files)) → In name (flat_map name_seen files)
    to name i =
        let section = In-unmap (λ (s : SectionData). s.key.file) (sections_of files) name (In-ascending names_order.exact name (map (λ (s : SectionData). s.key.file) (sections_of files)) i) in
        let pair = In-unflat sections_of_file files section.0 section.1 in
        In-flat name_seen files pair.0 name pair.1
        (subst (λ (other : List ℕ). In other (name_seen pair.0)) (file_of_section pair.0 section.0 pair.2 ∙ section.2) (In-to_name_if pair.0.0 section.0 (sections_of_file pair.0) pair.2))

    from : (name : List ℕ) → In name (flat_map name_seen files) → In name (files_in (sections_of files))
    from name i =
        let pair = In-unflat name_seen files name i in
        let section = In-name_if pair.0.0 name (sections_of_file pair.0) pair.2 in
        In-to_ascending names_order.exact name (map (λ (s : SectionData). s.key.file) (sections_of files))
        (subst (λ (other : List ℕ). In other (map (λ (s : SectionData). s.key.file) (sections_of files))) (sym (file_of_section pair.0 section.1 section.2) ∙ section.0)
        (In-map (λ (s : SectionData). s.key.file) (sections_of files) section.1 (In-flat sections_of_file files pair.0 section.1 pair.1 section.2)))

-- ---- sums over the files

sum_parts : {X Y : Type 0} (g : Y → ℕ) (part : X → List Y) (f : X → ℕ) (xs : List X) → ((x : X) → In x xs → sum_by g (part x) ≡ f x) → sum_by g (flat_map part xs) ≡ sum_by f xs
sum_parts g part f [] same = refl
sum_parts g part f (x ∷ xs) same =
    omega (arith, sum_by-append g (part x) (flat_map part xs), sum_by-cons f x xs, same x (inl refl), sum_parts g part f xs (λ y i. same y (inr i)))

module _ (count : List SectionData → ℕ) (none : count [] ≡ 0) (files : List (List ℕ × FileData)) (sorted : ArePairs (slice_cmp nat_cmp) files) where
  own_count : List ℕ → ℕ
  own_count file = count (own_sections file (sections_of files))

  counted_once : (name : List ℕ) (sections : List SectionData) → own_sections name (sections_of files) ≡ sections → sum_by own_count (name_if name sections) ≡ count sections
  unfolding own_count
  counted_once name [] e = sym none
  counted_once name (section ∷ sections) e = omega (arith, sum_by-cons own_count name [], ap count e)

  -- if each file keeps the number that is counted in its sections, the sums over the files are equal
  pub over_all : (kept : FileData → ℕ) → ((pair : List ℕ × FileData) → In pair files → count (sections_of_file pair) ≡ kept pair.1) → over_files count (sections_of files) ≡ sum_by (λ pair. kept pair.1) files
  unfolding own_count
  over_all kept same =
      ap (sum_by own_count) (names_seen files sorted)
      ∙ sum_parts own_count name_seen (λ (pair : List ℕ × FileData). kept pair.1) files
      (λ pair i. counted_once pair.0 (sections_of_file pair) (own_seen files sorted pair i) ∙ same pair i)
