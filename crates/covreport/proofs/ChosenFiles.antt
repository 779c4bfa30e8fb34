-- The totals of all sections are those of the chosen files' sections, and those of each file that isn't chosen.
use Rattle.std.proofs.Common.{◌≡◌, ℕ, ◌+◌, Bool, true, false, cond, List, [], ◌∷◌, length, map, filter, refl, sym, ap, ◌∙◌, subst, inl, inr, arith}
use Rattle.std.specs.Cmp.Lexicographic.{slice_cmp}
use Rattle.std.specs.List.{count_by, sum_by}
use Rattle.std.specs.Ordering.{nat_cmp}
use Rattle.std.specs.Str.{bytes_eq}
use Rattle.std.proofs.lemmas.Bool.{cond-true, cond-false, false≢true}
use Rattle.std.proofs.lemmas.List.Kept.{IsStrictlySortedBy-filter}
use Rattle.std.proofs.lemmas.List.Sums.{sum_by-cons}
use Rattle.std.proofs.lemmas.Slice.Eq.{bytes_eq-Decides}
use Rattle.covtable.specs.declared.totals.Totals.{Totals}
use Rattle.covtable.specs.Content.{SectionData}
use Rattle.covtable.specs.Files.{FileTotalsData, file_with_totals, files_with_totals}
use Rattle.covtable.specs.Totals.{branches_found, files_in, functions_found, is_branch_hit, is_function_hit, is_line_hit, lines_found, over_files, own_sections, totals_of}
use Rattle.covtable.specs.TotalsExchanged.{IsAmong, no_totals, together}
use Rattle.covtable.proofs.Ascend.{In-ascending, In-to_ascending, ascending_sorted, one_sorted, sorted_one}
use Rattle.covtable.proofs.ContentsLists.{In-filter, In-unfilter}
use Rattle.covtable.proofs.Members.{In, In-map, In-unmap}
use Rattle.covtable.proofs.Orders.{names_order}
use Rattle.covtable.proofs.TotalsKinds.{same_totals}
use Rattle.covreport.specs.Others.{others}

-- ---- lists

-- picking by `p` and then by a stricter condition `a` gives what `a` alone picks
picked_again : {X : Type 0} (a p : X → Bool) → ((x : X) → a x ≡ true → p x ≡ true) → (xs : List X) → filter a (filter p xs) ≡ filter a xs
picked_again a p more [] = refl
picked_again {X} a p more (x ∷ xs) = by (p x) refl (a x) refl (picked_again a p more xs)
  where
    by : (b : Bool) → p x ≡ b → (c : Bool) → a x ≡ c → filter a (filter p xs) ≡ filter a xs → filter a (filter p (x ∷ xs)) ≡ filter a (x ∷ xs)
    by true is c of rest = ap (filter a) (cond-true (p x) (x ∷ filter p xs) (filter p xs) is) ∙ ap (λ (ys : List X). cond (a x) (x ∷ ys) ys) rest
    by false is true of rest = absurd (false≢true (sym is ∙ more x of))
    by false is false of rest = ap (filter a) (cond-false (p x) (x ∷ filter p xs) (filter p xs) is) ∙ rest ∙ sym (cond-false (a x) (x ∷ filter a xs) (filter a xs) of)

sum_same : {X : Type 0} (f g : X → ℕ) (xs : List X) → ((x : X) → In x xs → f x ≡ g x) → sum_by f xs ≡ sum_by g xs
sum_same f g [] same = refl
sum_same f g (x ∷ xs) same = omega (arith, sum_by-cons f x xs, sum_by-cons g x xs, same x (inl refl), sum_same f g xs (λ y i. same y (inr i)))

sum_mapped : {X Y : Type 0} (f : Y → ℕ) (g : X → Y) (xs : List X) → sum_by f (map g xs) ≡ sum_by (λ x. f (g x)) xs
sum_mapped f g [] = refl
sum_mapped f g (x ∷ xs) = omega (arith, sum_by-cons f (g x) (map g xs), sum_by-cons (λ y. f (g y)) x xs, sum_mapped f g xs)

module _ {X : Type 0} (p : X → Bool) (f : X → ℕ) where
  abbrev unless_picked : X → ℕ
  unless_picked x = cond (p x) 0 (f x)

  -- a sum over a list is the sum over the picked elements, and that over all others
  sum_parted : (xs : List X) → sum_by f (filter p xs) + sum_by unless_picked xs ≡ sum_by f xs
  sum_parted [] = refl
  sum_parted (x ∷ xs) = by (p x) refl (sum_parted xs)
    where
      by : (b : Bool) → p x ≡ b → sum_by f (filter p xs) + sum_by unless_picked xs ≡ sum_by f xs → sum_by f (filter p (x ∷ xs)) + sum_by unless_picked (x ∷ xs) ≡ sum_by f (x ∷ xs)
      by true is rest =
          let here : unless_picked x ≡ 0 = cond-true (p x) 0 (f x) is in
          omega (arith, ap (sum_by f) (cond-true (p x) (x ∷ filter p xs) (filter p xs) is), sum_by-cons f x (filter p xs), sum_by-cons f x xs, sum_by-cons unless_picked x xs, here, rest)
      by false is rest =
          let here : unless_picked x ≡ f x = cond-false (p x) 0 (f x) is in
          omega (arith, ap (sum_by f) (cond-false (p x) (x ∷ filter p xs) (filter p xs) is), sum_by-cons f x xs, sum_by-cons unless_picked x xs, here, rest)

-- ---- what is counted in the sections of chosen files

abbrev file_of : SectionData → List ℕ
file_of s = s.key.file

-- the sections of the chosen files
abbrev pub chosen_of : (List ℕ → Bool) → List SectionData → List SectionData
chosen_of chosen sections = filter (λ s. chosen s.key.file) sections

chosen_files : (chosen : List ℕ → Bool) (sections : List SectionData) → files_in (chosen_of chosen sections) ≡ filter chosen (files_in sections)
chosen_files chosen sections =
    one_sorted names_order.total (files_in (chosen_of chosen sections)) (filter chosen (files_in sections))
    (ascending_sorted names_order.total (map file_of (chosen_of chosen sections)))
    (IsStrictlySortedBy-filter (slice_cmp nat_cmp) chosen (files_in sections) (ascending_sorted names_order.total (map file_of sections)))
    to from
  where
    to : (file : List ℕ) → In file (files_in (chosen_of chosen sections)) → In file (filter chosen (files_in sections))
    to file i =
        let found = In-unmap file_of (chosen_of chosen sections) file (In-ascending names_order.exact file (map file_of (chosen_of chosen sections)) i) in
        let own = In-unfilter (λ (s : SectionData). chosen s.key.file) sections found.0 found.1 in
        In-filter chosen (files_in sections) file
        (In-to_ascending names_order.exact file (map file_of sections) (subst (λ (f : List ℕ). In f (map file_of sections)) found.2 (In-map file_of sections found.0 own.0)))
        (ap chosen (sym found.2) ∙ own.1)

    from : (file : List ℕ) → In file (filter chosen (files_in sections)) → In file (files_in (chosen_of chosen sections))
    from file i =
        let own = In-unfilter chosen (files_in sections) file i in
        let found = In-unmap file_of sections file (In-ascending names_order.exact file (map file_of sections) own.0) in
        In-to_ascending names_order.exact file (map file_of (chosen_of chosen sections))
        (subst (λ (f : List ℕ). In f (map file_of (chosen_of chosen sections))) found.2
        (In-map file_of (chosen_of chosen sections) found.0 (In-filter (λ (s : SectionData). chosen s.key.file) sections found.0 found.1 (ap chosen found.2 ∙ own.1))))

-- the sections of a chosen file are the same among those of all files
own_chosen : (chosen : List ℕ → Bool) (sections : List SectionData) (file : List ℕ) → chosen file ≡ true → own_sections file (chosen_of chosen sections) ≡ own_sections file sections
own_chosen chosen sections file is =
    picked_again (λ (s : SectionData). bytes_eq s.key.file file) (λ (s : SectionData). chosen s.key.file) (λ s e. ap chosen ((bytes_eq-Decides s.key.file file).0 e) ∙ is) sections

-- a file of the sections, alone
one_file : (sections : List SectionData) (file : List ℕ) → In file (files_in sections) → filter (λ other. bytes_eq other file) (files_in sections) ≡ file ∷ []
one_file sections file i =
    one_sorted names_order.total (filter (λ other. bytes_eq other file) (files_in sections)) (file ∷ [])
    (IsStrictlySortedBy-filter (slice_cmp nat_cmp) (λ other. bytes_eq other file) (files_in sections) (ascending_sorted names_order.total (map file_of sections)))
    (sorted_one (slice_cmp nat_cmp) file)
    (λ other j. inl (sym ((bytes_eq-Decides other file).0 (In-unfilter (λ (f : List ℕ). bytes_eq f file) (files_in sections) other j).1)))
    from
  where
    from : (other : List ℕ) → In other (file ∷ []) → In other (filter (λ f. bytes_eq f file) (files_in sections))
    from other (inl is) =
        subst (λ (f : List ℕ). In f (filter (λ g. bytes_eq g file) (files_in sections))) is
        (In-filter (λ (f : List ℕ). bytes_eq f file) (files_in sections) file i ((bytes_eq-Decides file file).1 refl))
    from other (inr none) = absurd none

module _ (count : List SectionData → ℕ) (sections : List SectionData) where
  abbrev own_count : List ℕ → ℕ
  own_count file = count (own_sections file sections)

  over_chosen : (chosen : List ℕ → Bool) → over_files count (chosen_of chosen sections) ≡ sum_by own_count (filter chosen (files_in sections))
  over_chosen chosen =
      ap (sum_by (λ file. count (own_sections file (chosen_of chosen sections)))) (chosen_files chosen sections)
      ∙ sum_same (λ file. count (own_sections file (chosen_of chosen sections))) own_count (filter chosen (files_in sections))
      (λ file i. ap count (own_chosen chosen sections file (In-unfilter chosen (files_in sections) file i).1))

  -- what is counted over the files of one file's sections is what is counted in these sections
  over_one : (file : List ℕ) → In file (files_in sections) → over_files count (own_sections file sections) ≡ own_count file
  over_one file i =
      over_chosen (λ other. bytes_eq other file) ∙ ap (sum_by own_count) (one_file sections file i) ∙ omega (arith, sum_by-cons own_count file [])

-- ---- the totals of files that aren't chosen

-- a number of the totals, which is a sum over the files
module _ (number : Totals → ℕ) (none : number no_totals ≡ 0) (adds : (a b : Totals) → number (together a b) ≡ number a + number b)
    (count : List SectionData → ℕ) (counts : (sections : List SectionData) → number (totals_of sections) ≡ over_files count sections) (chosen : List ℕ → Bool) where
  abbrev other : FileTotalsData → ℕ
  other file = cond (chosen file.path) 0 (number file.totals)

  sum_of_others : (files : List FileTotalsData) → number (others chosen files) ≡ sum_by other files
  unfolding others
  sum_of_others [] = none
  sum_of_others (file ∷ files) = by (chosen file.path) refl (sum_of_others files)
    where
      by : (b : Bool) → chosen file.path ≡ b → number (others chosen files) ≡ sum_by other files → number (others chosen (file ∷ files)) ≡ sum_by other (file ∷ files)
      by true is rest =
          let here : other file ≡ 0 = cond-true (chosen file.path) 0 (number file.totals) is in
          ap number (cond-true (chosen file.path) (others chosen files) (together file.totals (others chosen files)) is)
          ∙ omega (arith, rest, sum_by-cons other file files, here)
      by false is rest =
          let here : other file ≡ number file.totals = cond-false (chosen file.path) 0 (number file.totals) is in
          ap number (cond-false (chosen file.path) (others chosen files) (together file.totals (others chosen files)) is)
          ∙ omega (arith, adds file.totals (others chosen files), rest, sum_by-cons other file files, here)

  number_parted : (sections : List SectionData) → number (together (totals_of (chosen_of chosen sections)) (others chosen (files_with_totals sections))) ≡ number (totals_of sections)
  number_parted sections =
      let files = files_in sections in
      let own = own_count count sections in
      let same : sum_by other (files_with_totals sections) ≡ sum_by (λ file. cond (chosen file) 0 (own file)) files =
      sum_mapped other (file_with_totals sections) files
      ∙ sum_same (λ file. other (file_with_totals sections file)) (λ file. cond (chosen file) 0 (own file)) files
      (λ file i. ap (λ (n : ℕ). cond (chosen file) 0 n) (counts (own_sections file sections) ∙ over_one count sections file i)) in
      adds (totals_of (chosen_of chosen sections)) (others chosen (files_with_totals sections))
      ∙ omega (arith, counts (chosen_of chosen sections), over_chosen count sections chosen, sum_of_others (files_with_totals sections), same, sum_parted chosen own files, counts sections)

pub all_parted : (chosen : List ℕ → Bool) (sections : List SectionData) → together (totals_of (chosen_of chosen sections)) (others chosen (files_with_totals sections)) ≡ totals_of sections
all_parted chosen sections =
    same_totals (together (totals_of (chosen_of chosen sections)) (others chosen (files_with_totals sections))) (totals_of sections)
    (number_parted (λ t. t.lf) refl (λ a b. refl) (λ own. length (lines_found own)) (λ own. refl) chosen sections)
    (number_parted (λ t. t.lh) refl (λ a b. refl) (λ own. count_by (is_line_hit own) (lines_found own)) (λ own. refl) chosen sections)
    (number_parted (λ t. t.ff) refl (λ a b. refl) (λ own. length (functions_found own)) (λ own. refl) chosen sections)
    (number_parted (λ t. t.fh) refl (λ a b. refl) (λ own. count_by (is_function_hit own) (functions_found own)) (λ own. refl) chosen sections)
    (number_parted (λ t. t.bf) refl (λ a b. refl) (λ own. length (branches_found own)) (λ own. refl) chosen sections)
    (number_parted (λ t. t.bh) refl (λ a b. refl) (λ own. count_by (is_branch_hit own) (branches_found own)) (λ own. refl) chosen sections)

-- ---- files taken away one by one

module _ (chosen : List ℕ → Bool) (most now : Totals) (left more : List FileTotalsData) (file : FileTotalsData) (takes : Bool)
    (next : left ≡ file ∷ more) (so_far : now ≡ together most (others chosen left)) (test : takes ≡ chosen file.path) where
  here : others chosen left ≡ cond takes (others chosen more) (together file.totals (others chosen more))
  unfolding others
  here = ap (others chosen) next ∙ ap (λ (b : Bool). cond b (others chosen more) (together file.totals (others chosen more))) (sym test)

  pub chosen_stays : takes ≡ true → now ≡ together most (others chosen more)
  chosen_stays is = so_far ∙ ap (together most) (here ∙ cond-true takes (others chosen more) (together file.totals (others chosen more)) is)

  whole : takes ≡ false → now ≡ together most (together file.totals (others chosen more))
  whole is = so_far ∙ ap (together most) (here ∙ cond-false takes (others chosen more) (together file.totals (others chosen more)) is)

  pub other_is_among : takes ≡ false → IsAmong file.totals now
  other_is_among is =
      let all = whole is in
      record {
        lf = omega (arith, ap (λ (t : Totals). t.lf) all);
        lh = omega (arith, ap (λ (t : Totals). t.lh) all);
        ff = omega (arith, ap (λ (t : Totals). t.ff) all);
        fh = omega (arith, ap (λ (t : Totals). t.fh) all);
        bf = omega (arith, ap (λ (t : Totals). t.bf) all);
        bh = omega (arith, ap (λ (t : Totals). t.bh) all);
      }

  pub other_goes : takes ≡ false → (less : Totals) → together less file.totals ≡ now → less ≡ together most (others chosen more)
  other_goes is less without =
      let all = without ∙ whole is in
      same_totals less (together most (others chosen more))
      (omega (arith, ap (λ (t : Totals). t.lf) all))
      (omega (arith, ap (λ (t : Totals). t.lh) all))
      (omega (arith, ap (λ (t : Totals). t.ff) all))
      (omega (arith, ap (λ (t : Totals). t.fh) all))
      (omega (arith, ap (λ (t : Totals). t.bf) all))
      (omega (arith, ap (λ (t : Totals). t.bh) all))

pub none_left : (chosen : List ℕ → Bool) (most now : Totals) (left : List FileTotalsData) → left ≡ [] → now ≡ together most (others chosen left) → now ≡ most
unfolding others
none_left chosen most now left none so_far =
    let all = so_far ∙ ap (λ (files : List FileTotalsData). together most (others chosen files)) none in
    same_totals now most
    (omega (arith, ap (λ (t : Totals). t.lf) all))
    (omega (arith, ap (λ (t : Totals). t.lh) all))
    (omega (arith, ap (λ (t : Totals). t.ff) all))
    (omega (arith, ap (λ (t : Totals). t.fh) all))
    (omega (arith, ap (λ (t : Totals). t.bf) all))
    (omega (arith, ap (λ (t : Totals). t.bh) all))
