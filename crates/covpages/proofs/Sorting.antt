-- What a stable sort of files by their directories gives.
use Rattle.std.proofs.Common.{◌≡◌, ℕ, ◌+◌, Bool, true, false, cond, not, ◌&&◌, List, [], ◌∷◌, map, filter, refl, sym, ap, ap₂, ◌∙◌, subst, inl, inr, arith}
use Rattle.std.specs.Cmp.{IsTotalOrder}
use Rattle.std.specs.Cmp.Lexicographic.{slice_cmp}
use Rattle.std.specs.declared.cmp.Ordering.{Ordering}
use Rattle.std.specs.declared.cmp.Ordering.TheVariants.{Less, Equal, Greater}
use Rattle.std.specs.Ordering.{is_gt, is_lt, nat_cmp, ordering_reverse}
use Rattle.std.specs.Str.{bytes_eq}
use Rattle.std.specs.List.{AllByRecursion, sum_by}
use Rattle.std.specs.List.Sorted.{IsPermutation, IsSorted, IsStable, ties}
use Rattle.std.proofs.lemmas.Bool.{cond-true, cond-false, false≢true}
use Rattle.std.proofs.lemmas.Cmp.{on_total, tied_itself}
use Rattle.std.proofs.lemmas.List.Sorted.{sum_by-IsPermutation}
use Rattle.std.proofs.lemmas.List.Sums.{sum_by-cons}
use Rattle.std.proofs.lemmas.Slice.Eq.{bytes_eq-Decides}
use Rattle.covhtml.specs.IndexPage.{IndexedFileData}
use Rattle.covreport.proofs.Sorting.{Rises as RisesBy, rises_from_sorted}
use Rattle.covtable.specs.TotalsExchanged.{no_totals, together}
use Rattle.covtable.specs.declared.totals.Totals.{Totals}
use Rattle.covtable.proofs.ContentsLists.{In-unfilter}
use Rattle.covtable.proofs.Members.{In}
use Rattle.covtable.proofs.Orders.{names_order}
use Rattle.covtable.proofs.TotalsKinds.{same_totals}
use Rattle.covpages.specs.Directories.{HaveSameFiles, Rises, directory_of, files_of, totals_together}

abbrev order : List ℕ → List ℕ → Ordering
order = slice_cmp nat_cmp

agree : {X : Type 0} (p q : X → Bool) → ((x : X) → p x ≡ q x) → (xs : List X) → filter p xs ≡ filter q xs
agree p q same [] = refl
agree {X} p q same (x ∷ xs) = ap₂ (λ (b : Bool) (ys : List X). cond b (x ∷ ys) ys) (same x) (agree p q same xs)

module _ {X : Type 0} (seen : X → IndexedFileData) where
  abbrev pub key : X → List ℕ
  key x = directory_of (seen x).path

  abbrev pub by_key : X → X → Ordering
  by_key x y = order (key x) (key y)

  key_order : IsTotalOrder by_key
  key_order = on_total key names_order.total

  -- ---- they ascend

  all_seen : (d : List ℕ) (xs : List X) → AllByRecursion (λ x. is_gt (order d (key x)) ≡ false) xs → AllByRecursion (λ f. is_gt (order d (directory_of f.path)) ≡ false) (map seen xs)
  all_seen d [] all = tt
  all_seen d (x ∷ xs) all = (all.0, all_seen d xs all.1)

  all_rise : (xs : List X) → RisesBy by_key key_order xs → Rises (map seen xs)
  all_rise [] rises = tt
  all_rise (x ∷ xs) rises = (all_seen (key x) xs rises.0, all_rise xs rises.1)

  pub sorted_rise : (xs : List X) → IsSorted by_key xs → Rises (map seen xs)
  sorted_rise xs up = all_rise xs (rises_from_sorted by_key key_order xs up)

  -- ---- the files of a directory keep their order

  abbrev is_in : List ℕ → X → Bool
  is_in d x = bytes_eq (key x) d

  files_seen : (d : List ℕ) (xs : List X) → files_of (map seen xs) d ≡ map seen (filter (is_in d) xs)
  files_seen d [] = refl
  files_seen d (x ∷ xs) = by (is_in d x) refl (files_seen d xs)
    where
      by : (b : Bool) → is_in d x ≡ b → files_of (map seen xs) d ≡ map seen (filter (is_in d) xs) → files_of (map seen (x ∷ xs)) d ≡ map seen (filter (is_in d) (x ∷ xs))
      by true is rest =
          cond-true (is_in d x) (seen x ∷ files_of (map seen xs) d) (files_of (map seen xs) d) is
          ∙ ap (λ (l : List IndexedFileData). seen x ∷ l) rest
          ∙ sym (ap (map seen) (cond-true (is_in d x) (x ∷ filter (is_in d) xs) (filter (is_in d) xs) is))
      by false is rest =
          cond-false (is_in d x) (seen x ∷ files_of (map seen xs) d) (files_of (map seen xs) d) is
          ∙ rest
          ∙ sym (ap (map seen) (cond-false (is_in d x) (x ∷ filter (is_in d) xs) (filter (is_in d) xs) is))

  abbrev lower : X → X → Bool
  lower x y = is_lt (by_key x y)

  tied : (d : List ℕ) (x y : X) → key x ≡ d → ties lower x y ≡ is_in d y
  tied d x y here = by (by_key x y) refl
    where
      back : (o : Ordering) → by_key x y ≡ o → by_key y x ≡ ordering_reverse o
      back o is = key_order.antisymm y x ∙ ap ordering_reverse is

      both : (o : Ordering) → by_key x y ≡ o → ties lower x y ≡ (not (is_lt o) && not (is_lt (ordering_reverse o)))
      both o is = ap₂ (λ (a b : Ordering). not (is_lt a) && not (is_lt b)) is (back o is)

      apart : (o : Ordering) → by_key x y ≡ o → (o ≡ Equal → ⊥) → is_in d y ≡ false
      apart o is differ = at (is_in d y) refl
        where
          at : (b : Bool) → is_in d y ≡ b → is_in d y ≡ false
          at false own = own
          at true own =
              let same : key y ≡ key x = (bytes_eq-Decides (key y) d).0 own ∙ sym here in
              absurd (differ (sym is ∙ ap (order (key x)) same ∙ tied_itself names_order.total (key x)))

      by : (o : Ordering) → by_key x y ≡ o → ties lower x y ≡ is_in d y
      by Less is = both Less is ∙ sym (apart Less is (λ e. cc))
      by Equal is = both Equal is ∙ sym ((bytes_eq-Decides (key y) d).1 (sym (names_order.exact (key x) (key y) is) ∙ here))
      by Greater is = both Greater is ∙ sym (apart Greater is (λ e. cc))

  module _ (xs ys : List X) (stable : IsStable by_key xs ys) (d : List ℕ) where
    one_of : (x : X) → key x ≡ d → filter (is_in d) ys ≡ filter (is_in d) xs
    one_of x here =
        sym (agree (ties lower x) (is_in d) (λ y. tied d x y here) ys) ∙ stable x ∙ agree (ties lower x) (is_in d) (λ y. tied d x y here) xs

    first_of : (x : X) (l zs : List X) → filter (is_in d) zs ≡ x ∷ l → key x ≡ d
    first_of x l zs is =
        (bytes_eq-Decides (key x) d).0 (In-unfilter (is_in d) zs x (subst (λ (m : List X). In x m) (sym is) (inl refl))).1

    same_in : filter (is_in d) ys ≡ filter (is_in d) xs
    same_in = by (filter (is_in d) ys) (filter (is_in d) xs) refl refl
      where
        by : (us vs : List X) → filter (is_in d) ys ≡ us → filter (is_in d) xs ≡ vs → filter (is_in d) ys ≡ filter (is_in d) xs
        by [] [] one other = one ∙ sym other
        by (u ∷ us) vs one other = one_of u (first_of u us ys one)
        by [] (v ∷ vs) one other = one_of v (first_of v vs xs other)

  pub same_files : (xs ys : List X) → IsStable by_key xs ys → HaveSameFiles (map seen ys) (map seen xs)
  same_files xs ys stable = λ d. files_seen d ys ∙ ap (map seen) (same_in xs ys stable d) ∙ sym (files_seen d xs)

  -- ---- they have the same totals

  module _ (number : Totals → ℕ) (none : number no_totals ≡ 0) (adds : (a b : Totals) → number (together a b) ≡ number a + number b) where
    abbrev own : X → ℕ
    own x = number (seen x).totals

    number_sum : (xs : List X) → number (totals_together (map seen xs)) ≡ sum_by own xs
    number_sum [] = none
    number_sum (x ∷ xs) = omega (arith, adds (seen x).totals (totals_together (map seen xs)), number_sum xs, sum_by-cons own x xs)

    same_number : (xs ys : List X) → IsPermutation xs ys → number (totals_together (map seen ys)) ≡ number (totals_together (map seen xs))
    same_number xs ys moved = number_sum ys ∙ sum_by-IsPermutation own xs ys moved ∙ sym (number_sum xs)

  pub same_together : (xs ys : List X) → IsPermutation xs ys → totals_together (map seen ys) ≡ totals_together (map seen xs)
  same_together xs ys moved =
      same_totals (totals_together (map seen ys)) (totals_together (map seen xs))
      (same_number (λ t. t.lf) refl (λ a b. refl) xs ys moved)
      (same_number (λ t. t.lh) refl (λ a b. refl) xs ys moved)
      (same_number (λ t. t.ff) refl (λ a b. refl) xs ys moved)
      (same_number (λ t. t.fh) refl (λ a b. refl) xs ys moved)
      (same_number (λ t. t.bf) refl (λ a b. refl) xs ys moved)
      (same_number (λ t. t.bh) refl (λ a b. refl) xs ys moved)
