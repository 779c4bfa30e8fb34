-- The runs of files in the same directory are the directories, if the files are sorted by them.
use Rattle.std.proofs.Common.{◌≡◌, ℕ, suc, ◌-◌, ◌<◌, ◌≤◌, Bool, true, false, cond, ◌==◌, List, [], ◌∷◌, ◌++◌, append_assoc, append-nil, length, take, drop, map, filter, refl, sym, ap, ap₂, ◌∙◌, subst, inl, inr, arith}
use Rattle.std.specs.Cmp.Lexicographic.{slice_cmp}
use Rattle.std.specs.declared.cmp.Ordering.{Ordering}
use Rattle.std.specs.declared.cmp.Ordering.TheVariants.{Less, Equal, Greater}
use Rattle.std.specs.Ordering.{is_gt, match_ordering, nat_cmp}
use Rattle.std.specs.Str.{bytes_eq}
use Rattle.std.specs.List.{AllByRecursion}
use Rattle.std.specs.List.Sorted.{IsStrictlySortedBy}
use Rattle.std.proofs.lemmas.Bool.{cond-true, cond-false, false≢true}
use Rattle.std.proofs.lemmas.Bool.Decides.{nat_tests}
use Rattle.std.proofs.lemmas.Slice.Eq.{bytes_eq-Decides}
use Rattle.covhtml.specs.IndexPage.{DirectoryData, IndexedFileData}
use Rattle.covtable.specs.Ascending.{ascending, placed}
use Rattle.covtable.specs.TotalsExchanged.{no_totals, together}
use Rattle.covtable.specs.declared.totals.Totals.{Totals}
use Rattle.covtable.proofs.Ascend.{In-ascending, In-to_ascending, ascending_sorted, not_itself, one_sorted}
use Rattle.covtable.proofs.ContentsLists.{In-filter, In-unfilter}
use Rattle.covtable.proofs.Members.{All-in, In, In-map, In-unmap}
use Rattle.covtable.proofs.Orders.{names_order}
use Rattle.covpages.specs.Directories.{HaveSameFiles, Rises, count_in, directories_of, directory_of, directory_paths, directory_with, files_of, first_path, onto_directories, run, runs_of, totals_together}

abbrev pub dir : IndexedFileData → List ℕ
dir file = directory_of file.path

abbrev order : List ℕ → List ℕ → Ordering
order = slice_cmp nat_cmp

-- ---- tests of directories

same_dir : (a b : List ℕ) → a ≡ b → bytes_eq a b ≡ true
same_dir a b e = (bytes_eq-Decides a b).1 e

other_dir : (a b : List ℕ) → (a ≡ b → ⊥) → bytes_eq a b ≡ false
other_dir a b differ = by (bytes_eq a b) refl
  where
    by : (r : Bool) → bytes_eq a b ≡ r → bytes_eq a b ≡ false
    by true is = absurd (differ ((bytes_eq-Decides a b).0 is))
    by false is = is

files_more : (f : IndexedFileData) (fs : List IndexedFileData) (d : List ℕ) → dir f ≡ d → files_of (f ∷ fs) d ≡ f ∷ files_of fs d
files_more f fs d e = cond-true (bytes_eq (dir f) d) (f ∷ files_of fs d) (files_of fs d) (same_dir (dir f) d e)

files_other : (f : IndexedFileData) (fs : List IndexedFileData) (d : List ℕ) → (dir f ≡ d → ⊥) → files_of (f ∷ fs) d ≡ files_of fs d
files_other f fs d differ = cond-false (bytes_eq (dir f) d) (f ∷ files_of fs d) (files_of fs d) (other_dir (dir f) d differ)

pub with_same : (fs gs : List IndexedFileData) (d : List ℕ) → files_of fs d ≡ files_of gs d → directory_with fs d ≡ directory_with gs d
with_same fs gs d e = ap (λ (own : List IndexedFileData). let made : DirectoryData = record { path = d; totals = totals_together own; files = own } in made) e

-- ---- the directories of some files

in_paths : (f : IndexedFileData) (fs : List IndexedFileData) → In f fs → In (dir f) (directory_paths fs)
in_paths f fs i = In-to_ascending names_order.exact (dir f) (map dir fs) (In-map dir fs f i)

from_paths : (d : List ℕ) (fs : List IndexedFileData) → In d (directory_paths fs) → (f : IndexedFileData) × In f fs × (dir f ≡ d)
from_paths d fs i = In-unmap dir fs d (In-ascending names_order.exact d (map dir fs) i)

-- no file of a directory that isn't among the paths
no_files : (fs : List IndexedFileData) (d : List ℕ) → (In d (directory_paths fs) → ⊥) → files_of fs d ≡ []
no_files fs d none = empty (files_of fs d) refl
  where
    empty : (own : List IndexedFileData) → files_of fs d ≡ own → files_of fs d ≡ []
    empty [] is = is
    empty (f ∷ own) is =
        let own_one = In-unfilter (λ (g : IndexedFileData). bytes_eq (dir g) d) fs f (subst (λ (l : List IndexedFileData). In f l) (sym is) (inl refl)) in
        absurd (none (subst (λ (p : List ℕ). In p (directory_paths fs)) ((bytes_eq-Decides (dir f) d).0 own_one.1) (in_paths f fs own_one.0)))

map_in : {X Y : Type 0} (f g : X → Y) (xs : List X) → ((x : X) → In x xs → f x ≡ g x) → map f xs ≡ map g xs
map_in f g [] same = refl
map_in {X} {Y} f g (x ∷ xs) same = ap₂ (λ (y : Y) (ys : List Y). y ∷ ys) (same x (inl refl)) (map_in f g xs (λ y i. same y (inr i)))

-- ---- one more file before them

module _ (f : IndexedFileData) (fs : List IndexedFileData) where
  -- the directories without f's
  abbrev others : List (List ℕ) → List DirectoryData
  others ps = map (directory_with fs) ps

  same_others : (ps : List (List ℕ)) → ((p : List ℕ) → In p ps → order (dir f) p ≡ Less) → map (directory_with (f ∷ fs)) ps ≡ map (directory_with fs) ps
  same_others ps above =
      map_in (directory_with (f ∷ fs)) (directory_with fs) ps
      (λ p i. with_same (f ∷ fs) fs p (files_other f fs p (λ e. not_itself names_order.total p (subst (λ (d : List ℕ). order d p ≡ Less) e (above p i)))))

  -- f is in a directory of its own, before the others
  alone : (ps : List (List ℕ)) → directory_paths fs ≡ ps → ((p : List ℕ) → In p ps → order (dir f) p ≡ Less)
      → directory_with (f ∷ []) (dir f) ∷ map (directory_with fs) ps ≡ map (directory_with (f ∷ fs)) (dir f ∷ ps)
  alone ps paths above =
      let none : files_of fs (dir f) ≡ [] =
      no_files fs (dir f) (λ i. not_itself names_order.total (dir f) (above (dir f) (subst (λ (l : List (List ℕ)). In (dir f) l) paths i))) in
      let own : files_of (f ∷ []) (dir f) ≡ files_of (f ∷ fs) (dir f) =
      files_more f [] (dir f) refl ∙ sym (files_more f fs (dir f) refl ∙ ap (λ (l : List IndexedFileData). f ∷ l) none) in
      ap₂ (λ (d : DirectoryData) (ds : List DirectoryData). d ∷ ds) (with_same (f ∷ []) (f ∷ fs) (dir f) own) (sym (same_others ps above))

  -- f is in the first directory
  first : (p : List ℕ) (ps : List (List ℕ)) → dir f ≡ p → ((q : List ℕ) → In q ps → order p q ≡ Less)
      → (let made : DirectoryData = record { path = p; totals = together f.totals (totals_together (files_of fs p)); files = f ∷ files_of fs p } in made) ∷ map (directory_with fs) ps
      ≡ map (directory_with (f ∷ fs)) (p ∷ ps)
  first p ps e above =
      ap₂ (λ (d : DirectoryData) (ds : List DirectoryData). d ∷ ds)
      (ap (λ (own : List IndexedFileData). let made : DirectoryData = record { path = p; totals = totals_together own; files = own } in made) (sym (files_more f fs p e)))
      (sym (same_others ps (λ q i. subst (λ (d : List ℕ). order d q ≡ Less) (sym e) (above q i))))

  onto : (ps : List (List ℕ)) → directory_paths fs ≡ ps → IsStrictlySortedBy order ps → AllByRecursion (λ g. is_gt (order (dir f) (dir g)) ≡ false) fs
      → onto_directories f (map (directory_with fs) ps) ≡ map (directory_with (f ∷ fs)) (placed order (dir f) ps)
  unfolding IsStrictlySortedBy
  onto [] paths sorted low = alone [] paths (λ p i. absurd i)
  onto (p ∷ ps) paths sorted low = by (order (dir f) p) refl
    where
      here : In p (directory_paths fs)
      here = subst (λ (l : List (List ℕ)). In p l) (sym paths) (inl refl)

      above : (q : List ℕ) → In q ps → order p q ≡ Less
      above q i = All-in (λ q. order p q ≡ Less) ps q sorted.0 i

      apart : order (dir f) p ≡ Less → dir f ≡ p → ⊥
      apart less e = not_itself names_order.total p (subst (λ (d : List ℕ). order d p ≡ Less) e less)

      by : (o : Ordering) → order (dir f) p ≡ o → onto_directories f (map (directory_with fs) (p ∷ ps)) ≡ map (directory_with (f ∷ fs)) (placed order (dir f) (p ∷ ps))
      by Less is =
          cond-false (bytes_eq (dir f) p) _ (directory_with (f ∷ []) (dir f) ∷ map (directory_with fs) (p ∷ ps)) (other_dir (dir f) p (apart is))
          ∙ alone (p ∷ ps) paths
          (λ q i. elim i [ inl e ↦ subst (λ (d : List ℕ). order (dir f) d ≡ Less) e is | inr j ↦ names_order.total.trans (dir f) p q is (above q j) ])
          ∙ ap (λ (o : Ordering). map (directory_with (f ∷ fs)) (match_ordering o (dir f ∷ p ∷ ps) (p ∷ ps) (p ∷ placed order (dir f) ps))) (sym is)
      by Equal is =
          let e : dir f ≡ p = names_order.exact (dir f) p is in
          cond-true (bytes_eq (dir f) p) _ (directory_with (f ∷ []) (dir f) ∷ map (directory_with fs) (p ∷ ps)) (same_dir (dir f) p e)
          ∙ first p ps e above
          ∙ ap (λ (o : Ordering). map (directory_with (f ∷ fs)) (match_ordering o (dir f ∷ p ∷ ps) (p ∷ ps) (p ∷ placed order (dir f) ps))) (sym is)
      by Greater is =
          let own = from_paths p fs here in
          let at_most : is_gt (order (dir f) (dir own.0)) ≡ false = All-in (λ (g : IndexedFileData). is_gt (order (dir f) (dir g)) ≡ false) fs own.0 low own.1 in
          absurd (false≢true (sym at_most ∙ ap (λ (d : List ℕ). is_gt (order (dir f) d)) own.2 ∙ ap is_gt is))

pub runs_are_directories : (fs : List IndexedFileData) → Rises fs → runs_of fs ≡ directories_of fs
runs_are_directories [] rises = refl
runs_are_directories (f ∷ fs) rises =
    ap (onto_directories f) (runs_are_directories fs rises.1)
    ∙ onto f fs (directory_paths fs) refl (ascending_sorted names_order.total (map dir fs)) rises.0

-- ---- files in another order

paths_within : (fs gs : List IndexedFileData) → HaveSameFiles fs gs → (d : List ℕ) → In d (directory_paths fs) → In d (directory_paths gs)
paths_within fs gs same d i =
    let own = from_paths d fs i in
    let at = In-filter (λ (g : IndexedFileData). bytes_eq (dir g) d) fs own.0 own.1 (same_dir (dir own.0) d own.2) in
    let there = In-unfilter (λ (g : IndexedFileData). bytes_eq (dir g) d) gs own.0 (subst (λ (l : List IndexedFileData). In own.0 l) (same d) at) in
    subst (λ (p : List ℕ). In p (directory_paths gs)) own.2 (in_paths own.0 gs there.0)

pub same_directories : (fs gs : List IndexedFileData) → HaveSameFiles fs gs → directories_of fs ≡ directories_of gs
same_directories fs gs same =
    map_in (directory_with fs) (directory_with gs) (directory_paths fs) (λ d i. with_same fs gs d (same d))
    ∙ ap (map (directory_with gs))
    (one_sorted names_order.total (directory_paths fs) (directory_paths gs)
    (ascending_sorted names_order.total (map dir fs)) (ascending_sorted names_order.total (map dir gs))
    (paths_within fs gs same) (paths_within gs fs (λ d. sym (same d))))

-- ---- the first run

-- the first run begins with the first file, in its directory
starts : (f : IndexedFileData) (fs : List IndexedFileData) → (first : DirectoryData) × (more : List DirectoryData) × (runs_of (f ∷ fs) ≡ first ∷ more) × (first.path ≡ dir f)
starts f fs = by (runs_of fs)
  where
    by : (ds : List DirectoryData) → (first : DirectoryData) × (more : List DirectoryData) × (onto_directories f ds ≡ first ∷ more) × (first.path ≡ dir f)
    by [] = (directory_with (f ∷ []) (dir f), [], refl, refl)
    by (d ∷ ds) = at (bytes_eq (dir f) d.path) refl
      where
        at : (b : Bool) → bytes_eq (dir f) d.path ≡ b → (first : DirectoryData) × (more : List DirectoryData) × (onto_directories f (d ∷ ds) ≡ first ∷ more) × (first.path ≡ dir f)
        at true is = (record d { totals = together f.totals d.totals; files = f ∷ d.files }, ds, cond-true (bytes_eq (dir f) d.path) _ _ is, sym ((bytes_eq-Decides (dir f) d.path).0 is))
        at false is = (directory_with (f ∷ []) (dir f), d ∷ ds, cond-false (bytes_eq (dir f) d.path) _ _ is, refl)

alone_is : (f : IndexedFileData) → directory_with (f ∷ []) (dir f) ≡ run (dir f) (f ∷ [])
alone_is f = ap (run (dir f)) (files_more f [] (dir f) refl)

counted : (f : IndexedFileData) (fs : List IndexedFileData) (d : List ℕ) → dir f ≡ d → count_in d (f ∷ fs) ≡ suc (count_in d fs)
counted f fs d e = cond-true (bytes_eq (dir f) d) (suc (count_in d fs)) 0 (same_dir (dir f) d e)

not_counted : (f : IndexedFileData) (fs : List IndexedFileData) (d : List ℕ) → (dir f ≡ d → ⊥) → count_in d (f ∷ fs) ≡ 0
not_counted f fs d differ = cond-false (bytes_eq (dir f) d) (suc (count_in d fs)) 0 (other_dir (dir f) d differ)

-- the first run, and the runs after it, of which the first has so many files
abbrev pub cut_at : (d : List ℕ) → List IndexedFileData → ℕ → List DirectoryData
cut_at d fs n = run d (take n fs) ∷ runs_of (drop n fs)

pub first_run : (f : IndexedFileData) (fs : List IndexedFileData) (d : List ℕ) → dir f ≡ d → runs_of (f ∷ fs) ≡ cut_at d (f ∷ fs) (count_in d (f ∷ fs))
first_run f [] d e =
    ap (λ (x : DirectoryData). x ∷ []) (alone_is f ∙ ap (λ (p : List ℕ). run p (f ∷ [])) e) ∙ sym (ap (cut_at d (f ∷ [])) (counted f [] d e))
first_run f (g ∷ gs) d e = by (bytes_eq (dir g) d) refl (λ same. first_run g gs d same)
  where
    longer : (n : ℕ) → count_in d (g ∷ gs) ≡ n → onto_directories f (runs_of (g ∷ gs)) ≡ cut_at d (f ∷ g ∷ gs) (suc n) → runs_of (f ∷ g ∷ gs) ≡ cut_at d (f ∷ g ∷ gs) (count_in d (f ∷ g ∷ gs))
    longer n is made = made ∙ sym (ap (cut_at d (f ∷ g ∷ gs)) (counted f (g ∷ gs) d e ∙ ap suc is))

    by : (b : Bool) → bytes_eq (dir g) d ≡ b → (dir g ≡ d → runs_of (g ∷ gs) ≡ cut_at d (g ∷ gs) (count_in d (g ∷ gs))) → runs_of (f ∷ g ∷ gs) ≡ cut_at d (f ∷ g ∷ gs) (count_in d (f ∷ g ∷ gs))
    by true is more =
        let n = count_in d (g ∷ gs) in
        longer n refl
        (ap (onto_directories f) (more ((bytes_eq-Decides (dir g) d).0 is))
        ∙ cond-true (bytes_eq (dir f) d) (cut_at d (f ∷ g ∷ gs) (suc n)) (directory_with (f ∷ []) (dir f) ∷ cut_at d (g ∷ gs) n) (same_dir (dir f) d e))
    by false is more =
        let first = starts g gs in
        let differ : dir g ≡ d → ⊥ = λ same. false≢true (sym is ∙ same_dir (dir g) d same) in
        let apart : dir f ≡ first.0.path → ⊥ = λ same. differ (sym first.3 ∙ sym same ∙ e) in
        let joined : DirectoryData = record first.0 { totals = together f.totals first.0.totals; files = f ∷ first.0.files } in
        longer 0 (not_counted g gs d differ)
        (ap (onto_directories f) first.2
        ∙ cond-false (bytes_eq (dir f) first.0.path) (joined ∷ first.1) (directory_with (f ∷ []) (dir f) ∷ first.0 ∷ first.1) (other_dir (dir f) first.0.path apart)
        ∙ ap₂ (λ (x : DirectoryData) (ds : List DirectoryData). x ∷ ds) (alone_is f ∙ ap (λ (p : List ℕ). run p (f ∷ [])) e) (sym first.2))

pub some_seen : {X : Type 0} (seen : X → IndexedFileData) (xs : List X) → (length xs == 0) ≡ false → map seen xs ≡ [] → ⊥
some_seen seen [] some e = false≢true (sym some)
some_seen seen (x ∷ xs) some e = cc

pub run_is : (path own : List ℕ) → (totals : Totals) (files taken : List IndexedFileData) → path ≡ own → totals ≡ totals_together files → files ≡ taken
    → (let made : DirectoryData = record { path = path; totals = totals; files = files } in made) ≡ run own taken
run_is path own totals files taken named added same =
    ap₂ (λ (p : List ℕ) (t : Totals). let made : DirectoryData = record { path = p; totals = t; files = files } in made) named added ∙ ap (run own) same

pub first_cut : (fs : List IndexedFileData) → (fs ≡ [] → ⊥) → runs_of fs ≡ cut_at (first_path fs) fs (count_in (first_path fs) fs)
first_cut [] some = absurd (some refl)
first_cut (f ∷ fs) some = first_run f fs (dir f) refl

pub some_counted : (fs : List IndexedFileData) → (fs ≡ [] → ⊥) → 0 < count_in (first_path fs) fs
some_counted [] some = absurd (some refl)
some_counted (f ∷ fs) some = omega (arith, counted f fs (dir f) refl)

module _ (done : List DirectoryData) (whole : List DirectoryData) (fs : List IndexedFileData) (so_far : done ++ runs_of fs ≡ whole) where
  pub next_directory : (n : ℕ) (d : DirectoryData) → (fs ≡ [] → ⊥) → n ≡ count_in (first_path fs) fs → d ≡ run (first_path fs) (take n fs)
      → (done ++ d ∷ []) ++ runs_of (drop n fs) ≡ whole
  next_directory n d some counts is =
      append_assoc done (d ∷ []) (runs_of (drop n fs))
      ∙ ap (λ (x : DirectoryData). done ++ x ∷ runs_of (drop n fs)) is
      ∙ ap (λ (k : ℕ). done ++ cut_at (first_path fs) fs k) counts
      ∙ ap (λ (ds : List DirectoryData). done ++ ds) (sym (first_cut fs some))
      ∙ so_far

  pub last_directory : fs ≡ [] → done ≡ whole
  last_directory none = sym (append-nil done) ∙ ap (λ (l : List IndexedFileData). done ++ runs_of l) (sym none) ∙ so_far

pub none_seen : {X : Type 0} (seen : X → IndexedFileData) (xs : List X) → (length xs == 0) ≡ true → map seen xs ≡ []
none_seen seen [] none = refl
none_seen seen (x ∷ xs) none =
    let some : (length (x ∷ xs) == 0) ≡ false = grind (arith, nat_tests) in
    absurd (false≢true (sym some ∙ none))
