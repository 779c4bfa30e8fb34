-- The totals of the files of the index together are the totals of the chosen files.
use Rattle.std.proofs.Common.{◌≡◌, ℕ, ◌+◌, ◌≤◌, ◌<◌, ◌^◌, Bool, true, false, cond, not, List, [], ◌∷◌, ◌++◌, drop, take, get_or, length, map, filter, refl, sym, ap, ◌∙◌, arith}
use Rattle.std.proofs.lemmas.Bool.{cond-true, cond-false}
use Rattle.std.proofs.lemmas.List.{drop_all, drop_more, take-append-drop}
use Rattle.covhtml.specs.IndexPage.{IndexedFileData}
use Rattle.covhtml.specs.PagesView.{indexed_file_data}
use Rattle.covhtml.specs.declared.pages.IndexedFile.{IndexedFile}
use Rattle.covlist.specs.Chosen.{chosen_among, chosen_files, totals_of_chosen}
use Rattle.covpages.specs.Directories.{totals_together}
use Rattle.covpages.specs.Pages.{indexed_after}
use Rattle.covreport.specs.Choice.{ChoiceData, is_chosen}
use Rattle.covreport.specs.Others.{others}
use Rattle.covreport.proofs.ChosenFiles.{all_parted, chosen_of}
use Rattle.covtable.specs.Content.{SectionData}
use Rattle.covtable.specs.Files.{FileTotalsData, files_with_totals}
use Rattle.covtable.specs.Totals.{AreTotals, totals_of}
use Rattle.covtable.specs.TotalsExchanged.{FitTogether, FitTotals, IsAmong, no_totals, together}
use Rattle.covtable.specs.declared.totals.Totals.{Totals}
use Rattle.covtable.proofs.TotalsKinds.{same_totals}

-- ---- parts of a whole

module _ (a b whole : Totals) (e : together a b ≡ whole) (fits : FitTotals whole) where
  -- two totals whose sums are totals of a table fit together
  pub fit_together : FitTogether b a
  fit_together = record {
    lf = omega (arith, ap (λ (t : Totals). t.lf) e, fits.lf);
    lh = omega (arith, ap (λ (t : Totals). t.lh) e, fits.lh);
    ff = omega (arith, ap (λ (t : Totals). t.ff) e, fits.ff);
    fh = omega (arith, ap (λ (t : Totals). t.fh) e, fits.fh);
    bf = omega (arith, ap (λ (t : Totals). t.bf) e, fits.bf);
    bh = omega (arith, ap (λ (t : Totals). t.bh) e, fits.bh);
  }

  pub first_fits : FitTotals a
  first_fits = record {
    lf = omega (arith, ap (λ (t : Totals). t.lf) e, fits.lf);
    lh = omega (arith, ap (λ (t : Totals). t.lh) e, fits.lh);
    ff = omega (arith, ap (λ (t : Totals). t.ff) e, fits.ff);
    fh = omega (arith, ap (λ (t : Totals). t.fh) e, fits.fh);
    bf = omega (arith, ap (λ (t : Totals). t.bf) e, fits.bf);
    bh = omega (arith, ap (λ (t : Totals). t.bh) e, fits.bh);
  }

  pub second_fits : FitTotals b
  second_fits = record {
    lf = omega (arith, ap (λ (t : Totals). t.lf) e, fits.lf);
    lh = omega (arith, ap (λ (t : Totals). t.lh) e, fits.lh);
    ff = omega (arith, ap (λ (t : Totals). t.ff) e, fits.ff);
    fh = omega (arith, ap (λ (t : Totals). t.fh) e, fits.fh);
    bf = omega (arith, ap (λ (t : Totals). t.bf) e, fits.bf);
    bh = omega (arith, ap (λ (t : Totals). t.bh) e, fits.bh);
  }

pub together_none : (a : Totals) → together no_totals a ≡ a
together_none a = same_totals (together no_totals a) a (omega arith) (omega arith) (omega arith) (omega arith) (omega arith) (omega arith)

pub none_together : (a : Totals) → together a no_totals ≡ a
none_together a = same_totals (together a no_totals) a (omega arith) (omega arith) (omega arith) (omega arith) (omega arith) (omega arith)

pub regrouped : (a b c : Totals) → together (together a b) c ≡ together a (together b c)
regrouped a b c =
    same_totals (together (together a b) c) (together a (together b c))
    (omega arith) (omega arith) (omega arith) (omega arith) (omega arith) (omega arith)

-- ---- the totals of a list of files

pub together-append : (fs gs : List IndexedFileData) → totals_together (fs ++ gs) ≡ together (totals_together fs) (totals_together gs)
together-append [] gs = sym (together_none (totals_together gs))
together-append (f ∷ fs) gs = ap (together f.totals) (together-append fs gs) ∙ sym (regrouped f.totals (totals_together fs) (totals_together gs))

pub are_totals_together : (a b : Totals) → AreTotals a → AreTotals b → AreTotals (together a b)
are_totals_together a b own other = record {
  lines = omega (arith, own.lines, other.lines);
  functions = omega (arith, own.functions, other.functions);
  branches = omega (arith, own.branches, other.branches);
}

pub are_no_totals : AreTotals no_totals
are_no_totals = record { lines = omega arith; functions = omega arith; branches = omega arith }

-- ---- the chosen files

-- the files that aren't chosen by the opposite choice are the chosen ones
chosen_together : (chosen : List ℕ → Bool) (number : ℕ) (files : List FileTotalsData)
    → totals_together (indexed_after number (filter (λ f. chosen f.path) files)) ≡ others (λ path. not (chosen path)) files
unfolding others
chosen_together chosen number [] = refl
chosen_together chosen number (file ∷ files) = by (chosen file.path) refl (λ n. chosen_together chosen n files)
  where
    rest : Totals
    rest = others (λ path. not (chosen path)) files

    by : (b : Bool) → chosen file.path ≡ b → ((n : ℕ) → totals_together (indexed_after n (filter (λ f. chosen f.path) files)) ≡ others (λ path. not (chosen path)) files)
        → totals_together (indexed_after number (filter (λ f. chosen f.path) (file ∷ files))) ≡ others (λ path. not (chosen path)) (file ∷ files)
    by true is more =
        ap (λ (fs : List FileTotalsData). totals_together (indexed_after number fs))
        (cond-true (chosen file.path) (file ∷ filter (λ f. chosen f.path) files) (filter (λ f. chosen f.path) files) is)
        ∙ ap (together file.totals) (more (number + 1))
        ∙ sym (cond-false (not (chosen file.path)) rest (together file.totals rest) (ap not is))
    by false is more =
        ap (λ (fs : List FileTotalsData). totals_together (indexed_after number fs))
        (cond-false (chosen file.path) (file ∷ filter (λ f. chosen f.path) files) (filter (λ f. chosen f.path) files) is)
        ∙ more number
        ∙ sym (cond-true (not (chosen file.path)) rest (together file.totals rest) (ap not is))

-- no file is chosen and all files are others, so the totals of all files are those of the table
none_chosen : (sections : List SectionData) → chosen_of (λ _. false) sections ≡ []
none_chosen [] = refl
none_chosen (s ∷ sections) = none_chosen sections

split_others : (chosen : List ℕ → Bool) (files : List FileTotalsData)
    → together (others chosen files) (others (λ path. not (chosen path)) files) ≡ others (λ _. false) files
unfolding others
split_others chosen [] = refl
split_others chosen (file ∷ files) = by (chosen file.path) refl (split_others chosen files)
  where
    left : Totals
    left = others chosen files

    right : Totals
    right = others (λ path. not (chosen path)) files

    by : (b : Bool) → chosen file.path ≡ b → together (others chosen files) (others (λ path. not (chosen path)) files) ≡ others (λ _. false) files
        → together (others chosen (file ∷ files)) (others (λ path. not (chosen path)) (file ∷ files)) ≡ together file.totals (others (λ _. false) files)
    by true is more =
        ap (λ (t : Totals). together t (others (λ path. not (chosen path)) (file ∷ files))) (cond-true (chosen file.path) left (together file.totals left) is)
        ∙ ap (together left) (cond-false (not (chosen file.path)) right (together file.totals right) (ap not is))
        ∙ same_totals (together left (together file.totals right)) (together file.totals (together left right))
        (omega arith) (omega arith) (omega arith) (omega arith) (omega arith) (omega arith)
        ∙ ap (together file.totals) more
    by false is more =
        ap (λ (t : Totals). together t (others (λ path. not (chosen path)) (file ∷ files))) (cond-false (chosen file.path) left (together file.totals left) is)
        ∙ ap (together (together file.totals left)) (cond-true (not (chosen file.path)) right (together file.totals right) (ap not is))
        ∙ regrouped file.totals left right
        ∙ ap (together file.totals) more

cancelled : (a b c : Totals) → together a c ≡ together b c → a ≡ b
cancelled a b c e =
    same_totals a b
    (omega (arith, ap (λ (t : Totals). t.lf) e)) (omega (arith, ap (λ (t : Totals). t.lh) e)) (omega (arith, ap (λ (t : Totals). t.ff) e))
    (omega (arith, ap (λ (t : Totals). t.fh) e)) (omega (arith, ap (λ (t : Totals). t.bf) e)) (omega (arith, ap (λ (t : Totals). t.bh) e))

swapped : (a b : Totals) → together a b ≡ together b a
swapped a b =
    same_totals (together a b) (together b a)
    (omega arith) (omega arith) (omega arith) (omega arith) (omega arith) (omega arith)

-- nothing is found in no sections
totals_of_none : totals_of [] ≡ no_totals
totals_of_none = refl

pub chosen_totals_together : (choice : ChoiceData) (number : ℕ) (sections : List SectionData)
    → totals_together (indexed_after number (chosen_files choice sections)) ≡ totals_of_chosen choice sections
chosen_totals_together choice number sections =
    let chosen : List ℕ → Bool = is_chosen choice in
    let files = files_with_totals sections in
    let all : others (λ _. false) files ≡ totals_of sections =
    sym (together_none (others (λ _. false) files))
    ∙ ap (λ (t : Totals). together t (others (λ _. false) files)) (sym (ap totals_of (none_chosen sections) ∙ totals_of_none))
    ∙ all_parted (λ _. false) sections in
    chosen_together chosen number files
    ∙ cancelled (others (λ path. not (chosen path)) files) (totals_of_chosen choice sections) (others chosen files)
    (swapped (others (λ path. not (chosen path)) files) (others chosen files)
    ∙ split_others chosen files ∙ all ∙ sym (all_parted chosen sections))

-- ---- files added up one by one

-- the next totals fit if those of all files do
pub next_fits : (a b c whole : Totals) → together a (together b c) ≡ whole → FitTotals whole → FitTogether b a
next_fits a b c whole e fits = fit_together a b (together a b) refl (first_fits (together a b) c whole (regrouped a b c ∙ e) fits)

module _ (files : List IndexedFile) (i : ℕ) where
  abbrev pub left : ℕ → Totals
  left n = totals_together (map indexed_file_data (drop n files))

  pub next_left : (file : IndexedFile) → i < length files → file ≡ get_or files i file → left i ≡ together file.totals (left (i + 1))
  next_left file lt is =
      ap (λ (fs : List IndexedFile). totals_together (map indexed_file_data fs))
      (drop_more files i file lt ∙ ap (λ (f : IndexedFile). f ∷ drop (i + 1) files) (sym is))

  pub none_left : length files ≤ i → left i ≡ no_totals
  none_left all = ap (λ (fs : List IndexedFile). totals_together (map indexed_file_data fs)) (drop_all i files all)

pub parts_fit : (files : List IndexedFileData) (n : ℕ) → FitTotals (totals_together files) → FitTotals (totals_together (take n files)) × FitTotals (totals_together (drop n files))
parts_fit files n fits =
    let front = totals_together (take n files) in
    let back = totals_together (drop n files) in
    let whole : together front back ≡ totals_together files = sym (together-append (take n files) (drop n files)) ∙ ap totals_together (take-append-drop n files) in
    (first_fits front back (totals_together files) whole fits, second_fits front back (totals_together files) whole fits)
