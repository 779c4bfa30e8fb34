-- The folder of pages, from what was written of it.
use Rattle.std.proofs.Common.{◌≡◌, ℕ, zero, suc, ◌+◌, ◌<◌, ◌≤◌, Bool, true, false, nat_le, List, [], ◌∷◌, ◌++◌, get_or, length, map, take, Option, None, Some, refl, sym, ap, ◌∙◌, subst, codes, unwrap_or, arith}
use Rattle.std.proofs.lemmas.Bool.{cond-true, cond-false}
use Rattle.std.proofs.lemmas.Bool.Decides.{nat_tests}
use Rattle.std.proofs.lemmas.List.{map-append, take_more}
use Rattle.covhtml.specs.DirectoryPages.{DirectoryIndexData, IndexedDirectoryData, directory_index}
use Rattle.covhtml.specs.IndexPage.{DirectoryData, IndexPageData, IndexedFileData, index_page}
use Rattle.covhtml.specs.declared.style_sheet.TheConstants.{STYLE}
use Rattle.covlist.specs.Chosen.{totals_of_chosen}
use Rattle.covlist.proofs.Files.{AreAllTotals, first_totals, other_totals}
use Rattle.covpages.specs.Directories.{directories_of}
use Rattle.covpages.specs.Pages.{PagesWorkData, IsPagesFault, IsWritten, complaints_of, directory_files, directory_index_with, files_of, files_shown, index_files, index_with, indexed_after, is_refused, most_listed, of_folder, of_output, pages_after}
use Rattle.covpages.specs.Steps.{AreAdded, AreFinished, IsReport, IsSoFar, ProgressData}
use Rattle.covpages.proofs.Progress.{added_on, finished_on, one_finished}
use Rattle.covtable.specs.Content.{SectionData}
use Rattle.covtable.specs.Files.{FileTotalsData}
use Rattle.covtable.specs.Totals.{AreTotals}
use Rattle.covtable.specs.declared.totals.Totals.{Totals}
use Rattle.covworld.specs.OutputFiles.{AddsFolder, AddsName, Finishes, FinishesFolder, IsEmptyIfKnown, OutputFilesData}
use Rattle.covworld.specs.declared.folder_writer.FolderFault.{FolderFault}
use Rattle.covworld.specs.declared.folder_writer.FolderFault.TheVariants as folder_faults
use Rattle.covworld.specs.declared.output_folder.OutputFault.{OutputFault}
use Rattle.covworld.specs.declared.output_folder.OutputFault.TheVariants as output_faults

abbrev Files : Type 0
Files = List (List ℕ × List ℕ)

-- ---- all files of the folder

module _ (work : PagesWorkData) (sections : List SectionData) (progress : ProgressData) (files one two three : OutputFilesData) where
  abbrev style : List ℕ × List ℕ
  style = (codes "style.css", STYLE.now)

  abbrev index : List IndexedFileData → Files
  index entries = index_files work.title work.date (totals_of_chosen work.choice sections) entries

  pub report_made : Finishes (codes "style.css") STYLE.now files.finished one.finished → AddsName (codes "style.css") files.names one.names
      → IsSoFar work sections (files_shown work sections) progress one two
      → AreFinished (index progress.entries) two.finished three.finished → AreAdded (index progress.entries) two.names three.names
      → is_refused work.strictness progress.complaints ≡ false → IsReport work sections files three progress.complaints
  report_made styled style_named so_far indexed index_named taken =
      let pages : Files = pages_after 0 sections (files_shown work sections) so_far.sources in
      let last : Files = index (indexed_after 0 (files_shown work sections)) in
      let front : AreFinished (style ∷ pages) files.finished two.finished =
      finished_on (style ∷ []) pages files.finished one.finished two.finished (one_finished (codes "style.css") STYLE.now files.finished one.finished styled) so_far.finished in
      let front_named : AreAdded (style ∷ pages) files.names two.names = added_on (style ∷ []) pages files.names one.names two.names style_named so_far.named in
      record {
        sources = so_far.sources;
        are = so_far.are;
        complaints = so_far.complaints;
        taken = taken;
        finished =
            finished_on (style ∷ pages) last files.finished two.finished three.finished front
            (subst (λ (es : List IndexedFileData). AreFinished (index es) two.finished three.finished) so_far.entries indexed);
        named =
            added_on (style ∷ pages) last files.names two.names three.names front_named
            (subst (λ (es : List IndexedFileData). AreAdded (index es) two.names three.names) so_far.entries index_named);
      }

-- ---- the folder

finishes_folder : (name : List ℕ) (written : Files) (finished empty full after : Option Files) → IsEmptyIfKnown finished empty → AreFinished written empty full
    → FinishesFolder name full finished after → FinishesFolder name (Some written) finished after
finishes_folder name written None empty full after none made done = tt
finishes_folder name written (Some files) empty None after none made done =
    absurd (subst (λ (e : Option Files). AreFinished written e None) none made)
finishes_folder name written (Some files) empty (Some whole) after none made done =
    let same : whole ≡ written = subst (λ (e : Option Files). AreFinished written e (Some whole)) none made in
    subst (λ (w : Files). FinishesFolder name (Some w) (Some files) after) same done

module _ (work : PagesWorkData) (sections : List SectionData) (files begun after : OutputFilesData) (empty full : OutputFilesData) (warnings : List ℕ) where
  pub folder_written : IsReport work sections empty full warnings → IsEmptyIfKnown files.finished empty.finished → empty.names ≡ []
      → begun.finished ≡ files.finished → begun.names ≡ files.names
      → FinishesFolder work.folder full.finished begun.finished after.finished → AddsFolder work.folder full.names begun.names after.names
      → after.begun ≡ files.begun → after.failed ≡ files.failed → IsWritten work sections files after warnings
  folder_written report none no_names kept names_kept done named same good =
      let made : Files = files_of work sections report.sources in
      let names : full.names ≡ map (λ f. f.0) made = report.named ∙ ap (λ (l : List (List ℕ)). l ++ map (λ f. f.0) made) no_names in (
        report.sources,
        report.are,
        report.complaints,
        report.taken,
        (
          finishes_folder work.folder made files.finished empty.finished full.finished after.finished none report.finished
              (subst (λ (f : Option Files). FinishesFolder work.folder full.finished f after.finished) kept done),
          subst (λ (l : List (List ℕ)). AddsFolder work.folder l files.names after.names) names
              (subst (λ (l : List (List ℕ)). AddsFolder work.folder full.names l after.names) names_kept named),
          same,
          good,
        ),
      )

-- ---- what is told if nothing was written

pub output_refused : (work : PagesWorkData) (sections : List SectionData) (fault : OutputFault) → IsPagesFault work sections (of_output fault)
output_refused work sections output_faults.Failed = tt
output_refused work sections output_faults.Memory = tt

pub folder_refused : (work : PagesWorkData) (sections : List SectionData) (fault : FolderFault) → IsPagesFault work sections (of_folder fault)
folder_refused work sections folder_faults.Foreign = tt
folder_refused work sections folder_faults.Failed = tt
folder_refused work sections folder_faults.Memory = tt

-- ---- the totals of the shown files

-- of the file at this place, no more points are hit than found
pub bounds_at : {X : Type 0} (seen : X → FileTotalsData) (xs : List X) → AreAllTotals (map seen xs) → (i : ℕ) (d : X) → i < length xs → AreTotals (seen (get_or xs i d)).totals
bounds_at seen [] all i d lt = absurd (omega (arith, lt))
bounds_at seen (y ∷ xs) all zero d lt = first_totals (seen y) (map seen (y ∷ xs)) (map seen xs) refl all
bounds_at seen (y ∷ xs) all (suc i) d lt = bounds_at seen xs (other_totals (seen y) (map seen (y ∷ xs)) (map seen xs) refl all) i d (omega arith)

-- one more element, seen
pub more_at : {X Y : Type 0} (seen : X → Y) (xs : List X) (i : ℕ) (d : X) → i < length xs → map seen (take (i + 1) xs) ≡ map seen (take i xs) ++ seen (get_or xs i d) ∷ []
more_at seen xs i d lt = ap (map seen) (take_more xs i d lt) ∙ map-append seen (take i xs) (get_or xs i d ∷ [])

-- ---- the index

pub directory_index_is : (title date : Option (List ℕ)) (totals : Totals) (directories : List IndexedDirectoryData) (t : List ℕ) (d : Option (List ℕ)) (s : Totals) (ds : List IndexedDirectoryData)
    → t ≡ unwrap_or title (codes "Coverage") → d ≡ date → s ≡ totals → ds ≡ directories
    → directory_index (let made : DirectoryIndexData = record { title = t; date = d; totals = s; directories = ds } in made) ≡ directory_index_with title date totals directories
directory_index_is title date totals directories t d s ds e f g h = rw (e, f, g, h) refl

pub index_is : (title date : Option (List ℕ)) (totals : Totals) (files : List IndexedFileData) (t : List ℕ) (d : Option (List ℕ)) (s : Totals) (ds : List DirectoryData)
    → t ≡ unwrap_or title (codes "Coverage") → d ≡ date → s ≡ totals → ds ≡ directories_of files
    → index_page (let made : IndexPageData = record { title = t; date = d; totals = s; directories = ds } in made) ≡ index_with title date totals files
index_is title date totals files t d s ds e f g h = rw (e, f, g, h) refl

module _ (title date : Option (List ℕ)) (totals : Totals) (files : List IndexedFileData) where
  -- few files: one page has all of them
  pub few_listed : length files ≤ 500 → (codes "index.html", index_with title date totals files) ∷ [] ≡ index_files title date totals files
  few_listed few =
      let test : nat_le (length files) most_listed ≡ true = grind (arith, nat_tests) in
      sym (cond-true (nat_le (length files) most_listed) ((codes "index.html", index_with title date totals files) ∷ []) (directory_files title date totals (length files) (directories_of files)) test)

  -- many files: each directory has a page
  pub many_listed : 500 < length files → directory_files title date totals (length files) (directories_of files) ≡ index_files title date totals files
  many_listed many =
      let test : nat_le (length files) most_listed ≡ false = grind (arith, nat_tests) in
      sym (cond-false (nat_le (length files) most_listed) ((codes "index.html", index_with title date totals files) ∷ []) (directory_files title date totals (length files) (directories_of files)) test)
