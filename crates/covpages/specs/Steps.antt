-- Private steps: what is written of a folder of pages so far.
use Rattle.std.specs.Prelude.{◌≡◌, ℕ, ◌+◌, Option, None, Some, List, [], ◌∷◌, ◌++◌, false, length, map}
use Rattle.covhtml.specs.IndexPage.{IndexedFileData}
use Rattle.covhtml.specs.PageName.{page_name}
use Rattle.covpages.specs.Pages.{PagesWorkData, AreSources, complaints_of, files_of, files_shown, indexed_after, is_refused, page_of, pages_after, place_of, rows_at}
use Rattle.covpages.specs.Sources.{SourceData, IsSource, complaint_of}
use Rattle.covtable.specs.Content.{SectionData}
use Rattle.covtable.specs.Files.{FileTotalsData}
use Rattle.covworld.specs.OutputFiles.{AddsName, Finishes, OutputFilesData}

-- the source files that have a page, and the lines about those whose texts aren't shown
pub record ProgressData : Type 0 where
  pub entries : List IndexedFileData
  pub complaints : List ℕ

-- these files were finished in a folder, if its files are known
abbrev pub AreFinished : List (List ℕ × List ℕ) → (files files_after : Option (List (List ℕ × List ℕ))) → Type 0
AreFinished more None after = Unit {0}
AreFinished more (Some files) None = ⊥
AreFinished more (Some files) (Some after) = after ≡ files ++ more

-- and their names were added
abbrev pub AreAdded : List (List ℕ × List ℕ) → (names names_after : List (List ℕ)) → Type 0
AreAdded more names after = after ≡ names ++ map (λ f. f.0) more

-- the page of a source file was written
pub record IsNext (work : PagesWorkData) (sections : List SectionData) (file : FileTotalsData) (old new : ProgressData) (files files_after : OutputFilesData) : Type 0 where
  pub source : SourceData
  pub is : IsSource work.sources (place_of work file.path) (rows_at sections file.path) source
  pub entries : new.entries ≡ old.entries ++ indexed_after (length old.entries) (file ∷ [])
  pub complaints : new.complaints ≡ old.complaints ++ complaint_of work.strictness (place_of work file.path) source
  pub finished : Finishes (page_name (length old.entries + 1) file.path) (page_of sections file source) files.finished files_after.finished
  pub named : AddsName (page_name (length old.entries + 1) file.path) files.names files_after.names

-- the pages of these source files were written
pub record IsSoFar (work : PagesWorkData) (sections : List SectionData) (shown : List FileTotalsData) (progress : ProgressData) (files files_after : OutputFilesData) : Type 0 where
  pub sources : List SourceData
  pub are : AreSources work sections shown sources
  pub entries : progress.entries ≡ indexed_after 0 shown
  pub complaints : progress.complaints ≡ complaints_of work shown sources
  pub finished : AreFinished (pages_after 0 sections shown sources) files.finished files_after.finished
  pub named : AreAdded (pages_after 0 sections shown sources) files.names files_after.names

-- all files were written, with these warnings
pub record IsReport (work : PagesWorkData) (sections : List SectionData) (files files_after : OutputFilesData) (warnings : List ℕ) : Type 0 where
  pub sources : List SourceData
  pub are : AreSources work sections (files_shown work sections) sources
  pub complaints : warnings ≡ complaints_of work (files_shown work sections) sources
  pub taken : is_refused work.strictness warnings ≡ false
  pub finished : AreFinished (files_of work sections sources) files.finished files_after.finished
  pub named : AreAdded (files_of work sections sources) files.names files_after.names
