-- The types that describe pages, seen as plain data.
use Rattle.std.specs.Prelude.{map, option_map}
use Rattle.covtable.specs.ValuesView.{function_data}
use Rattle.covhtml.specs.declared.pages.Directory.{Directory}
use Rattle.covhtml.specs.declared.pages.DirectoryIndex.{DirectoryIndex}
use Rattle.covhtml.specs.declared.pages.IndexPage.{IndexPage}
use Rattle.covhtml.specs.declared.pages.IndexedDirectory.{IndexedDirectory}
use Rattle.covhtml.specs.declared.pages.IndexedFile.{IndexedFile}
use Rattle.covhtml.specs.declared.pages.SourcePage.{SourcePage}
use Rattle.covhtml.specs.declared.pages.TestTotals.{TestTotals}
use Rattle.covhtml.specs.DirectoryPages.{DirectoryIndexData, IndexedDirectoryData}
use Rattle.covhtml.specs.IndexPage.{DirectoryData, IndexPageData, IndexedFileData}
use Rattle.covhtml.specs.RowView.{row_data}
use Rattle.covhtml.specs.SourcePage.{SourcePageData, TestTotalsData}

abbrev pub indexed_file_data : IndexedFile → IndexedFileData
indexed_file_data file = record { page = file.page.now; path = file.path.now; totals = file.totals }

abbrev pub directory_data : Directory → DirectoryData
directory_data directory = record { path = directory.path.now; totals = directory.totals; files = map indexed_file_data directory.files.now }

abbrev pub index_page_data : IndexPage → IndexPageData
index_page_data page = record {
  title = page.title.now;
  date = option_map (λ d. d.now) page.date;
  totals = page.totals;
  directories = map directory_data page.directories.now;
}

abbrev pub indexed_directory_data : IndexedDirectory → IndexedDirectoryData
indexed_directory_data directory = record { page = directory.page.now; path = directory.path.now; totals = directory.totals }

abbrev pub directory_index_data : DirectoryIndex → DirectoryIndexData
directory_index_data page = record {
  title = page.title.now;
  date = option_map (λ d. d.now) page.date;
  totals = page.totals;
  directories = map indexed_directory_data page.directories.now;
}

abbrev pub test_totals_data : TestTotals → TestTotalsData
test_totals_data t = record { test = t.test.now; totals = t.totals }

abbrev pub source_page_data : SourcePage → SourcePageData
source_page_data page = record {
  path = page.path.now;
  totals = page.totals;
  functions = map function_data page.functions.now;
  tests = map test_totals_data page.tests.now;
  rows = map row_data page.rows.now;
  source = page.source.now;
}
