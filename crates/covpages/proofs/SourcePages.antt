-- The page of a source file, from what the table has of the file.
use Rattle.std.proofs.Common.{◌≡◌, ℕ, List, refl, sym, ap, ◌∙◌}
use Rattle.covhtml.specs.Points.{PointsData, tests_of}
use Rattle.covhtml.specs.Rows.{RowData}
use Rattle.covhtml.specs.SectionRows.{section_rows}
use Rattle.covhtml.specs.SourcePage.{SourcePageData, TestTotalsData, source_page}
use Rattle.covtable.specs.Content.{FunctionValueData, SectionData}
use Rattle.covtable.specs.Files.{FileTotalsData}
use Rattle.covtable.specs.Totals.{own_sections}
use Rattle.covpages.specs.Pages.{page_of, points_at, rows_at}
use Rattle.covpages.specs.Sources.{SourceData, shown_text}

module _ (sections : List SectionData) (file : FileTotalsData) (source : SourceData) (points : PointsData) (is : points ≡ points_at sections file.path) where
  pub rows_are : (rows : List RowData) → rows ≡ section_rows points.lines points.branches → rows ≡ rows_at sections file.path
  rows_are rows of = of ∙ ap (λ (p : PointsData). section_rows p.lines p.branches) is

  pub page_is : (functions : List FunctionValueData) (tests : List TestTotalsData) (rows : List RowData) (text : List ℕ)
      → functions ≡ points.functions → tests ≡ tests_of (own_sections file.path sections) → rows ≡ rows_at sections file.path → text ≡ shown_text source
      → source_page (let made : SourcePageData = record { path = file.path; totals = file.totals; functions = functions; tests = tests; rows = rows; source = text } in made)
      ≡ page_of sections file source
  page_is functions tests rows text own tested rowed texted =
      let named : functions ≡ (points_at sections file.path).functions = own ∙ ap (λ (p : PointsData). p.functions) is in
      rw (named, tested, rowed, texted) refl
