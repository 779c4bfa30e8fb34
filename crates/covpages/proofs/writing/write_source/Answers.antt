use Rattle.std.proofs.Common.{◌≡◌, ◌+◌, ◌++◌, ℕ, [], ◌∷◌, List, arith, length, map, sym, ap, ap₂, ◌∙◌, subst}
use Rattle.std.proofs.lemmas.List.{length-map}
use Rattle.covhtml.specs.IndexPage.{IndexedFileData}
use Rattle.covhtml.specs.PageName.{page_name}
use Rattle.covhtml.specs.PagesView.{test_totals_data}
use Rattle.covhtml.specs.PointsView.{points_data}
use Rattle.covhtml.specs.RowView.{row_data}
use Rattle.covhtml.specs.Rows.{RowData}
use Rattle.covhtml.specs.SectionRows.{section_rows}
use Rattle.covpages.specs.Pages.{page_of, place_of, rows_at}
use Rattle.covpages.specs.Sources.{IsSource}
use Rattle.covpages.specs.View.{entry_data, source_data, work_data}
use Rattle.covpages.proofs.SourcePages.{page_is, rows_are}
use Rattle.covtable.specs.ValuesView.{branch_data, file_totals_data, function_data, line_data}
use Rattle.covworld.specs.Folder.{folder_data}
use Rattle.covworld.specs.OutputFiles.{AddsName, Finishes}
use Rattle.covpages.proofs.writing.write_source.Goals as goal

pub returns-clause-next : goal.returns-clause-next
returns-clause-next g c =
    let folder = folder_data g.F.Folder g.F.File.Source c.args.work.now.sources.now in
    let work = work_data folder c.args.work.now in
    let sections = (g.T.Table.shown c.args.work.now.table.now).sections in
    let file = file_totals_data c.args.file in
    let source = source_data c.in_ok-source.source in
    let points = points_data c.in_ok-parts.parts.points in
    let old = c.args.progress.now.entries.items in
    let rows : map row_data c.in_ok-rows.rows.items ≡ rows_at sections file.path =
    rows_are sections file source points c.in_ok-parts.ensures.points (map row_data c.in_ok-rows.rows.items)
    (c.in_ok-rows.ensures ∙ ap₂ (λ ls bs. section_rows (map line_data ls) (map branch_data bs)) c.as_slice.ensures.value c.as_slice-2.ensures.value) in
    let number : c.len.result ≡ length (map entry_data old) = omega (arith, c.len.ensures, length-map old entry_data) in
    let named : c.in_ok-name.name ≡ page_name (length (map entry_data old) + 1) file.path =
    c.in_ok-name.ensures ∙ ap (λ (n : ℕ). page_name (n + 1) file.path) number in
    let text = page_is sections file source points c.in_ok-parts.ensures.points
    (map function_data c.as_slice-4.result.now) (map test_totals_data c.as_slice-5.result.now) (map row_data c.as_slice-6.result.now) c.text.result.now
    (ap (map function_data) c.as_slice-4.ensures.value)
    (ap (map test_totals_data) c.as_slice-5.ensures.value ∙ c.in_ok-parts.ensures.tests)
    (ap (map row_data) c.as_slice-6.ensures.value ∙ rows) c.text.ensures in
    let before = g.D.OutputFolder.finished c.args.report.now in
    let after = g.D.OutputFolder.finished c.write_page.new.report in
    record {
      source = source;
      is =
          subst (λ (rs : List RowData). IsSource folder (place_of work file.path) rs source) (ap (map row_data) c.as_slice-3.ensures.value ∙ rows)
          c.in_ok-source.ensures.source;
      entries =
          c.in_ok-note.ensures.entries
          ∙ ap (λ (page : List ℕ). map entry_data old ++ (let made : IndexedFileData = record { page = page; path = file.path; totals = file.totals } in made) ∷ []) named;
      complaints = c.in_ok-note.ensures.complaints ∙ c.in_ok-source.ensures.complaint;
      finished =
          subst (λ (name : List ℕ). Finishes name (page_of sections file source) before after) (c.get.ensures ∙ named)
          (subst (λ (t : List ℕ). Finishes c.get.result.now t before after) text c.in_ok-write_page.ensures.finished);
      named =
          subst (λ (name : List ℕ). AddsName name (g.D.OutputFolder.names c.args.report.now) (g.D.OutputFolder.names c.write_page.new.report)) (c.get.ensures ∙ named)
          c.in_ok-write_page.ensures.named;
    }
