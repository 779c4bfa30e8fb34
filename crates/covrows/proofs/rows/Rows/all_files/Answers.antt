use Rattle.std.proofs.Common.{map, ap, sym, ◌∙◌}
use Rattle.std.specs.Cmp.Lexicographic.{slice_cmp}
use Rattle.std.specs.Ordering.{nat_cmp}
use Rattle.covtable.specs.Content.{content_of}
use Rattle.covtable.specs.Files.{file_with_totals, files_with_totals}
use Rattle.covtable.proofs.TotalsRows.{files_are}
use Rattle.covrows.specs.Data.{row_data}
use Rattle.covrows.proofs.Least.{left_whole}
use Rattle.covrows.proofs.rows.Rows.all_files.Goals as goal

pub returns : goal.returns
returns g c =
    let rows = map row_data c.as_slice-rows.result.now in
    ap (map (file_with_totals (content_of rows))) (left_whole (slice_cmp nat_cmp) (map (λ row. row.file) rows) ∙ sym (files_are rows))
    ∙ ap (λ items. files_with_totals (content_of (map row_data items))) c.as_slice-rows.ensures.value
