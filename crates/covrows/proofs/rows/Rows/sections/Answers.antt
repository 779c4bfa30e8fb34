use Rattle.std.proofs.Common.{map, ap, ◌∙◌}
use Rattle.covtable.specs.Content.{content_of, section_of}
use Rattle.covtable.specs.Value.{key_cmp, key_of_row}
use Rattle.covrows.specs.Data.{row_data}
use Rattle.covrows.proofs.Least.{left_whole}
use Rattle.covrows.proofs.rows.Rows.sections.Goals as goal

pub returns-clause-whole : goal.returns-clause-whole
returns-clause-whole g c =
    let rows = map row_data c.as_slice-rows.result.now in
    ap (map (section_of rows)) (left_whole key_cmp (map key_of_row rows)) ∙ ap (λ items. content_of (map row_data items)) c.as_slice-rows.ensures.value
