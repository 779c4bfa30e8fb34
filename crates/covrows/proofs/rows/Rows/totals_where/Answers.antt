use Rattle.std.proofs.Common.{filter, map, ap, ◌∙◌}
use Rattle.covtable.specs.Content.{content_of}
use Rattle.covtable.specs.Totals.{totals_of}
use Rattle.covrows.specs.Counted.{is_selected}
use Rattle.covrows.specs.Data.{row_data}
use Rattle.covrows.proofs.rows.Rows.totals_where.Goals as goal

pub returns-clause-value : goal.returns-clause-value
returns-clause-value g c =
    c.totals_of.ensures.value ∙ ap (λ items. totals_of (filter (λ s. is_selected c.args.selection.now s.key) (content_of (map row_data items)))) c.as_slice.ensures.value
