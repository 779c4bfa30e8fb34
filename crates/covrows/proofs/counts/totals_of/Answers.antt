use Rattle.std.proofs.Common.{filter, map, sym, subst}
use Rattle.covtable.specs.Content.{content_of}
use Rattle.covtable.specs.Totals.{AreTotals}
use Rattle.covtable.proofs.TotalsDifferent.{are_totals}
use Rattle.covrows.specs.Counted.{is_selected}
use Rattle.covrows.specs.Data.{row_data}
use Rattle.covrows.proofs.Totals.{counted_totals}
use Rattle.covrows.proofs.counts.totals_of.Goals as goal

pub returns-clause-value : goal.returns-clause-value
returns-clause-value g c =
    counted_totals (is_selected c.args.selection.now) (map row_data c.args.rows.now) _ c.count.ensures c.count-2.ensures c.count-3.ensures c.count-4.ensures c.count-5.ensures c.count-6.ensures

pub returns-clause-bounds : goal.returns-clause-bounds
returns-clause-bounds g c =
    let sections = filter (λ s. is_selected c.args.selection.now s.key) (content_of (map row_data c.args.rows.now)) in
    subst AreTotals
    (sym (counted_totals (is_selected c.args.selection.now) (map row_data c.args.rows.now) _ c.count.ensures c.count-2.ensures c.count-3.ensures c.count-4.ensures c.count-5.ensures c.count-6.ensures))
    (are_totals sections)
