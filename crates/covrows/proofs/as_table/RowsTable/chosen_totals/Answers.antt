use Rattle.covrows.proofs.as_table.RowsTable.chosen_totals.Goals as goal

pub returns-clause-bounds : goal.returns-clause-bounds
returns-clause-bounds g c = c.totals_where.ensures.bounds
