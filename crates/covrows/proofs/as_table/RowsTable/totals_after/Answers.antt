use Rattle.covrows.proofs.as_table.RowsTable.totals_after.Goals as goal

pub returns-clause-bounds : goal.returns-clause-bounds
returns-clause-bounds g c = c.args.plan.now.bounds
