use Rattle.covmap.proofs.Run.{added_column, added_fits, added_report}
use Rattle.covmap.proofs.slots.page.run.sum_at.Goals as goal

pub plus-after-requires : goal.plus-after-requires
plus-after-requires g c = added_fits g.M.Addend.sum c.args.column.now c.args.slot c.args.addend c.index-column-slot.result c.requires.there g.M.Addend.fits c.requires.fits

pub returns-clause-column : goal.returns-clause-column
returns-clause-column g c = added_column g.M.Addend.sum c.args.column.now c.args.slot c.args.addend c.index-column-slot.result c.requires.there c.args.slot c.plus-after.result c.plus-after.ensures

pub returns-clause-report : goal.returns-clause-report
returns-clause-report g c =
    added_report g.M.Addend.sum c.args.column.now c.args.slot c.args.addend c.index-column-slot.result c.requires.there g.M.ReportingAddend.reports c.index-column-slot-2.result c.plus-after.result c.report-note.result c.plus-after.ensures
    c.report-note.ensures
