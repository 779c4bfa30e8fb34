use Rattle.std.proofs.Common.{inl}
use Rattle.covworld.specs.Folder.{folder_data}
use Rattle.covcombine.specs.View.{work_data}
use Rattle.covcombine.proofs.Endings.{ends_collected, ends_uncollected, stop_comes}
use Rattle.covcombine.proofs.Reports.{work_told}
use Rattle.covcombine.proofs.do_work.Goals as goal

pub returns-in-Ok-end_of-clause-reported : goal.returns-in-Ok-end_of-clause-reported
returns-in-Ok-end_of-clause-reported g c =
    work_told (folder_data g.F.Folder g.F.File.Source c.args.folder.now) c.args.jobs (work_data c.args.work) _ _ _ _ _
    (ends_collected (folder_data g.F.Folder g.F.File.Source c.args.folder.now) c.args.jobs (work_data c.args.work) _ _ _
    (rw c.in-Ok.is at c.collect_files-collected.ensures.collected) c.in-Ok-end_of.ensures)
    c.report.ensures.reported

-- memory runs out when the ending is made
pub returns-in-Ok-clause-reported : goal.returns-in-Ok-clause-reported
returns-in-Ok-clause-reported g c =
    work_told (folder_data g.F.Folder g.F.File.Source c.args.folder.now) c.args.jobs (work_data c.args.work) _ _ _ _ _ (inl c.no_memory.ensures) c.report-in-Err-end_of.ensures.reported

pub end_for_collecting-requires : goal.end_for_collecting-requires
end_for_collecting-requires g c =
    stop_comes (folder_data g.F.Folder g.F.File.Source c.args.folder.now) c.args.jobs (work_data c.args.work) c.in-Err.fault (rw c.in-Err.is at c.collect_files-collected.ensures.stopped)

pub returns-clause-reported : goal.returns-clause-reported
returns-clause-reported g c =
    work_told (folder_data g.F.Folder g.F.File.Source c.args.folder.now) c.args.jobs (work_data c.args.work) _ _ _ _ _
    (ends_uncollected (folder_data g.F.Folder g.F.File.Source c.args.folder.now) c.args.jobs (work_data c.args.work) _ c.in-Err.fault
    (rw c.in-Err.is at c.collect_files-collected.ensures.stopped) c.end_for_collecting.ensures)
    c.report-in-Err.ensures.reported
