use Rattle.std.proofs.Common.{inl, map}
use Rattle.std.specs.String.{string_bytes}
use Rattle.covworld.specs.Folder.{folder_data}
use Rattle.covcombine.proofs.Reports.{files_told, stops_early}
use Rattle.covcombine.proofs.combine_files.Goals as goal

pub returns-in-Err-clause-reported : goal.returns-in-Err-clause-reported
returns-in-Err-clause-reported g c =
    files_told (folder_data g.F.Folder g.F.File.Source c.args.folder.now) c.args.options.now (map string_bytes c.args.names.now) c.args.strictness _ _ _ _ _
    (inl (stops_early (folder_data g.F.Folder g.F.File.Source c.args.folder.now) c.args.options.now (map string_bytes c.args.names.now) _ c.in-Err.fault _ c.in-Err.ensures.fault
    c.early_end-ending.ensures))
    c.report.ensures.reported
