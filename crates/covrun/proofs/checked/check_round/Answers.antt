use Rattle.std.proofs.Common.{◌<◌, length, map, arith}
use Rattle.std.proofs.lemmas.List.{length-map}
use Rattle.std.proofs.lemmas.Result.{err_from_is_err_and}
use Rattle.std.specs.String.{string_bytes}
use Rattle.covworld.specs.Folder.{folder_data}
use Rattle.covrun.proofs.Checks.{examined_at, told_few, told_few_of, told_last, told_more, told_nothing, told_one, told_start, told_whole}
use Rattle.covrun.proofs.checked.check_round.Goals as goal

pub returns-in_err-reports : goal.returns-in_err-reports
returns-in_err-reports g c =
    let told = err_from_is_err_and c.from_residual.result c.from_residual.ensures.1 in
    let some : 0 < length (map string_bytes c.args.files.now) = omega (arith, c.requires.some, length-map c.args.files.now string_bytes) in
    rw (told.1, told.2) (told_nothing (folder_data g.F.Folder g.F.File.Source c.args.folder.now) c.args.options.now.format c.args.options.now.strictness (map string_bytes c.args.files.now) c.args.sinks.now some)

pub loop-report-init : goal.loop-report-init
loop-report-init g c = told_start (folder_data g.F.Folder g.F.File.Source c.args.folder.now) c.args.options.now.format c.args.options.now.strictness _

pub write_report-requires-clause-output : goal.write_report-requires-clause-output
write_report-requires-clause-output g c =
    omega (arith, c.requires.output, (told_few (folder_data g.F.Folder g.F.File.Source c.args.folder.now) c.args.options.now.format c.args.options.now.strictness _ _ _ _ c.loop-report.invariant).0)

pub write_report-requires-clause-faults : goal.write_report-requires-clause-faults
write_report-requires-clause-faults g c =
    told_few_of (folder_data g.F.Folder g.F.File.Source c.args.folder.now) c.args.options.now.format c.args.options.now.strictness (map string_bytes c.args.files.now) c.loop-report.report-index (length c.args.files.now) c.loop-report.worst _ _
    c.loop-report.invariant (length-map c.args.files.now string_bytes) c.requires.faults

pub returns-in_err-verdict : goal.returns-in_err-verdict
returns-in_err-verdict g c =
    let told = err_from_is_err_and c.from_residual-in_err-verdict.result c.from_residual-in_err-verdict.ensures.1 in
    let examined = examined_at (folder_data g.F.Folder g.F.File.Source c.args.folder.now) c.args.options.now.format c.args.options.now.strictness (map string_bytes c.args.files.now) c.in_ok-reports.reports.items c.as_slice-report-items.result.now
    c.loop-report.report-index c.report-item.result c.in_ok-reports.ensures c.as_slice-report-items.ensures.value c.loop-report-test.true c.report-item.is in
    rw (told.1, told.2)
    (told_last (folder_data g.F.Folder g.F.File.Source c.args.folder.now) c.args.options.now.format c.args.options.now.strictness (map string_bytes c.args.files.now) c.loop-report.report-index examined.0 c.loop-report.worst _ _ _ _ c.loop-report.invariant
    (told_one (folder_data g.F.Folder g.F.File.Source c.args.folder.now) c.args.options.now.format c.args.options.now.strictness _ c.report-item.result _ _ _ examined.1 c.in_err-verdict.ensures))

pub loop-report-preserved : goal.loop-report-preserved
loop-report-preserved g c =
    let examined = examined_at (folder_data g.F.Folder g.F.File.Source c.args.folder.now) c.args.options.now.format c.args.options.now.strictness (map string_bytes c.args.files.now) c.in_ok-reports.reports.items c.as_slice-report-items.result.now
    c.loop-report.report-index c.report-item.result c.in_ok-reports.ensures c.as_slice-report-items.ensures.value c.loop-report-test.true c.report-item.is in
    told_more (folder_data g.F.Folder g.F.File.Source c.args.folder.now) c.args.options.now.format c.args.options.now.strictness (map string_bytes c.args.files.now) c.loop-report.report-index examined.0 _ _ _ c.or-worst.ensures _ _ _ c.loop-report.invariant
    (told_one (folder_data g.F.Folder g.F.File.Source c.args.folder.now) c.args.options.now.format c.args.options.now.strictness _ c.report-item.result _ _ _ examined.1 c.in_ok-verdict.ensures)

pub returns : goal.returns
returns g c =
    told_whole (folder_data g.F.Folder g.F.File.Source c.args.folder.now) c.args.options.now.format c.args.options.now.strictness (map string_bytes c.args.files.now) c.in_ok-reports.reports.items c.as_slice-report-items.result.now
    c.loop-report.report-index c.loop-report.worst _ _ c.in_ok-reports.ensures c.as_slice-report-items.ensures.value
    (omega (arith, c.loop-report-test.false)) c.loop-report.invariant
