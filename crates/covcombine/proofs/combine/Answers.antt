use Rattle.std.proofs.Common.{ap, map}
use Rattle.std.specs.String.{string_bytes}
use Rattle.covworld.specs.Folder.{folder_data}
use Rattle.covworld.specs.OutputFiles.{output_files}
use Rattle.covworld.specs.Streams.{source}
use Rattle.covworld.specs.World.{WorldData}
use Rattle.covcombine.proofs.Reports.{call_named, call_unnamed}
use Rattle.covcombine.proofs.combine.Goals as goal

pub returns-in-Ok : goal.returns-in-Ok
returns-in-Ok g c =
    let before = c.world.inside in
    let after = c.names_of.new.input in
    call_named (folder_data g.F.Folder g.F.File.Source c.args.folder.now) c.args.options.now c.args.strictness _ _ c.args.world.now
    (record {
      files = output_files (g.P.OutputFolder.finished before.files) (g.P.OutputFolder.names before.files) (g.P.OutputFolder.begun before.files) (g.P.OutputFolder.failed before.files);
      input = source (g.I.Source.left after) (g.I.Source.reads after) (g.I.Source.failed_reads after);
      sinks = before.sinks;
    })
    c.combine_files.new.world (source (g.I.Source.left before.input) (g.I.Source.reads before.input) (g.I.Source.failed_reads before.input))
    (ap (λ (w : WorldData). w.files) c.world.view_is) (ap (λ (w : WorldData). w.sinks) c.world.view_is) (ap (λ (w : WorldData). w.input) c.world.view_is)
    c.combine_files.ensures.input c.in-Ok.names (map string_bytes c.get.result.now) c.in-Ok.ensures.names c.get.ensures c.combine_files.ensures.reported

pub returns-in-Err : goal.returns-in-Err
returns-in-Err g c =
    let before = c.world.inside in
    let after = c.names_of.new.input in
    call_unnamed (folder_data g.F.Folder g.F.File.Source c.args.folder.now) c.args.options.now c.args.strictness _ _ c.args.world.now
    (record {
      files = output_files (g.P.OutputFolder.finished before.files) (g.P.OutputFolder.names before.files) (g.P.OutputFolder.begun before.files) (g.P.OutputFolder.failed before.files);
      input = source (g.I.Source.left after) (g.I.Source.reads after) (g.I.Source.failed_reads after);
      sinks = before.sinks;
    })
    c.report.new.world (source (g.I.Source.left before.input) (g.I.Source.reads before.input) (g.I.Source.failed_reads before.input))
    (ap (λ (w : WorldData). w.files) c.world.view_is) (ap (λ (w : WorldData). w.sinks) c.world.view_is) (ap (λ (w : WorldData). w.input) c.world.view_is)
    c.report.ensures.input c.in-Err.fault _ c.in-Err.ensures.fault c.early_end-ending.ensures c.report.ensures.reported
