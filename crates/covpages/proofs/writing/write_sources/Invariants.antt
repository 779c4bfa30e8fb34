use Rattle.std.proofs.Common.{◌≡◌, None, map, take}
use Rattle.covlist.specs.Chosen.{chosen_among}
use Rattle.covpages.specs.Steps.{IsSoFar}
use Rattle.covpages.specs.View.{progress_data, work_data}
use Rattle.covreport.specs.ChoiceView.{choice_data}
use Rattle.covtable.specs.ValuesView.{file_totals_data}
use Rattle.covworld.specs.Folder.{folder_data}
use Rattle.covworld.specs.OutputFiles.{output_files}
use Rattle.covpages.proofs.writing.write_sources.Given as goal

abbrev pub invariant-loop-file : goal.invariant-loop-file
invariant-loop-file g l = record {
  so_far : IsSoFar (work_data (folder_data g.F.Folder g.F.File.Source l.work.sources.now) l.work) (g.T.Table.shown l.work.table.now).sections
      (chosen_among (choice_data l.work.choice.now) (map file_totals_data (take l.file-index l.files))) (progress_data l.progress)
      (output_files (g.D.OutputFolder.finished l.fn.report) (g.D.OutputFolder.names l.fn.report) (g.D.OutputFolder.begun l.fn.report) (g.D.OutputFolder.failed l.fn.report))
      (output_files (g.D.OutputFolder.finished l.report) (g.D.OutputFolder.names l.report) (g.D.OutputFolder.begun l.report) (g.D.OutputFolder.failed l.report));
  none : g.D.OutputFolder.begun l.report ≡ None;
  good : g.D.OutputFolder.failed l.report ≡ g.D.OutputFolder.failed l.fn.report;
}
