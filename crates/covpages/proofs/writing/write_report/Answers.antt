use Rattle.std.proofs.Common.{◌≡◌, List, map, sym, ap, ◌∙◌, subst}
use Rattle.covlist.specs.Chosen.{totals_of_chosen}
use Rattle.covpages.specs.Directories.{totals_together}
use Rattle.covpages.specs.Pages.{index_files}
use Rattle.covpages.specs.Steps.{AreAdded, AreFinished}
use Rattle.covpages.specs.View.{entry_data, progress_data, work_data}
use Rattle.covpages.specs.declared.listed.Entry.{Entry}
use Rattle.covpages.proofs.Folders.{report_made}
use Rattle.covpages.proofs.Totals.{chosen_totals_together}
use Rattle.covreport.specs.ChoiceView.{choice_data}
use Rattle.covworld.specs.Folder.{folder_data}
use Rattle.covpages.proofs.writing.write_report.Goals as goal

pub write_index-requires-clause-totals : goal.write_index-requires-clause-totals
write_index-requires-clause-totals g c =
    ap (λ (es : List Entry). totals_together (map entry_data es)) c.as_slice-2.ensures.value
    ∙ ap totals_together c.in_ok-progress.ensures.so_far.entries
    ∙ chosen_totals_together (choice_data c.args.work.now.choice.now) 0 (g.T.Table.shown c.args.work.now.table.now).sections

pub returns-clause-written : goal.returns-clause-written
returns-clause-written g c =
    let work = work_data (folder_data g.F.Folder g.F.File.Source c.args.work.now.sources.now) c.args.work.now in
    let sections = (g.T.Table.shown c.args.work.now.table.now).sections in
    let totals = totals_of_chosen work.choice sections in
    report_made work sections (progress_data c.in_ok-progress.progress) _ _ _ _
    c.in_ok-write_text.ensures.finished c.in_ok-write_text.ensures.named c.in_ok-progress.ensures.so_far
    (subst (λ (es : List Entry). AreFinished (index_files work.title work.date totals (map entry_data es)) (g.D.OutputFolder.finished c.write_sources.new.report) (g.D.OutputFolder.finished c.write_index.new.report))
    c.as_slice-2.ensures.value c.in_ok-write_index.ensures.index)
    (subst (λ (es : List Entry). AreAdded (index_files work.title work.date totals (map entry_data es)) (g.D.OutputFolder.names c.write_sources.new.report) (g.D.OutputFolder.names c.write_index.new.report))
    c.as_slice-2.ensures.value c.in_ok-write_index.ensures.named)
    (sym c.refuses.ensures ∙ c.if-refuses.false)
