use Rattle.std.proofs.Common.{◌≡◌, None, map, take}
use Rattle.covhtml.specs.PagesView.{directory_data}
use Rattle.covpages.specs.Pages.{directory_pages, linked_after}
use Rattle.covpages.specs.Steps.{AreAdded, AreFinished}
use Rattle.covpages.specs.View.{linked_data}
use Rattle.covpages.proofs.writing.write_directory_pages.Given as goal

abbrev pub invariant-loop-place : goal.invariant-loop-place
invariant-loop-place g l = record {
  linked : map linked_data l.linked.items ≡ linked_after l.number (map directory_data (take l.place l.directories));
  finished : AreFinished (directory_pages l.number (map directory_data (take l.place l.directories))) (g.D.OutputFolder.finished l.fn.report) (g.D.OutputFolder.finished l.report);
  named : AreAdded (directory_pages l.number (map directory_data (take l.place l.directories))) (g.D.OutputFolder.names l.fn.report) (g.D.OutputFolder.names l.report);
  none : g.D.OutputFolder.begun l.report ≡ None;
  good : g.D.OutputFolder.failed l.report ≡ g.D.OutputFolder.failed l.fn.report;
}
