use Rattle.covtable.specs.ValuesView.{file_totals_data}
use Rattle.covreport.proofs.Listed.{one_more}
use Rattle.covreport.proofs.files.list_files.Goals as goal

pub loop-file-preserved : goal.loop-file-preserved
loop-file-preserved g c =
    one_more file_totals_data c.loop-file.list.items c.push.new.self.items c.in-Some.file _ (g.I.TableFiles.left c.next_file.new.self) _ c.loop-file.invariant c.in-Some.ensures c.in_ok-push.ensures.items
