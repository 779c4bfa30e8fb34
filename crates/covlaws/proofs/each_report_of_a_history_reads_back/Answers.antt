use Rattle.covlaws.proofs.HistoryBack.{history_back}
use Rattle.covlaws.proofs.each_report_of_a_history_reads_back.Goals as goal

pub returns : goal.returns
returns c = history_back c.reports_read_back.ensures
