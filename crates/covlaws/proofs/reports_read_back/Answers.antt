use Rattle.covlaws.proofs.ReportsBack.{reports_back}
use Rattle.covlaws.proofs.reports_read_back.Goals as goal

pub returns : goal.returns
returns c = reports_back c.printed_records_spell.ensures c.lines_are_the_text.ensures.one_after_other c.the_first_clash_is_told.ensures.none c.no_versions_are_mixed.ensures
