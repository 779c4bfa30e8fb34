use Rattle.covlaws.proofs.ReadBack.{text_reads_back, shown_is_lawful}
use Rattle.covlaws.proofs.printed_sections_read_back.Goals as goal

pub returns : goal.returns
returns c = record {
  reads = text_reads_back c.printed_records_spell.ensures c.lines_are_the_text.ensures.one_after_other;
  lawful = shown_is_lawful;
}
