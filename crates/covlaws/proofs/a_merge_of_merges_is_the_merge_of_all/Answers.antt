use Rattle.covlaws.proofs.MergedParts.{one_reading, merged_parts, merges_lawful}
use Rattle.covlaws.proofs.a_merge_of_merges_is_the_merge_of_all.Goals as goal

pub returns : goal.returns
returns c =
    let spells = c.printed_records_spell.ensures in
    let one_after_other = c.lines_are_the_text.ensures.one_after_other in
    let one = one_reading c.each_text_has_one_outcome.ensures.one in
    let rows = c.order_does_not_matter.ensures.rows in
    let order = c.order_of_rows_does_not_matter.ensures.content in
    record {
      lawful = merges_lawful rows spells one_after_other one;
      agree = λ parts merges others lawful agree are. (merged_parts rows spells one_after_other one order parts others agree merges lawful are).0;
      texts = λ parts merges others lawful agree are. (merged_parts rows spells one_after_other one order parts others agree merges lawful are).1;
    }
