use Rattle.covcheck.proofs.check.summary_of.Goals as goal

pub returns : goal.returns
returns g c =
    let found = c.skipped_lines_in-skipped.ensures in
    record {
      sections = c.count_sections.ensures;
      items = c.count_items.ensures;
      odd = c.count_odd.ensures;
      lines = found.0;
      those = found.1;
      skipped = found.2;
      first = found.3;
    }
