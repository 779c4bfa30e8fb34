use Rattle.covreport.proofs.tracefile.put_chosen.Goals as goal

pub returns : goal.returns
returns g c = record { begun = c.put_sections.ensures.begun; whole = c.put_sections.ensures.whole; stops = c.put_sections.ensures.stops }
