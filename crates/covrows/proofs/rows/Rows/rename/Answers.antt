use Rattle.std.proofs.Common.{List, sym, subst, ◌∙◌}
use Rattle.covdata.specs.Row.{Row}
use Rattle.covtable.specs.Clash.{Agree, checksums_in}
use Rattle.covtable.proofs.RenamedTables.{agree_renamed}
use Rattle.covrows.specs.View.{rows_in}
use Rattle.covrows.proofs.rows.Rows.rename.Goals as goal

pub invariant_of-self : goal.invariant_of-self
invariant_of-self g c = record {
  agree = subst (λ (rows : List Row). Agree (checksums_in rows)) (sym (c.replace.ensures ∙ c.requires.2))
      (subst Agree (sym (agree_renamed c.requires.0 c.requires.1 (rows_in c.args.self.now))) c.args.self.now.agree);
}
