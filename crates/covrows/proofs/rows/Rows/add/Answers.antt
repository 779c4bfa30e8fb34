use Rattle.std.proofs.Common.{List, sym, subst, ◌∙◌}
use Rattle.covdata.specs.Row.{Row}
use Rattle.covtable.specs.Clash.{Agree, checksums_in}
use Rattle.covrows.proofs.rows.Rows.add.Goals as goal

pub invariant_of-self : goal.invariant_of-self
invariant_of-self g c = record {
  agree = subst (λ (rows : List Row). Agree (checksums_in rows)) (sym (c.replace.ensures ∙ c.requires.1.rows)) c.requires.1.agree;
}
