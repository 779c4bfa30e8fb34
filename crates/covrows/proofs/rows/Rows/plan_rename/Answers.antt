use Rattle.std.proofs.Common.{sym, ◌∙◌}
use Rattle.std.proofs.lemmas.Slice.Eq.{bytes_eq-Decides}
use Rattle.covrows.specs.View.{rows_in}
use Rattle.covrows.proofs.Plans.{none_moved, same_moved}
use Rattle.covrows.proofs.rows.Rows.plan_rename.Goals as goal

pub returns-then-sections-eq0-clause-planned : goal.returns-then-sections-eq0-clause-planned
returns-then-sections-eq0-clause-planned g c = sym (none_moved c.args.old.now c.args.new.now (rows_in c.args.self.now) (sym c.sections_of-sections.ensures ∙ c.if-sections-eq0.true))

pub returns-then-eq-clause-planned : goal.returns-then-eq-clause-planned
returns-then-eq-clause-planned g c = sym (same_moved c.args.old.now c.args.new.now (rows_in c.args.self.now) ((bytes_eq-Decides c.args.old.now c.args.new.now).0 (sym c.eq.ensures ∙ c.if-eq.true)))
