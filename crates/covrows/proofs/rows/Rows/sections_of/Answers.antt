use Rattle.std.proofs.Common.{length, ap, arith}
use Rattle.covrows.specs.View.{rows_in}
use Rattle.covrows.proofs.Plans.{few_sections}
use Rattle.covrows.proofs.rows.Rows.sections_of.Goals as goal

pub overflow_add-count : goal.overflow_add-count
overflow_add-count g c =
    omega (arith, c.loop-section.invariant.few, ap length c.in-Some.ensures, few_sections (rows_in c.args.self.now), c.sections-sections.ensures.few)
