use Rattle.std.proofs.Common.{ap, sym, ◌∙◌}
use Rattle.covread.specs.GcovReading.{is_name}
use Rattle.covread.proofs.GcovParts.{is_name-last}
use Rattle.covread.proofs.gcov.text.is_name.Goals as goal

pub returns-in-Some : goal.returns-in-Some
returns-in-Some c = sym (ap is_name c.in-Some.ensures.cases.0 ∙ is_name-last c.in-Some.field-0-1.now c.in-Some.last.now)
