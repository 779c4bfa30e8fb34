use Rattle.std.proofs.Common.{sym, ap, ◌∙◌}
use Rattle.covpaths.specs.Paths.{ends_at_slash}
use Rattle.covpaths.proofs.Places.{slash_last}
use Rattle.covpaths.proofs.rule.ends_at_slash.Goals as goal

pub returns-in-Some : goal.returns-in-Some
returns-in-Some c = sym (slash_last c.in-Some.field-0-1.now c.in-Some.byte.now) ∙ ap ends_at_slash (sym c.in-Some.ensures.cases.0)
