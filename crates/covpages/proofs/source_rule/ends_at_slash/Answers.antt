use Rattle.std.proofs.Common.{sym, ap, ◌∙◌}
use Rattle.covpages.specs.Sources.{ends_at_slash}
use Rattle.covpages.proofs.Places.{slash_last}
use Rattle.covpages.proofs.source_rule.ends_at_slash.Goals as goal

pub returns-in-Some : goal.returns-in-Some
returns-in-Some c = sym (slash_last c.in-Some.field-0-1.now c.in-Some.byte.now) ∙ ap ends_at_slash (sym c.in-Some.ensures.cases.0)
