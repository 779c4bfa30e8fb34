use Rattle.std.proofs.Common.{sym, ◌∙◌}
use Rattle.covpaths.proofs.Places.{no_rest, rest_apart, rest_within}
use Rattle.covpaths.proofs.rule.rest_under.Goals as goal

pub returns-in_default : goal.returns-in_default
returns-in_default c = no_rest c.args.old.now c.args.path.now c.in_default.ensures.cases

pub returns-then-are_apart : goal.returns-then-are_apart
returns-then-are_apart c =
    rest_apart c.args.old.now c.args.path.now c.in-Some.rest.now c.in-Some.ensures.cases.0 c.in-Some.ensures.cases.1
    (sym c.are_apart.ensures ∙ c.if-are_apart.true)

pub returns-else-are_apart : goal.returns-else-are_apart
returns-else-are_apart c =
    rest_within c.args.old.now c.args.path.now c.in-Some.rest.now c.in-Some.ensures.cases.0 c.in-Some.ensures.cases.1
    (sym c.are_apart.ensures ∙ c.if-are_apart.false)
