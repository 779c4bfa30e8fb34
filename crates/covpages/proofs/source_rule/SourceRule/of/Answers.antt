use Rattle.std.proofs.Common.{ℕ, List, None, Some, ap₂, ◌∙◌, arith}
use Rattle.std.proofs.lemmas.Str.Pattern.{split_parts}
use Rattle.covpages.proofs.Places.{no_rule, rule_is}
use Rattle.covpages.proofs.source_rule.SourceRule.of.Goals as goal

pub returns-in_default : goal.returns-in_default
returns-in_default c = no_rule c.args.word.now (split_parts 61 c.args.word.now None c.in_default.ensures.cases (omega arith))

pub returns : goal.returns
returns c =
    let parts = split_parts 61 c.args.word.now (Some (c.in-Some.old, c.in-Some.new)) c.in-Some.ensures.cases (omega arith) in
    ap₂ (λ (old new : List ℕ). Some (old, new)) c.as_bytes.ensures.value c.as_bytes-2.ensures.value
    ∙ rule_is c.args.word.now c.in-Some.old.now c.in-Some.new.now parts.0 parts.1
