use Rattle.std.proofs.Common.{ℕ, eqb, List, length, None, Some, sym, ap, ◌∙◌, arith}
use Rattle.std.proofs.lemmas.Bool.{false≢true}
use Rattle.std.proofs.lemmas.Str.Pattern.{split_parts}
use Rattle.covpaths.proofs.Places.{differ, is_nothing, no_rule, rule, rule_is}
use Rattle.covpaths.proofs.rule.PathRule.of.Goals as goal

pub returns-in_default-clause-fault : goal.returns-in_default-clause-fault
returns-in_default-clause-fault c = no_rule c.args.word.now (split_parts 61 c.args.word.now None c.in_default.ensures.cases (omega arith))

pub returns-then-is_empty-clause-fault : goal.returns-then-is_empty-clause-fault
returns-then-is_empty-clause-fault c =
    let parts = split_parts 61 c.args.word.now (Some (c.in-Some.old, c.in-Some.new)) c.in-Some.ensures.cases (omega arith) in (
      rule c.as_bytes-old.result.now c.as_bytes-new.result.now,
      rule_is c.args.word.now c.as_bytes-old.result.now c.as_bytes-new.result.now c.in-Some.old.now c.in-Some.new.now c.as_bytes-old.ensures.value c.as_bytes-new.ensures.value parts,
      is_nothing c.as_bytes-old.result.now (sym c.is_empty.ensures ∙ c.if-is_empty.true),
    )

pub returns-then-not-good_test-clause-fault : goal.returns-then-not-good_test-clause-fault
returns-then-not-good_test-clause-fault c =
    let parts = split_parts 61 c.args.word.now (Some (c.in-Some.old, c.in-Some.new)) c.in-Some.ensures.cases (omega arith) in (
      rule c.as_bytes-old.result.now c.as_bytes-new.result.now,
      rule_is c.args.word.now c.as_bytes-old.result.now c.as_bytes-new.result.now c.in-Some.old.now c.in-Some.new.now c.as_bytes-old.ensures.value c.as_bytes-new.ensures.value parts,
      (λ good. false≢true (sym c.if-not-good_test.true ∙ c.good_test.ensures.1 good)),
    )

pub returns-then-ends_at_slash-clause-fault : goal.returns-then-ends_at_slash-clause-fault
returns-then-ends_at_slash-clause-fault c =
    let parts = split_parts 61 c.args.word.now (Some (c.in-Some.old, c.in-Some.new)) c.in-Some.ensures.cases (omega arith) in (
      rule c.as_bytes-old.result.now c.as_bytes-new.result.now,
      rule_is c.args.word.now c.as_bytes-old.result.now c.as_bytes-new.result.now c.in-Some.old.now c.in-Some.new.now c.as_bytes-old.ensures.value c.as_bytes-new.ensures.value parts,
      (λ none. false≢true (sym c.if-not-is_empty.true ∙ c.is_empty-2.ensures ∙ ap (λ (t : List ℕ). eqb (length t) 0) none)),
      (λ same. differ c.ends_at_slash.result c.ends_at_slash-then-not-is_empty.result c.if-ends_at_slash.true
          (c.ends_at_slash.ensures ∙ same ∙ sym c.ends_at_slash-then-not-is_empty.ensures)),
    )

pub returns-clause-rule : goal.returns-clause-rule
returns-clause-rule c =
    rule_is c.args.word.now c.as_bytes-old.result.now c.as_bytes-new.result.now c.in-Some.old.now c.in-Some.new.now c.as_bytes-old.ensures.value c.as_bytes-new.ensures.value
    (split_parts 61 c.args.word.now (Some (c.in-Some.old, c.in-Some.new)) c.in-Some.ensures.cases (omega arith))
