use Rattle.std.proofs.Common.{cond, Bool, ap, sym, ◌∙◌, ◌++◌, ◌∷◌, []}
use Rattle.std.proofs.lemmas.Bool.{eq-eqb, ne_eqb}
use Rattle.covread.specs.Gcov.{without_last}
use Rattle.covread.proofs.GcovParts.{without-last}
use Rattle.covread.proofs.gcov.text.without_last.Goals as goal

pub returns-then-last-byte : goal.returns-then-last-byte
returns-then-last-byte c =
    let front = c.in-Some.front.now in
    let last = c.in-Some.last.now in
    sym (ap (without_last c.args.byte) c.in-Some.ensures.cases.0 ∙ without-last c.args.byte front last ∙ ap (λ (t : Bool). cond t front (front ++ last ∷ [])) (eq-eqb last c.args.byte c.if-last-byte.true))

pub returns-else-last-byte : goal.returns-else-last-byte
returns-else-last-byte c =
    let front = c.in-Some.front.now in
    let last = c.in-Some.last.now in
    c.in-Some.ensures.cases.0
    ∙ sym (ap (without_last c.args.byte) c.in-Some.ensures.cases.0 ∙ without-last c.args.byte front last ∙ ap (λ (t : Bool). cond t front (front ++ last ∷ [])) (ne_eqb last c.args.byte c.if-last-byte.false))
