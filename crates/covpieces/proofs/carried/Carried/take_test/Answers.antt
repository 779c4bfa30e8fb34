use Rattle.std.proofs.Common.{◌∙◌, ap, List, ℕ}
use Rattle.covpieces.specs.Pieces.{CarriedData}
use Rattle.covpieces.proofs.LastSect.{test_of_last}
use Rattle.covpieces.proofs.carried.Carried.take_test.Goals as goal

pub returns-in_ok-self-inside-clause-ok : goal.returns-in_ok-self-inside-clause-ok
returns-in_ok-self-inside-clause-ok g c =
    let copied = c.in_ok-self-inside.field-0 in
    let test = test_of_last (g.S.ReadText.says c.args.submission.now).sects c.in-Some.test.now c.args.self.now.test c.in-Some.ensures in
    let others = ap (λ (d : CarriedData). let e : CarriedData = record { test = copied; is_grouped = d.is_grouped; lines = d.lines } in e) c.self.view_is in
    others ∙ ap (λ (t : List ℕ). let e : CarriedData = record { test = t; is_grouped = c.args.self.now.is_grouped; lines = c.args.self.now.lines } in e) (c.in_ok-self-inside.ensures ∙ test)
