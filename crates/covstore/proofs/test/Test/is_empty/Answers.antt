use Rattle.covstore.proofs.Words.{sym, ◌∙◌, false≢true}
use Rattle.covstore.proofs.HasTest.{no_points}
use Rattle.covstore.proofs.test.Test.is_empty.Goals as goal
use Rattle.covstore.proofs.test.Test.is_empty.Goals.{then-is_empty, else-is_empty}

pub returns-then-is_empty-2 : goal.returns-then-is_empty-2
returns-then-is_empty-2 g c =
    let points = c.args.self.now in
    elim c.if-is_empty.branch [
      | then-is_empty w ↦
          no_points points.lines.committed points.functions.committed points.branches.committed c.is_empty-then-is_empty-2.result
          (c.is_empty.ensures.0 w.if-is_empty.true) (w.is_empty-then-is_empty.ensures.0 (sym w.value-is ∙ c.if-is_empty-2.true)) c.is_empty-then-is_empty-2.ensures
      | else-is_empty w ↦ absurd (false≢true (sym w.if-is_empty.false ∙ sym w.value-is ∙ c.if-is_empty-2.true))
    ]
