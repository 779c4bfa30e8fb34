use Rattle.std.specs.Prelude.{IfOk}
use Rattle.std.proofs.Common.{◌≡◌, [], ◌∷◌, ◌++◌, subst}
use Rattle.covdata.specs.Row.{SubmissionData, rows_of}
use Rattle.covtable.specs.Content.{content_at}
use Rattle.covtable.specs.Shown.{StandsFor}
use Rattle.covtable.specs.Table.{Table}
use Rattle.covtable.specs.Totals.{totals_of}
use Rattle.covbook.proofs.submitted.SubRefSubmitted.prepare_in.Goals as goal

pub returns-clause-after : goal.returns-clause-after
returns-clause-after g c =
    subst (λ (s : SubmissionData). IfOk c.prepare.result (λ plan. (table : Table) → StandsFor (g.T.Table.shown c.args.store.now) table → g.T.Table.planned_totals plan ≡ totals_of (content_at (table ++ rows_of s ∷ [])))) c.get.ensures c.prepare.ensures.after
