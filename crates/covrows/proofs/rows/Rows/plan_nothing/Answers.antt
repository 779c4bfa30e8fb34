use Rattle.std.proofs.Common.{ap, refl, ◌∙◌}
use Rattle.covtable.specs.Content.{content_of}
use Rattle.covtable.specs.Totals.{totals_of}
use Rattle.covrows.specs.View.{rows_in}
use Rattle.covrows.proofs.Least.{all_picked}
use Rattle.covrows.proofs.rows.Rows.plan_nothing.Goals as goal

pub returns-clause-after : goal.returns-clause-after
returns-clause-after g c = c.totals_where.ensures.value ∙ ap totals_of (all_picked _ (λ s. refl) (content_of (rows_in c.args.self.now)))
