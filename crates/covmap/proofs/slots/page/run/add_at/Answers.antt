use Rattle.std.proofs.Common.{◌≡◌, ◌++◌, subst}
use Rattle.std.specs.Prelude.{OnOk}
use Rattle.covmap.specs.Run.{reports_one}
use Rattle.covmap.proofs.slots.page.run.add_at.Goals as goal

pub returns-clause-reports : goal.returns-clause-reports
returns-clause-reports g c = subst (λ note. OnOk c.push_reports.result (c.push_reports.new.reports.items ≡ c.args.reports.now.items ++ reports_one c.args.query note)) c.sum_at-note.ensures.report c.push_reports.ensures
