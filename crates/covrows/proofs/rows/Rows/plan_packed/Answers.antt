use Rattle.std.proofs.Common.{◌≡◌, ◌++◌, List, sym, ap, subst, ◌∙◌}
use Rattle.covdata.specs.Row.{Row, rows_of}
use Rattle.covtable.specs.Clash.{clash_of}
use Rattle.covtable.specs.Content.{content_of}
use Rattle.covtable.specs.Totals.{totals_of}
use Rattle.covrows.specs.View.{rows_in}
use Rattle.std.specs.Prelude.{IfOk}
use Rattle.covdata.specs.Row.{SubmissionData}
use Rattle.covrows.proofs.Plans.{at_err, none_rows, nothing_more, plan_of_nothing, some_rows}
use Rattle.covrows.proofs.rows.Rows.plan_packed.Goals as goal

pub returns-then-items-eq0-clause-planned : goal.returns-then-items-eq0-clause-planned
returns-then-items-eq0-clause-planned g c =
    plan_of_nothing c.args.self.now c.args.submission.now c.plan_nothing.result (sym c.items.ensures.count ∙ c.if-items-eq0.true) c.requires c.items.ensures.lawful c.plan_nothing.ensures.rows

pub returns-then-items-eq0-clause-after : goal.returns-then-items-eq0-clause-after
returns-then-items-eq0-clause-after g c =
    c.plan_nothing.ensures.after ∙ ap (λ (rows : List Row). totals_of (content_of rows)) (sym (nothing_more (rows_in c.args.self.now) c.args.submission.now (sym c.items.ensures.count ∙ c.if-items-eq0.true)))

pub returns-then-items-eq0-clause-agrees : goal.returns-then-items-eq0-clause-agrees
returns-then-items-eq0-clause-agrees g c = ap (clash_of (rows_in c.args.self.now)) (none_rows c.args.submission.now (sym c.items.ensures.count ∙ c.if-items-eq0.true))

pub returns-in_err-unpacked-clause-some : goal.returns-in_err-unpacked-clause-some
returns-in_err-unpacked-clause-some g c = at_err c.from_residual.result (some_rows c.args.submission.now (λ none. c.if-items-eq0.false (c.items.ensures.count ∙ none)))

pub returns-clause-after : goal.returns-clause-after
returns-clause-after g c =
    subst (λ (s : SubmissionData). IfOk c.plan.result (λ plan. plan.after ≡ totals_of (content_of (rows_in c.args.self.now ++ rows_of s)))) c.in_ok-unpacked.ensures.ok c.plan.ensures.after
