use Rattle.std.proofs.Common.{sym, ap, subst, ◌∙◌}
use Rattle.covcheck.specs.Skipped.{IsSkippedIn}
use Rattle.covcheck.specs.TextSummary.{Holds}
use Rattle.covcheck.specs.declared.format.Format.{Format}
use Rattle.covlarge.specs.HeldView.{with_numbers}
use Rattle.covlarge.specs.Summary.{SummaryData, HoldsOn}
use Rattle.covlarge.specs.Version.{IsSkippedOf}
use Rattle.covlarge.proofs.Summary.{holds_added, skipped_of}
use Rattle.covlarge.proofs.held.Held.add.Goals as goal

pub returns-clause-added : goal.returns-clause-added
returns-clause-added c =
    let piece = c.args.piece.now in
    let submission = c.args.submission.now in
    let summary = c.summary_of-summary.result in
    let holds = skipped_of c.args.version piece submission summary
    (subst (λ (f : Format). Holds (IsSkippedIn f) piece submission summary) c.format_of.ensures c.summary_of-summary.ensures) in
    let after = c.add_numbers.ensures ∙ ap (λ (h : SummaryData). with_numbers h summary) c.in_ok-keep_first.ensures.added in
    subst (λ (h : SummaryData). HoldsOn (IsSkippedOf c.args.version) c.args.lines c.args.self.now piece submission h) (sym after)
    (holds_added (IsSkippedOf c.args.version) c.args.lines c.args.self.now piece submission summary holds)
