use Rattle.std.proofs.Common.{◌+◌, sym, ap, ◌∙◌, subst}
use Rattle.covpages.proofs.Totals.{are_no_totals, are_totals_together, left, next_fits, next_left, none_left, none_together, regrouped, together_none}
use Rattle.covtable.specs.Totals.{AreTotals}
use Rattle.covtable.specs.TotalsExchanged.{together}
use Rattle.covtable.specs.declared.totals.Totals.{Totals}
use Rattle.covpages.proofs.entries.totals_of.Goals as goal

pub loop-file-init : goal.loop-file-init
loop-file-init c =
    let whole = left c.args.files.now 0 0 in
    record {
      sum = ap (λ (t : Totals). together t whole) c.none-totals.ensures ∙ together_none whole;
      bounds = subst AreTotals (sym c.none-totals.ensures) are_no_totals;
    }

pub plus-totals-requires : goal.plus-totals-requires
plus-totals-requires c =
    let files = c.args.files.now in
    let i = c.loop-file.file-index in
    let file = c.file-item.result in
    let next = next_left files i file c.loop-file-test.true c.file-item.is in
    next_fits c.loop-file.totals file.totals (left files i (i + 1)) (left files 0 0)
    (ap (together c.loop-file.totals) (sym next) ∙ c.loop-file.invariant.sum) c.requires

pub loop-file-preserved : goal.loop-file-preserved
loop-file-preserved c =
    let files = c.args.files.now in
    let i = c.loop-file.file-index in
    let file = c.file-item.result in
    let rest = left files i (i + 1) in
    let next = next_left files i file c.loop-file-test.true c.file-item.is in
    record {
      sum =
          ap (λ (t : Totals). together t rest) c.plus-totals.ensures ∙ regrouped c.loop-file.totals file.totals rest
          ∙ ap (together c.loop-file.totals) (sym next) ∙ c.loop-file.invariant.sum;
      bounds =
          subst AreTotals (sym c.plus-totals.ensures) (are_totals_together c.loop-file.totals file.totals c.loop-file.invariant.bounds file.are_totals);
    }

pub returns : goal.returns
returns c =
    let files = c.args.files.now in
    let i = c.loop-file.file-index in
    record {
      sum =
          sym (none_together c.loop-file.totals)
          ∙ ap (together c.loop-file.totals) (sym (none_left files i c.loop-file-test.false)) ∙ c.loop-file.invariant.sum;
      bounds = c.loop-file.invariant.bounds;
    }
