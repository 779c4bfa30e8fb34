use Rattle.std.proofs.Common.{List, map, refl, sym, ap, option_map, ◌∙◌}
use Rattle.std.proofs.lemmas.List.{length-map}
use Rattle.covdata.specs.Row.{Row, rows_of}
use Rattle.covtable.specs.Clash.{clash_of}
use Rattle.covtable.specs.Content.{content_of}
use Rattle.covtable.specs.RefuseView.{refuse_data}
use Rattle.covtable.specs.Totals.{totals_of}
use Rattle.covrows.specs.Data.{clash_data, row_data}
use Rattle.covrows.specs.View.{rows_in}
use Rattle.covrows.proofs.Least.{all_picked}
use Rattle.covrows.proofs.Plans.{at_err, clash_seen, none_rows, nothing_more, plan_of_nothing, refused_by, some_rows}
use Rattle.covrows.proofs.Stands.{agree_joined, few_rows}
use Rattle.covrows.proofs.rows.Rows.plan.Goals as goal

pub returns-then-items-eq0-clause-planned : goal.returns-then-items-eq0-clause-planned
returns-then-items-eq0-clause-planned g c =
    plan_of_nothing c.args.self.now c.args.submission.now c.plan_nothing.result (sym c.items.ensures.count ∙ c.if-items-eq0.true) c.requires c.items.ensures.lawful c.plan_nothing.ensures.rows

pub returns-then-items-eq0-clause-after : goal.returns-then-items-eq0-clause-after
returns-then-items-eq0-clause-after g c =
    c.plan_nothing.ensures.after ∙ ap (λ (rows : List Row). totals_of (content_of rows)) (sym (nothing_more (rows_in c.args.self.now) c.args.submission.now (sym c.items.ensures.count ∙ c.if-items-eq0.true)))

pub returns-then-items-eq0-clause-agrees : goal.returns-then-items-eq0-clause-agrees
returns-then-items-eq0-clause-agrees g c = ap (clash_of (rows_in c.args.self.now)) (none_rows c.args.submission.now (sym c.items.ensures.count ∙ c.if-items-eq0.true))

pub returns-in_err-rows-clause-some : goal.returns-in_err-rows-clause-some
returns-in_err-rows-clause-some g c = at_err c.from_residual.result (some_rows c.args.submission.now (λ none. c.if-items-eq0.false (c.items.ensures.count ∙ none)))

pub returns-in-Some-clause-refused : goal.returns-in-Some-clause-refused
returns-in-Some-clause-refused g c =
    let rows = rows_in c.args.self.now in
    let more = rows_of c.args.submission.now in
    let joined = ap (map row_data) c.as_slice.ensures.value ∙ c.in_ok-rows.ensures in
    let told = c.first_clash.ensures ∙ clash_seen c.as_slice.result.now c.len.result rows more joined (c.len.ensures ∙ c.args.self.now.rows.ok.0 ∙ sym (length-map c.args.self.now.rows.items row_data)) in
    refused_by rows c.args.submission.now (clash_data c.in-Some.clash) (refuse_data c.refuse.result) (sym told ∙ ap (option_map clash_data) c.in-Some.is) c.refuse.ensures

pub returns-in-Some-clause-some : goal.returns-in-Some-clause-some
returns-in-Some-clause-some g c = some_rows c.args.submission.now (λ none. c.if-items-eq0.false (c.items.ensures.count ∙ none))

pub returns-clause-planned : goal.returns-clause-planned
returns-clause-planned g c =
    let rows = rows_in c.args.self.now in
    let more = rows_of c.args.submission.now in
    let joined = ap (map row_data) c.as_slice.ensures.value ∙ c.in_ok-rows.ensures in
    let told = c.first_clash.ensures ∙ clash_seen c.as_slice.result.now c.len.result rows more joined (c.len.ensures ∙ c.args.self.now.rows.ok.0 ∙ sym (length-map c.args.self.now.rows.items row_data)) in
    record {
      members = c.requires;
      rows = c.in_ok-rows.ensures;
      small = few_rows c.args.submission.now c.items.ensures.lawful;
      agree = agree_joined rows more c.args.self.now.agree (sym told ∙ ap (option_map clash_data) c.in_default.is);
    }

pub returns-clause-after : goal.returns-clause-after
returns-clause-after g c =
    c.totals_of-after.ensures.value ∙ ap totals_of (all_picked _ (λ s. refl) (content_of (map row_data c.as_slice-2.result.now)))
    ∙ ap (λ rows. totals_of (content_of rows)) (ap (map row_data) c.as_slice-2.ensures.value ∙ c.in_ok-rows.ensures)

pub returns-clause-agrees : goal.returns-clause-agrees
returns-clause-agrees g c =
    let rows = rows_in c.args.self.now in
    let more = rows_of c.args.submission.now in
    let joined = ap (map row_data) c.as_slice.ensures.value ∙ c.in_ok-rows.ensures in
    let told = c.first_clash.ensures ∙ clash_seen c.as_slice.result.now c.len.result rows more joined (c.len.ensures ∙ c.args.self.now.rows.ok.0 ∙ sym (length-map c.args.self.now.rows.items row_data)) in
    sym told ∙ ap (option_map clash_data) c.in_default.is
