use Rattle.std.proofs.Common.{rules, ◌≡◌, List, filter, map, not, sym, ap, subst, ◌∙◌}
use Rattle.std.proofs.lemmas.Fn.{filter_same}
use Rattle.covdata.specs.Row.{Row}
use Rattle.covtable.specs.Clash.{Agree, checksums_in}
use Rattle.covtable.specs.Without.{is_of_test}
use Rattle.covrows.specs.Data.{row_data}
use Rattle.covrows.specs.View.{rows_in}
use Rattle.covrows.proofs.Stands.{agree_kept}
use Rattle.covrows.proofs.Walks.{filter_seen}
use Rattle.covrows.proofs.rows.Rows.drop_rows_of.Goals as goal

pub invariant_of-self : goal.invariant_of-self
invariant_of-self g c =
    let rows = c.args.self.now.rows.items in
    let left = λ (row : Row). not (is_of_test c.args.test.now row) in
    let kept : c.retain.new.self.items ≡ filter (λ row. left (row_data row)) rows = filter_same _ _ _ (λ x b f' k. search rules) _ _ c.retain.ensures.filtered in
    record {
      agree = subst (λ (rs : List Row). Agree (checksums_in rs)) (sym (ap (map row_data) kept ∙ filter_seen row_data left rows)) (agree_kept c.args.test.now (rows_in c.args.self.now) c.args.self.now.agree);
    }

pub returns-clause-rows : goal.returns-clause-rows
returns-clause-rows g c =
    let rows = c.args.self.now.rows.items in
    let left = λ (row : Row). not (is_of_test c.args.test.now row) in
    let kept : c.retain.new.self.items ≡ filter (λ row. left (row_data row)) rows = filter_same _ _ _ (λ x b f' k. search rules) _ _ c.retain.ensures.filtered in
    ap (map row_data) kept ∙ filter_seen row_data left rows
