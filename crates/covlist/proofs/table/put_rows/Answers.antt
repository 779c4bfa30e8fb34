use Rattle.std.proofs.Common.{◌≡◌, ◌++◌, List, map, sym, ap, ◌∙◌, subst, arith}
use Rattle.std.proofs.lemmas.List.{nil_from_length}
use Rattle.std.specs.List.{flat_map}
use Rattle.covtable.specs.Files.{FileTotalsData, files_with_totals}
use Rattle.covtable.specs.ValuesView.{file_totals_data}
use Rattle.covreport.specs.ChoiceView.{choice_data}
use Rattle.covlist.specs.Chosen.{chosen_among, chosen_files}
use Rattle.covlist.specs.Table.{file_row}
use Rattle.covlist.proofs.Files.{AreAllTotals, all_totals, ends, first_totals, goes_on, other_totals}
use Rattle.covlist.proofs.table.put_rows.Goals as goal

pub loop-file-init : goal.loop-file-init
loop-file-init g c =
    let sections = (g.T.Table.shown c.args.store.now).sections in
    let all : map file_totals_data c.into_iter-file-iterator.result.rest.items ≡ files_with_totals sections = ap (map file_totals_data) c.into_iter-file-iterator.ensures.into_iter_gives.0 ∙ c.in_ok-files.ensures.files in
    record {
      written = ap (λ (files : List FileTotalsData). c.args.text.now ++ flat_map (file_row c.args.all.now) (chosen_among (choice_data c.args.choice.now) files)) all;
      totals = subst AreAllTotals (sym all) (all_totals sections);
    }

pub put_if_chosen-requires : goal.put_if_chosen-requires
put_if_chosen-requires g c =
    first_totals (file_totals_data c.in-Some.file) _ (map file_totals_data c.next.new.self.rest.items) (ap (map file_totals_data) c.in-Some.ensures.steps.0) c.loop-file.invariant.totals

pub loop-file-preserved : goal.loop-file-preserved
loop-file-preserved g c =
    let choice = choice_data c.args.choice.now in
    let sections = (g.T.Table.shown c.args.store.now).sections in
    let more = map file_totals_data c.next.new.self.rest.items in
    let next = ap (map file_totals_data) c.in-Some.ensures.steps.0 in
    record {
      written =
          goes_on choice (file_row c.args.all.now) (c.args.text.now ++ flat_map (file_row c.args.all.now) (chosen_files choice sections)) c.loop-file.text c.put_if_chosen.new.text
          (file_totals_data c.in-Some.file) _ more next c.loop-file.invariant.written c.in_ok-put_if_chosen.ensures;
      totals = other_totals (file_totals_data c.in-Some.file) _ more next c.loop-file.invariant.totals;
    }

pub returns : goal.returns
returns g c =
    let choice = choice_data c.args.choice.now in
    let sections = (g.T.Table.shown c.args.store.now).sections in
    let rest = c.loop-file.file-iterator.rest in
    ends choice (file_row c.args.all.now) (c.args.text.now ++ flat_map (file_row c.args.all.now) (chosen_files choice sections)) c.loop-file.text _
    (ap (map file_totals_data) (nil_from_length rest.items (omega (arith, c.in-None.ensures.steps.0, rest.ok.0)))) c.loop-file.invariant.written
