use Rattle.std.proofs.Common.{◌++◌, List, map, ap, ◌∙◌, arith}
use Rattle.std.proofs.lemmas.List.{nil_from_length}
use Rattle.covtable.specs.Files.{FileTotalsData}
use Rattle.covtable.specs.ValuesView.{file_totals_data}
use Rattle.covreport.specs.ChoiceView.{choice_data}
use Rattle.covlist.specs.Chosen.{chosen_among, chosen_files}
use Rattle.covlist.specs.Json.{objects}
use Rattle.covlist.proofs.Files.{object_passed, object_put, objects_end}
use Rattle.covlist.proofs.json_text.put_objects.Goals as goal

pub loop-file-init : goal.loop-file-init
loop-file-init g c =
    ap (λ (files : List FileTotalsData). c.args.text.now ++ objects (chosen_among (choice_data c.args.choice.now) files))
    (ap (map file_totals_data) c.into_iter-file-iterator.ensures.into_iter_gives.0 ∙ c.in_ok-files.ensures.files)

pub loop-file-preserved-then-takes : goal.loop-file-preserved-then-takes
loop-file-preserved-then-takes g c =
    let choice = choice_data c.args.choice.now in
    object_put choice (c.args.text.now ++ objects (chosen_files choice (g.T.Table.shown c.args.store.now).sections)) c.loop-file.text c.loop-file.is_first _ c.loop-file.invariant
    (file_totals_data c.in-Some.file) (map file_totals_data c.next.new.self.rest.items) c.takes.result (ap (map file_totals_data) c.in-Some.ensures.steps.0) c.takes.ensures c.if-takes.true c.put_object.new.text
    c.in_ok-put_object.ensures

pub loop-file-preserved : goal.loop-file-preserved
loop-file-preserved g c =
    let choice = choice_data c.args.choice.now in
    object_passed choice (c.args.text.now ++ objects (chosen_files choice (g.T.Table.shown c.args.store.now).sections)) c.loop-file.text c.loop-file.is_first _ c.loop-file.invariant
    (file_totals_data c.in-Some.file) (map file_totals_data c.next.new.self.rest.items) c.takes.result (ap (map file_totals_data) c.in-Some.ensures.steps.0) c.takes.ensures c.if-takes.false

pub returns : goal.returns
returns g c =
    let choice = choice_data c.args.choice.now in
    let rest = c.loop-file.file-iterator.rest in
    objects_end choice (c.args.text.now ++ objects (chosen_files choice (g.T.Table.shown c.args.store.now).sections)) c.loop-file.text c.loop-file.is_first _ c.loop-file.invariant
    (ap (map file_totals_data) (nil_from_length rest.items (omega (arith, c.in-None.ensures.steps.0, rest.ok.0))))
