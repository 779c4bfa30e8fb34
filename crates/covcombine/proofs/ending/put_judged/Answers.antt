use Rattle.std.proofs.Common.{◌∙◌, sym, ap, map}
use Rattle.covtable.specs.Files.{files_with_totals}
use Rattle.covtable.specs.Shown.{ShownData}
use Rattle.covtable.specs.ValuesView.{file_totals_data}
use Rattle.covcombine.specs.View.{work_data}
use Rattle.covcombine.proofs.Endings.{judged_so}
use Rattle.covcombine.proofs.ending.put_judged.Goals as goal

pub returns : goal.returns
returns g c =
    let held = c.store.ensures in
    judged_so c.put_patterns.result c.args.front.now c.args.lines.now c.put_paths.new.lines c.put_patterns.new.lines (work_data c.args.work.now) c.rules.result.now
    c.args.collected.now.book.entries c.get.result.now c.args.collected.now.refused (map file_totals_data c.as_slice.result.now) (sym c.is_whole.ensures ∙ c.if-not-is_whole.false)
    c.in_ok-put_paths.ensures c.get.ensures c.rules.ensures.rules
    (ap (map file_totals_data) c.as_slice.ensures.value ∙ c.in_ok-files.ensures.files
    ∙ ap files_with_totals (ap (λ (s : ShownData). s.sections) held.store ∙ held.stands.content))
    c.put_patterns.ensures
