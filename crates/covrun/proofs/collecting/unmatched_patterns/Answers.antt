use Rattle.std.proofs.Common.{◌∙◌, ◌++◌, ℕ, List, ap, flat_map, map}
use Rattle.covtable.specs.Shown.{ShownData}
use Rattle.covtable.specs.ValuesView.{file_totals_data}
use Rattle.covrun.specs.Strict.{asked_patterns, unmatched_line}
use Rattle.covrun.specs.View.{question_data}
use Rattle.covrun.proofs.Endings.{patterns_are_asked}
use Rattle.covrun.proofs.collecting.unmatched_patterns.Goals as goal

pub returns : goal.returns
returns g c =
    let held = c.store.ensures in
    c.in_ok-add_unmatched.ensures
    ∙ ap (λ (ls : List ℕ). ls ++ flat_map (unmatched_line (map file_totals_data c.as_slice.result.now)) (asked_patterns (question_data c.args.asks.now))) c.new-lines.ensures
    ∙ patterns_are_asked c.args.collected.now.book.entries (question_data c.args.asks.now) c.requires _ (ap (λ (s : ShownData). s.sections) held.store ∙ held.stands.content)
    _ (ap (map file_totals_data) c.as_slice.ensures.value ∙ c.in_ok-files.ensures.files)
