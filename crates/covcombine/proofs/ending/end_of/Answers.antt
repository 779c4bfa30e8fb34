use Rattle.std.proofs.Common.{◌≡◌, ◌∙◌, ◌++◌, ℕ, List, sym, ap, rules}
use Rattle.covtable.specs.Shown.{ShownData}
use Rattle.covcombine.specs.Combine.{failure_status}
use Rattle.covcombine.specs.View.{work_data}
use Rattle.covcombine.proofs.Endings.{fails_so, gives_so, no_lines, some_lines}
use Rattle.covcombine.proofs.ending.end_of.Goals as goal

pub returns-then-is_empty : goal.returns-then-is_empty
returns-then-is_empty g c =
    let held = c.store.ensures in
    gives_so (work_data c.args.work) c.args.collected.now.book.entries c.args.collected.now.refused c.in_ok-failures.failures c.in_ok-warnings.warnings
    c.in_ok-failures.ensures c.in_ok-warnings.ensures _ _ (sym c.get.ensures ∙ no_lines c.get.result.now (sym c.is_empty.ensures ∙ c.if-is_empty.true))
    (ap (λ (s : ShownData). s.sections) held.store ∙ held.stands.content) c.in_ok-given.ensures

pub returns : goal.returns
returns g c =
    let worst : c.failure_status.result ≡ failure_status c.args.collected.now.book.entries c.args.collected.now.refused = search rules in
    fails_so (work_data c.args.work) c.args.collected.now.book.entries c.args.collected.now.refused c.in_ok-failures.failures c.in_ok-warnings.warnings
    c.in_ok-failures.ensures c.in_ok-warnings.ensures _ _ (λ none. some_lines c.get.result.now (sym c.is_empty.ensures ∙ c.if-is_empty.false) (c.get.ensures ∙ none))
    worst (c.in_ok-append.ensures.ok ∙ ap (λ (bytes : List ℕ). c.in_ok-warnings.warnings ++ bytes) c.get-2.ensures)
