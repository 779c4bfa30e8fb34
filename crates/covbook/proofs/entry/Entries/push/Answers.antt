use Rattle.std.proofs.Common.{◌++◌, map, [], ◌∷◌, ap, ◌∙◌}
use Rattle.std.proofs.lemmas.List.{map-append}
use Rattle.covbook.specs.EntryView.{entry_data}
use Rattle.covbook.proofs.entry.Entries.push.Goals as goal

pub returns-clause-ok : goal.returns-clause-ok
returns-clause-ok g c =
    ap (map entry_data) c.in_ok-push.ensures.items ∙ map-append entry_data c.self.inside.entries.items (c.args.entry ∷ [])
    ∙ ap (λ items. items ++ entry_data c.args.entry ∷ []) c.self.view_is

pub returns-clause-err : goal.returns-clause-err
returns-clause-err g c = tt
