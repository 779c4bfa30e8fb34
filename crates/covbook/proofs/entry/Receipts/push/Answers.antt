use Rattle.std.proofs.Common.{◌++◌, map, [], ◌∷◌, ap, ◌∙◌}
use Rattle.std.proofs.lemmas.List.{map-append}
use Rattle.covbook.specs.EntryView.{receipt_data}
use Rattle.covbook.proofs.entry.Receipts.push.Goals as goal

pub returns-clause-ok : goal.returns-clause-ok
returns-clause-ok g c =
    ap (map receipt_data) c.in_ok-push.ensures.items ∙ map-append receipt_data c.self.inside.receipts.items (c.args.receipt ∷ [])
    ∙ ap (λ items. items ++ receipt_data c.args.receipt ∷ []) c.self.view_is

pub returns-clause-err : goal.returns-clause-err
returns-clause-err g c = tt
