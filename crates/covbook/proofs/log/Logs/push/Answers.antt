use Rattle.std.proofs.Common.{◌++◌, map, [], ◌∷◌, ap, ◌∙◌}
use Rattle.std.proofs.lemmas.List.{map-append}
use Rattle.covbook.specs.LogView.{log_data}
use Rattle.covbook.proofs.log.Logs.push.Goals as goal

pub returns-clause-ok : goal.returns-clause-ok
returns-clause-ok g c =
    ap (map log_data) c.in_ok-push.ensures.items ∙ map-append log_data c.self.inside.logs.items (c.args.log ∷ [])
    ∙ ap (λ logs. logs ++ log_data c.args.log ∷ []) c.self.view_is

pub returns-clause-err : goal.returns-clause-err
returns-clause-err g c = tt
