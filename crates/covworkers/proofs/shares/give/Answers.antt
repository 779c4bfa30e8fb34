use Rattle.std.proofs.Common.{rules, ◌∙◌, ◌++◌, [], ◌∷◌, ◌<◌, List, Vec, Global, map, length, slice_set, ap, sym}
use Rattle.std.proofs.lemmas.List.{map-set, get_or-map}
use Rattle.covworkers.specs.declared.shares.Placed.{Placed}
use Rattle.covworkers.proofs.shares.give.Goals as goal

-- the share of this job has one more, and the others are as they were
pub returns : goal.returns
returns g c =
    let Share = Vec (Placed g.row.T.Denot) Global in
    let items : Share → List (Placed g.row.T.Denot) = λ share. share.items in
    let old = c.args.shares.now.items in
    let below : c.args.job < length old = search rules in
    map-set items old c.args.job c.push.new.self
    ∙ ap (λ (share : List (Placed g.row.T.Denot)). slice_set (map items old) c.args.job share)
    (c.in_ok-push.ensures.items ∙ ap (λ (share : List (Placed g.row.T.Denot)). share ++ c.args.placed ∷ []) (ap items c.index_mut.ensures.value ∙ sym (get_or-map items old c.args.job c.index_mut.result.now [] below)))
