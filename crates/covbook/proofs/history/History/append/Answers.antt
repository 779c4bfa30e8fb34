use Rattle.std.proofs.Common.{◌++◌, map, [], ◌∷◌, ap, ◌∙◌}
use Rattle.std.proofs.lemmas.List.{map-append}
use Rattle.covbook.specs.declared.entry.Entry.{Entry}
use Rattle.covbook.specs.EntryView.{entry_data}
use Rattle.covbook.specs.Held.{HistoryData}
use Rattle.covbook.specs.Op.{EntryData}
use Rattle.covbook.proofs.history.History.append.Goals as goal

pub returns : goal.returns
returns g c =
    let shown : g.row.K.Denot → EntryData = λ k. entry_data (g.K.Keep.shows k) in
    ap (map shown) c.push_reserved.ensures.items ∙ map-append shown c.self.inside.kept.items (c.keep.result ∷ [])
    ∙ ap (λ (e : Entry g.row.A.Denot). map shown c.self.inside.kept.items ++ entry_data e ∷ []) c.keep.ensures
    ∙ ap (λ (history : HistoryData). history.entries ++ entry_data c.args.entry ∷ []) c.self.view_is
