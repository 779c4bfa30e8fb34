use Rattle.covstore.proofs.Words.{sym, ap, ◌∙◌, subst, files_committed, StoreData, AreTotals}
use Rattle.covstore.proofs.Settled.{file_name}
use Rattle.covstore.proofs.WithoutStores.{sections_with, some_left, totals_bounds, totals_left}
use Rattle.covstore.proofs.store.Store.after_drop.Goals as goal

pub count_without-requires-clause-whole : goal.count_without-requires-clause-whole
count_without-requires-clause-whole g c = c.self.invariant.0.state.whole

pub count_without-requires-clause-fits : goal.count_without-requires-clause-fits
count_without-requires-clause-fits g c = some_left c.args.test.now c.self.inside.members c.self.inside.totals (files_committed file_name c.self.inside.files.entries) c.self.invariant.0

pub returns-clause-sections : goal.returns-clause-sections
returns-clause-sections g c = λ table stands.
    c.count_without.ensures.sections
    ∙ sections_with c.args.test.now c.self.inside.members c.self.inside.totals (files_committed file_name c.self.inside.files.entries) c.self.invariant.0 table
    (ap (λ (store : StoreData). store.sections) c.self.view_is ∙ stands.content)

pub returns-clause-totals : goal.returns-clause-totals
returns-clause-totals g c = λ table stands.
    let files = files_committed file_name c.self.inside.files.entries in
    let left = some_left c.args.test.now c.self.inside.members c.self.inside.totals files c.self.invariant.0 in
    c.count_without.ensures.totals left.0 left.1
    ∙ totals_left c.args.test.now c.self.inside.members c.self.inside.totals files c.self.invariant.0 left.0 left.1 table (ap (λ (store : StoreData). store.sections) c.self.view_is ∙ stands.content)

pub returns-clause-bounds : goal.returns-clause-bounds
returns-clause-bounds g c =
    let files = files_committed file_name c.self.inside.files.entries in
    let left = some_left c.args.test.now c.self.inside.members c.self.inside.totals files c.self.invariant.0 in
    subst AreTotals (sym (c.count_without.ensures.totals left.0 left.1)) (totals_bounds c.args.test.now c.self.inside.members c.self.inside.totals files c.self.invariant.0 left.0 left.1)
