use Rattle.covstore.proofs.Words.{rules, tests, refl, sym, ap, ◌∙◌, bytes_eq, list_any, File, SectionData, file_committed, StoreData, files_committed, has_points_of, all_rows}
use Rattle.std.proofs.lemmas.Iterator.Consumers.{YieldsList-from_rest}
use Rattle.std.proofs.lemmas.Iterator.Search.{any_from_yields_List}
use Rattle.covtable.proofs.Contents.{test_by_content}
use Rattle.covstore.proofs.HasTest.{any_in_files, any_named}
use Rattle.covstore.proofs.Settled.{file_name}
use Rattle.covstore.proofs.store.Store.has_test.Goals as goal

pub returns-clause-value : goal.returns-clause-value
returns-clause-value g c =
    let test = c.args.test.now in
    let pairs = c.self.inside.files.entries in
    any_from_yields_List (λ (file : File g.row.A.Denot). has_points_of test (file_committed file)) c.any.new.self _ c.any.result c.any.ensures.ran
    (YieldsList-from_rest c.values.result refl)
    (λ x b q k. search (rules, tests))
    ∙ ap (list_any (λ (file : File g.row.A.Denot). has_points_of test (file_committed file))) c.values.ensures.rest
    ∙ any_named (has_points_of test) file_committed file_name pairs
    ∙ sym (any_in_files test (files_committed file_name pairs) c.self.invariant.0.state.whole)
    ∙ ap (λ (store : StoreData). list_any (λ (s : SectionData). bytes_eq s.key.test test) store.sections) c.self.view_is

pub returns-clause-rows : goal.returns-clause-rows
returns-clause-rows g c = λ table stands.
    let test = c.args.test.now in
    returns-clause-value g c ∙ ap (list_any (λ (s : SectionData). bytes_eq s.key.test test)) stands.content
    ∙ test_by_content (all_rows table) test
