use Rattle.covstore.proofs.Words.{ℕ, ◌++◌, ◌∷◌, List, Vec, map, sym, ap, ◌∙◌, File, file_committed, files_committed, names_with}
use Rattle.std.proofs.lemmas.List.{append-nil}
use Rattle.covstore.proofs.NamedFiles.{none_named, some_named}
use Rattle.covstore.proofs.Settled.{file_name}
use Rattle.covmap.proofs.SlotWrites.{on_err}
use Rattle.covstore.proofs.all_files.names_with.Goals as goal

pub loop-name-init : goal.loop-name-init
loop-name-init g c = (
  tt,
  tt,
  ap (λ (names : List (Vec ℕ g.row.A.Denot)). map file_name names ++ names_with c.args.test.now (files_committed file_name c.into_iter-name-iterator.result)) c.new-names.ensures.items
      ∙ ap (λ (pairs : List (Vec ℕ g.row.A.Denot × File g.row.A.Denot)). names_with c.args.test.now (files_committed file_name pairs)) (c.into_iter-name-iterator.ensures.into_iter_gives ∙ c.iter-name-items.ensures.rest),
)

pub loop-name-preserved : goal.loop-name-preserved
loop-name-preserved g c = (
  tt,
  tt,
  none_named file_name c.args.test.now (files_committed file_name c.args.files.now.entries) (files_committed file_name c.loop-name.name-iterator) (c.in-Some.name.now.items, file_committed c.get.result.now) (files_committed file_name c.next.new.self)
      (ap (λ (pairs : List (Vec ℕ g.row.A.Denot × File g.row.A.Denot)). files_committed file_name pairs) (c.in-Some.ensures.steps ∙ ap (λ (file : File g.row.A.Denot). (c.in-Some.name.now, file) ∷ c.next.new.self) (sym c.get.ensures))) c.loop-name.names.items c.loop-name.invariant.2 (sym c.has_test.ensures ∙ c.if-has_test.false),
)

pub returns-clause-names : goal.returns-clause-names
returns-clause-names g c =
    sym (append-nil (map file_name c.loop-name.names.items))
    ∙ ap (λ (pairs : List (Vec ℕ g.row.A.Denot × File g.row.A.Denot)). map file_name c.loop-name.names.items ++ names_with c.args.test.now (files_committed file_name pairs)) (sym c.in-None.ensures.steps.0)
    ∙ c.loop-name.invariant.2

pub returns-in_err-from_slice-clause-some : goal.returns-in_err-from_slice-clause-some
returns-in_err-from_slice-clause-some g c =
    on_err _
    (some_named file_name c.args.test.now (files_committed file_name c.args.files.now.entries) (files_committed file_name c.loop-name.name-iterator) (c.in-Some.name.now.items, file_committed c.get.result.now) (files_committed file_name c.next.new.self)
    (ap (λ (pairs : List (Vec ℕ g.row.A.Denot × File g.row.A.Denot)). files_committed file_name pairs) (c.in-Some.ensures.steps ∙ ap (λ (file : File g.row.A.Denot). (c.in-Some.name.now, file) ∷ c.next.new.self) (sym c.get.ensures))) c.loop-name.names.items c.loop-name.invariant.2 (sym c.has_test.ensures ∙ c.if-has_test.true))

pub returns-in_err-push-clause-some : goal.returns-in_err-push-clause-some
returns-in_err-push-clause-some g c =
    on_err _
    (some_named file_name c.args.test.now (files_committed file_name c.args.files.now.entries) (files_committed file_name c.loop-name.name-iterator) (c.in-Some.name.now.items, file_committed c.get.result.now) (files_committed file_name c.next.new.self)
    (ap (λ (pairs : List (Vec ℕ g.row.A.Denot × File g.row.A.Denot)). files_committed file_name pairs) (c.in-Some.ensures.steps ∙ ap (λ (file : File g.row.A.Denot). (c.in-Some.name.now, file) ∷ c.next.new.self) (sym c.get.ensures))) c.loop-name.names.items c.loop-name.invariant.2 (sym c.has_test.ensures ∙ c.if-has_test.true))
