use Rattle.std.proofs.Common.{◌≡◌, [], ◌∷◌, ◌++◌, Option, refl, subst}
use Rattle.covbook.specs.Op.{OpData}
use Rattle.covbook.specs.Step.{answer_of, table_of, ops_in}
use Rattle.covsession.specs.Rename.{TakesNames}
use Rattle.covsession.specs.Session.{answer_text}
use Rattle.covsession.specs.Streams.{Says, moment}
use Rattle.covsession.specs.declared.session.rename.Names.{Names}
use Rattle.covsession.proofs.SessionRename.{renamed_after, unfinished_after}
use Rattle.std.proofs.Common.{inr}
use Rattle.std.proofs.lemmas.Result.{err_from_is_err_and}
use Rattle.covsession.specs.Broken.{Breaks}
use Rattle.covsession.proofs.SessionBroken.{rename_fails, unfinished_fails}
use Rattle.covsession.proofs.session.rename.answer_rename.Goals as goal

pub returns-in_default-clause-takes : goal.returns-in_default-clause-takes
returns-in_default-clause-takes g c =
    let m = moment c.args.input.now c.args.output.now in
    let n = moment c.take_names.new.input c.take_names.new.output in
    let P : Option (Names _) → Type 0 = λ u. TakesNames m n u in
    unfinished_after m n c.say.new.self (ops_in c.args.book.now.entries) (ops_in c.args.book.now.entries)
    (subst P c.in_default.is c.in_ok-names.ensures.taken) refl c.in_ok-say.ensures.says

pub returns-clause-takes : goal.returns-clause-takes
returns-clause-takes g c =
    let m = moment c.args.input.now c.args.output.now in
    let n = moment c.take_names.new.input c.take_names.new.output in
    let P : Option (Names _) → Type 0 = λ u. TakesNames m n u in
    let before = ops_in c.args.book.now.entries in
    let after = ops_in c.step.new.book.entries in
    let A : OpData → Type 0 = λ u. after ≡ before ++ u ∷ [] in
    let S : OpData → Type 0 = λ u. Says n.output c.step.new.output (answer_text (answer_of (table_of before) u)) in
    renamed_after m n c.step.new.output c.in-Some.names.old c.in-Some.names.new c.in-Some.names.ending before after
    (subst P c.in-Some.is c.in_ok-names.ensures.taken) (subst A c.rename_op-op.ensures c.in_ok-step.ensures.asked) (subst S c.rename_op-op.ensures c.in_ok-step.ensures.said)

pub returns-in_err-say-clause-fails : goal.returns-in_err-say-clause-fails
returns-in_err-say-clause-fails g c =
    let m = moment c.args.input.now c.args.output.now in
    let n = moment c.take_names.new.input c.take_names.new.output in
    let o = moment c.take_names.new.input c.say.new.self in
    let P : Option (Names _) → Type 0 = λ u. TakesNames m n u in
    let p = err_from_is_err_and c.from_residual-in_err-say.result c.from_residual-in_err-say.ensures.1 in
    rw (p.1, p.2) (inr (unfinished_fails m n o (ops_in c.args.book.now.entries) c.in_err-say.field-0.0 (subst P c.in_default.is c.in_ok-names.ensures.taken) refl
    c.in_err-say.ensures.fault c.in_err-say.ensures.breaks))

pub returns-in_err-step-clause-fails : goal.returns-in_err-step-clause-fails
returns-in_err-step-clause-fails g c =
    let m = moment c.args.input.now c.args.output.now in
    let n = moment c.take_names.new.input c.take_names.new.output in
    let o = moment c.take_names.new.input c.step.new.output in
    let P : Option (Names _) → Type 0 = λ u. TakesNames m n u in
    let before = ops_in c.args.book.now.entries in
    let p = err_from_is_err_and c.from_residual-in_err-step.result c.from_residual-in_err-step.ensures.1 in
    let S : OpData → Type 0 = λ u. Breaks n.output c.step.new.output c.in_err-step.field-0.0 (answer_text (answer_of (table_of before) u)) in
    rw (p.1, p.2) (inr (rename_fails m n o c.in-Some.names.old c.in-Some.names.new c.in-Some.names.ending before c.in_err-step.field-0.0
    (subst P c.in-Some.is c.in_ok-names.ensures.taken) refl (subst S c.rename_op-op.ensures c.in_err-step.ensures.breaks)))
