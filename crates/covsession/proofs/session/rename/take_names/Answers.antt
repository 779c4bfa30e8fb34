use Rattle.std.proofs.Common.{ℕ, List, Option, subst}
use Rattle.covsession.specs.Rename.{LacksName, TakesName}
use Rattle.covsession.specs.Streams.{AreCut, moment}
use Rattle.covsession.specs.declared.session.text.LineEnd.{LineEnd}
use Rattle.covsession.proofs.SessionRename.{names_short, names_both}
use Rattle.std.proofs.Common.{[], ◌∷◌, arith}
use Rattle.std.proofs.lemmas.Result.{err_from_is_err_and}
use Rattle.covsession.proofs.SessionBreaks.{taking_later, taking_first}
use Rattle.covsession.proofs.session.rename.take_names.Goals as goal

pub returns-in_default-2-clause-taken : goal.returns-in_default-2-clause-taken
returns-in_default-2-clause-taken g c =
    let m = moment c.args.input.now c.args.output.now in
    let n = moment c.take_name.new.input c.take_name.new.output in
    let o = moment c.take_name-2.new.input c.take_name-2.new.output in
    let P : Option (List ℕ × LineEnd) → Type 0 = λ u. TakesName m n u in
    let Q : Option (List ℕ × LineEnd) → Type 0 = λ u. TakesName n o u in
    names_short m n o c.in-Some.old c.in-Some.first (subst P c.in-Some.is c.in_ok-old.ensures.taken) c.in-Feed.is (subst Q c.in_default-2.is c.in_ok-new.ensures.taken)

pub returns-clause-taken : goal.returns-clause-taken
returns-clause-taken g c =
    let m = moment c.args.input.now c.args.output.now in
    let n = moment c.take_name.new.input c.take_name.new.output in
    let o = moment c.take_name-2.new.input c.take_name-2.new.output in
    let P : Option (List ℕ × LineEnd) → Type 0 = λ u. TakesName m n u in
    let Q : Option (List ℕ × LineEnd) → Type 0 = λ u. TakesName n o u in
    names_both m n o c.in-Some.old c.in-Some-2.new c.in-Some.first c.in-Some-2.ending (subst P c.in-Some.is c.in_ok-old.ensures.taken) c.in-Feed.is
    (subst Q c.in-Some-2.is c.in_ok-new.ensures.taken)

pub returns-in_err-new-clause-fails : goal.returns-in_err-new-clause-fails
returns-in_err-new-clause-fails g c =
    let m = moment c.args.input.now c.args.output.now in
    let n = moment c.take_name.new.input c.take_name.new.output in
    let o = moment c.take_name-2.new.input c.take_name-2.new.output in
    let P : Option (List ℕ × LineEnd) → Type 0 = λ u. TakesName m n u in
    let name = subst P c.in-Some.is c.in_ok-old.ensures.taken in
    let Q : LineEnd → Type 0 = λ e. AreCut e name.1.bytes (name.0 ∷ []) in
    let p = err_from_is_err_and c.from_residual-in_err-new.result c.from_residual-in_err-new.ensures.1 in
    rw (p.1, p.2) (taking_later LacksName m n o c.in_err-new.field-0.0 (name.0 ∷ []) name.1.bytes (subst Q c.in-Feed.is name.1.cut) (omega arith) name.1.moves
    c.in_err-new.ensures.fails)

pub returns-in_err-old-clause-fails : goal.returns-in_err-old-clause-fails
returns-in_err-old-clause-fails g c =
    let m = moment c.args.input.now c.args.output.now in
    let n = moment c.take_name.new.input c.take_name.new.output in
    let p = err_from_is_err_and c.from_residual.result c.from_residual.ensures.1 in
    rw (p.1, p.2) (taking_first LacksName m n c.in_err-old.field-0.0 (omega arith) c.in_err-old.ensures.fails)
