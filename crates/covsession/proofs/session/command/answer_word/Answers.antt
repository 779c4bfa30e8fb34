use Rattle.std.proofs.Common.{ℕ, List, [], ◌∷◌, Option, option_map, OnOk, subst, sym}
use Rattle.covbook.specs.Op.{OpData}
use Rattle.covbook.specs.Step.{table_of, ops_in}
use Rattle.covsession.specs.Command.{Command, Ask, IsListOf, asked_by, pick_op}
use Rattle.covsession.specs.Session.{text_after}
use Rattle.covsession.specs.Streams.{Says}
use Rattle.covsession.specs.declared.session.command.word.Word.{Word}
use Rattle.covsession.proofs.SessionSteps.{ok_says, chosen_asks}
use Rattle.std.proofs.Common.{IfErr, codes, refl}
use Rattle.std.proofs.lemmas.Result.{err_from_is_err_and}
use Rattle.covbook.specs.Op.{SummaryOp}
use Rattle.covsession.specs.Broken.{FailsSaying}
use Rattle.covsession.specs.Command.{RefusePattern, Unfinished}
use Rattle.covsession.specs.Session.{refused_pattern_text, said}
use Rattle.covsession.proofs.SessionBroken.{chosen_refused, err_asking, err_saying, memory_saying}
use Rattle.covsession.proofs.session.command.answer_word.Goals as goal

pub returns-in-Summary-clause-says : goal.returns-in-Summary-clause-says
returns-in-Summary-clause-says g c =
    let P : Word → Type 0 = λ w. OnOk c.step-in-Summary.result (Says c.args.output.now c.step-in-Summary.new.output (text_after (table_of (ops_in c.args.book.now.entries)) (asked_by w))) in
    subst P (sym c.in-Summary.is) (ok_says _ _ _ _ c.step-in-Summary.ensures.said)

pub returns-in-Text-clause-says : goal.returns-in-Text-clause-says
returns-in-Text-clause-says g c =
    let P : Word → Type 0 = λ w. OnOk c.say-in-Text.result (Says c.args.output.now c.say-in-Text.new.self (text_after (table_of (ops_in c.args.book.now.entries)) (asked_by w))) in
    subst P (sym c.in-Text.is) c.say-in-Text.ensures.says

pub returns-in-Some-clause-says : goal.returns-in-Some-clause-says
returns-in-Some-clause-says g c =
    let Q : List Command → Type 0 = λ cs. OnOk c.step-in-Some.result (Says c.args.output.now c.step-in-Some.new.output (text_after (table_of (ops_in c.args.book.now.entries)) cs)) in
    let P : Word → Type 0 = λ w. Q (asked_by w) in
    let R : OpData → Type 0 = λ op. Q (Ask op ∷ []) in
    let pattern : Option (List ℕ) = option_map (λ p. p.now) c.in-Choose.pattern in
    let L : Option (List (List ℕ)) → Type 0 = λ o. IsListOf pattern o in
    let asks = chosen_asks (pick_op c.in-Choose.pick) pattern c.in-Some.patterns (subst L c.in-Some.is c.in_ok-patterns-in-Choose.ensures.list) in
    let said : R (pick_op c.in-Choose.pick c.in-Some.patterns) = subst R c.op_of.ensures (ok_says _ _ _ _ c.step-in-Some.ensures.said) in
    subst P (sym c.in-Choose.is) (subst Q (sym asks) said)

pub returns-in_err-patterns-in-Choose-clause-fails : goal.returns-in_err-patterns-in-Choose-clause-fails
returns-in_err-patterns-in-Choose-clause-fails g c =
    let p = err_from_is_err_and c.from_residual.result c.from_residual.ensures.1 in
    rw (p.1, p.2) (memory_saying c.args.output.now _ _ _ c.in_err-patterns-in-Choose.field-0.0 refl c.in_err-patterns-in-Choose.ensures.fault)

pub returns-in_err-op-in-Drop-clause-fails : goal.returns-in_err-op-in-Drop-clause-fails
returns-in_err-op-in-Drop-clause-fails g c =
    let p = err_from_is_err_and c.from_residual-in_err-op-in-Drop.result c.from_residual-in_err-op-in-Drop.ensures.1 in
    rw (p.1, p.2) (memory_saying c.args.output.now _ _ _ c.in_err-op-in-Drop.field-0.0 refl c.in_err-op-in-Drop.ensures.fault)

pub returns-in-Summary-clause-fails : goal.returns-in-Summary-clause-fails
returns-in-Summary-clause-fails g c =
    let before = ops_in c.args.book.now.entries in
    let P : Word → Type 0 = λ w. IfErr c.step-in-Summary.result (λ f. FailsSaying c.args.output.now c.step-in-Summary.new.output before (asked_by w) f) in
    subst P (sym c.in-Summary.is) (err_asking _ _ before SummaryOp _ c.step-in-Summary.ensures.breaks)

pub returns-in-Some-clause-fails : goal.returns-in-Some-clause-fails
returns-in-Some-clause-fails g c =
    let before = ops_in c.args.book.now.entries in
    let Q : List Command → Type 0 = λ cs. IfErr c.step-in-Some.result (λ f. FailsSaying c.args.output.now c.step-in-Some.new.output before cs f) in
    let P : Word → Type 0 = λ w. Q (asked_by w) in
    let R : OpData → Type 0 = λ op. Q (Ask op ∷ []) in
    let pattern : Option (List ℕ) = option_map (λ p. p.now) c.in-Choose.pattern in
    let L : Option (List (List ℕ)) → Type 0 = λ o. IsListOf pattern o in
    let asks = chosen_asks (pick_op c.in-Choose.pick) pattern c.in-Some.patterns (subst L c.in-Some.is c.in_ok-patterns-in-Choose.ensures.list) in
    let failed : R (pick_op c.in-Choose.pick c.in-Some.patterns) = subst R c.op_of.ensures (err_asking _ _ before _ _ c.step-in-Some.ensures.breaks) in
    subst P (sym c.in-Choose.is) (subst Q (sym asks) failed)

pub returns-in-None-clause-fails : goal.returns-in-None-clause-fails
returns-in-None-clause-fails g c =
    let before = ops_in c.args.book.now.entries in
    let Q : List Command → Type 0 = λ cs. IfErr c.say-in-None.result (λ f. FailsSaying c.args.output.now c.say-in-None.new.self before cs f) in
    let P : Word → Type 0 = λ w. Q (asked_by w) in
    let pattern : Option (List ℕ) = option_map (λ p. p.now) c.in-Choose.pattern in
    let L : Option (List (List ℕ)) → Type 0 = λ o. IsListOf pattern o in
    let refused = chosen_refused (pick_op c.in-Choose.pick) pattern (subst L c.in-None.is c.in_ok-patterns-in-Choose.ensures.list) in
    subst P (sym c.in-Choose.is) (subst Q (sym refused)
    (err_saying _ _ before (RefusePattern ∷ []) refused_pattern_text _ refl c.say-in-None.ensures.fault c.say-in-None.ensures.breaks))

pub returns-in-Rename-clause-says : goal.returns-in-Rename-clause-says
returns-in-Rename-clause-says g c =
    let P : Word → Type 0 = λ w. OnOk c.say-in-Rename.result (Says c.args.output.now c.say-in-Rename.new.self (text_after (table_of (ops_in c.args.book.now.entries)) (asked_by w))) in
    subst P (sym c.in-Rename.is) c.say-in-Rename.ensures.says

pub returns-in-Rename-clause-fails : goal.returns-in-Rename-clause-fails
returns-in-Rename-clause-fails g c =
    let before = ops_in c.args.book.now.entries in
    let P : Word → Type 0 = λ w. IfErr c.say-in-Rename.result (λ f. FailsSaying c.args.output.now c.say-in-Rename.new.self before (asked_by w) f) in
    subst P (sym c.in-Rename.is) (err_saying _ _ before (Unfinished ∷ []) (said (codes "unfinished")) _ refl c.say-in-Rename.ensures.fault c.say-in-Rename.ensures.breaks)

pub returns-in-Text-clause-fails : goal.returns-in-Text-clause-fails
returns-in-Text-clause-fails g c =
    let before = ops_in c.args.book.now.entries in
    let P : Word → Type 0 = λ w. IfErr c.say-in-Text.result (λ f. FailsSaying c.args.output.now c.say-in-Text.new.self before (asked_by w) f) in
    subst P (sym c.in-Text.is) (err_saying _ _ before (Unfinished ∷ []) (said (codes "unfinished")) _ refl c.say-in-Text.ensures.fault c.say-in-Text.ensures.breaks)
