use Rattle.std.proofs.Common.{◌≡◌, ◌≢◌, ◌++◌, ℕ, List, [], ◌∷◌, Bool, true, Result, Ok, Err, IfOk, OnOk, OnErr, refl, sym, ap, ◌∙◌}
use Rattle.covreport.specs.ChoiceView.{choice_data}
use Rattle.covreport.specs.Report.{report_text}
use Rattle.covreport.proofs.Room.{room_needed}
use Rattle.covreport.proofs.tracefile.trace_text.Goals as goal

-- a text that grew from nothing is the whole text, if it is whole
grown_is : {E : Type 0} (result : Result (List ℕ) E) (before put whole : List ℕ) (is_whole : Bool) → before ≡ [] → IfOk result (λ t. t ≡ put) → OnOk result (is_whole ≡ true) → (is_whole ≡ true → put ≡ before ++ whole) → IfOk result (λ t. t ≡ whole)
grown_is (Ok t) before put whole is_whole none is all said = is ∙ said all ∙ ap (λ (b : List ℕ). b ++ whole) none
grown_is (Err refused) before put whole is_whole none is all said = tt

-- a text that begins with something is not empty
begins : (put rest before whole : List ℕ) → before ≡ [] → put ++ rest ≡ before ++ whole → put ≢ [] → whole ≢ []
begins [] rest before whole none is some empty = some refl
begins (b ∷ put) rest before whole none is some empty =
    let e : b ∷ (put ++ rest) ≡ [] = is ∙ ap (λ (t : List ℕ). t ++ whole) none ∙ empty in absurd cc

on_err : {T E : Type 0} {P Q : Type 0} (r : Result T E) → (P → Q) → OnErr r P → OnErr r Q
on_err (Ok x) f p = tt
on_err (Err e) f p = f p

at_err : {T E P : Type 0} (r : Result T E) → P → OnErr r P
at_err (Ok x) p = tt
at_err (Err e) p = p

pub returns-clause-text : goal.returns-clause-text
returns-clause-text g c =
    grown_is c.into_text.result _ _ (report_text (choice_data c.args.choice.now) (g.T.Table.shown c.args.store.now).sections) _ c.new-text.ensures.empty c.into_text.ensures.ok c.into_text.ensures.whole c.put_chosen.ensures.whole

pub returns-clause-refused : goal.returns-clause-refused
returns-clause-refused g c =
    let begun = c.put_chosen.ensures.begun in
    on_err c.into_text.result (begins _ begun.0 _ (report_text (choice_data c.args.choice.now) (g.T.Table.shown c.args.store.now).sections) c.new-text.ensures.empty begun.1) c.into_text.ensures.refused

pub returns-in_err-functions-clause-refused : goal.returns-in_err-functions-clause-refused
returns-in_err-functions-clause-refused g c =
    at_err c.from_residual.result (room_needed (choice_data c.args.choice.now) (g.T.Table.shown c.args.store.now).sections c.in_err-functions.ensures.refused)
