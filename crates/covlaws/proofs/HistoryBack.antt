-- In a legal history, each entry has the answer that follows from the table of the operations before it. So the texts of its
-- reports, extracts and removes read back.
use Rattle.std.proofs.Common.{◌≡◌, ℕ, ◌≤◌, List, [], ◌∷◌, ◌++◌, length, sym, ◌∙◌, subst}
use Rattle.covbook.specs.Op.{OpData, EntryData, TextAnswer, AreLawfulOps, HaveGoodNames}
use Rattle.covbook.specs.Step.{IsLegal, answer_of, answers_from, answers_in, ops_in, table_after, table_from, table_of}
use Rattle.covread.specs.Outcome.{max_bytes}
use Rattle.covtable.specs.Table.{Table}
use Rattle.covlaws.specs.ReadsBack.{IsReport, ReadsBack}

same_first : {X : Type 0} (x y : X) (xs ys : List X) → x ∷ xs ≡ y ∷ ys → x ≡ y
same_first x y xs ys e = cc

same_rest : {X : Type 0} (x y : X) (xs ys : List X) → x ∷ xs ≡ y ∷ ys → xs ≡ ys
same_rest x y xs ys e = cc

-- an entry has the answer that follows from the table of the operations before it
answer_at : (table : Table) (before after : List EntryData) (entry : EntryData) → answers_in (before ++ entry ∷ after) ≡ answers_from table (ops_in (before ++ entry ∷ after))
    → entry.answer ≡ answer_of (table_from table (ops_in before)) entry.op
answer_at table [] after entry e = same_first entry.answer (answer_of table entry.op) (answers_in after) (answers_from (table_after table entry.op) (ops_in after)) e
answer_at table (first ∷ before) after entry e =
    answer_at (table_after table first.op) before after entry
    (same_rest first.answer (answer_of table first.op) (answers_in (before ++ entry ∷ after)) (answers_from (table_after table first.op) (ops_in (before ++ entry ∷ after))) e)

-- if all operations of a history are lawful, so are those of its first entries
lawful_before : (before after : List EntryData) → AreLawfulOps (ops_in (before ++ after)) → AreLawfulOps (ops_in before)
lawful_before [] after lawful = tt
lawful_before (first ∷ before) after lawful = (lawful.0, lawful_before before after lawful.1)

abbrev pub ReportsReadBack : Type 0
ReportsReadBack =
    (ops : List OpData) → AreLawfulOps ops → HaveGoodNames ops → (op : OpData) → IsReport op → (text : List ℕ) → answer_of (table_of ops) op ≡ TextAnswer text → length text ≤ max_bytes → ReadsBack text

pub history_back : ReportsReadBack → (entries : List EntryData) → IsLegal entries → AreLawfulOps (ops_in entries) → (before after : List EntryData) (entry : EntryData) → entries ≡ before ++ entry ∷ after → HaveGoodNames (ops_in before)
    → IsReport entry.op → (text : List ℕ) → entry.answer ≡ TextAnswer text → length text ≤ max_bytes → ReadsBack text
history_back back entries legal lawful before after entry is good asks text told short =
    let here = subst IsLegal is legal in
    back (ops_in before) (lawful_before before (entry ∷ after) (subst (λ (es : List EntryData). AreLawfulOps (ops_in es)) is lawful)) good entry.op asks text
    (sym (answer_at [] before after entry here.answers) ∙ told) short
