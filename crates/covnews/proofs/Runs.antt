-- A legal history with the entry that comes next is legal, and so is each prefix of a legal history.
use Rattle.std.proofs.Common.{◌≡◌, List, [], ◌∷◌, ◌++◌, ap, refl, subst, sym}
use mathlib.Core.List.{IsPrefix}
use Rattle.covbook.specs.Op.{EntryData}
use Rattle.covtable.specs.Table.{Table}
use Rattle.covbook.specs.Step.{ComesNext, IsLegal, answer_of, answers_from, answers_in, last_totals, ops_in, table_after, table_from, totals_at, totals_from, totals_in}

-- if the answers of a history are those of the run, and the next entry has the answer that comes next in the run, then the
-- answers of the history with this entry are those of the run
answers_go_on : (table : Table) (history : List EntryData) (entry : EntryData) → answers_in history ≡ answers_from table (ops_in history) → entry.answer ≡ answer_of (table_from table (ops_in history)) entry.op → answers_in (history ++ entry ∷ []) ≡ answers_from table (ops_in (history ++ entry ∷ []))
answers_go_on table [] entry legal next = cc next
answers_go_on table (e ∷ history) entry legal next =
    let rest = answers_go_on (table_after table e.op) history entry (cc legal) next in cc (legal, rest)

totals_go_on : (table : Table) (history : List EntryData) (entry : EntryData) → totals_in history ≡ totals_from table (ops_in history) → entry.after ≡ totals_at (table_after (table_from table (ops_in history)) entry.op) → totals_in (history ++ entry ∷ []) ≡ totals_from table (ops_in (history ++ entry ∷ []))
totals_go_on table [] entry legal next = cc next
totals_go_on table (e ∷ history) entry legal next =
    let rest = totals_go_on (table_after table e.op) history entry (cc legal) next in cc (legal, rest)

-- a legal history with the entry that comes next is legal
pub legal_with_next : (history : List EntryData) (entry : EntryData) → IsLegal history → ComesNext history entry → IsLegal (history ++ entry ∷ [])
legal_with_next history entry legal next = record {
  answers = answers_go_on [] history entry legal.answers (ap (λ (e : EntryData). e.answer) next);
  totals = totals_go_on [] history entry legal.totals (ap (λ (e : EntryData). e.after) next);
}

answers_before : (table : Table) (history rest : List EntryData) → answers_in (history ++ rest) ≡ answers_from table (ops_in (history ++ rest)) → answers_in history ≡ answers_from table (ops_in history)
answers_before table [] rest legal = refl
answers_before table (e ∷ history) rest legal =
    let before = answers_before (table_after table e.op) history rest (cc legal) in cc (legal, before)

totals_before : (table : Table) (history rest : List EntryData) → totals_in (history ++ rest) ≡ totals_from table (ops_in (history ++ rest)) → totals_in history ≡ totals_from table (ops_in history)
totals_before table [] rest legal = refl
totals_before table (e ∷ history) rest legal =
    let before = totals_before (table_after table e.op) history rest (cc legal) in cc (legal, before)

-- a prefix of a legal history is legal
pub legal_before : (history whole : List EntryData) → IsPrefix history whole → IsLegal whole → IsLegal history
legal_before history whole prefix legal =
    let all : IsLegal (history ++ prefix.0) = subst IsLegal (sym prefix.1) legal in record {
      answers = answers_before [] history prefix.0 all.answers;
      totals = totals_before [] history prefix.0 all.totals;
    }

-- the last totals of a history with one more entry are those after that entry
pub last_totals-next : (history : List EntryData) (entry : EntryData) → last_totals (history ++ entry ∷ []) ≡ entry.after
last_totals-next [] entry = refl
last_totals-next (e ∷ []) entry = refl
last_totals-next (e ∷ next ∷ history) entry = last_totals-next (next ∷ history) entry
