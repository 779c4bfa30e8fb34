-- The step that appends an entry keeps the rule of the noted history.
use Rattle.std.proofs.Common.{◌≡◌, ℕ, ◌+◌, ◌<◌, ◌==◌, Bool, true, false, List, [], ◌∷◌, ◌++◌, length, refl, ap, sym, subst, arith, inl, length-append, None}
use Rattle.std.proofs.lemmas.List.{append-nil}
use Rattle.std.proofs.lemmas.Bool.Decides.{nat_tests}
use mathlib.Core.List.{IsPrefix}
use prog.Atomic.{either}
use Rattle.logbook.specs.Pages.{Cell, View, cell, keeps, no_nib, step, Moves, Goes}
use Rattle.covbook.specs.Op.{EntryData}
use Rattle.covbook.specs.Step.{ComesNext, IsLegal}
use Rattle.covnews.specs.History.{Appends, IsNoted}
use Rattle.covnews.proofs.Prefixes.{whole_prefix}
use Rattle.covnews.proofs.Runs.{legal_with_next}

-- the rule's `shows`: nothing of the history is shown
abbrev pub shown : List EntryData → List EntryData
shown history = []

-- the rule's `moves`: nothing is asked of an update
abbrev pub moved : List EntryData → List EntryData → ℕ → Type 0
moved before after answer = Unit {0}

-- the view of a thread that has seen this history, has no pen, and hasn't made its update yet
abbrev seen_as : List EntryData → View EntryData ℕ
seen_as history = (history, (no_nib, None))

-- the words of a history of this length
abbrev words_at : ℕ → List Cell
words_at length = (length, true) ∷ (0, true) ∷ []

-- the step that changes the length from `upto` to `upto + 1`, and appends this entry
abbrev GoesOn : List EntryData → EntryData → ℕ → List Cell → List EntryData → Type 0
GoesOn seen entry upto = Goes IsNoted shown moved 0 (seen_as seen) (λ n. either (n == upto) (upto + 1) n) (Appends (step 0 upto (upto + 1) entry) (seen_as seen))

-- if the history is still as long as the one that was seen, the entry is appended; else nothing is
goes_on : (history seen : List EntryData) (entry : EntryData) (upto : ℕ) → length seen ≡ upto → ComesNext seen entry → IsLegal history → IsPrefix seen history
    → (same : Bool) → (length history == upto) ≡ same → GoesOn seen entry upto (words_at (length history)) history
goes_on history seen entry upto long next legal prefix true is =
    let here : length history ≡ upto = grind (arith, nat_tests) in
    let all : seen ≡ history = whole_prefix seen history prefix (omega arith) in
    let comes : ComesNext history entry = subst (λ (h : List EntryData). ComesNext h entry) all next in
    let after : either (length history == upto) (upto + 1) (length history) ≡ length (history ++ entry ∷ []) = rw is (omega (arith, length-append history (entry ∷ []))) in (
      keeps,
      entry ∷ [],
      None,
      tt,
      record { word = ap words_at after; legal = legal_with_next history entry legal comes },
      inl (refl, refl),
      rw is (ap (λ (h : List EntryData). h ++ entry ∷ []) (sym all)),
    )
goes_on history seen entry upto long next legal prefix false is =
    let all : history ++ [] ≡ history = append-nil history in
    let after : either (length history == upto) (upto + 1) (length history) ≡ length (history ++ []) = rw is (ap length (sym all)) in (
      keeps,
      [],
      None,
      tt,
      record { word = ap words_at after; legal = subst IsLegal (sym all) legal },
      inl (refl, refl),
      rw is tt,
    )

-- the step may be taken however long the history is by now
pub may_append : (seen : List EntryData) (entry : EntryData) (upto : ℕ) → length seen ≡ upto → ComesNext seen entry
    → Moves IsNoted shown moved 0 (seen_as seen) (λ n. either (n == upto) (upto + 1) n) (Appends (step 0 upto (upto + 1) entry) (seen_as seen))
may_append seen entry upto long next words history kept prefix away =
    let May : List Cell → Type 0 = λ w. (0 < length w) × ((cell w 0).1 ≡ true) × GoesOn seen entry upto w history in
    subst May (sym kept.word) (omega arith, refl, goes_on history seen entry upto long next kept.legal prefix (length history == upto) refl)
