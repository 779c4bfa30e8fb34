-- The two lines after a line `rename`: how they are taken, and what they are as a command.
use Rattle.std.proofs.Common.{◌≡◌, ◌<◌, ◌↔◌, ℕ, Bool, true, false, length, List, [], ◌∷◌, ◌++◌, refl, sym, ◌∙◌, ap₂, subst, arith, append-nil, codes}
use Rattle.covline.specs.Lines.{line_of, strip}
use Rattle.covbook.specs.Op.{OpData, RenameOp}
use Rattle.covbook.specs.Step.{answer_of, table_of}
use Rattle.covsession.specs.Command.{Command, Ask, Unfinished}
use Rattle.covsession.specs.Rename.{IsThere}
use Rattle.covsession.specs.Run.{IsRun, TakesAfter}
use Rattle.covsession.specs.Session.{answer_text, said, text_after}
use Rattle.covsession.specs.Streams.{Moment, OutputData, Says, TakesLine, TakesPieces, line_bytes, line_pieces}
use Rattle.covsession.specs.declared.session.command.word.Word.{Word}
use Rattle.covsession.specs.declared.session.command.word.Word.TheVariants as words
use Rattle.covsession.specs.declared.session.text.LineEnd.{LineEnd}
use Rattle.covsession.specs.declared.session.text.LineEnd.TheVariants.{Feed, Input}
use Rattle.covsession.proofs.SessionPieces.{line_of_bytes}
use Rattle.covsession.proofs.SessionSteps.{line_taken, pieces_trans, says_on, says_nil, rename_run, open_rename_run}

-- if the names don't come next after a line `rename`, the line ended with the input
names_at : (b : Bool) (word : Word) (ending : LineEnd) → ((b ≡ true) ↔ ((word ≡ words.Rename) × (ending ≡ Feed))) → b ≡ false → word ≡ words.Rename → ending ≡ Input
names_at b word Input behind none is = refl
names_at true word Feed behind none is = absurd (let no : ⊥ = cc in no)
names_at false word Feed behind none is = let bad : false ≡ true = behind.1 (is, refl) in absurd (let no : ⊥ = cc in no)

pub names_last : (b : Bool) (word : Word) (ending : LineEnd) → ((b ≡ true) ↔ ((word ≡ words.Rename) × (ending ≡ Feed))) → b ≡ false → word ≡ words.Rename → ending ≡ Input
names_last b word ending behind none is = names_at b word ending behind none is

-- ---- one name

-- the input ended before the line
pub no_name : (m n : Moment) (there : Bool) (line : List ℕ) (ending : LineEnd) → TakesLine m n line ending → there ≡ false → IsThere there ending line
    → TakesPieces m n [] Input []
no_name m n true line ending h e t = absurd (let no : ⊥ = cc in no)
no_name m n false line ending h e t =
    let L : LineEnd → Type 0 = λ u. TakesPieces m n (line_pieces u line) u [] in
    let P : List ℕ → Type 0 = λ u. TakesPieces m n (line_pieces Input u) Input [] in
    subst P t.0 (subst L t.1 (line_taken m n line ending h))

-- the line is the name
pub a_name : (m n : Moment) (there : Bool) (line name : List ℕ) (ending : LineEnd) → TakesLine m n line ending → there ≡ true → IsThere there ending line
    → name ≡ strip line → (piece : List ℕ) × TakesPieces m n (piece ∷ []) ending [] × (line_of piece ≡ name)
a_name m n false line name ending h e t same = absurd (let no : ⊥ = cc in no)
a_name m n true line name ending h e t same =
    let P : List (List ℕ) → Type 0 = λ u. TakesPieces m n u ending [] in
    (line_bytes ending line, subst P t (line_taken m n line ending h), line_of_bytes ending line h.one_line ∙ sym same)

-- ---- two names

-- the input ended before the first of them, in it, or before the second
pub names_none : (m n : Moment) → TakesPieces m n [] Input [] → (pieces : List (List ℕ)) × TakesPieces m n pieces Input [] × (length pieces < 2)
names_none m n h = ([], h, omega arith)

pub names_one : (m n : Moment) (name : List ℕ) (ending : LineEnd) → (piece : List ℕ) × TakesPieces m n (piece ∷ []) ending [] × (line_of piece ≡ name)
    → ending ≡ Input → (pieces : List (List ℕ)) × TakesPieces m n pieces Input [] × (length pieces < 2)
names_one m n name ending h e =
    let P : LineEnd → Type 0 = λ u. TakesPieces m n (h.0 ∷ []) u [] in
    (h.0 ∷ [], subst P e h.1, omega arith)

pub names_short : (m n o : Moment) (name : List ℕ) (ending : LineEnd) → (piece : List ℕ) × TakesPieces m n (piece ∷ []) ending [] × (line_of piece ≡ name)
    → ending ≡ Feed → TakesPieces n o [] Input [] → (pieces : List (List ℕ)) × TakesPieces m o pieces Input [] × (length pieces < 2)
names_short m n o name ending h e k =
    let P : LineEnd → Type 0 = λ u. TakesPieces m n (h.0 ∷ []) u [] in
    (h.0 ∷ [], pieces_trans m n o (h.0 ∷ []) [] Input [] [] (subst P e h.1) k, omega arith)

-- both names were taken
pub names_both : (m n o : Moment) (old new : List ℕ) (first ending : LineEnd) → (piece : List ℕ) × TakesPieces m n (piece ∷ []) first [] × (line_of piece ≡ old)
    → first ≡ Feed → (piece : List ℕ) × TakesPieces n o (piece ∷ []) ending [] × (line_of piece ≡ new)
    → (second : List ℕ) × (third : List ℕ) × TakesPieces m o (second ∷ third ∷ []) ending [] × (line_of second ≡ old) × (line_of third ≡ new)
names_both m n o old new first ending h e k =
    let P : LineEnd → Type 0 = λ u. TakesPieces m n (h.0 ∷ []) u [] in
    (h.0, k.0, pieces_trans m n o (h.0 ∷ []) (k.0 ∷ []) ending [] [] (subst P e h.1) k.1, h.2, k.2)

-- ---- the command

abbrev IsRenameLine : List ℕ → Type 0
IsRenameLine line = line ≡ codes "rename"

-- both names were taken, and the rename was answered
pub renamed_after : (m n : Moment) (p : OutputData) (old new : List ℕ) (ending : LineEnd) (before after : List OpData)
    → (second : List ℕ) × (third : List ℕ) × TakesPieces m n (second ∷ third ∷ []) ending [] × (line_of second ≡ old) × (line_of third ≡ new)
    → after ≡ before ++ RenameOp old new ∷ [] → Says n.output p (answer_text (answer_of (table_of before) (RenameOp old new)))
    → TakesAfter IsRenameLine m (record n { output = p }) before after ending
renamed_after m n p old new ending before after (second, third, taken, one, two) asks says =
    let commands = Ask (RenameOp old new) ∷ [] in
    let R : List Command → Type 0 = λ u. (first : List ℕ) → IsRenameLine (line_of first) → IsRun ending (first ∷ second ∷ third ∷ []) u in
    record {
      pieces = second ∷ third ∷ [];
      commands = commands;
      taken = says_on m n p (second ∷ third ∷ []) ending (text_after (table_of before) commands) taken
          (says_nil n.output p (answer_text (answer_of (table_of before) (RenameOp old new))) says);
      asks = asks;
      run = subst R (ap₂ (λ (x y : List ℕ). Ask (RenameOp x y) ∷ []) one two) (λ first word. rename_run ending first second third word);
    }

-- the input ended before both names were there, and the rename was answered as unfinished
pub unfinished_after : (m n : Moment) (p : OutputData) (before after : List OpData)
    → (pieces : List (List ℕ)) × TakesPieces m n pieces Input [] × (length pieces < 2)
    → after ≡ before → Says n.output p (said (codes "unfinished"))
    → TakesAfter IsRenameLine m (record n { output = p }) before after Input
unfinished_after m n p before after (pieces, taken, few) asks says = record {
  pieces = pieces;
  commands = Unfinished ∷ [];
  taken = says_on m n p pieces Input (said (codes "unfinished") ++ []) taken (says_nil n.output p (said (codes "unfinished")) says);
  asks = asks ∙ sym (append-nil before);
  run = λ first word. open_rename_run first pieces word few;
}
