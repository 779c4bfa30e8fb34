-- Pieces that are at most one command, even with one more piece: such are the pieces of a command that isn't wholly taken.
use Rattle.std.proofs.Common.{◌≡◌, ℕ, ◌<◌, ◌≤◌, List, [], ◌∷◌, ◌++◌, length, refl, ◌∙◌, ap, subst, arith, append_assoc, length-append, codes}
use Rattle.covline.specs.Lines.{line_of}
use Rattle.covsession.specs.Broken.{IsOpen}
use Rattle.covsession.specs.Command.{Command, Format, Announces, IsBody, EndsInput, AreCommands}
use Rattle.covsession.proofs.SessionRun.{Shape, ASingle, AWhole, AnOpen, ARename, AnOpenRename, format_no_rename, none_only, not_none, open_begins, open_ends, rename_begins, rename_no_open, rename_no_single, rename_no_whole, shape}
use Rattle.covsession.proofs.SessionWords.{not_text}

-- ---- how many commands there are

some_pieces : (pieces : List (List ℕ)) → (pieces ≡ [] → ⊥) → 0 < length pieces
some_pieces [] some = absurd (some refl)
some_pieces (x ∷ xs) some = omega arith

few_commands : (pieces : List (List ℕ)) (commands : List Command) → AreCommands pieces commands → length commands ≤ length pieces
few_commands pieces [] are = omega arith
few_commands pieces (c ∷ cs) (these, rest, is, command, ends, more) =
    let less = few_commands rest cs more in
    let some = some_pieces these (not_none these c (shape these c command)) in
    let size : length pieces ≡ length (these ++ rest) = ap length is in
    let sum = length-append these rest in
    omega arith

-- if the first command takes all pieces, whichever command it is, there is at most one command
one_at_most : (pieces : List (List ℕ)) (commands : List Command)
    → ((these further : List (List ℕ)) (d : Command) → pieces ≡ these ++ further → Shape these d → EndsInput d further → further ≡ [])
    → AreCommands pieces commands → length commands ≤ 1
one_at_most pieces [] all are = omega arith
one_at_most pieces (c ∷ cs) all (these, rest, is, command, ends, more) =
    let none = none_only rest cs (all these rest c is (shape these c command) ends) more in
    let size : length cs ≡ 0 = ap length none in
    omega arith

none_of : (xs : List (List ℕ)) → length xs ≡ 0 → xs ≡ []
none_of [] e = refl
none_of (x ∷ xs) e = absurd (let nothing : ⊥ = cc in nothing)

-- ---- a line

pub open_line : IsOpen []
open_line = λ tail few commands are. let less = few_commands tail commands are in omega arith

-- ---- a text

-- if at most one piece follows the body, which has no line `.`, nothing comes after a line `.`
nothing_after : (body tail before after : List (List ℕ)) (last : List ℕ) → IsBody body → line_of last ≡ codes "."
    → body ++ tail ≡ before ++ last ∷ after → length tail < 2 → after ≡ []
nothing_after [] tail before after last no_last dot e few =
    let size : length tail ≡ length (before ++ last ∷ after) = ap length e in
    let sum = length-append before (last ∷ after) in
    none_of after (omega arith)
nothing_after (x ∷ body) tail [] after last no_last dot e few =
    absurd (let same : x ≡ last = cc in no_last.0 (ap line_of same ∙ dot))
nothing_after (x ∷ body) tail (b ∷ before) after last no_last dot e few =
    let rest : body ++ tail ≡ before ++ last ∷ after = cc in
    nothing_after body tail before after last no_last.1 dot rest few

text_takes : (format : Format) (first : List ℕ) (body tail : List (List ℕ)) → Announces format (line_of first) → IsBody body → length tail < 2
    → (these further : List (List ℕ)) (d : Command) → first ∷ (body ++ tail) ≡ these ++ further → Shape these d → EndsInput d further → further ≡ []
text_takes format first body tail announces no_last few these further d e (ASingle s) ends =
    let all : first ∷ (body ++ tail) ≡ s.piece ∷ further = e ∙ ap (λ (u : List (List ℕ)). u ++ further) s.is in
    let same : first ≡ s.piece = cc in
    let P : List ℕ → Type 0 = λ u. Announces format (line_of u) in
    absurd (not_text (line_of s.piece) d format s.says (subst P same announces))
text_takes format first body tail announces no_last few these further d e (AWhole s) ends =
    let all : first ∷ (body ++ tail) ≡ s.first ∷ ((s.body ++ s.last ∷ []) ++ further) = e ∙ ap (λ (u : List (List ℕ)). u ++ further) s.is in
    let tails : body ++ tail ≡ (s.body ++ s.last ∷ []) ++ further = cc in
    nothing_after body tail s.body further s.last no_last s.dot (tails ∙ append_assoc s.body (s.last ∷ []) further) few
text_takes format first body tail announces no_last few these further d e (AnOpen s) ends = open_ends d further s.asked ends
text_takes format first body tail announces no_last few these further d e (ARename s) ends =
    absurd (format_no_rename format first (body ++ tail) these further announces e (rename_begins these d s))
text_takes format first body tail announces no_last few these further d e (AnOpenRename s) ends =
    absurd (format_no_rename format first (body ++ tail) these further announces e (open_begins these d s))

pub open_text : (format : Format) (first : List ℕ) (body : List (List ℕ)) → Announces format (line_of first) → IsBody body → IsOpen (first ∷ body)
open_text format first body announces no_last = λ tail few commands are.
    one_at_most (first ∷ (body ++ tail)) commands (text_takes format first body tail announces no_last few) are

-- ---- a rename

rename_takes : (first : List ℕ) (behind : List (List ℕ)) → line_of first ≡ codes "rename" → length behind < 3
    → (these further : List (List ℕ)) (d : Command) → first ∷ behind ≡ these ++ further → Shape these d → EndsInput d further → further ≡ []
rename_takes first behind word few these further d e (ASingle s) ends = absurd (rename_no_single first behind these further d word e s)
rename_takes first behind word few these further d e (AWhole s) ends = absurd (rename_no_whole first behind these further d word e s)
rename_takes first behind word few these further d e (AnOpen s) ends = absurd (rename_no_open first behind these further d word e s)
rename_takes first behind word few these further d e (ARename s) ends =
    let all : first ∷ behind ≡ s.first ∷ s.second ∷ s.third ∷ further = e ∙ ap (λ (u : List (List ℕ)). u ++ further) s.is in
    let size : length (first ∷ behind) ≡ length (s.first ∷ s.second ∷ s.third ∷ further) = ap length all in
    none_of further (omega arith)
rename_takes first behind word few these further d e (AnOpenRename s) ends = open_ends d further s.asked ends

pub open_rename : (first : List ℕ) (names : List (List ℕ)) → line_of first ≡ codes "rename" → length names < 2 → IsOpen (first ∷ names)
open_rename first names word few = λ tail less commands are.
    let sum = length-append names tail in
    one_at_most (first ∷ (names ++ tail)) commands (rename_takes first (names ++ tail) word (omega arith)) are
