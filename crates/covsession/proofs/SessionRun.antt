-- The commands of an input: there is one list of them, and it is found piece by piece.
use Rattle.std.proofs.Common.{◌≡◌, ◌≢◌, ℕ, ◌<◌, length, List, [], ◌∷◌, ◌++◌, Result, Ok, Err, refl, sym, ◌∙◌, ap, ap₂, subst, arith, append_assoc, append-nil, codes, inl, inr}
use Rattle.std.specs.List.{concat}
use Rattle.std.proofs.lemmas.Bool.{false≢true}
use Rattle.covdata.specs.Row.{SubmissionData}
use Rattle.covline.specs.Lines.{line_of}
use Rattle.covbook.specs.Op.{OpData, SubmitOp, DropTestOp, RenameOp, ReportOp, ExtractOp, RemoveOp, SummaryOp}
use Rattle.covtable.specs.Table.{Table}
use Rattle.covbook.specs.Step.{answer_of, table_after, table_from}
use Rattle.covdata.specs.declared.fault.ReadFault.{ReadFault}
use Rattle.covsession.specs.declared.session.text.LineEnd.{LineEnd}
use Rattle.covsession.specs.declared.session.text.LineEnd.TheVariants.{Feed, Input}
use Rattle.covdata.specs.Fault.{is_memory}
use Rattle.covread.specs.Outcome.{IsOrMemory}
use Rattle.covdata.specs.declared.fault.ReadFault.TheVariants as faults
use Rattle.covsession.specs.Command.{Command, Format, Announces, IsReadAs, Blank, Ask, RefusePattern, Submit, Refuse, Unknown, Unfinished, AsksFor, IsAskingLine, IsTooLong, IsUnknown, IsBody, IsCommand, EndsInput, AreCommands, ops_of}
use Rattle.covsession.specs.Session.{answer_text, refused_text, refused_pattern_text, said, text_after}
use Rattle.covsession.specs.Text.{asked_for, AnswersAs, IsNotMemory, IsReported}
use Rattle.covsession.specs.Run.{IsRun}
use Rattle.covsession.proofs.SessionWords.{IsSingle, single_unique, not_text, not_rename, text_no_rename, one_format}

-- the answers to commands, and then to further ones
pub text_more : (table : Table) (commands more : List Command)
    → text_after table (commands ++ more) ≡ text_after table commands ++ text_after (table_from table (ops_of commands)) more
text_more table [] more = refl
text_more table (Blank ∷ commands) more = text_more table commands more
text_more table (Refuse fault ∷ commands) more =
    ap (λ (u : List ℕ). refused_text fault ++ u) (text_more table commands more)
    ∙ sym (append_assoc (refused_text fault) (text_after table commands) (text_after (table_from table (ops_of commands)) more))
text_more table (Unknown ∷ commands) more =
    ap (λ (u : List ℕ). said (codes "unknown") ++ u) (text_more table commands more)
    ∙ sym (append_assoc (said (codes "unknown")) (text_after table commands) (text_after (table_from table (ops_of commands)) more))
text_more table (Unfinished ∷ commands) more =
    ap (λ (u : List ℕ). said (codes "unfinished") ++ u) (text_more table commands more)
    ∙ sym (append_assoc (said (codes "unfinished")) (text_after table commands) (text_after (table_from table (ops_of commands)) more))
text_more table (Submit submission ∷ commands) more =
    let next = table_after table (SubmitOp submission) in
    let first = answer_text (answer_of table (SubmitOp submission)) in
    ap (λ (u : List ℕ). first ++ u) (text_more next commands more)
    ∙ sym (append_assoc first (text_after next commands) (text_after (table_from next (ops_of commands)) more))
text_more table (RefusePattern ∷ commands) more =
    ap (λ (u : List ℕ). refused_pattern_text ++ u) (text_more table commands more)
    ∙ sym (append_assoc refused_pattern_text (text_after table commands) (text_after (table_from table (ops_of commands)) more))
text_more table (Ask op ∷ commands) more =
    let next = table_after table op in
    let first = answer_text (answer_of table op) in
    ap (λ (u : List ℕ). first ++ u) (text_more next commands more)
    ∙ sym (append_assoc first (text_after next commands) (text_after (table_from next (ops_of commands)) more))

pub record Single (those : List (List ℕ)) (d : Command) : Type 0 where
  pub piece : List ℕ
  pub is : those ≡ piece ∷ []
  pub says : IsSingle (line_of piece) d

pub record WholeText (those : List (List ℕ)) (d : Command) : Type 0 where
  pub format : Format
  pub first : List ℕ
  pub body : List (List ℕ)
  pub last : List ℕ
  pub outcome : Result SubmissionData ReadFault
  pub is : those ≡ first ∷ (body ++ last ∷ [])
  pub announces : Announces format (line_of first)
  pub no_last : IsBody body
  pub dot : line_of last ≡ codes "."
  pub read : IsReadAs format (concat body) outcome
  pub asked : asked_for outcome ≡ d ∷ []

pub record OpenText (those : List (List ℕ)) (d : Command) : Type 0 where
  pub format : Format
  pub first : List ℕ
  pub body : List (List ℕ)
  pub is : those ≡ first ∷ body
  pub announces : Announces format (line_of first)
  pub no_last : IsBody body
  pub asked : d ≡ Unfinished

pub record WholeRename (those : List (List ℕ)) (d : Command) : Type 0 where
  pub first : List ℕ
  pub second : List ℕ
  pub third : List ℕ
  pub is : those ≡ first ∷ second ∷ third ∷ []
  pub word : line_of first ≡ codes "rename"
  pub asked : d ≡ Ask (RenameOp (line_of second) (line_of third))

pub record OpenRename (those : List (List ℕ)) (d : Command) : Type 0 where
  pub first : List ℕ
  pub behind : List (List ℕ)
  pub is : those ≡ first ∷ behind
  pub word : line_of first ≡ codes "rename"
  pub few : length behind < 2
  pub asked : d ≡ Unfinished

pub data Shape (those : List (List ℕ)) (d : Command) : Type 0 where
  ASingle : Single those d → Shape those d
  AWhole : WholeText those d → Shape those d
  AnOpen : OpenText those d → Shape those d
  ARename : WholeRename those d → Shape those d
  AnOpenRename : OpenRename those d → Shape those d

asked_shape : (those : List (List ℕ)) (op : OpData) → IsAskingLine those op → Shape those (Ask op)
asked_shape those op (line, (piece, is, same), asks) =
    let P : List ℕ → Type 0 = λ u. AsksFor op u in
    ASingle (record { piece = piece; is = is; says = subst P (sym same) asks })

pub shape : (those : List (List ℕ)) (d : Command) → IsCommand those d → Shape those d
shape those Blank (piece, is, line) = ASingle (record { piece = piece; is = is; says = line })
shape those (Ask (RenameOp old new)) (first, second, third, is, word, one, two) =
    ARename (record { first = first; second = second; third = third; is = is; word = word; asked = ap₂ (λ (x y : List ℕ). Ask (RenameOp x y)) (sym one) (sym two) })
shape those (Ask (SubmitOp submission)) h = asked_shape those (SubmitOp submission) h
shape those (Ask (DropTestOp test)) h = asked_shape those (DropTestOp test) h
shape those (Ask ReportOp) h = asked_shape those ReportOp h
shape those (Ask SummaryOp) h = asked_shape those SummaryOp h
shape those (Ask (ExtractOp patterns)) h = asked_shape those (ExtractOp patterns) h
shape those (Ask (RemoveOp patterns)) h = asked_shape those (RemoveOp patterns) h
shape those RefusePattern (line, (piece, is, same), long) = ASingle (record { piece = piece; is = is; says = subst IsTooLong (sym same) long })
shape those Unknown (line, (piece, is, same), unknown) = ASingle (record { piece = piece; is = is; says = subst IsUnknown (sym same) unknown })
shape those (Submit submission) (format, text, (first, body, last, is, announces, no_last, dot, same), read) =
    let P : List ℕ → Type 0 = λ u. IsReadAs format u (Ok submission) in
    AWhole (record { format = format; first = first; body = body; last = last; outcome = Ok submission; is = is; announces = announces; no_last = no_last; dot = dot; read = subst P same read; asked = refl })
shape those (Refuse fault) (format, text, (first, body, last, is, announces, no_last, dot, same), read) =
    let P : List ℕ → Type 0 = λ u. IsReadAs format u (Err fault) in
    AWhole (record { format = format; first = first; body = body; last = last; outcome = Err fault; is = is; announces = announces; no_last = no_last; dot = dot; read = subst P same read; asked = refl })
shape those Unfinished (inl (format, first, body, is, announces, no_last)) =
    AnOpen (record { format = format; first = first; body = body; is = is; announces = announces; no_last = no_last; asked = refl })
shape those Unfinished (inr (first, behind, is, word, few)) =
    AnOpenRename (record { first = first; behind = behind; is = is; word = word; few = few; asked = refl })

-- the first piece is a line `rename`
abbrev pub BeginsRename : List (List ℕ) → Type 0
BeginsRename those = (first : List ℕ) × (behind : List (List ℕ)) × (those ≡ first ∷ behind) × (line_of first ≡ codes "rename")

pub rename_begins : (those : List (List ℕ)) (d : Command) → WholeRename those d → BeginsRename those
rename_begins those d s = (s.first, s.second ∷ s.third ∷ [], s.is, s.word)

pub open_begins : (those : List (List ℕ)) (d : Command) → OpenRename those d → BeginsRename those
open_begins those d s = (s.first, s.behind, s.is, s.word)

-- a piece that is a command of its own isn't a line `rename`
single_no_rename : (piece : List ℕ) (rest those further : List (List ℕ)) (c : Command) → IsSingle (line_of piece) c → piece ∷ rest ≡ those ++ further
    → BeginsRename those → ⊥
single_no_rename piece rest those further c h e (first, behind, is, word) =
    let all : piece ∷ rest ≡ first ∷ (behind ++ further) = e ∙ ap (λ (u : List (List ℕ)). u ++ further) is in
    let same : piece ≡ first = cc in
    not_rename (line_of piece) c h (ap line_of same ∙ word)

-- a line that announces a text isn't a line `rename`
pub format_no_rename : (format : Format) (piece : List ℕ) (rest those further : List (List ℕ)) → Announces format (line_of piece) → piece ∷ rest ≡ those ++ further
    → BeginsRename those → ⊥
format_no_rename format piece rest those further h e (first, behind, is, word) =
    let all : piece ∷ rest ≡ first ∷ (behind ++ further) = e ∙ ap (λ (u : List (List ℕ)). u ++ further) is in
    let same : piece ≡ first = cc in
    text_no_rename format (line_of piece) h (ap line_of same ∙ word)

-- the lines of a text have no line `.`
pub no_dot : (body before after : List (List ℕ)) (last : List ℕ) → IsBody body → line_of last ≡ codes "." → body ≡ before ++ last ∷ after → ⊥
no_dot [] [] after last h dot e = cc
no_dot [] (b ∷ before) after last h dot e = cc
no_dot (x ∷ body) [] after last h dot e = let same : x ≡ last = cc in h.0 (ap line_of same ∙ dot)
no_dot (x ∷ body) (b ∷ before) after last h dot e = let rest : body ≡ before ++ last ∷ after = cc in no_dot body before after last h.1 dot rest

-- pieces can be cut at their first line `.` in only one way
pub dot_place : (body body2 rest rest2 : List (List ℕ)) (last last2 : List ℕ) → IsBody body → IsBody body2
    → line_of last ≡ codes "." → line_of last2 ≡ codes "." → body ++ last ∷ rest ≡ body2 ++ last2 ∷ rest2 → (body ≡ body2) × (rest ≡ rest2)
dot_place [] [] rest rest2 last last2 h k d d2 e = (refl, cc)
dot_place [] (y ∷ body2) rest rest2 last last2 h k d d2 e = absurd (let same : last ≡ y = cc in k.0 (ap line_of (sym same) ∙ d))
dot_place (x ∷ body) [] rest rest2 last last2 h k d d2 e = absurd (let same : x ≡ last2 = cc in h.0 (ap line_of same ∙ d2))
dot_place (x ∷ body) (y ∷ body2) rest rest2 last last2 h k d d2 e =
    let same : x ≡ y = cc in
    let further : body ++ last ∷ rest ≡ body2 ++ last2 ∷ rest2 = cc in
    let both = dot_place body body2 rest rest2 last last2 h.1 k.1 d d2 further in
    (let bodies : body ≡ body2 = both.0 in cc, both.1)

-- the pieces `these`, followed by `rest`, can only be cut so that their first command is `c` and what follows it is `rest`
abbrev pub Determined : List (List ℕ) → List (List ℕ) → Command → Type 0
Determined these rest c =
    (those : List (List ℕ)) (further : List (List ℕ)) (d : Command) → these ++ rest ≡ those ++ further
    → IsCommand those d → EndsInput d further → (d ≡ c) × (further ≡ rest)

single_by : (piece : List ℕ) (rest those further : List (List ℕ)) (c d : Command) → IsSingle (line_of piece) c → piece ∷ rest ≡ those ++ further
    → Shape those d → (d ≡ c) × (further ≡ rest)
single_by piece rest those further c d h e (ASingle s) =
    let all : piece ∷ rest ≡ s.piece ∷ further = e ∙ ap (λ (u : List (List ℕ)). u ++ further) s.is in
    let same : piece ≡ s.piece = cc in
    let P : List ℕ → Type 0 = λ u. IsSingle (line_of u) d in
    (single_unique (line_of piece) c d h (subst P (sym same) s.says), cc)
single_by piece rest those further c d h e (AWhole s) =
    let all : piece ∷ rest ≡ s.first ∷ ((s.body ++ s.last ∷ []) ++ further) = e ∙ ap (λ (u : List (List ℕ)). u ++ further) s.is in
    let same : piece ≡ s.first = cc in
    let P : List ℕ → Type 0 = λ u. Announces s.format (line_of u) in
    absurd (not_text (line_of piece) c s.format h (subst P (sym same) s.announces))
single_by piece rest those further c d h e (AnOpen s) =
    let all : piece ∷ rest ≡ s.first ∷ (s.body ++ further) = e ∙ ap (λ (u : List (List ℕ)). u ++ further) s.is in
    let same : piece ≡ s.first = cc in
    let P : List ℕ → Type 0 = λ u. Announces s.format (line_of u) in
    absurd (not_text (line_of piece) c s.format h (subst P (sym same) s.announces))
single_by piece rest those further c d h e (ARename s) = absurd (single_no_rename piece rest those further c h e (rename_begins those d s))
single_by piece rest those further c d h e (AnOpenRename s) = absurd (single_no_rename piece rest those further c h e (open_begins those d s))

pub single_determined : (piece : List ℕ) (rest : List (List ℕ)) (c : Command) → IsSingle (line_of piece) c → Determined (piece ∷ []) rest c
single_determined piece rest c h = λ those further d e is ends. single_by piece rest those further c d h e (shape those d is)

one_command : (c d : Command) → c ∷ [] ≡ d ∷ [] → c ≡ d
one_command c d e = cc

pub open_ends : (d : Command) (further : List (List ℕ)) → d ≡ Unfinished → EndsInput d further → further ≡ []
open_ends Unfinished further e h = h
open_ends Blank further e h = absurd (let nothing : ⊥ = cc in nothing)
open_ends (Ask op) further e h = absurd (let nothing : ⊥ = cc in nothing)
open_ends RefusePattern further e h = absurd (let nothing : ⊥ = cc in nothing)
open_ends Unknown further e h = absurd (let nothing : ⊥ = cc in nothing)
open_ends (Submit submission) further e h = absurd (let nothing : ⊥ = cc in nothing)
open_ends (Refuse fault) further e h = absurd (let nothing : ⊥ = cc in nothing)

-- a whole text: its first line announces the format, its last line is the first line `.` after that, and the bytes between them
-- can't be read as anything but this outcome
pub record IsWhole (format : Format) (first : List ℕ) (body : List (List ℕ)) (last : List ℕ) (outcome : Result SubmissionData ReadFault) : Type 0 where
  pub announces : Announces format (line_of first)
  pub no_last : IsBody body
  pub dot : line_of last ≡ codes "."
  pub only : (other : Result SubmissionData ReadFault) → IsReadAs format (concat body) other → other ≡ outcome

whole_by : (format : Format) (first : List ℕ) (body rest those further : List (List ℕ)) (last : List ℕ) (outcome : Result SubmissionData ReadFault) (c d : Command)
    → IsWhole format first body last outcome → asked_for outcome ≡ c ∷ []
    → first ∷ ((body ++ last ∷ []) ++ rest) ≡ those ++ further → EndsInput d further → Shape those d → (d ≡ c) × (further ≡ rest)
whole_by format first body rest those further last outcome c d w asked e ends (ASingle s) =
    let all : first ∷ ((body ++ last ∷ []) ++ rest) ≡ s.piece ∷ further = e ∙ ap (λ (u : List (List ℕ)). u ++ further) s.is in
    let same : first ≡ s.piece = cc in
    let P : List ℕ → Type 0 = λ u. Announces format (line_of u) in
    absurd (not_text (line_of s.piece) d format s.says (subst P same w.announces))
whole_by format first body rest those further last outcome c d w asked e ends (AWhole s) =
    let all : first ∷ ((body ++ last ∷ []) ++ rest) ≡ s.first ∷ ((s.body ++ s.last ∷ []) ++ further) = e ∙ ap (λ (u : List (List ℕ)). u ++ further) s.is in
    let tails : (body ++ last ∷ []) ++ rest ≡ (s.body ++ s.last ∷ []) ++ further = cc in
    let flat : body ++ last ∷ rest ≡ s.body ++ s.last ∷ further = sym (append_assoc body (last ∷ []) rest) ∙ tails ∙ append_assoc s.body (s.last ∷ []) further in
    let both = dot_place body s.body rest further last s.last w.no_last s.no_last w.dot s.dot flat in
    let head : first ≡ s.first = cc in
    let A : List ℕ → Type 0 = λ u. Announces s.format (line_of u) in
    let form : s.format ≡ format = one_format (line_of first) format s.format w.announces (subst A (sym head) s.announces) in
    let F : Format → Type 0 = λ u. IsReadAs u (concat s.body) s.outcome in
    let P : List (List ℕ) → Type 0 = λ u. IsReadAs format (concat u) s.outcome in
    let same : s.outcome ≡ outcome = w.only s.outcome (subst P (sym both.0) (subst F form s.read)) in
    (one_command d c (sym s.asked ∙ ap asked_for same ∙ asked), sym both.1)
whole_by format first body rest those further last outcome c d w asked e ends (AnOpen s) =
    let all : first ∷ ((body ++ last ∷ []) ++ rest) ≡ s.first ∷ (s.body ++ further) = e ∙ ap (λ (u : List (List ℕ)). u ++ further) s.is in
    let none : further ≡ [] = open_ends d further s.asked ends in
    let tails : (body ++ last ∷ []) ++ rest ≡ s.body ++ further = cc in
    let flat : s.body ≡ body ++ last ∷ rest =
    sym (append-nil s.body) ∙ ap (λ (u : List (List ℕ)). s.body ++ u) (sym none) ∙ sym tails ∙ append_assoc body (last ∷ []) rest in
    absurd (no_dot s.body body rest last s.no_last w.dot flat)
whole_by format first body rest those further last outcome c d w asked e ends (ARename s) =
    absurd (format_no_rename format first ((body ++ last ∷ []) ++ rest) those further w.announces e (rename_begins those d s))
whole_by format first body rest those further last outcome c d w asked e ends (AnOpenRename s) =
    absurd (format_no_rename format first ((body ++ last ∷ []) ++ rest) those further w.announces e (open_begins those d s))

pub whole_determined : (format : Format) (first : List ℕ) (body rest : List (List ℕ)) (last : List ℕ) (outcome : Result SubmissionData ReadFault) (c : Command)
    → IsWhole format first body last outcome → asked_for outcome ≡ c ∷ []
    → Determined (first ∷ (body ++ last ∷ [])) rest c
whole_determined format first body rest last outcome c w asked = λ those further d e is ends.
    whole_by format first body rest those further last outcome c d w asked e ends (shape those d is)

open_by : (format : Format) (first : List ℕ) (body those further : List (List ℕ)) (d : Command) → Announces format (line_of first) → IsBody body
    → first ∷ body ≡ those ++ further → EndsInput d further → Shape those d → (d ≡ Unfinished) × (further ≡ [])
open_by format first body those further d announces no_last e ends (ASingle s) =
    let all : first ∷ body ≡ s.piece ∷ further = e ∙ ap (λ (u : List (List ℕ)). u ++ further) s.is in
    let same : first ≡ s.piece = cc in
    let P : List ℕ → Type 0 = λ u. Announces format (line_of u) in
    absurd (not_text (line_of s.piece) d format s.says (subst P same announces))
open_by format first body those further d announces no_last e ends (AWhole s) =
    let all : first ∷ body ≡ s.first ∷ ((s.body ++ s.last ∷ []) ++ further) = e ∙ ap (λ (u : List (List ℕ)). u ++ further) s.is in
    let tails : body ≡ (s.body ++ s.last ∷ []) ++ further = cc in
    absurd (no_dot body s.body further s.last no_last s.dot (tails ∙ append_assoc s.body (s.last ∷ []) further))
open_by format first body those further d announces no_last e ends (AnOpen s) = (s.asked, open_ends d further s.asked ends)
open_by format first body those further d announces no_last e ends (ARename s) = absurd (format_no_rename format first body those further announces e (rename_begins those d s))
open_by format first body those further d announces no_last e ends (AnOpenRename s) = absurd (format_no_rename format first body those further announces e (open_begins those d s))

pub open_determined : (format : Format) (first : List ℕ) (body : List (List ℕ)) → Announces format (line_of first) → IsBody body → Determined (first ∷ body) [] Unfinished
open_determined format first body announces no_last = λ those further d e is ends.
    open_by format first body those further d announces no_last (sym (append-nil (first ∷ body)) ∙ e) ends (shape those d is)

-- pieces that begin with a line `rename` are no command of one line. In the next two lemmas, they are no text
pub rename_no_single : (first : List ℕ) (rest those further : List (List ℕ)) (d : Command) → line_of first ≡ codes "rename" → first ∷ rest ≡ those ++ further → Single those d → ⊥
rename_no_single first rest those further d word e s =
    let all : first ∷ rest ≡ s.piece ∷ further = e ∙ ap (λ (u : List (List ℕ)). u ++ further) s.is in
    let same : s.piece ≡ first = cc in
    not_rename (line_of s.piece) d s.says (ap line_of same ∙ word)

pub rename_no_whole : (first : List ℕ) (rest those further : List (List ℕ)) (d : Command) → line_of first ≡ codes "rename" → first ∷ rest ≡ those ++ further → WholeText those d → ⊥
rename_no_whole first rest those further d word e s =
    let all : first ∷ rest ≡ s.first ∷ ((s.body ++ s.last ∷ []) ++ further) = e ∙ ap (λ (u : List (List ℕ)). u ++ further) s.is in
    let same : s.first ≡ first = cc in
    text_no_rename s.format (line_of s.first) s.announces (ap line_of same ∙ word)

pub rename_no_open : (first : List ℕ) (rest those further : List (List ℕ)) (d : Command) → line_of first ≡ codes "rename" → first ∷ rest ≡ those ++ further → OpenText those d → ⊥
rename_no_open first rest those further d word e s =
    let all : first ∷ rest ≡ s.first ∷ (s.body ++ further) = e ∙ ap (λ (u : List (List ℕ)). u ++ further) s.is in
    let same : s.first ≡ first = cc in
    text_no_rename s.format (line_of s.first) s.announces (ap line_of same ∙ word)

rename_by : (first second third : List ℕ) (rest those further : List (List ℕ)) (d : Command) → line_of first ≡ codes "rename"
    → first ∷ second ∷ third ∷ rest ≡ those ++ further → EndsInput d further → Shape those d
    → (d ≡ Ask (RenameOp (line_of second) (line_of third))) × (further ≡ rest)
rename_by first second third rest those further d word e ends (ASingle s) = absurd (rename_no_single first (second ∷ third ∷ rest) those further d word e s)
rename_by first second third rest those further d word e ends (AWhole s) = absurd (rename_no_whole first (second ∷ third ∷ rest) those further d word e s)
rename_by first second third rest those further d word e ends (AnOpen s) = absurd (rename_no_open first (second ∷ third ∷ rest) those further d word e s)
rename_by first second third rest those further d word e ends (ARename s) =
    let all : first ∷ second ∷ third ∷ rest ≡ s.first ∷ s.second ∷ s.third ∷ further = e ∙ ap (λ (u : List (List ℕ)). u ++ further) s.is in
    let one : s.second ≡ second = cc in
    let two : s.third ≡ third = cc in
    (s.asked ∙ ap₂ (λ (x y : List ℕ). Ask (RenameOp (line_of x) (line_of y))) one two, cc)
rename_by first second third rest those further d word e ends (AnOpenRename s) =
    let none : further ≡ [] = open_ends d further s.asked ends in
    let all : first ∷ second ∷ third ∷ rest ≡ s.first ∷ (s.behind ++ further) = e ∙ ap (λ (u : List (List ℕ)). u ++ further) s.is in
    let tails : second ∷ third ∷ rest ≡ s.behind ++ further = cc in
    let flat : second ∷ third ∷ rest ≡ s.behind = tails ∙ ap (λ (u : List (List ℕ)). s.behind ++ u) none ∙ append-nil s.behind in
    let size : length (second ∷ third ∷ rest) ≡ length s.behind = ap length flat in
    let few : length s.behind < 2 = s.few in
    absurd (omega arith)

pub rename_determined : (first second third : List ℕ) (rest : List (List ℕ)) → line_of first ≡ codes "rename"
    → Determined (first ∷ second ∷ third ∷ []) rest (Ask (RenameOp (line_of second) (line_of third)))
rename_determined first second third rest word = λ those further d e is ends.
    rename_by first second third rest those further d word e ends (shape those d is)

open_rename_by : (first : List ℕ) (behind those further : List (List ℕ)) (d : Command) → line_of first ≡ codes "rename" → length behind < 2
    → first ∷ behind ≡ those ++ further → EndsInput d further → Shape those d → (d ≡ Unfinished) × (further ≡ [])
open_rename_by first behind those further d word few e ends (ASingle s) = absurd (rename_no_single first behind those further d word e s)
open_rename_by first behind those further d word few e ends (AWhole s) = absurd (rename_no_whole first behind those further d word e s)
open_rename_by first behind those further d word few e ends (AnOpen s) = absurd (rename_no_open first behind those further d word e s)
open_rename_by first behind those further d word few e ends (ARename s) =
    let all : first ∷ behind ≡ s.first ∷ s.second ∷ s.third ∷ further = e ∙ ap (λ (u : List (List ℕ)). u ++ further) s.is in
    let tails : behind ≡ s.second ∷ s.third ∷ further = cc in
    let size : length behind ≡ length (s.second ∷ s.third ∷ further) = ap length tails in
    absurd (omega arith)
open_rename_by first behind those further d word few e ends (AnOpenRename s) = (s.asked, open_ends d further s.asked ends)

pub open_rename_determined : (first : List ℕ) (behind : List (List ℕ)) → line_of first ≡ codes "rename" → length behind < 2
    → Determined (first ∷ behind) [] Unfinished
open_rename_determined first behind word few = λ those further d e is ends.
    open_rename_by first behind those further d word few (sym (append-nil (first ∷ behind)) ∙ e) ends (shape those d is)

-- a command has at least one piece
pub not_none : (those : List (List ℕ)) (d : Command) → Shape those d → those ≢ []
not_none those d (ASingle s) e = let bad : s.piece ∷ [] ≡ [] = sym s.is ∙ e in cc
not_none those d (AWhole s) e = let bad : s.first ∷ (s.body ++ s.last ∷ []) ≡ [] = sym s.is ∙ e in cc
not_none those d (AnOpen s) e = let bad : s.first ∷ s.body ≡ [] = sym s.is ∙ e in cc
not_none those d (ARename s) e = let bad : s.first ∷ s.second ∷ s.third ∷ [] ≡ [] = sym s.is ∙ e in cc
not_none those d (AnOpenRename s) e = let bad : s.first ∷ s.behind ≡ [] = sym s.is ∙ e in cc

front_none : (xs ys : List (List ℕ)) → xs ++ ys ≡ [] → xs ≡ []
front_none [] ys e = refl
front_none (x ∷ xs) ys e = absurd (let nothing : ⊥ = cc in nothing)

pub none_only : (pieces : List (List ℕ)) (others : List Command) → pieces ≡ [] → AreCommands pieces others → others ≡ []
none_only pieces [] e h = refl
none_only pieces (d ∷ ds) e (those, rest, is, command, ends, more) =
    absurd (not_none those d (shape those d command) (front_none those rest (sym is ∙ e)))

pub run_none : (ending : LineEnd) → IsRun ending [] []
run_none Feed = record { are = λ rest more h. h; only = λ rest others h. (others, refl, h) }
run_none Input = record { are = refl; only = λ others h. none_only [] others refl h }

-- pieces that are exactly some commands, and then pieces that are exactly other commands, are exactly all these commands
run_more_feed : (ps qs : List (List ℕ)) (cs ds : List Command) → IsRun Feed ps cs → IsRun Feed qs ds → IsRun Feed (ps ++ qs) (cs ++ ds)
run_more_feed ps qs cs ds h k = record {
  are = λ rest more r.
      let P : List (List ℕ) → Type 0 = λ u. AreCommands u ((cs ++ ds) ++ more) in
      let Q : List Command → Type 0 = λ u. AreCommands (ps ++ (qs ++ rest)) u in
      subst P (sym (append_assoc ps qs rest)) (subst Q (sym (append_assoc cs ds more)) (h.are (qs ++ rest) (ds ++ more) (k.are rest more r)));
  only = λ rest others r.
      let P : List (List ℕ) → Type 0 = λ u. AreCommands u others in
      let a = h.only (qs ++ rest) others (subst P (append_assoc ps qs rest) r) in
      let b = k.only rest a.0 a.2 in
      (b.0, a.1 ∙ ap (λ (u : List Command). cs ++ u) b.1 ∙ sym (append_assoc cs ds b.0), b.2);
}

run_more_input : (ps qs : List (List ℕ)) (cs ds : List Command) → IsRun Feed ps cs → IsRun Input qs ds → IsRun Input (ps ++ qs) (cs ++ ds)
run_more_input ps qs cs ds h k = record {
  are = h.are qs ds k.are;
  only = λ others r.
      let a = h.only qs others r in
      a.1 ∙ ap (λ (u : List Command). cs ++ u) (k.only a.0 a.2);
}

pub run_more : (ending : LineEnd) (ps qs : List (List ℕ)) (cs ds : List Command) → IsRun Feed ps cs → IsRun ending qs ds → IsRun ending (ps ++ qs) (cs ++ ds)
run_more Feed ps qs cs ds h k = run_more_feed ps qs cs ds h k
run_more Input ps qs cs ds h k = run_more_input ps qs cs ds h k

-- pieces that determine one command are exactly this command
rest_of : (rest further : List (List ℕ)) (c d : Command) (ds : List Command) → d ≡ c → further ≡ rest → AreCommands further ds
    → (more : List Command) × (d ∷ ds ≡ (c ∷ []) ++ more) × AreCommands rest more
rest_of rest further c d ds e e2 h = let P : List (List ℕ) → Type 0 = λ u. AreCommands u ds in (ds, ap (λ (u : Command). u ∷ ds) e, subst P e2 h)

one_only : (these rest : List (List ℕ)) (c : Command) → these ≢ [] → Determined these rest c → (others : List Command) → AreCommands (these ++ rest) others
    → (more : List Command) × (others ≡ (c ∷ []) ++ more) × AreCommands rest more
one_only these rest c some det [] h = absurd (some (front_none these rest h))
one_only these rest c some det (d ∷ ds) (those, further, e, is, ends, more) =
    let both = det those further d e is ends in
    rest_of rest further c d ds both.0 both.1 more

one_last : (these : List (List ℕ)) (c : Command) → these ≢ [] → Determined these [] c → (others : List Command) → AreCommands these others → others ≡ c ∷ []
one_last these c some det others h =
    let P : List (List ℕ) → Type 0 = λ u. AreCommands u others in
    let a = one_only these [] c some det others (subst P (sym (append-nil these)) h) in
    a.1 ∙ ap (λ (u : List Command). c ∷ u) (none_only [] a.0 refl a.2)

pub run_one_feed : (these : List (List ℕ)) (c : Command) → IsCommand these c → ((rest : List (List ℕ)) → EndsInput c rest)
    → ((rest : List (List ℕ)) → Determined these rest c) → IsRun Feed these (c ∷ [])
run_one_feed these c is goes det = record {
  are = λ rest more r. (these, rest, refl, is, goes rest, r);
  only = λ rest others r. one_only these rest c (not_none these c (shape these c is)) (det rest) others r;
}

pub run_one_input : (these : List (List ℕ)) (c : Command) → IsCommand these c → EndsInput c [] → Determined these [] c → IsRun Input these (c ∷ [])
run_one_input these c is ends det = record {
  are = (these, [], sym (append-nil these), is, ends, refl);
  only = λ others r. one_last these c (not_none these c (shape these c is)) det others r;
}

pub run_one : (ending : LineEnd) (these : List (List ℕ)) (c : Command) → IsCommand these c → ((rest : List (List ℕ)) → EndsInput c rest)
    → ((rest : List (List ℕ)) → Determined these rest c) → IsRun ending these (c ∷ [])
run_one Feed these c is goes det = run_one_feed these c is goes det
run_one Input these c is goes det = run_one_input these c is (goes []) (det [])

-- the result of a reader that refuses a text
abbrev told_as : ReadFault → Result SubmissionData ReadFault
told_as fault = Err fault

same_fault : (x y : ReadFault) → told_as x ≡ told_as y → x ≡ y
same_fault x y e = cc

not_memory : (fault : ReadFault) → IsNotMemory fault → fault ≡ faults.Memory → ⊥
not_memory fault told e = false≢true (sym told ∙ ap is_memory e)

not_told : (fault : ReadFault) → IsNotMemory fault → told_as fault ≡ told_as faults.Memory → ⊥
not_told fault told e = not_memory fault told (same_fault fault faults.Memory e)

-- if a reader's fault isn't that memory ran out, it is what the text is read as
told_outcome : (format : Format) (text : List ℕ) (fault : ReadFault) → IsNotMemory fault → AnswersAs format text (Err fault) → IsReadAs format text (Err fault)
told_outcome format text fault told (inl none) = absurd (not_told fault told none)
told_outcome format text fault told (inr h) = h

told_only : (fault : ReadFault) (outcome : Result SubmissionData ReadFault) → IsNotMemory fault → IsOrMemory (Err fault) outcome → outcome ≡ Err fault
told_only fault outcome told (inl none) = absurd (not_told fault told none)
told_only fault outcome told (inr h) = h

-- the result of a reader that accepts a text
abbrev answered : SubmissionData → Result SubmissionData ReadFault
answered submission = Ok submission

ok_no_fault : (submission : SubmissionData) → answered submission ≡ told_as faults.Memory → ⊥
ok_no_fault submission e = cc

ok_outcome : (format : Format) (text : List ℕ) (submission : SubmissionData) → AnswersAs format text (Ok submission) → IsReadAs format text (Ok submission)
ok_outcome format text submission (inl none) = absurd (ok_no_fault submission none)
ok_outcome format text submission (inr h) = h

ok_only : (submission : SubmissionData) (outcome : Result SubmissionData ReadFault) → IsOrMemory (Ok submission) outcome → outcome ≡ Ok submission
ok_only submission outcome (inl none) = absurd (ok_no_fault submission none)
ok_only submission outcome (inr h) = h

-- if a reader's result isn't that memory ran out, it is what the text is read as
pub answer_outcome : (format : Format) (text : List ℕ) (answer : Result SubmissionData ReadFault) → IsReported answer → AnswersAs format text answer → IsReadAs format text answer
answer_outcome format text (Ok submission) told h = ok_outcome format text submission h
answer_outcome format text (Err fault) told h = told_outcome format text fault told h

-- such a result is the only one that the text can be read as
pub answer_only : (answer outcome : Result SubmissionData ReadFault) → IsReported answer → IsOrMemory answer outcome → outcome ≡ answer
answer_only (Ok submission) outcome told h = ok_only submission outcome h
answer_only (Err fault) outcome told h = told_only fault outcome told h
