-- A line that is a command of its own is exactly one command. Its first, third and sixth bytes and what comes after its word show
-- which one.
use Rattle.std.proofs.Common.{◌≡◌, ◌⊎◌, ℕ, zero, suc, ◌<◌, ◌≤◌, Bool, true, false, cond, eqb, leb, length, codes, get_or, take, drop, List, [], ◌∷◌, Option, None, Some, refl, sym, ◌∙◌, ap, subst, arith, inl, inr}
use Rattle.std.proofs.lemmas.Bool.{le-leb, lt-leb, false≢true}
use Rattle.std.proofs.lemmas.List.{take_all}
use Rattle.memchr.specs.Find.{IsFirstByte, is_byte}
use Rattle.covbook.specs.Op.{OpData, SubmitOp, DropTestOp, RenameOp, ReportOp, ExtractOp, RemoveOp, SummaryOp}
use Rattle.covreport.specs.Choice.{max_pattern_bytes}
use Rattle.covsession.specs.Command.{Command, Format, Tracefile, Annotated, Announces, Blank, Ask, RefusePattern, Submit, Refuse, Unknown, Unfinished, AsksFor, IsNaming, IsTooLong, IsUnknown, before_space}
use Rattle.covsession.proofs.SessionBytes.{not_true}

-- ---- cut at the first space

-- the bytes before the first space
front_of : (xs : List ℕ) (k : ℕ) → k ≤ length xs → ((j : ℕ) → j < k → eqb (get_or xs j 0) 32 ≡ true → ⊥)
    → (k < length xs → eqb (get_or xs k 0) 32 ≡ true) → before_space xs ≡ take k xs
front_of [] zero few none here = refl
front_of [] (suc k) few none here = refl
front_of (b ∷ bs) zero few none here = rw (here (omega arith)) refl
front_of (b ∷ bs) (suc k) few none here =
    rw (not_true (eqb b 32) (none 0 (omega arith)))
    (ap (λ (ys : List ℕ). b ∷ ys) (front_of bs k (omega arith) (λ j h. none (suc j) (omega arith)) (λ h. here (omega arith))))

pub front_some : (xs : List ℕ) (k : ℕ) → IsFirstByte (is_byte 32) xs (Some k) → before_space xs ≡ take k xs
front_some xs k h = let at : k < length xs = h.0.high in front_of xs k (omega arith) (λ j l. h.0.before j (omega arith) l) (λ l. h.1)

pub front_none : (xs : List ℕ) → IsFirstByte (is_byte 32) xs None → xs ≡ before_space xs
front_none xs h =
    sym (front_of xs (length xs) (omega arith) (λ j l. h j (omega arith) (omega arith)) (λ l. absurd (omega arith)) ∙ take_all (length xs) xs (omega arith))

-- ---- a line is at most one command

-- the pattern: what comes after the first of these bytes, a space; `None` if there are no bytes
abbrev after_space : List ℕ → Option (List ℕ)
after_space [] = None
after_space (b ∷ pattern) = Some pattern

-- the command of a choice of files: it asks the book, unless its pattern is too long
abbrev choice_read : (List (List ℕ) → OpData) → Option (List ℕ) → Command
choice_read op None = Ask (op [])
choice_read op (Some pattern) = cond (leb (length pattern) max_pattern_bytes) (Ask (op (pattern ∷ []))) RefusePattern

-- the command that a line is read as, by which word it begins with
abbrev read_by : (is_report is_summary is_extract is_remove : Bool) → List ℕ → Command
read_by true s e r line = Ask ReportOp
read_by false true e r line = Ask SummaryOp
read_by false false true r line = choice_read ExtractOp (after_space (drop 7 line))
read_by false false false true line = choice_read RemoveOp (after_space (drop 6 line))
read_by false false false false line = Unfinished

-- the same by the line's sixth byte, which is t in `report`, r in `summary`, c in `extract` and e in `remove`. `trace` has none
abbrev read_at : ℕ → List ℕ → Command
read_at sixth line = read_by (eqb sixth 116) (eqb sixth 114) (eqb sixth 99) (eqb sixth 101) line

-- the command that a line is read as, by a few of its bytes. So a line that is no command is read as some command too. No other
-- word has the third byte of `rename`
abbrev read_line : List ℕ → Command
read_line [] = Blank
read_line (b ∷ bs) = cond (eqb b 103) Unfinished (cond (eqb b 100) (Ask (DropTestOp (drop 4 bs)))
    (cond (eqb (get_or bs 1 0) 110) Unfinished (read_at (get_or (b ∷ bs) 5 0) (b ∷ bs))))

short_read : (op : List (List ℕ) → OpData) (pattern : List ℕ) → length pattern ≤ max_pattern_bytes → choice_read op (Some pattern) ≡ Ask (op (pattern ∷ []))
short_read op pattern h = rw (le-leb (length pattern) max_pattern_bytes h) refl

long_read : (op : List (List ℕ) → OpData) (pattern : List ℕ) → max_pattern_bytes < length pattern → choice_read op (Some pattern) ≡ RefusePattern
long_read op pattern h = rw (lt-leb (length pattern) max_pattern_bytes h) refl

drop_read : (test line : List ℕ) → IsNaming (codes "drop") test line → read_line line ≡ Ask (DropTestOp test)
drop_read test line (inl h) = ap read_line h.0 ∙ ap (λ (u : List ℕ). Ask (DropTestOp u)) (sym h.1)
drop_read test line (inr h) = ap read_line h

ask_read : (op : OpData) (line : List ℕ) → AsksFor op line → read_line line ≡ Ask op
ask_read (SubmitOp submission) line h = absurd h
ask_read (DropTestOp test) line h = drop_read test line h
ask_read (RenameOp old new) line h = absurd h
ask_read ReportOp line h = ap read_line h
ask_read SummaryOp line h = ap read_line h
ask_read (ExtractOp []) line h = ap read_line h
ask_read (ExtractOp (pattern ∷ [])) line h = ap read_line h.0 ∙ short_read ExtractOp pattern h.1
ask_read (ExtractOp (pattern ∷ other ∷ more)) line h = absurd h
ask_read (RemoveOp []) line h = ap read_line h
ask_read (RemoveOp (pattern ∷ [])) line h = ap read_line h.0 ∙ short_read RemoveOp pattern h.1
ask_read (RemoveOp (pattern ∷ other ∷ more)) line h = absurd h

too_long_read : (line : List ℕ) → IsTooLong line → read_line line ≡ RefusePattern
too_long_read line (pattern, long, inl is) = ap read_line is ∙ long_read ExtractOp pattern long
too_long_read line (pattern, long, inr is) = ap read_line is ∙ long_read RemoveOp pattern long

-- the line alone is this command
abbrev pub IsSingle : List ℕ → Command → Type 0
IsSingle line Blank = line ≡ []
IsSingle line (Ask op) = AsksFor op line
IsSingle line RefusePattern = IsTooLong line
IsSingle line Unknown = IsUnknown line
IsSingle line (Submit submission) = ⊥
IsSingle line (Refuse fault) = ⊥
IsSingle line Unfinished = ⊥

-- the line is unknown, and so is the command; or the line isn't unknown, and it is read as this command
abbrev IsRead : List ℕ → Command → Type 0
IsRead line c = ((c ≡ Unknown) × IsUnknown line) ⊎ ((IsUnknown line → ⊥) × (read_line line ≡ c))

single_read : (line : List ℕ) (c : Command) → IsSingle line c → IsRead line c
single_read line Blank h = inr (λ u. u.some h, ap read_line h)
single_read line (Ask op) h = inr (λ u. u.no_op op h, ask_read op line h)
single_read line RefusePattern h = inr (λ u. u.short h, too_long_read line h)
single_read line Unknown h = inl (refl, h)
single_read line (Submit submission) h = absurd h
single_read line (Refuse fault) h = absurd h
single_read line Unfinished h = absurd h

both_read : (line : List ℕ) (c d : Command) → IsRead line c → IsRead line d → d ≡ c
both_read line c d (inl h) (inl k) = k.0 ∙ sym h.0
both_read line c d (inl h) (inr k) = absurd (k.0 h.1)
both_read line c d (inr h) (inl k) = absurd (h.0 k.1)
both_read line c d (inr h) (inr k) = sym k.1 ∙ h.1

pub single_unique : (line : List ℕ) (c d : Command) → IsSingle line c → IsSingle line d → d ≡ c
single_unique line c d h k = both_read line c d (single_read line c h) (single_read line d k)

-- a line that announces a text is read as `Unfinished`, so it isn't a command alone
text_read : (format : Format) (line : List ℕ) → Announces format line → read_line line ≡ Unfinished
text_read Tracefile line h = ap read_line h
text_read (Annotated test) line (inl h) = ap read_line h.0
text_read (Annotated test) line (inr h) = ap read_line h

no_single : (line : List ℕ) (d : Command) → IsSingle line d → IsRead line d → (IsUnknown line → ⊥) → read_line line ≡ Unfinished → ⊥
no_single line d k (inl h) known is = known h.1
no_single line d k (inr h) known is =
    let P : Command → Type 0 = λ u. IsSingle line u in
    let same : d ≡ Unfinished = sym h.1 ∙ is in subst P same k

pub not_text : (line : List ℕ) (d : Command) (format : Format) → IsSingle line d → Announces format line → ⊥
not_text line d format k a = no_single line d k (single_read line d k) (λ u. u.no_text format a) (text_read format line a)

-- a line `rename` isn't a command alone either
pub not_rename : (line : List ℕ) (d : Command) → IsSingle line d → line ≡ codes "rename" → ⊥
not_rename line d k is = no_single line d k (single_read line d k) (λ u. u.no_rename is) (ap read_line is)

-- whether the third byte of a line is that of `rename`. Such a line announces no text
abbrev third_read : List ℕ → Bool
third_read line = eqb (get_or line 2 0) 110

text_third : (format : Format) (line : List ℕ) → Announces format line → third_read line ≡ false
text_third Tracefile line h = ap third_read h
text_third (Annotated test) line (inl h) = ap third_read h.0
text_third (Annotated test) line (inr h) = ap third_read h

pub text_no_rename : (format : Format) (line : List ℕ) → Announces format line → line ≡ codes "rename" → ⊥
text_no_rename format line a is = false≢true (sym (text_third format line a) ∙ ap third_read is)

-- the only format that a line can announce, by its first byte and what comes after the fifth
abbrev format_read : List ℕ → Format
format_read line = cond (eqb (get_or line 0 0) 103) (Annotated (drop 5 line)) Tracefile

announced : (format : Format) (line : List ℕ) → Announces format line → format_read line ≡ format
announced Tracefile line h = ap format_read h
announced (Annotated test) line (inl h) = ap format_read h.0 ∙ ap (λ (u : List ℕ). Annotated u) (sym h.1)
announced (Annotated test) line (inr h) = ap format_read h

pub one_format : (line : List ℕ) (x y : Format) → Announces x line → Announces y line → y ≡ x
one_format line x y h k = sym (announced y line k) ∙ announced x line h
