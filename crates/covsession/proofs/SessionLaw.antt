-- Each input has exactly one session text: its commands are found piece by piece.
use Rattle.std.proofs.Common.{◌≡◌, ◌≢◌, ◌⊎◌, ℕ, zero, suc, ◌<◌, ◌≤◌, Bool, true, false, eqb, leb, List, [], ◌∷◌, ◌++◌, length, Result, refl, sym, ◌∙◌, ap, subst, arith, codes, inl, inr}
use Rattle.std.specs.List.{concat}
use Rattle.std.proofs.lemmas.Bool.{eqb-true, eqb-false, leb-true, leb-false}
use Rattle.covdata.specs.Row.{SubmissionData}
use Rattle.covline.specs.Lines.{line_of, pieces_of}
use Rattle.covdata.specs.declared.fault.ReadFault.{ReadFault}
use Rattle.covbook.specs.Op.{OpData, SubmitOp, DropTestOp, RenameOp, ReportOp, ExtractOp, RemoveOp, SummaryOp}
use Rattle.covreport.specs.Choice.{max_pattern_bytes}
use Rattle.covsession.specs.Command.{Command, Format, Tracefile, Annotated, Announces, IsReadAs, Blank, Ask, RefusePattern, Unknown, Unfinished, AsksFor, IsTooLong, IsBody, AreCommands, space}
use Rattle.covsession.specs.Session.{IsSession, session_text}
use Rattle.covsession.specs.Text.{asked_for}
use Rattle.covsession.specs.Run.{IsRun}
use Rattle.covsession.specs.declared.session.text.LineEnd.TheVariants.{Feed, Input}
use Rattle.covsession.proofs.SessionRun.{run_none, run_one_input, run_more, IsWhole, open_determined}
use Rattle.covsession.proofs.SessionSteps.{whole_run, blank_run, ask_run, rename_run, open_rename_run, long_run, unknown_run}

-- ---- a line is a command of its own, or further lines belong to it

same_head : (x y : ℕ) (xs ys : List ℕ) → x ∷ xs ≡ y ∷ ys → x ≡ y
same_head x y xs ys e = cc

same_tail : (x y : ℕ) (xs ys : List ℕ) → x ∷ xs ≡ y ∷ ys → xs ≡ ys
same_tail x y xs ys e = cc

none_some : (x : ℕ) (xs : List ℕ) → [] ≡ x ∷ xs → ⊥
none_some x xs e = cc

same_cons : (x y : ℕ) (xs ys : List ℕ) (b : Bool) → eqb x y ≡ b → (xs ≡ ys) ⊎ (xs ≢ ys) → (x ∷ xs ≡ y ∷ ys) ⊎ (x ∷ xs ≢ y ∷ ys)
same_cons x y xs ys true e (inl h) = let head = eqb-true x y e in inl (ap (λ (u : ℕ). u ∷ xs) head ∙ ap (λ (u : List ℕ). y ∷ u) h)
same_cons x y xs ys true e (inr h) = inr (λ k. h (same_tail x y xs ys k))
same_cons x y xs ys false e h = inr (λ k. eqb-false x y e (same_head x y xs ys k))

same : (xs ys : List ℕ) → (xs ≡ ys) ⊎ (xs ≢ ys)
same [] [] = inl refl
same [] (y ∷ ys) = inr (λ e. none_some y ys e)
same (x ∷ xs) [] = inr (λ e. none_some x xs (sym e))
same (x ∷ xs) (y ∷ ys) = same_cons x y xs ys (eqb x y) refl (same xs ys)

abbrev Following : List ℕ → List ℕ → Type 0
Following word line = (pattern : List ℕ) × (line ≡ word ++ space ∷ pattern)

after_space : (x : ℕ) (xs : List ℕ) (b : Bool) → eqb x space ≡ b → Following [] (x ∷ xs) ⊎ (Following [] (x ∷ xs) → ⊥)
after_space x xs true e = inl (xs, ap (λ (u : ℕ). u ∷ xs) (eqb-true x space e))
after_space x xs false e = inr (λ h. eqb-false x space e (same_head x space xs h.0 h.1))

after_cons : (w x : ℕ) (ws xs : List ℕ) (b : Bool) → eqb x w ≡ b → Following ws xs ⊎ (Following ws xs → ⊥) → Following (w ∷ ws) (x ∷ xs) ⊎ (Following (w ∷ ws) (x ∷ xs) → ⊥)
after_cons w x ws xs true e (inl h) = inl (h.0, ap (λ (u : ℕ). u ∷ xs) (eqb-true x w e) ∙ ap (λ (u : List ℕ). w ∷ u) h.1)
after_cons w x ws xs true e (inr h) = inr (λ k. h (k.0, same_tail x w xs (ws ++ space ∷ k.0) k.1))
after_cons w x ws xs false e h = inr (λ k. eqb-false x w e (same_head x w xs (ws ++ space ∷ k.0) k.1))

after : (word line : List ℕ) → Following word line ⊎ (Following word line → ⊥)
after [] [] = inr (λ h. none_some space h.0 h.1)
after [] (x ∷ xs) = after_space x xs (eqb x space) refl
after (w ∷ ws) [] = inr (λ h. none_some w (ws ++ space ∷ h.0) h.1)
after (w ∷ ws) (x ∷ xs) = after_cons w x ws xs (eqb x w) refl (after ws xs)

-- a piece is a command of its own, or a line that a text or two names follow
abbrev Kind : List ℕ → Type 0
Kind piece = ((commands : List Command) × IsRun Feed (piece ∷ []) commands)
    ⊎ (((format : Format) × Announces format (line_of piece)) ⊎ (line_of piece ≡ codes "rename"))

fit_kind : (piece pattern : List ℕ) (op : OpData) (fits : Bool) → leb (length pattern) max_pattern_bytes ≡ fits
    → (length pattern ≤ max_pattern_bytes → AsksFor op (line_of piece)) → (max_pattern_bytes < length pattern → IsTooLong (line_of piece)) → Kind piece
fit_kind piece pattern op true e asks long = inl (Ask op ∷ [], ask_run Feed piece op (asks (leb-true (length pattern) max_pattern_bytes e)))
fit_kind piece pattern op false e asks long = inl (RefusePattern ∷ [], long_run Feed piece (long (leb-false (length pattern) max_pattern_bytes e)))

-- the line isn't blank, and isn't the word of a command alone
pub record IsNoWord (line : List ℕ) : Type 0 where
  pub some : line ≢ []
  pub trace : line ≢ codes "trace"
  pub report : line ≢ codes "report"
  pub summary : line ≢ codes "summary"
  pub extract : line ≢ codes "extract"
  pub remove : line ≢ codes "remove"
  pub gcov : line ≢ codes "gcov"
  pub drop : line ≢ codes "drop"
  pub rename : line ≢ codes "rename"

no_op : (line : List ℕ) → IsNoWord line → (Following (codes "extract") line → ⊥) → (Following (codes "remove") line → ⊥)
    → (Following (codes "drop") line → ⊥) → (op : OpData) → AsksFor op line → ⊥
no_op line n e r d (SubmitOp submission) h = h
no_op line n e r d (DropTestOp test) (inl h) = n.drop h.0
no_op line n e r d (DropTestOp test) (inr h) = d (test, h)
no_op line n e r d (RenameOp old new) h = h
no_op line n e r d ReportOp h = n.report h
no_op line n e r d SummaryOp h = n.summary h
no_op line n e r d (ExtractOp []) h = n.extract h
no_op line n e r d (ExtractOp (pattern ∷ [])) h = e (pattern, h.0)
no_op line n e r d (ExtractOp (pattern ∷ other ∷ more)) h = h
no_op line n e r d (RemoveOp []) h = n.remove h
no_op line n e r d (RemoveOp (pattern ∷ [])) h = r (pattern, h.0)
no_op line n e r d (RemoveOp (pattern ∷ other ∷ more)) h = h

no_long : (line : List ℕ) → (Following (codes "extract") line → ⊥) → (Following (codes "remove") line → ⊥) → IsTooLong line → ⊥
no_long line e r (pattern, long, inl is) = e (pattern, is)
no_long line e r (pattern, long, inr is) = r (pattern, is)

no_text : (line : List ℕ) → IsNoWord line → (Following (codes "gcov") line → ⊥) → (format : Format) → Announces format line → ⊥
no_text line n g Tracefile h = n.trace h
no_text line n g (Annotated test) (inl h) = n.gcov h.0
no_text line n g (Annotated test) (inr h) = g (test, h)

-- the line is this word, a space and an argument, or it isn't
abbrev May : List ℕ → List ℕ → Type 0
May word line = Following word line ⊎ (Following word line → ⊥)

choice_kind : (piece : List ℕ) → IsNoWord (line_of piece) → May (codes "extract") (line_of piece) → May (codes "remove") (line_of piece)
    → May (codes "gcov") (line_of piece) → May (codes "drop") (line_of piece) → Kind piece
choice_kind piece n (inl e) r g d =
    fit_kind piece e.0 (ExtractOp (e.0 ∷ [])) (leb (length e.0) max_pattern_bytes) refl (λ fits. (e.1, fits)) (λ long. (e.0, long, inl e.1))
choice_kind piece n (inr e) (inl r) g d =
    fit_kind piece r.0 (RemoveOp (r.0 ∷ [])) (leb (length r.0) max_pattern_bytes) refl (λ fits. (r.1, fits)) (λ long. (r.0, long, inr r.1))
choice_kind piece n (inr e) (inr r) (inl g) d = inr (inl (Annotated g.0, inr g.1))
choice_kind piece n (inr e) (inr r) (inr g) (inl d) = inl (Ask (DropTestOp d.0) ∷ [], ask_run Feed piece (DropTestOp d.0) (inr d.1))
choice_kind piece n (inr e) (inr r) (inr g) (inr d) = inl (
  Unknown ∷ [],
  unknown_run Feed piece (record {
    some = n.some;
    no_text = no_text (line_of piece) n g;
    no_op = no_op (line_of piece) n e r d;
    no_rename = n.rename;
    short = no_long (line_of piece) e r;
  }),
)

abbrev Same : List ℕ → List ℕ → Type 0
Same line word = (line ≡ word) ⊎ (line ≢ word)

-- the lines `trace`, `gcov` and `rename`, to which further lines belong
text_kind : (piece : List ℕ) → Same (line_of piece) (codes "trace") → Same (line_of piece) (codes "gcov") → Same (line_of piece) (codes "rename")
    → (line_of piece ≢ codes "trace" → line_of piece ≢ codes "gcov" → line_of piece ≢ codes "rename" → Kind piece) → Kind piece
text_kind piece (inl h) g a more = inr (inl (Tracefile, h))
text_kind piece (inr t) (inl h) a more = inr (inl (Annotated [], inl (h, refl)))
text_kind piece (inr t) (inr g) (inl h) more = inr (inr h)
text_kind piece (inr t) (inr g) (inr a) more = more t g a

word_kind : (piece : List ℕ) → line_of piece ≢ codes "trace" → line_of piece ≢ codes "gcov" → line_of piece ≢ codes "rename" → Same (line_of piece) [] → Same (line_of piece) (codes "report")
    → Same (line_of piece) (codes "summary") → Same (line_of piece) (codes "extract") → Same (line_of piece) (codes "remove")
    → Same (line_of piece) (codes "drop") → Kind piece
word_kind piece t g a (inl h) r s e m d = inl (Blank ∷ [], blank_run Feed piece h)
word_kind piece t g a (inr n) (inl h) s e m d = inl (Ask ReportOp ∷ [], ask_run Feed piece ReportOp h)
word_kind piece t g a (inr n) (inr r) (inl h) e m d = inl (Ask SummaryOp ∷ [], ask_run Feed piece SummaryOp h)
word_kind piece t g a (inr n) (inr r) (inr s) (inl h) m d = inl (Ask (ExtractOp []) ∷ [], ask_run Feed piece (ExtractOp []) h)
word_kind piece t g a (inr n) (inr r) (inr s) (inr e) (inl h) d = inl (Ask (RemoveOp []) ∷ [], ask_run Feed piece (RemoveOp []) h)
word_kind piece t g a (inr n) (inr r) (inr s) (inr e) (inr m) (inl h) = inl (Ask (DropTestOp []) ∷ [], ask_run Feed piece (DropTestOp []) (inl (h, refl)))
word_kind piece t g a (inr n) (inr r) (inr s) (inr e) (inr m) (inr d) =
    choice_kind piece (record { some = n; trace = t; report = r; summary = s; extract = e; remove = m; gcov = g; drop = d; rename = a })
    (after (codes "extract") (line_of piece)) (after (codes "remove") (line_of piece)) (after (codes "gcov") (line_of piece))
    (after (codes "drop") (line_of piece))

kind : (piece : List ℕ) → Kind piece
kind piece =
    text_kind piece (same (line_of piece) (codes "trace")) (same (line_of piece) (codes "gcov")) (same (line_of piece) (codes "rename"))
    (λ t g a. word_kind piece t g a (same (line_of piece) []) (same (line_of piece) (codes "report"))
    (same (line_of piece) (codes "summary")) (same (line_of piece) (codes "extract")) (same (line_of piece) (codes "remove"))
    (same (line_of piece) (codes "drop")))

-- ---- a text ends with the first line `.`

pub record Ends (pieces : List (List ℕ)) : Type 0 where
  pub body : List (List ℕ)
  pub last : List ℕ
  pub rest : List (List ℕ)
  pub is : pieces ≡ (body ++ last ∷ []) ++ rest
  pub no_last : IsBody body
  pub dot : line_of last ≡ codes "."
  pub fewer : length rest < length pieces

ends_cons : (piece : List ℕ) (pieces : List (List ℕ)) → Same (line_of piece) (codes ".") → Ends pieces ⊎ IsBody pieces → Ends (piece ∷ pieces) ⊎ IsBody (piece ∷ pieces)
ends_cons piece pieces (inl h) more = inl (record { body = []; last = piece; rest = pieces; is = refl; no_last = tt; dot = h; fewer = omega arith })
ends_cons piece pieces (inr h) (inr none) = inr (h, none)
ends_cons piece pieces (inr h) (inl e) = inl (record {
  body = piece ∷ e.body;
  last = e.last;
  rest = e.rest;
  is = ap (λ (u : List (List ℕ)). piece ∷ u) e.is;
  no_last = (h, e.no_last);
  dot = e.dot;
  fewer = let few = e.fewer in omega arith;
})

ends : (pieces : List (List ℕ)) → Ends pieces ⊎ IsBody pieces
ends [] = inr tt
ends (piece ∷ pieces) = ends_cons piece pieces (same (line_of piece) (codes ".")) (ends pieces)

-- ---- the commands of an input

module _ (read : (format : Format) (text : List ℕ) → (outcome : Result SubmissionData ReadFault) × IsReadAs format text outcome)
    (only : (format : Format) (text : List ℕ) (x y : Result SubmissionData ReadFault) → IsReadAs format text x → IsReadAs format text y → x ≡ y) where
  abbrev Commands : List (List ℕ) → Type 0
  Commands pieces = (commands : List Command) × IsRun Input pieces commands

  text_commands : (format : Format) (first : List ℕ) (pieces : List (List ℕ)) → Announces format (line_of first) → Ends pieces ⊎ IsBody pieces
      → ((rest : List (List ℕ)) → length rest < length pieces → Commands rest) → Commands (first ∷ pieces)
  text_commands format first pieces announces (inr none) more =
      (Unfinished ∷ [], run_one_input (first ∷ pieces) Unfinished (inl (format, first, pieces, refl, announces, none)) refl (open_determined format first pieces announces none))
  text_commands format first pieces announces (inl e) more =
      let text = concat e.body in
      let o = read format text in
      let these = first ∷ (e.body ++ e.last ∷ []) in
      let whole : IsWhole format first e.body e.last o.0 =
      record { announces = announces; no_last = e.no_last; dot = e.dot; only = λ other h. only format text other o.0 h o.1 } in
      let run = whole_run Feed format first e.body e.last o.0 whole o.1 in
      let r = more e.rest e.fewer in
      let P : List (List ℕ) → Type 0 = λ u. IsRun Input (first ∷ u) (asked_for o.0 ++ r.0) in
      (asked_for o.0 ++ r.0, subst P (sym e.is) (run_more Input these e.rest (asked_for o.0) r.0 run r.1))

  rename_commands : (first : List ℕ) (pieces : List (List ℕ)) → line_of first ≡ codes "rename"
      → ((rest : List (List ℕ)) → length rest ≤ length pieces → Commands rest) → Commands (first ∷ pieces)
  rename_commands first [] word more = (Unfinished ∷ [], open_rename_run first [] word (omega arith))
  rename_commands first (second ∷ []) word more = (Unfinished ∷ [], open_rename_run first (second ∷ []) word (omega arith))
  rename_commands first (second ∷ third ∷ rest) word more =
      let these = first ∷ second ∷ third ∷ [] in
      let commands = Ask (RenameOp (line_of second) (line_of third)) ∷ [] in
      let r = more rest (omega arith) in
      (commands ++ r.0, run_more Input these rest commands r.0 (rename_run Feed first second third word) r.1)

  piece_commands : (piece : List ℕ) (pieces : List (List ℕ)) → Kind piece → ((rest : List (List ℕ)) → length rest ≤ length pieces → Commands rest)
      → Commands (piece ∷ pieces)
  piece_commands piece pieces (inl k) more =
      let r = more pieces (omega arith) in
      (k.0 ++ r.0, run_more Input (piece ∷ []) pieces k.0 r.0 k.1 r.1)
  piece_commands piece pieces (inr (inl k)) more = text_commands k.0 piece pieces k.1 (ends pieces) (λ rest few. more rest (omega arith))
  piece_commands piece pieces (inr (inr k)) more = rename_commands piece pieces k more

  commands_of : (n : ℕ) (pieces : List (List ℕ)) → length pieces ≤ n → Commands pieces
  commands_of n [] few = ([], run_none Input)
  commands_of zero (piece ∷ pieces) few = absurd (omega arith)
  commands_of (suc n) (piece ∷ pieces) few = piece_commands piece pieces (kind piece) (λ rest less. commands_of n rest (omega arith))

  of_input : (input : List ℕ) → Commands (pieces_of input)
  of_input input = commands_of (length (pieces_of input)) (pieces_of input) (omega arith)

  pub some_commands : (input : List ℕ) → (commands : List Command) × AreCommands (pieces_of input) commands
  some_commands input = let all = of_input input in (all.0, all.1.are)

  pub one_commands : (input : List ℕ) (x y : List Command) → AreCommands (pieces_of input) x → AreCommands (pieces_of input) y → x ≡ y
  one_commands input x y h k = let all = of_input input in all.1.only x h ∙ sym (all.1.only y k)

  pub some_session : (input : List ℕ) → (output : List ℕ) × IsSession input output
  some_session input = let all = of_input input in (session_text all.0, (all.0, all.1.are, refl))

  one_text : (input x : List ℕ) (commands : List Command) → IsRun Input (pieces_of input) commands → IsSession input x → x ≡ session_text commands
  one_text input x commands run (others, are, is) = is ∙ ap session_text (run.only others are)

  pub one_session : (input x y : List ℕ) → IsSession input x → IsSession input y → x ≡ y
  one_session input x y h k =
      let all = of_input input in
      one_text input x all.0 all.1 h ∙ sym (one_text input y all.0 all.1 k)

-- if each tracefile and each text of gcov has an outcome, a text of any format has one
pub read_some : ((text : List ℕ) → (outcome : Result SubmissionData ReadFault) × IsReadAs Tracefile text outcome)
    → ((test text : List ℕ) → (outcome : Result SubmissionData ReadFault) × IsReadAs (Annotated test) text outcome)
    → (format : Format) (text : List ℕ) → (outcome : Result SubmissionData ReadFault) × IsReadAs format text outcome
read_some trace gcov Tracefile text = trace text
read_some trace gcov (Annotated test) text = gcov test text

abbrev OneRead : Format → Type 0
OneRead format = (text : List ℕ) (x y : Result SubmissionData ReadFault) → IsReadAs format text x → IsReadAs format text y → x ≡ y

pub read_one : OneRead Tracefile → ((test : List ℕ) → OneRead (Annotated test)) → (format : Format) → OneRead format
read_one trace gcov Tracefile = trace
read_one trace gcov (Annotated test) = gcov test
