-- The steps of a session from one command to the next, and the whole session.
use Rattle.std.proofs.Common.{◌≡◌, ℕ, ◌+◌, ◌<◌, ◌≤◌, Bool, true, false, cond, leb, List, [], ◌∷◌, ◌++◌, length, Result, Ok, Err, OnOk, Option, None, Some, option_map, refl, sym, ◌∙◌, ap, subst, arith, append-nil, codes, inl, inr}
use Rattle.std.specs.List.{concat}
use Rattle.std.proofs.lemmas.Bool.{leb-true, leb-false, le-leb}
use Rattle.std.proofs.lemmas.List.Concat.{flat_map-append}
use Rattle.std.specs.Option.{IfSome}
use Rattle.std.specs.Io.KnownBytes.{Consumes, Appends, IsAtEnd, prepend_known, append_known}
use Rattle.covdata.specs.Row.{SubmissionData}
use Rattle.covdata.specs.Delimiters.{line_feed}
use Rattle.covline.specs.Lines.{before_feed, strip, line_of, pieces_of}
use Rattle.covbook.specs.Op.{OpData, SubmitOp, DropTestOp, RenameOp, ReportOp, ExtractOp, RemoveOp, SummaryOp}
use Rattle.covreport.specs.Choice.{max_pattern_bytes}
use Rattle.covtable.specs.Table.{Table}
use Rattle.covbook.specs.Step.{table_of}
use Rattle.covdata.specs.declared.fault.ReadFault.{ReadFault}
use Rattle.covdata.specs.declared.fault.ReadFault.TheVariants as faults
use Rattle.covsession.specs.declared.session.text.LineEnd.{LineEnd}
use Rattle.covsession.specs.declared.session.text.LineEnd.TheVariants.{Feed, Input}
use Rattle.covsession.specs.declared.session.text.CollectedText.{CollectedText}
use Rattle.covsession.specs.declared.session.text.CollectedText.TheVariants as taken
use Rattle.covsession.specs.declared.session.command.word.Format.{Format as TextFormat}
use Rattle.covsession.specs.declared.session.command.word.Pick.{Pick}
use Rattle.covsession.specs.declared.session.command.word.Pick.TheVariants as picks
use Rattle.covsession.specs.declared.session.command.word.Word.{Word}
use Rattle.covsession.specs.declared.session.command.word.Word.TheVariants as words
use Rattle.covread.specs.Outcome.{IsOutcome, max_bytes}
use Rattle.covread.specs.GcovOutcome as gcov
use Rattle.covsession.specs.Command.{Command, Format, Tracefile, Annotated, Announces, IsReadAs, format_of, Blank, Ask, RefusePattern, Submit, Refuse, Unknown, Unfinished, AsksFor, IsAskingLine, IsAsked, IsNaming, IsTooLong, IsUnknown, AreCommands, ops_of, ops_asked, IsWord, IsWordWith, pick_name, pick_op, asked_by, chosen_by, IsListOf}
use Rattle.covsession.specs.Session.{IsSession, IsWholeSession, text_after, Asks}
use Rattle.covsession.specs.Streams.{InputData, OutputData, Moment, Takes, Says, Moves, TakesLine, TakesPieces, EndsAs, turns, unread, line_bytes, line_pieces}
use Rattle.covsession.specs.Text.{IsTaken, asked_for, IsAnsweredAs}
use Rattle.covsession.specs.Run.{IsRun, TakesAfter, TakesCommand, IsSoFar, IsDone}
use Rattle.covsession.proofs.SessionMoves.{Says-trans, Moves-trans, Moves-none}
use Rattle.covsession.proofs.SessionPieces.{cut_append, cut_ending, line_of_bytes}
use Rattle.covsession.proofs.SessionRun.{text_more, run_none, run_one, run_one_input, run_more, single_determined, IsWhole, whole_determined, open_determined, rename_determined, open_rename_determined}

-- pieces were taken, and then something was said
pub says_on : (m n : Moment) (p : OutputData) (pieces : List (List ℕ)) (ending : LineEnd) (text : List ℕ)
    → TakesPieces m n pieces ending [] → Says n.output p text → TakesPieces m (record n { output = p }) pieces ending text
says_on m n p pieces ending text h says = record {
  bytes = h.bytes;
  moves = record { takes = h.moves.takes; says = Says-trans m.output n.output p [] text h.moves.says says };
  cut = h.cut;
  ended = h.ended;
}

-- pieces were taken, and then further pieces
ends_trans : (m n o : InputData) (ending : LineEnd) → EndsAs Feed m n → EndsAs ending n o → EndsAs ending m o
ends_trans m n o Feed h k = omega arith
ends_trans m n o Input h k = k

pub pieces_trans : (m n o : Moment) (ps qs : List (List ℕ)) (ending : LineEnd) (x y : List ℕ)
    → TakesPieces m n ps Feed x → TakesPieces n o qs ending y → TakesPieces m o (ps ++ qs) ending (x ++ y)
pieces_trans m n o ps qs ending x y h k = record {
  bytes = h.bytes ++ k.bytes;
  moves = Moves-trans m n o h.bytes k.bytes x y h.moves k.moves;
  cut = cut_append ending h.bytes k.bytes ps qs h.cut k.cut;
  ended = ends_trans m.input n.input o.input ending h.ended k.ended;
}

pub line_taken : (m n : Moment) (line : List ℕ) (ending : LineEnd) → TakesLine m n line ending → TakesPieces m n (line_pieces ending line) ending []
line_taken m n line ending h = record {
  bytes = line_bytes ending line;
  moves = h.moves;
  cut = cut_ending ending line h.one_line;
  ended = h.ended;
}

-- the pieces of a whole text are exactly one command: a submission, or a refusal
pub whole_run : (ending : LineEnd) (format : Format) (first : List ℕ) (body : List (List ℕ)) (last : List ℕ) (outcome : Result SubmissionData ReadFault)
    → IsWhole format first body last outcome → IsReadAs format (concat body) outcome
    → IsRun ending (first ∷ (body ++ last ∷ [])) (asked_for outcome)
whole_run ending format first body last (Ok submission) w read =
    run_one ending (first ∷ (body ++ last ∷ [])) (Submit submission)
    (format, concat body, (first, body, last, refl, w.announces, w.no_last, w.dot, refl), read) (λ rest. tt)
    (λ rest. whole_determined format first body rest last (Ok submission) (Submit submission) w refl)
whole_run ending format first body last (Err fault) w read =
    run_one ending (first ∷ (body ++ last ∷ [])) (Refuse fault)
    (format, concat body, (first, body, last, refl, w.announces, w.no_last, w.dot, refl), read) (λ rest. tt)
    (λ rest. whole_determined format first body rest last (Err fault) (Refuse fault) w refl)

too_long_read : (format : Format) (text : List ℕ) → max_bytes < length text → IsReadAs format text (Err faults.TooLong)
too_long_read Tracefile text long = inl (long, refl)
too_long_read (Annotated test) text long = inl (long, refl)

too_long_trace : (text : List ℕ) → max_bytes < length text → (other : Result SubmissionData ReadFault) → IsOutcome text other → other ≡ Err faults.TooLong
too_long_trace text long (Ok submission) h = absurd (let few : length text ≤ max_bytes = h.0 in omega arith)
too_long_trace text long (Err fault) (inl h) = ap (λ (f : ReadFault). Err f) h.1
too_long_trace text long (Err fault) (inr h) = absurd (let few : length text ≤ max_bytes = h.0 in omega arith)

too_long_gcov : (test text : List ℕ) → max_bytes < length text → (other : Result SubmissionData ReadFault) → gcov.IsOutcome test text other → other ≡ Err faults.TooLong
too_long_gcov test text long (Ok submission) h = absurd (let few : length text ≤ max_bytes = h.0 in omega arith)
too_long_gcov test text long (Err fault) (inl h) = ap (λ (f : ReadFault). Err f) h.1
too_long_gcov test text long (Err fault) (inr (inl h)) = absurd (let few : length text ≤ max_bytes = h.0 in omega arith)
too_long_gcov test text long (Err fault) (inr (inr (inl h))) = absurd (let few : length text ≤ max_bytes = h.0 in omega arith)
too_long_gcov test text long (Err fault) (inr (inr (inr h))) = absurd (let few : length text ≤ max_bytes = h.0 in omega arith)

too_long_only : (format : Format) (text : List ℕ) → max_bytes < length text → (other : Result SubmissionData ReadFault) → IsReadAs format text other → other ≡ Err faults.TooLong
too_long_only Tracefile text long other h = too_long_trace text long other h
too_long_only (Annotated test) text long other h = too_long_gcov test text long other h

pub taken_run : {A : Type 0} (format : Format) (taken : CollectedText A) (pieces : List (List ℕ)) (ending : LineEnd) (commands : List Command)
    → IsTaken pieces ending taken → IsAnsweredAs format taken commands → (first : List ℕ) → Announces format (line_of first) → IsRun ending (first ∷ pieces) commands
taken_run format (taken.Whole kept) pieces ending commands (body, last, is, no_last, dot, (same, few)) (outcome, asked, read, only) first announces =
    let P : List ℕ → Type 0 = λ u. IsReadAs format u outcome in
    let O : List ℕ → Type 0 = λ u. (other : Result SubmissionData ReadFault) → IsReadAs format u other → other ≡ outcome in
    let Q : List (List ℕ) → Type 0 = λ u. IsRun ending (first ∷ u) commands in
    let R : List Command → Type 0 = λ u. IsRun ending (first ∷ (body ++ last ∷ [])) u in
    let whole : IsWhole format first body last outcome = record { announces = announces; no_last = no_last; dot = dot; only = subst O same only } in
    subst Q (sym is) (subst R (sym asked) (whole_run ending format first body last outcome whole (subst P same read)))
taken_run format taken.TooLong pieces ending commands (body, last, is, no_last, dot, long) asked first announces =
    let Q : List (List ℕ) → Type 0 = λ u. IsRun ending (first ∷ u) commands in
    let R : List Command → Type 0 = λ u. IsRun ending (first ∷ (body ++ last ∷ [])) u in
    let whole : IsWhole format first body last (Err faults.TooLong) = record { announces = announces; no_last = no_last; dot = dot; only = too_long_only format (concat body) long } in
    subst Q (sym is) (subst R (sym asked) (whole_run ending format first body last (Err faults.TooLong) whole (too_long_read format (concat body) long)))
taken_run format taken.Unfinished pieces ending commands (no_last, ends) asked first announces =
    let Q : LineEnd → Type 0 = λ u. IsRun u (first ∷ pieces) commands in
    let R : List Command → Type 0 = λ u. IsRun Input (first ∷ pieces) u in
    subst Q (sym ends) (subst R (sym asked)
    (run_one_input (first ∷ pieces) Unfinished (inl (format, first, pieces, refl, announces, no_last)) refl (open_determined format first pieces announces no_last)))

-- a command of one line
pub blank_run : (ending : LineEnd) (piece : List ℕ) → line_of piece ≡ [] → IsRun ending (piece ∷ []) (Blank ∷ [])
blank_run ending piece e = run_one ending (piece ∷ []) Blank (piece, refl, e) (λ rest. tt) (λ rest. single_determined piece rest Blank e)

asking_line : (pieces : List (List ℕ)) (op : OpData) → IsAskingLine pieces op → IsAsked pieces op
asking_line pieces (RenameOp old new) h = absurd h.2
asking_line pieces (SubmitOp submission) h = h
asking_line pieces (DropTestOp test) h = h
asking_line pieces ReportOp h = h
asking_line pieces SummaryOp h = h
asking_line pieces (ExtractOp patterns) h = h
asking_line pieces (RemoveOp patterns) h = h

pub ask_run : (ending : LineEnd) (piece : List ℕ) (op : OpData) → AsksFor op (line_of piece) → IsRun ending (piece ∷ []) (Ask op ∷ [])
ask_run ending piece op h =
    run_one ending (piece ∷ []) (Ask op) (asking_line (piece ∷ []) op (line_of piece, (piece, refl, refl), h)) (λ rest. tt) (λ rest. single_determined piece rest (Ask op) h)

pub long_run : (ending : LineEnd) (piece : List ℕ) → IsTooLong (line_of piece) → IsRun ending (piece ∷ []) (RefusePattern ∷ [])
long_run ending piece h =
    run_one ending (piece ∷ []) RefusePattern (line_of piece, (piece, refl, refl), h) (λ rest. tt) (λ rest. single_determined piece rest RefusePattern h)

pub unknown_run : (ending : LineEnd) (piece : List ℕ) → IsUnknown (line_of piece) → IsRun ending (piece ∷ []) (Unknown ∷ [])
unknown_run ending piece h =
    run_one ending (piece ∷ []) Unknown (line_of piece, (piece, refl, refl), h) (λ rest. tt) (λ rest. single_determined piece rest Unknown h)

-- the pieces of a rename are exactly one command. If one of its names isn't there, it is `Unfinished`
pub rename_run : (ending : LineEnd) (first second third : List ℕ) → line_of first ≡ codes "rename"
    → IsRun ending (first ∷ second ∷ third ∷ []) (Ask (RenameOp (line_of second) (line_of third)) ∷ [])
rename_run ending first second third word =
    run_one ending (first ∷ second ∷ third ∷ []) (Ask (RenameOp (line_of second) (line_of third)))
    (first, second, third, refl, word, refl, refl) (λ rest. tt) (λ rest. rename_determined first second third rest word)

pub open_rename_run : (first : List ℕ) (behind : List (List ℕ)) → line_of first ≡ codes "rename" → length behind < 2
    → IsRun Input (first ∷ behind) (Unfinished ∷ [])
open_rename_run first behind word few =
    run_one_input (first ∷ behind) Unfinished (inr (first, behind, refl, word, few)) refl (open_rename_determined first behind word few)

-- a choice of files by a pattern asks the book if the pattern fits, and is refused if the pattern is too long
fit_run : (ending : LineEnd) (piece pattern : List ℕ) (op : OpData) (fits : Bool) → leb (length pattern) max_pattern_bytes ≡ fits
    → (length pattern ≤ max_pattern_bytes → AsksFor op (line_of piece)) → (max_pattern_bytes < length pattern → IsTooLong (line_of piece))
    → IsRun ending (piece ∷ []) (cond fits (Ask op ∷ []) (RefusePattern ∷ []))
fit_run ending piece pattern op true e asks long = ask_run ending piece op (asks (leb-true (length pattern) max_pattern_bytes e))
fit_run ending piece pattern op false e asks long = long_run ending piece (long (leb-false (length pattern) max_pattern_bytes e))

-- a choice of files
choose_run : (ending : LineEnd) (piece : List ℕ) (pick : Pick) (pattern : Option (List ℕ)) → IsWordWith (line_of piece) (pick_name pick) pattern
    → IsRun ending (piece ∷ []) (chosen_by (pick_op pick) pattern)
choose_run ending piece picks.Extract None h = ask_run ending piece (ExtractOp []) h
choose_run ending piece picks.Extract (Some pattern) h =
    fit_run ending piece pattern (ExtractOp (pattern ∷ [])) (leb (length pattern) max_pattern_bytes) refl (λ fits. (h, fits)) (λ long. (pattern, long, inl h))
choose_run ending piece picks.Remove None h = ask_run ending piece (RemoveOp []) h
choose_run ending piece picks.Remove (Some pattern) h =
    fit_run ending piece pattern (RemoveOp (pattern ∷ [])) (leb (length pattern) max_pattern_bytes) refl (λ fits. (h, fits)) (λ long. (pattern, long, inr h))

-- if a text or two names should follow this word, its line ended with the input
pub record IsLast (ending : LineEnd) (word : Word) : Type 0 where
  pub text : (format : TextFormat) → word ≡ words.Text format → ending ≡ Input
  pub names : word ≡ words.Rename → ending ≡ Input

word_run : (ending : LineEnd) (piece : List ℕ) (word : Word) → IsWord (line_of piece) word → IsLast ending word
    → IsRun ending (piece ∷ []) (asked_by word)
word_run ending piece words.Blank h last = blank_run ending piece h
word_run ending piece words.Report h last = ask_run ending piece ReportOp h
word_run ending piece words.Summary h last = ask_run ending piece SummaryOp h
word_run ending piece (words.Choose pick pattern) h last = choose_run ending piece pick (option_map (λ p. p.now) pattern) h
word_run ending piece (words.Drop test) h last = ask_run ending piece (DropTestOp test.now) h
word_run ending piece words.Other h last = unknown_run ending piece h
word_run ending piece words.Rename h last =
    let Q : LineEnd → Type 0 = λ u. IsRun u (piece ∷ []) (Unfinished ∷ []) in
    subst Q (sym (last.names refl)) (open_rename_run piece [] h (omega arith))
word_run ending piece (words.Text format) h last =
    let Q : LineEnd → Type 0 = λ u. IsRun u (piece ∷ []) (Unfinished ∷ []) in
    subst Q (sym (last.text format refl)) (run_one_input (piece ∷ []) Unfinished (inl (format_of format, piece, [], refl, h, tt)) refl (open_determined (format_of format) piece [] h tt))

-- the commands that a line is: the one of its word, or none if the input ended before the line's first byte. They have the same
-- answers and operations as the word's command
pub record LineRun (ending : LineEnd) (pieces : List (List ℕ)) (word : Word) : Type 0 where
  pub commands : List Command
  pub run : IsRun ending pieces commands
  pub same_text : (table : Table) → text_after table commands ≡ text_after table (asked_by word)
  pub same_ops : ops_of commands ≡ ops_of (asked_by word)

-- the empty line is no choice of files
no_choice : (word : List ℕ) (pattern : Option (List ℕ)) → 0 < length word → IsWordWith [] word pattern → ⊥
no_choice [] pattern some h = omega arith
no_choice (b ∷ bs) None some h = cc
no_choice (b ∷ bs) (Some pattern) some h = cc

-- the empty line names no test
no_name : (word test : List ℕ) → 0 < length word → IsNaming word test [] → ⊥
no_name [] test some h = omega arith
no_name (b ∷ bs) test some (inl h) = let e = h.0 in cc
no_name (b ∷ bs) test some (inr h) = cc

-- no text follows the empty line
no_text : (format : Format) → Announces format [] → ⊥
no_text Tracefile h = cc
no_text (Annotated test) h = no_name (codes "gcov") test (omega arith) h

nothing_run : (word : Word) → IsWord [] word → LineRun Input [] word
nothing_run words.Blank h = record { commands = []; run = run_none Input; same_text = λ table. refl; same_ops = refl }
nothing_run words.Report h = absurd (let nothing : ⊥ = cc in nothing)
nothing_run words.Summary h = absurd (let nothing : ⊥ = cc in nothing)
nothing_run words.Rename h = absurd (let nothing : ⊥ = cc in nothing)
nothing_run (words.Choose picks.Extract pattern) h = absurd (no_choice (codes "extract") (option_map (λ p. p.now) pattern) (omega arith) h)
nothing_run (words.Choose picks.Remove pattern) h = absurd (no_choice (codes "remove") (option_map (λ p. p.now) pattern) (omega arith) h)
nothing_run (words.Drop test) h = absurd (no_name (codes "drop") test.now (omega arith) h)
nothing_run (words.Text format) h = absurd (no_text (format_of format) h)
nothing_run words.Other h = absurd (h.some refl)

piece_line : (ending : LineEnd) (piece : List ℕ) (word : Word) → IsWord (line_of piece) word → IsLast ending word → LineRun ending (piece ∷ []) word
piece_line ending piece word h last = record {
  commands = asked_by word;
  run = word_run ending piece word h last;
  same_text = λ table. refl;
  same_ops = refl;
}

pub line_run : (ending : LineEnd) (line : List ℕ) (word : Word) → before_feed line ≡ line → IsWord (strip line) word → IsLast ending word
    → LineRun ending (line_pieces ending line) word
line_run Feed line word one h last =
    let P : List ℕ → Type 0 = λ u. IsWord u word in
    piece_line Feed (line ++ line_feed ∷ []) word (subst P (sym (line_of_bytes Feed line one)) h) last
line_run Input [] word one h last = nothing_run word h
line_run Input (b ∷ bs) word one h last =
    let P : List ℕ → Type 0 = λ u. IsWord u word in
    piece_line Input (b ∷ bs) word (subst P (sym (line_of_bytes Input (b ∷ bs) one)) h) last

-- if a line was taken and its word answered, the next command was taken and answered
pub line_command : (m n : Moment) (p : OutputData) (line : List ℕ) (ending : LineEnd) (word : Word) (before after : List OpData)
    → TakesLine m n line ending → IsWord (strip line) word → IsLast ending word
    → Asks (asked_by word) before after → Says n.output p (text_after (table_of before) (asked_by word))
    → TakesCommand m (record n { output = p }) before after ending
line_command m n p line ending word before after h is last asks says =
    let r = line_run ending line word h.one_line is last in
    let P : List ℕ → Type 0 = λ u. TakesPieces m (record n { output = p }) (line_pieces ending line) ending u in
    record {
      pieces = line_pieces ending line;
      commands = r.commands;
      taken = subst P (sym (r.same_text (table_of before)))
          (says_on m n p (line_pieces ending line) ending (text_after (table_of before) (asked_by word)) (line_taken m n line ending h) says);
      asks = asks ∙ ap (λ (u : List OpData). before ++ u) (sym r.same_ops);
      run = r.run;
    }

-- if a line and then the lines that belong to it were taken and answered, the next command was taken and answered
pub after_command : (Such : List ℕ → Type 0) (m n o : Moment) (line : List ℕ) (ending first : LineEnd) (before after : List OpData)
    → TakesLine m n line first → first ≡ Feed → Such (strip line) → TakesAfter Such n o before after ending → TakesCommand m o before after ending
after_command Such m n o line ending first before after h feed is t =
    let F : LineEnd → Type 0 = λ u. TakesLine m n line u in
    let taken : TakesLine m n line Feed = subst F feed h in
    record {
      pieces = (line ++ line_feed ∷ []) ∷ t.pieces;
      commands = t.commands;
      taken = pieces_trans m n o ((line ++ line_feed ∷ []) ∷ []) t.pieces ending [] (text_after (table_of before) t.commands) (line_taken m n line Feed taken) t.taken;
      asks = t.asks;
      run = t.run (line ++ line_feed ∷ []) (subst Such (sym (line_of_bytes Feed line h.one_line)) is);
    }

-- before the first command, no commands were taken and answered
pub so_far_none : (m : Moment) (history : List OpData) → history ≡ [] → IsSoFar m m history
so_far_none m history e = record {
  bytes = [];
  pieces = [];
  commands = [];
  moves = Moves-none m;
  cut = λ more. refl;
  run = run_none Feed;
  asked = e;
  fewer = omega arith;
}

both_asked : (history before : List OpData) (cs ds : List Command) → before ≡ ops_of cs → history ≡ before ++ ops_of ds → history ≡ ops_of (cs ++ ds)
both_asked history before cs ds e h = h ∙ ap (λ (u : List OpData). u ++ ops_of ds) e ∙ sym (flat_map-append ops_asked cs ds)

pub more_text : (before : List OpData) (cs ds : List Command) → before ≡ ops_of cs
    → text_after [] cs ++ text_after (table_of before) ds ≡ text_after [] (cs ++ ds)
more_text before cs ds e =
    ap (λ (u : List OpData). text_after [] cs ++ text_after (table_of u) ds) e ∙ sym (text_more [] cs ds)

more_said : (m n o : Moment) (before after : List OpData) (ending : LineEnd) (s : IsSoFar m n before) (t : TakesCommand n o before after ending)
    → Moves m o (s.bytes ++ t.taken.bytes) (text_after [] (s.commands ++ t.commands))
more_said m n o before after ending s t =
    let P : List ℕ → Type 0 = λ u. Moves m o (s.bytes ++ t.taken.bytes) u in
    subst P (more_text before s.commands t.commands s.asked)
    (Moves-trans m n o s.bytes t.taken.bytes (text_after [] s.commands) (text_after (table_of before) t.commands) s.moves t.taken.moves)

fewer_turns : (m n o : InputData) → turns n ≤ turns m → EndsAs Feed n o → turns o ≤ turns m
fewer_turns m n o h k = omega arith

pub so_far_more : (m n o : Moment) (before after : List OpData) → IsSoFar m n before → TakesCommand n o before after Feed → IsSoFar m o after
so_far_more m n o before after s t = record {
  bytes = s.bytes ++ t.taken.bytes;
  pieces = s.pieces ++ t.pieces;
  commands = s.commands ++ t.commands;
  moves = more_said m n o before after Feed s t;
  cut = cut_append Feed s.bytes t.taken.bytes s.pieces t.pieces s.cut t.taken.cut;
  run = run_more Feed s.pieces t.pieces s.commands t.commands s.run t.run;
  asked = both_asked after before s.commands t.commands s.asked t.asks;
  fewer = fewer_turns m.input n.input o.input s.fewer t.taken.ended;
}

pub so_far_done : (m n o : Moment) (before after : List OpData) → IsSoFar m n before → TakesCommand n o before after Input → IsDone m o
so_far_done m n o before after s t =
    let cut : pieces_of (s.bytes ++ t.taken.bytes) ≡ s.pieces ++ t.pieces = cut_append Input s.bytes t.taken.bytes s.pieces t.pieces s.cut t.taken.cut in
    let P : List (List ℕ) → Type 0 = λ u. IsRun Input u (s.commands ++ t.commands) in
    record {
      bytes = s.bytes ++ t.taken.bytes;
      commands = s.commands ++ t.commands;
      moves = more_said m n o before after Input s t;
      run = subst P (sym cut) (run_more Input s.pieces t.pieces s.commands t.commands s.run t.run);
      ended = t.taken.ended;
    }

-- at a session's start nothing is pending, so the bytes are taken from what the source has
pub start_took : (left other : Option (List ℕ)) (bytes : List ℕ) → Consumes (prepend_known [] left) other bytes → Consumes left other bytes
start_took None other bytes h = tt
start_took (Some xs) other bytes h = h

none_front : (xs ys : List ℕ) → xs ++ ys ≡ [] → ys ≡ []
none_front [] ys e = e
none_front (x ∷ xs) ys e = absurd (let nothing : ⊥ = cc in nothing)

end_left : (pending : List ℕ) (left : Option (List ℕ)) → IsAtEnd (prepend_known pending left) → IsAtEnd left
end_left pending None h = tt
end_left pending (Some xs) h = none_front pending xs h

pub end_took : (first : Option (List ℕ)) (pending bytes : List ℕ) (left : Option (List ℕ)) → Consumes first (prepend_known pending left) bytes
    → IsAtEnd (prepend_known pending left) → Consumes first left bytes
end_took None pending bytes left h e = tt
end_took (Some xs) pending bytes None h e = absurd h
end_took (Some xs) pending bytes (Some ys) h e =
    h ∙ ap (λ (u : List ℕ). bytes ++ u) (e ∙ sym (none_front pending ys e))

end_says : (first last : Option (List ℕ)) (before after text : List ℕ) → before ≡ [] → after ≡ []
    → Appends (append_known first before) (append_known last after) (text ++ []) → Appends first last text
end_says None last before after text e f h = tt
end_says (Some xs) None before after text e f h = absurd h
end_says (Some xs) (Some ys) before after text e f h =
    sym (append-nil ys) ∙ ap (λ (u : List ℕ). ys ++ u) (sym f) ∙ h ∙ ap (λ (u : List ℕ). u ++ (text ++ [])) (ap (λ (u : List ℕ). xs ++ u) e ∙ append-nil xs)
    ∙ ap (λ (u : List ℕ). xs ++ u) (append-nil text)

-- all commands were answered, and then all that waited was written
pub record IsEnded (m n : Moment) (p : OutputData) : Type 0 where
  pub done : IsDone m n
  pub fresh : m.input.pending ≡ []
  pub empty : m.output.waiting ≡ []
  pub says : Says n.output p []
  pub emptied : p.waiting ≡ []

ended_took : (m n : Moment) (p : OutputData) (e : IsEnded m n p) → Consumes m.input.left n.input.left e.done.bytes
ended_took m n p e =
    let P : List ℕ → Type 0 = λ u. Consumes (prepend_known u m.input.left) (unread n.input) e.done.bytes in
    end_took m.input.left n.input.pending e.done.bytes n.input.left
    (start_took m.input.left (unread n.input) e.done.bytes (subst P e.fresh e.done.moves.takes.took)) e.done.ended

ended_says : (m n : Moment) (p : OutputData) (e : IsEnded m n p) → Appends m.output.written p.written (text_after [] e.done.commands)
ended_says m n p e =
    let text = text_after [] e.done.commands in
    end_says m.output.written p.written m.output.waiting p.waiting text e.empty e.emptied
    (Says-trans m.output n.output p text [] e.done.moves.says e.says).says

pub whole_session : (m n : Moment) (p : OutputData) → IsEnded m n p → IsWholeSession m.input.left n.input.left m.output.written p.written
whole_session m n p e = (
  e.done.bytes,
  text_after [] e.done.commands,
  ended_took m n p e,
  end_left n.input.pending n.input.left e.done.ended,
  (e.done.commands, e.done.run.are, refl),
  ended_says m n p e,
)

only_session : (left left_after written written_after : Option (List ℕ)) (bytes : List ℕ) (commands : List Command)
    → Consumes left left_after bytes → IsAtEnd left_after → IsRun Input (pieces_of bytes) commands
    → Appends written written_after (text_after [] commands)
    → IfSome left (λ input. (output : List ℕ) → IsSession input output → Appends written written_after output)
only_session None left_after written written_after bytes commands took ended run says = tt
only_session (Some input) None written written_after bytes commands took ended run says = absurd took
only_session (Some input) (Some rest) written written_after bytes commands took ended run says = λ output (others, are, is).
    let all : input ≡ bytes = took ∙ ap (λ (u : List ℕ). bytes ++ u) ended ∙ append-nil bytes in
    let P : List ℕ → Type 0 = λ u. AreCommands (pieces_of u) others in
    let same : others ≡ commands = run.only others (subst P all are) in
    let Q : List ℕ → Type 0 = λ u. Appends written written_after u in
    subst Q (ap (λ (u : List Command). text_after [] u) (sym same) ∙ sym is) says

pub only_whole : (m n : Moment) (p : OutputData) → IsEnded m n p
    → IfSome m.input.left (λ input. (output : List ℕ) → IsSession input output → Appends m.output.written p.written output)
only_whole m n p e =
    only_session m.input.left n.input.left m.output.written p.written e.done.bytes e.done.commands
    (ended_took m n p e) (end_left n.input.pending n.input.left e.done.ended) e.done.run (ended_says m n p e)

-- such a session is a whole session. The values of its source and sink are those of the moments
pub whole_at : (m n : Moment) (p : OutputData) (left left_after written written_after : Option (List ℕ)) → IsEnded m n p
    → m.input.left ≡ left → left_after ≡ n.input.left → m.output.written ≡ written → written_after ≡ p.written
    → IsWholeSession left left_after written written_after
whole_at m n p left left_after written written_after e l la w wa =
    let P : Option (List ℕ) → Type 0 = λ u. IsWholeSession u left_after written written_after in
    let Q : Option (List ℕ) → Type 0 = λ u. IsWholeSession m.input.left u written written_after in
    let R : Option (List ℕ) → Type 0 = λ u. IsWholeSession m.input.left n.input.left u written_after in
    let S : Option (List ℕ) → Type 0 = λ u. IsWholeSession m.input.left n.input.left m.output.written u in
    subst P l (subst Q (sym la) (subst R w (subst S (sym wa) (whole_session m n p e))))

pub only_at : (m n : Moment) (p : OutputData) (left written written_after : Option (List ℕ)) → IsEnded m n p
    → m.input.left ≡ left → m.output.written ≡ written → written_after ≡ p.written
    → IfSome left (λ input. (output : List ℕ) → IsSession input output → Appends written written_after output)
only_at m n p left written written_after e l w wa =
    let P : Option (List ℕ) → Type 0 = λ u. IfSome u (λ input. (output : List ℕ) → IsSession input output → Appends written written_after output) in
    let R : Option (List ℕ) → Type 0 = λ u. IfSome m.input.left (λ input. (output : List ℕ) → IsSession input output → Appends u written_after output) in
    let S : Option (List ℕ) → Type 0 = λ u. IfSome m.input.left (λ input. (output : List ℕ) → IsSession input output → Appends m.output.written u output) in
    subst P l (subst R w (subst S (sym wa) (only_whole m n p e)))

-- no more reads were made than were left before them
pub few_reads : (i j : InputData) (most : ℕ) (bytes : List ℕ) → i.reads_left ≡ most → Takes i j bytes → j.reads ≤ i.reads + most
few_reads i j most bytes e h = let counted = h.counted in omega arith

pub answered : {A : Type 0} (format : Format) (taken other : CollectedText A) (commands : List Command) → taken ≡ other → IsAnsweredAs format other commands → IsAnsweredAs format taken commands
answered {A} format taken other commands e h = let P : CollectedText A → Type 0 = λ t. IsAnsweredAs format t commands in subst P (sym e) h

pub says_nil : (o p : OutputData) (text : List ℕ) → Says o p text → Says o p (text ++ [])
says_nil o p text h = let P : List ℕ → Type 0 = λ u. Says o p u in subst P (sym (append-nil text)) h

-- if `Q` follows from `P`, and `P` holds if a call ended well, `Q` holds if it ended well
pub ok_map : {X E P Q : Type 0} (r : Result X E) → (P → Q) → OnOk r P → OnOk r Q
ok_map (Ok x) f h = f h
ok_map (Err e) f h = h

-- a command's answer, as a text with nothing after it
pub ok_says : {E : Type 0} (r : Result (Unit {0}) E) (o p : OutputData) (text : List ℕ) → OnOk r (Says o p text) → OnOk r (Says o p (text ++ []))
ok_says (Ok x) o p text h = says_nil o p text h
ok_says (Err e) o p text h = h

-- if the list of a choice of files isn't refused, the command asks for the operation with this list
pub chosen_asks : (op : List (List ℕ) → OpData) (pattern : Option (List ℕ)) (patterns : List (List ℕ)) → IsListOf pattern (Some patterns)
    → chosen_by op pattern ≡ Ask (op patterns) ∷ []
chosen_asks op None patterns h = ap (λ (u : List (List ℕ)). Ask (op u) ∷ []) (sym h)
chosen_asks op (Some pattern) patterns h =
    rw (le-leb (length pattern) max_pattern_bytes h.1) (ap (λ (u : List (List ℕ)). Ask (op u) ∷ []) (sym h.0))
