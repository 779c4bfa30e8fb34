-- How a fault in the middle of a command becomes one of the session: what was taken and answered before stays so.
use Rattle.std.proofs.Common.{◌≡◌, ◌≢◌, ◌⊎◌, ℕ, ◌+◌, ◌<◌, ◌≤◌, List, [], ◌∷◌, ◌++◌, length, refl, sym, ◌∙◌, ap, ap₂, subst, arith, append_assoc, append-nil, length-append, codes, inl, inr, Bool, true, false, cond, leb, Option, None, Some, Result, Ok, Err, IfErr}
use Rattle.std.proofs.lemmas.Bool.{leb-true}
use Rattle.std.proofs.lemmas.List.Concat.{flat_map-append}
use Rattle.std.specs.Io.KnownBytes.{Consumes, IsAtEnd}
use Rattle.covdata.specs.Delimiters.{line_feed}
use Rattle.covline.specs.Lines.{before_feed, strip, line_of, pieces_of}
use Rattle.covbook.specs.Op.{OpData, RenameOp, SubmitOp}
use Rattle.covdata.specs.Row.{SubmissionData}
use Rattle.covreport.specs.Choice.{max_pattern_bytes}
use Rattle.covbook.specs.Step.{answer_of, max_entries, table_of}
use Rattle.covsession.specs.Broken.{Breaks, Fails, FailsAnswering, FailsAfter, FailsGiven, FailsSaying, FailsTaking, IsBroken, IsCausedBy, IsIdle, IsLinePart, IsOpen, IsPart, StopsAs}
use Rattle.covsession.specs.Command.{Command, Format, Announces, IsBody, Ask, RefusePattern, Submit, Unfinished, IsListOf, IsWord, asked_by, chosen_by, ops_asked, ops_of}
use Rattle.covsession.specs.Run.{IsDone, IsRun, IsSoFar}
use Rattle.covsession.specs.Session.{answer_text, said, text_after}
use Rattle.covsession.specs.Streams.{InputData, OutputData, EndsAs, Moment, Says, TakesLine, TakesPieces, line_pieces, moment, unread}
use Rattle.covdata.specs.declared.fault.ReadFault.{ReadFault}
use Rattle.covsession.specs.Text.{IsAnsweredAs, IsTaken, IsReported, asked_for}
use Rattle.covsession.specs.declared.session.command.word.Word.{Word}
use Rattle.covsession.specs.declared.session.fault.SessionFault.{SessionFault}
use Rattle.covsession.specs.declared.session.fault.SessionFault.TheVariants.{Read, Write, Memory, Full}
use Rattle.covsession.specs.declared.session.text.LineEnd.{LineEnd}
use Rattle.covsession.specs.declared.session.text.LineEnd.TheVariants.{Feed, Input}
use Rattle.covsession.specs.declared.session.text.CollectedText.{CollectedText}
use Rattle.covsession.proofs.SessionBreaks.{IsQuiet, breaks_memory, breaks_more, fails_after, fails_output, fails_sent, fails_write, no_read, taking_after, taking_first}
use Rattle.covsession.proofs.SessionBytes.{Consumes-trans}
use Rattle.covsession.proofs.SessionMoves.{consumes_none}
use Rattle.covsession.proofs.SessionPieces.{cut_append, cut_line, line_of_bytes}
use Rattle.covsession.proofs.SessionOpen.{open_line}
use Rattle.covsession.proofs.SessionRun.{run_more}
use Rattle.covsession.proofs.SessionSteps.{IsLast, line_run, line_taken, more_text, open_rename_run, pieces_trans, rename_run, taken_run}

-- ---- what is said

-- a fault cut the answer to one command short, which asks the book
pub asking_fails : (o p : OutputData) (before : List OpData) (op : OpData) (fault : SessionFault)
    → Breaks o p fault (answer_text (answer_of (table_of before) op)) → FailsSaying o p before (Ask op ∷ []) fault
asking_fails o p before op fault h = record {
  breaks = breaks_more o p fault (answer_text (answer_of (table_of before) op)) [] h;
  full = λ is. omega arith;
}

-- a fault other than `Full` cut the answers to any commands short
pub saying_fails : (o p : OutputData) (before : List OpData) (commands : List Command) (fault : SessionFault)
    → fault ≢ Full → Breaks o p fault (text_after (table_of before) commands) → FailsSaying o p before commands fault
saying_fails o p before commands fault other h = record { breaks = h; full = λ is. absurd (other is) }

-- a fault cut the answer to a submission short
pub submitting_fails : (o p : OutputData) (before : List OpData) (submission : SubmissionData) (fault : SessionFault)
    → Breaks o p fault (answer_text (answer_of (table_of before) (SubmitOp submission))) → FailsSaying o p before (Submit submission ∷ []) fault
submitting_fails o p before submission fault h = record {
  breaks = breaks_more o p fault (answer_text (answer_of (table_of before) (SubmitOp submission))) [] h;
  full = λ is. omega arith;
}

-- the same from the result of the call that says the answer
module _ (o p : OutputData) (before : List OpData) where
  pub err_asking : (op : OpData) (r : Result (Unit {0}) SessionFault) → IfErr r (λ f. Breaks o p f (answer_text (answer_of (table_of before) op)))
      → IfErr r (λ f. FailsSaying o p before (Ask op ∷ []) f)
  err_asking op (Ok x) h = tt
  err_asking op (Err f) h = asking_fails o p before op f h

  pub err_saying : (commands : List Command) (text : List ℕ) (r : Result (Unit {0}) SessionFault) → text_after (table_of before) commands ≡ text ++ []
      → IfErr r (λ f. f ≢ Full) → IfErr r (λ f. Breaks o p f text) → IfErr r (λ f. FailsSaying o p before commands f)
  err_saying commands text (Ok x) is other h = tt
  err_saying commands text (Err f) is other h =
      let P : List ℕ → Type 0 = λ u. Breaks o p f u in
      saying_fails o p before commands f other (subst P (sym is) (breaks_more o p f text [] h))

  pub err_read : (read : Result SubmissionData ReadFault) (given submission : SubmissionData) (r : Result (Unit {0}) SessionFault) → read ≡ Ok submission → given ≡ submission
      → IfErr r (λ f. Breaks o p f (answer_text (answer_of (table_of before) (SubmitOp given))))
      → IfErr r (λ f. (Breaks o p f [] × (f ≢ Full)) ⊎ (IsReported read × FailsSaying o p before (asked_for read) f))
  err_read read given submission (Ok x) is same h = tt
  err_read read given submission (Err f) is same h =
      let P : SubmissionData → Type 0 = λ s. Breaks o p f (answer_text (answer_of (table_of before) (SubmitOp s))) in
      let Q : Result SubmissionData ReadFault → Type 0 = λ u. IsReported u × FailsSaying o p before (asked_for u) f in
      inr (subst Q (sym is) (tt, submitting_fails o p before submission f (subst P same h)))

  -- memory ran out before the answer was said
  pub memory_saying : (commands : List Command) (fault : SessionFault) → p ≡ o → fault ≡ Memory → FailsSaying o p before commands fault
  memory_saying commands fault same is =
      let P : OutputData → Type 0 = λ q. FailsSaying o q before commands fault in
      let Q : SessionFault → Type 0 = λ f. FailsSaying o o before commands f in
      let text = text_after (table_of before) commands in
      subst P (sym same) (subst Q (sym is) (saying_fails o o before commands Memory (λ e. (let no : ⊥ = cc in no)) (breaks_memory o Memory text refl)))

-- if what was taken of a text is these commands, and a fault cut the answers to them short, the fault came in the text's answer
pub err_given : {A : Type 0} (format : Format) (taken : CollectedText A) (o p : OutputData) (before : List OpData) (commands : List Command) (r : Result (Unit {0}) SessionFault)
    → IsAnsweredAs format taken commands → IfErr r (λ f. FailsSaying o p before commands f) → IfErr r (λ f. FailsGiven format taken o p before f)
err_given format taken o p before commands (Ok x) answered h = tt
err_given format taken o p before commands (Err f) answered h = inr (commands, answered, h)

-- a pattern that is too long is refused
chosen_refused_at : (op : List (List ℕ) → OpData) (pattern : List ℕ) (fits : Bool) → leb (length pattern) max_pattern_bytes ≡ fits → max_pattern_bytes < length pattern
    → cond fits (Ask (op (pattern ∷ [])) ∷ []) (RefusePattern ∷ []) ≡ RefusePattern ∷ []
chosen_refused_at op pattern true e long = absurd (let few = leb-true (length pattern) max_pattern_bytes e in omega arith)
chosen_refused_at op pattern false e long = refl

pub chosen_refused : (op : List (List ℕ) → OpData) (pattern : Option (List ℕ)) → IsListOf pattern None → chosen_by op pattern ≡ RefusePattern ∷ []
chosen_refused op None h = absurd h
chosen_refused op (Some pattern) h = chosen_refused_at op pattern (leb (length pattern) max_pattern_bytes) refl h

-- ---- one command

-- a fault cut the answer to a command of one line short
pub fails_line : (m n o : Moment) (line : List ℕ) (ending : LineEnd) (word : Word) (before : List OpData) (fault : SessionFault)
    → TakesLine m n line ending → IsWord (strip line) word → IsLast ending word → o.input ≡ n.input
    → FailsSaying n.output o.output before (asked_by word) fault → FailsAnswering m o before fault
fails_line m n o line ending word before fault h is last same says =
    let r = line_run ending line word h.one_line is last in
    let P : List ℕ → Type 0 = λ u. Breaks n.output o.output fault u in
    let Q : List OpData → Type 0 = λ u. fault ≡ Full → 0 < length u in
    record {
      pieces = line_pieces ending line;
      commands = r.commands;
      ending = ending;
      taken_at = n;
      taken = line_taken m n line ending h;
      same_input = same;
      says = record { breaks = subst P (sym (r.same_text (table_of before))) says.breaks; full = subst Q (sym r.same_ops) says.full };
      run = r.run;
    }

-- a fault came before the whole of a command's first line was taken
pub fails_in_line : (m n : Moment) (fault : SessionFault) → FailsTaking IsLinePart m n fault → FailsTaking (IsPart IsOpen) m n fault
fails_in_line m n fault h = taking_first IsOpen m n fault open_line h

-- after a line for which `Such` holds, pieces for which `Part` holds are still at most one command, together with this line
abbrev pub Opens : (List ℕ → Type 0) → (List (List ℕ) → Type 0) → Type 0
Opens Such Part = (first : List ℕ) (pieces : List (List ℕ)) → Such (line_of first) → Part pieces → IsOpen (first ∷ pieces)

-- such a line, and then a part of the pieces that belong to it, are a part of one command
part_after : (Such : List ℕ → Type 0) (Part : List (List ℕ) → Type 0) (line bytes : List ℕ) → before_feed line ≡ line → Such (strip line) → Opens Such Part
    → IsPart Part bytes → IsPart IsOpen ((line ++ line_feed ∷ []) ++ bytes)
part_after Such Part line bytes one is opens p = record {
  pieces = (line ++ line_feed ∷ []) ∷ p.pieces;
  done = (line ++ line_feed ∷ []) ++ p.done;
  line = p.line;
  is = ap (λ (u : List ℕ). (line ++ line_feed ∷ []) ++ u) p.is ∙ sym (append_assoc (line ++ line_feed ∷ []) p.done p.line);
  cut = cut_append Feed (line ++ line_feed ∷ []) p.done ((line ++ line_feed ∷ []) ∷ []) p.pieces (cut_line line one) p.cut;
  one_line = p.one_line;
  such = opens (line ++ line_feed ∷ []) p.pieces (subst Such (sym (line_of_bytes Feed line one)) is) p.such;
}

-- a fault came while the lines that belong to a line were taken
pub fails_after_line : (Such : List ℕ → Type 0) (Part : List (List ℕ) → Type 0) (m n o : Moment) (line : List ℕ) (ending : LineEnd) (fault : SessionFault)
    → TakesLine m n line ending → ending ≡ Feed → Such (strip line) → Opens Such Part → FailsTaking (IsPart Part) n o fault → FailsTaking (IsPart IsOpen) m o fault
fails_after_line Such Part m n o line ending fault h feed is opens k =
    let F : LineEnd → Type 0 = λ u. TakesLine m n line u in
    let taken : TakesLine m n line Feed = subst F feed h in
    taking_after (IsPart Part) (IsPart IsOpen) m n o fault (line ++ line_feed ∷ []) taken.moves
    (λ bytes p. part_after Such Part line bytes h.one_line is opens p) k

-- a line was taken, and then the lines that belong to it, and a fault cut the answer short. Put together: a whole command was
-- taken, and a fault cut its answer short
pub fails_with_line : (Such : List ℕ → Type 0) (m n o : Moment) (line : List ℕ) (first : LineEnd) (before : List OpData) (fault : SessionFault)
    → TakesLine m n line first → first ≡ Feed → Such (strip line) → FailsAfter Such n o before fault → FailsAnswering m o before fault
fails_with_line Such m n o line first before fault h feed is t =
    let F : LineEnd → Type 0 = λ u. TakesLine m n line u in
    let taken : TakesLine m n line Feed = subst F feed h in
    record {
      pieces = (line ++ line_feed ∷ []) ∷ t.pieces;
      commands = t.commands;
      ending = t.ending;
      taken_at = t.taken_at;
      taken = pieces_trans m n t.taken_at ((line ++ line_feed ∷ []) ∷ []) t.pieces t.ending [] [] (line_taken m n line Feed taken) t.taken;
      same_input = t.same_input;
      says = t.says;
      run = t.run (line ++ line_feed ∷ []) (subst Such (sym (line_of_bytes Feed line h.one_line)) is);
    }

pub either_with_line : (Such : List ℕ → Type 0) (Part : List (List ℕ) → Type 0) (m n o : Moment) (line : List ℕ) (first : LineEnd) (before : List OpData) (fault : SessionFault)
    → TakesLine m n line first → first ≡ Feed → Such (strip line) → Opens Such Part → FailsTaking (IsPart Part) n o fault ⊎ FailsAfter Such n o before fault
    → FailsTaking (IsPart IsOpen) m o fault ⊎ FailsAnswering m o before fault
either_with_line Such Part m n o line first before fault h feed is opens (inl t) = inl (fails_after_line Such Part m n o line first fault h feed is opens t)
either_with_line Such Part m n o line first before fault h feed is opens (inr t) = inr (fails_with_line Such m n o line first before fault h feed is t)

-- a text was taken, and answered in part or not at all
pub given_fails : {A : Type 0} (format : Format) (taken : CollectedText A) (m n o : Moment) (pieces : List (List ℕ)) (ending : LineEnd) (before : List OpData) (fault : SessionFault)
    → TakesPieces m n pieces ending [] → IsTaken pieces ending taken → o.input ≡ n.input → FailsGiven format taken n.output o.output before fault
    → FailsTaking (IsPart IsBody) m o fault ⊎ FailsAfter (λ line. Announces format line) m o before fault
given_fails format taken m n o pieces ending before fault h is same (inl k) =
    inl (record {
      fails = fails_after m n o fault h.bytes [] [] [] h.moves (fails_output n o fault [] same k.0);
      not_full = k.1;
      part = λ e. absurd (no_read fault n.output.failed_writes o.output.failed_writes k.0.failed e);
    })
given_fails format taken m n o pieces ending before fault h is same (inr (commands, answered, says)) =
    inr (record {
      pieces = pieces;
      commands = commands;
      ending = ending;
      taken_at = n;
      taken = h;
      same_input = same;
      says = says;
      run = taken_run format taken pieces ending commands is answered;
    })

-- both names were taken, and the answer to the rename was cut short
pub rename_fails : (m n o : Moment) (old new : List ℕ) (ending : LineEnd) (before : List OpData) (fault : SessionFault)
    → (second : List ℕ) × (third : List ℕ) × TakesPieces m n (second ∷ third ∷ []) ending [] × (line_of second ≡ old) × (line_of third ≡ new)
    → o.input ≡ n.input → Breaks n.output o.output fault (answer_text (answer_of (table_of before) (RenameOp old new)))
    → FailsAfter (λ line. line ≡ codes "rename") m o before fault
rename_fails m n o old new ending before fault (second, third, taken, one, two) same h =
    let R : List Command → Type 0 = λ u. (first : List ℕ) → line_of first ≡ codes "rename" → IsRun ending (first ∷ second ∷ third ∷ []) u in
    record {
      pieces = second ∷ third ∷ [];
      commands = Ask (RenameOp old new) ∷ [];
      ending = ending;
      taken_at = n;
      taken = taken;
      same_input = same;
      says = asking_fails n.output o.output before (RenameOp old new) fault h;
      run = subst R (ap₂ (λ (x y : List ℕ). Ask (RenameOp x y) ∷ []) one two) (λ first word. rename_run ending first second third word);
    }

-- the input ended before both names were there, and the answer to that was cut short
pub unfinished_fails : (m n o : Moment) (before : List OpData) (fault : SessionFault)
    → (pieces : List (List ℕ)) × TakesPieces m n pieces Input [] × (length pieces < 2)
    → o.input ≡ n.input → fault ≢ Full → Breaks n.output o.output fault (said (codes "unfinished"))
    → FailsAfter (λ line. line ≡ codes "rename") m o before fault
unfinished_fails m n o before fault (pieces, taken, few) same other h = record {
  pieces = pieces;
  commands = Unfinished ∷ [];
  ending = Input;
  taken_at = n;
  taken = taken;
  same_input = same;
  says = saying_fails n.output o.output before (Unfinished ∷ []) fault other (breaks_more n.output o.output fault (said (codes "unfinished")) [] h);
  run = λ first word. open_rename_run first pieces word few;
}

-- ---- the session

module _ (m n o : Moment) (history : List OpData) (fault : SessionFault) (s : IsSoFar m n history) where
  -- a fault came before the whole of the next command was taken
  pub taking_breaks : FailsTaking (IsPart IsOpen) n o fault → IsBroken m o fault
  taking_breaks h =
      let P : List ℕ → Type 0 = λ u. Fails m o fault u u in
      record {
        pieces = s.pieces;
        commands = s.commands;
        answered = s.commands;
        last = [];
        are = sym (append-nil s.commands);
        ending = Feed;
        whole = s.bytes;
        more = h.fails.bytes;
        took = Consumes-trans (unread m.input) (unread n.input) (unread o.input) s.bytes h.fails.bytes s.moves.takes.took h.fails.took;
        fails = subst P (append-nil (text_after [] s.commands)) (fails_after m n o fault s.bytes (text_after [] s.commands) [] [] s.moves h.fails);
        cut = s.cut;
        run = s.run;
        ended = λ e. absurd (let no : ⊥ = cc in no);
        full = λ is. absurd (h.not_full is);
        filled = λ is. absurd (h.not_full is);
        stalled = λ is. (refl, refl, h.part is);
      }

  taken_too : (a : FailsAnswering n o history fault) → Consumes (unread m.input) (unread o.input) ((s.bytes ++ a.taken.bytes) ++ [])
  taken_too a =
      let k = a.taken_at in
      let P : InputData → Type 0 = λ i. Consumes (unread m.input) (unread i) ((s.bytes ++ a.taken.bytes) ++ []) in
      subst P (sym a.same_input)
      (Consumes-trans (unread m.input) (unread k.input) (unread k.input) (s.bytes ++ a.taken.bytes) []
      (Consumes-trans (unread m.input) (unread n.input) (unread k.input) s.bytes a.taken.bytes s.moves.takes.took a.taken.moves.takes.took)
      (consumes_none (unread k.input)))

  fails_too : (a : FailsAnswering n o history fault) → Fails m o fault (text_after [] s.commands) (text_after [] (s.commands ++ a.commands))
  fails_too a =
      let k = a.taken_at in
      let before = text_after [] s.commands in
      let text = text_after (table_of history) a.commands in
      let P : List ℕ → Type 0 = λ u. Fails m o fault before u in
      let Q : List ℕ → Type 0 = λ u. Fails m o fault u (before ++ text) in
      subst P (more_text history s.commands a.commands s.asked)
      (subst Q (append-nil before)
      (fails_after m n o fault s.bytes before [] text s.moves
      (fails_after n k o fault a.taken.bytes [] [] text a.taken.moves (fails_output k o fault text a.same_input a.says.breaks))))

  ends_too : (a : FailsAnswering n o history fault) → a.ending ≡ Input → IsAtEnd (unread o.input)
  ends_too a e =
      let E : LineEnd → Type 0 = λ u. EndsAs u n.input a.taken_at.input in
      let P : InputData → Type 0 = λ i. IsAtEnd (unread i) in
      subst P (sym a.same_input) (subst E e a.taken.ended)

  full_too : (a : FailsAnswering n o history fault) → (fault ≡ Full → length history ≡ max_entries) → fault ≡ Full
      → max_entries < length (ops_of (s.commands ++ a.commands))
  full_too a full is =
      let some = a.says.full is in
      let all = full is in
      let before : length history ≡ length (ops_of s.commands) = ap length s.asked in
      let joined : length (ops_of (s.commands ++ a.commands)) ≡ length (ops_of s.commands ++ ops_of a.commands) =
      ap length (flat_map-append ops_asked s.commands a.commands) in
      let sum = length-append (ops_of s.commands) (ops_of a.commands) in
      omega arith

  -- a fault cut the answer to the next command short
  pub answering_breaks : (fault ≡ Full → length history ≡ max_entries) → FailsAnswering n o history fault → IsBroken m o fault
  answering_breaks full a = record {
    pieces = s.pieces ++ a.pieces;
    commands = s.commands ++ a.commands;
    answered = s.commands;
    last = a.commands;
    are = refl;
    ending = a.ending;
    whole = s.bytes ++ a.taken.bytes;
    more = [];
    took = taken_too a;
    fails = fails_too a;
    cut = cut_append a.ending s.bytes a.taken.bytes s.pieces a.pieces s.cut a.taken.cut;
    run = run_more a.ending s.pieces a.pieces s.commands a.commands s.run a.run;
    ended = λ e. (refl, ends_too a e);
    full = full_too a full;
    filled = λ is. sym (ap length s.asked) ∙ full is;
    stalled = λ is. absurd (no_read fault a.taken_at.output.failed_writes o.output.failed_writes a.says.breaks.failed is);
  }

  pub either_breaks : (fault ≡ Full → length history ≡ max_entries) → FailsTaking (IsPart IsOpen) n o fault ⊎ FailsAnswering n o history fault → IsBroken m o fault
  either_breaks full (inl h) = taking_breaks h
  either_breaks full (inr a) = answering_breaks full a

-- a fault came while the last answers were sent on
pub end_breaks : (m n o : Moment) (fault : SessionFault) → IsDone m n → o.input ≡ n.input → fault ≢ Full → Breaks n.output o.output fault [] → IsBroken m o fault
end_breaks m n o fault d same other h =
    let P : InputData → Type 0 = λ i. Consumes (unread m.input) (unread i) (d.bytes ++ []) in
    let E : InputData → Type 0 = λ i. IsAtEnd (unread i) in
    let T : List ℕ → Type 0 = λ u. Fails m o fault u u in
    record {
      pieces = pieces_of d.bytes;
      commands = d.commands;
      answered = d.commands;
      last = [];
      are = sym (append-nil d.commands);
      ending = Input;
      whole = d.bytes;
      more = [];
      took = subst P (sym same) (Consumes-trans (unread m.input) (unread n.input) (unread n.input) d.bytes [] d.moves.takes.took (consumes_none (unread n.input)));
      fails = subst T (append-nil (text_after [] d.commands))
          (fails_after m n o fault d.bytes (text_after [] d.commands) [] [] d.moves (fails_output n o fault [] same h));
      cut = refl;
      run = d.run;
      ended = λ e. (refl, subst E (sym same) d.ended);
      full = λ is. absurd (other is);
      filled = λ is. absurd (other is);
      stalled = λ is. absurd (no_read fault n.output.failed_writes o.output.failed_writes h.failed is);
    }

-- the same from the result of the call that sends the last answers on
pub err_end : (m n o : Moment) (r : Result (Unit {0}) SessionFault) → IsDone m n → o.input ≡ n.input → IfErr r (λ f. f ≡ Write) → IfErr r (λ f. Breaks n.output o.output f [])
    → IfErr r (λ f. IsBroken m o f)
err_end m n o (Ok x) d same is h = tt
err_end m n o (Err f) d same is h = end_breaks m n o f d same (λ full. (let e : Write ≡ Full = sym is ∙ full in let no : ⊥ = cc in no)) h

-- a session ended in a fault at `n`. At the later moment `o`, it has taken no more bytes and has said nothing more
module _ (m n o : Moment) (fault : SessionFault) (same : o.input ≡ n.input) (b : IsBroken m n fault) where
  still_took : Consumes (unread m.input) (unread o.input) (b.whole ++ b.more)
  still_took = let P : InputData → Type 0 = λ i. Consumes (unread m.input) (unread i) (b.whole ++ b.more) in subst P (sym same) b.took

  still_ended : b.ending ≡ Input → (b.more ≡ []) × IsAtEnd (unread o.input)
  still_ended e = let P : InputData → Type 0 = λ i. IsAtEnd (unread i) in ((b.ended e).0, subst P (sym same) (b.ended e).1)

  -- what was said was sent on
  broken_sent : fault ≢ Write → fault ≢ Read → Says n.output o.output [] → IsBroken m o fault
  broken_sent no_write no_read says = record {
    pieces = b.pieces;
    commands = b.commands;
    answered = b.answered;
    last = b.last;
    are = b.are;
    ending = b.ending;
    whole = b.whole;
    more = b.more;
    took = still_took;
    fails = fails_sent m n o fault (text_after [] b.answered) (text_after [] b.commands) same no_write no_read b.fails says;
    cut = b.cut;
    run = b.run;
    ended = still_ended;
    full = b.full;
    filled = b.filled;
    stalled = b.stalled;
  }

  -- a write failed while it was sent on
  broken_write : fault ≢ Write → IsQuiet m n → Breaks n.output o.output Write [] → IsBroken m o Write
  broken_write no_write quiet breaks = record {
    pieces = b.pieces;
    commands = b.commands;
    answered = b.answered;
    last = b.last;
    are = b.are;
    ending = b.ending;
    whole = b.whole;
    more = b.more;
    took = still_took;
    fails = fails_write m n o fault (text_after [] b.answered) (text_after [] b.commands) same no_write quiet b.fails breaks;
    cut = b.cut;
    run = b.run;
    ended = still_ended;
    full = λ is. absurd (let no : ⊥ = cc in no);
    filled = λ is. absurd (let no : ⊥ = cc in no);
    stalled = λ is. absurd (let no : ⊥ = cc in no);
  }

  -- nothing was written between the two moments
  broken_same : o.output ≡ n.output → IsBroken m o fault
  broken_same out =
      let P : InputData → Type 0 = λ i. IsBroken m (moment i o.output) fault in
      let Q : OutputData → Type 0 = λ p. IsBroken m (moment n.input p) fault in
      subst P (sym same) (subst Q (sym out) b)

-- how a session ends after a fault
abbrev pub IsStopped : Moment → Moment → SessionFault → Type 0
IsStopped m o ended = IsBroken m o ended × (ended ≢ Write → IsIdle o.output)

module _ (m n o : Moment) (ended : SessionFault) (same : o.input ≡ n.input) where
  either_stops : (fault : SessionFault) → IsBroken m n fault → fault ≢ Write → fault ≢ Read → IsQuiet m n
      → (Says n.output o.output [] × IsIdle o.output × (ended ≡ fault)) ⊎ (Breaks n.output o.output Write [] × (ended ≡ Write)) → IsStopped m o ended
  either_stops fault b no_write no_read quiet (inl (says, idle, is)) =
      let P : SessionFault → Type 0 = λ f. IsStopped m o f in
      subst P (sym is) (broken_sent m n o fault same b no_write no_read says, λ no. idle)
  either_stops fault b no_write no_read quiet (inr (breaks, is)) =
      let P : SessionFault → Type 0 = λ f. IsStopped m o f in
      subst P (sym is) (broken_write m n o fault same b no_write quiet breaks, λ no. absurd (no refl))

  pub stopped : (fault : SessionFault) → IsBroken m n fault → StopsAs n.output o.output fault ended → IsStopped m o ended
  stopped Read b (out, is) =
      let P : SessionFault → Type 0 = λ f. IsStopped m o f in
      subst P (sym is) (broken_same m n o Read same b out, λ no. subst IsIdle (sym out) (b.fails.idle refl).0)
  stopped Write b (out, is) =
      let P : SessionFault → Type 0 = λ f. IsStopped m o f in
      subst P (sym is) (broken_same m n o Write same b out, λ no. absurd (no refl))
  stopped Memory b how = either_stops Memory b (λ e. (let no : ⊥ = cc in no)) (λ e. (let no : ⊥ = cc in no)) b.fails.cause how
  stopped Full b how = either_stops Full b (λ e. (let no : ⊥ = cc in no)) (λ e. (let no : ⊥ = cc in no)) b.fails.cause how

-- at most one write failed
pub few_failed : (m n : Moment) (fault : SessionFault) → IsBroken m n fault → n.output.failed_writes ≤ m.output.failed_writes + 1
few_failed m n fault b = few_caused m n fault b.fails.cause
  where
    few_caused : (m n : Moment) (fault : SessionFault) → IsCausedBy fault m n → n.output.failed_writes ≤ m.output.failed_writes + 1
    few_caused m n Read h = let same = h.0 in omega arith
    few_caused m n Write h = let more = h.1 in omega arith
    few_caused m n Memory h = let same = h.1 in omega arith
    few_caused m n Full h = let same = h.1 in omega arith
