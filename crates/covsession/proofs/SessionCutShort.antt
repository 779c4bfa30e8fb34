-- What a session that was cut short leaves, as its source and its sink have it.
use Rattle.std.proofs.Common.{◌≡◌, ◌≢◌, ℕ, ◌+◌, ◌^◌, ◌<◌, ◌≤◌, List, [], ◌∷◌, ◌++◌, length, Option, None, Some, refl, sym, ◌∙◌, ap, subst, arith, append_assoc, append-nil, length-append, inl, inr, Result, Ok, Err, IfErr, IfSome, OnOk}
use Rattle.std.proofs.lemmas.List.{append_cancel_left}
use Rattle.std.proofs.lemmas.List.Concat.{flat_map-append}
use Rattle.std.specs.Io.KnownBytes.{Consumes, Appends, IsAtEnd, append_known, prepend_known}
use Rattle.covbook.specs.Step.{max_entries, table_of}
use Rattle.covline.specs.Lines.{pieces_of}
use Rattle.covsession.specs.Broken.{IsBroken, IsCausedBy, IsIdle, IsOpen, IsPart}
use Rattle.covsession.specs.Command.{Command, AreCommands, ops_asked, ops_of}
use Rattle.covsession.specs.Fault.{HasAnswered, HasBegun, HasCause, IsBeginning, IsCutShort, MayFollow, calls}
use Rattle.covsession.specs.Run.{GoOnOnly, IsRun, IsSentOn}
use Rattle.covsession.specs.Session.{IsSession, IsWholeSession, text_after}
use Rattle.covsession.specs.Streams.{AreCut, Grows, InputData, Moment, OutputData, line_pieces, unread}
use Rattle.covsession.specs.declared.session.fault.SessionFault.{SessionFault}
use Rattle.covsession.specs.declared.session.fault.SessionFault.TheVariants.{Read, Write, Memory, Full}
use Rattle.covsession.specs.declared.session.text.LineEnd.{LineEnd}
use Rattle.covsession.specs.declared.session.text.LineEnd.TheVariants.{Feed, Input}
use Rattle.covsession.proofs.SessionMoves.{appends_none, consumes_none}
use Rattle.covsession.proofs.SessionPieces.{cut_last}
use Rattle.covsession.proofs.SessionRun.{text_more}
use Rattle.covsession.proofs.SessionSteps.{IsEnded, few_reads, ok_map, only_at, whole_at}

-- ---- what was written

beginning_trans : (xs ys zs : List ℕ) → IsBeginning xs ys → IsBeginning ys zs → IsBeginning xs zs
beginning_trans xs ys zs (some, e) (more, f) = (some ++ more, f ∙ ap (λ (u : List ℕ). u ++ more) e ∙ append_assoc xs some more)

-- if nothing waited before this text was said, what was written is a beginning of it
pub text_begun : (old new : Option (List ℕ)) (waiting lost text : List ℕ) → waiting ≡ [] → Appends (append_known old waiting) (append_known new lost) text
    → Grows old new → HasBegun old new text
text_begun None new waiting lost text none says grows = ([], tt, (text, refl))
text_begun (Some xs) None waiting lost text none says grows = absurd says
text_begun (Some xs) (Some ys) waiting lost text none says (part, e) =
    let whole : xs ++ (part ++ lost) ≡ xs ++ text =
    sym (append_assoc xs part lost) ∙ ap (λ (u : List ℕ). u ++ lost) (sym e) ∙ says
    ∙ ap (λ (u : List ℕ). u ++ text) (ap (λ (u : List ℕ). xs ++ u) none ∙ append-nil xs) in
    (part, e, (lost, sym (append_cancel_left xs (part ++ lost) text whole)))

-- if nothing waited before this text was said, and nothing waits after it, the whole text was written
pub said_written : (old new : Option (List ℕ)) (before after text : List ℕ) → before ≡ [] → after ≡ []
    → Appends (append_known old before) (append_known new after) text → Appends old new text
said_written None new before after text e f h = tt
said_written (Some xs) None before after text e f h = absurd h
said_written (Some xs) (Some ys) before after text e f h =
    sym (append-nil ys) ∙ ap (λ (u : List ℕ). ys ++ u) (sym f) ∙ h ∙ ap (λ (u : List ℕ). u ++ text) (ap (λ (u : List ℕ). xs ++ u) e ∙ append-nil xs)

-- what holds after a session that ended in a fault: it was cut short. If no write failed and nothing waits, whole answers were
-- written
abbrev Leaves : (fault : SessionFault) → (left left_after written written_after : Option (List ℕ)) → (waiting : List ℕ) → Type 0
Leaves fault left left_after written written_after waiting =
    IsCutShort fault left left_after written written_after
    × (fault ≢ Write → waiting ≡ [] → HasAnswered fault left left_after written written_after)

-- ---- what was read

-- the commands that were taken are the first commands of the input, whatever pieces follow them
module _ (pieces : List (List ℕ)) (commands : List Command) (rest : List (List ℕ)) where
  -- `others` are the commands that were taken, and then perhaps more
  pub record HasMore (others : List Command) : Type 0 where
    pub more : List Command
    pub is : others ≡ commands ++ more

  pub first_ones : (ending : LineEnd) → (ending ≡ Input → rest ≡ []) → GoOnOnly ending pieces commands → (others : List Command)
      → AreCommands (pieces ++ rest) others → HasMore others
  first_ones Feed ends only others are = let m = only rest others are in record { more = m.0; is = m.1 }
  first_ones Input ends only others are =
      let P : List (List ℕ) → Type 0 = λ u. AreCommands u others in
      let same = ap (λ (u : List (List ℕ)). pieces ++ u) (ends refl) ∙ append-nil pieces in
      record { more = []; is = only others (subst P same are) ∙ sym (append-nil commands) }

-- the bytes of these commands and what comes after them, cut into pieces
cut_whole : (ending : LineEnd) (whole behind : List ℕ) (pieces : List (List ℕ)) → (ending ≡ Input → behind ≡ []) → AreCut ending whole pieces
    → pieces_of (whole ++ behind) ≡ pieces ++ pieces_of behind
cut_whole Feed whole behind pieces ends cut = cut behind
cut_whole Input whole behind pieces ends cut =
    let none = ends refl in
    ap (λ (u : List ℕ). pieces_of (whole ++ u)) none ∙ ap pieces_of (append-nil whole) ∙ cut ∙ sym (append-nil pieces)
    ∙ ap (λ (u : List ℕ). pieces ++ pieces_of u) (sym none)

module _ (ending : LineEnd) (whole behind : List ℕ) (pieces : List (List ℕ)) (commands : List Command)
    (ends : ending ≡ Input → behind ≡ []) (cut : AreCut ending whole pieces) (run : IsRun ending pieces commands) where
  pub same_first : (others : List Command) → AreCommands (pieces_of (whole ++ behind)) others → HasMore pieces commands (pieces_of behind) others
  same_first others are =
      let P : List (List ℕ) → Type 0 = λ u. AreCommands u others in
      first_ones pieces commands (pieces_of behind) ending (λ e. ap pieces_of (ends e)) run.only others
      (subst P (cut_whole ending whole behind pieces ends cut) are)

  pub text_first : (text : List ℕ) → IsSession (whole ++ behind) text → IsBeginning (text_after [] commands) text
  text_first text (others, are, is) =
      let m = same_first others are in
      (text_after (table_of (ops_of commands)) m.more, is ∙ ap (λ (u : List Command). text_after [] u) m.is ∙ text_more [] commands m.more)

  pub ops_first : (others : List Command) → AreCommands (pieces_of (whole ++ behind)) others → max_entries < length (ops_of commands)
      → max_entries < length (ops_of others)
  ops_first others are many =
      let m = same_first others are in
      let all : length (ops_of others) ≡ length (ops_of commands ++ ops_of m.more) =
      ap (λ (u : List Command). length (ops_of u)) m.is ∙ ap length (flat_map-append ops_asked commands m.more) in
      let sum = length-append (ops_of commands) (ops_of m.more) in
      omega arith

-- if a read failed, at most one command of what was read is still without an answer
pub all_but_one : (whole more : List ℕ) (pieces : List (List ℕ)) (commands answered last : List Command) (ending : LineEnd) → ending ≡ Feed
    → AreCut ending whole pieces → IsRun ending pieces commands → commands ≡ answered ++ last → last ≡ [] → IsPart IsOpen more
    → (others : List Command) → AreCommands (pieces_of (whole ++ more)) others → length others ≤ length answered + 1
all_but_one whole more pieces commands answered last ending feed cut run are none part others h =
    let C : LineEnd → Type 0 = λ u. AreCut u whole pieces in
    let R : LineEnd → Type 0 = λ u. IsRun u pieces commands in
    let cut_feed : AreCut Feed whole pieces = subst C feed cut in
    let run_feed : IsRun Feed pieces commands = subst R feed run in
    let P : List (List ℕ) → Type 0 = λ u. AreCommands u others in
    let m = run_feed.only (pieces_of more) others (subst P (cut_feed more) h) in
    let Q : List (List ℕ) → Type 0 = λ u. AreCommands u m.0 in
    let tail = line_pieces Input part.line in
    let these : pieces_of more ≡ part.pieces ++ tail =
    ap pieces_of part.is ∙ part.cut part.line ∙ ap (λ (u : List (List ℕ)). part.pieces ++ u) (cut_last part.line part.one_line) in
    let one = part.such tail (one_piece part.line) m.0 (subst Q these m.2) in
    let size : length others ≡ length (commands ++ m.0) = ap length m.1 in
    let sum = length-append commands m.0 in
    let front : length commands ≡ length (answered ++ last) = ap length are in
    let split = length-append answered last in
    let zero : length last ≡ 0 = ap length none in
    omega arith
  where
    one_piece : (line : List ℕ) → length (line_pieces Input line) < 2
    one_piece [] = omega arith
    one_piece (x ∷ xs) = omega arith

-- ---- the source

-- the bytes that were read of a source: those that were taken, and those that are still to be taken
read_all : (first : Option (List ℕ)) (fresh pending bytes : List ℕ) (left : Option (List ℕ)) → fresh ≡ []
    → Consumes (prepend_known fresh first) (prepend_known pending left) bytes → Consumes first left (bytes ++ pending)
read_all None fresh pending bytes left none h = tt
read_all (Some xs) fresh pending bytes None none h = absurd h
read_all (Some xs) fresh pending bytes (Some ys) none h =
    ap (λ (u : List ℕ). u ++ xs) (sym none) ∙ h ∙ sym (append_assoc bytes pending ys)

-- if the input has ended, nothing is pending and nothing follows
none_pending : (pending ys : List ℕ) → pending ++ ys ≡ [] → (pending ≡ []) × (ys ≡ [])
none_pending [] ys e = (refl, e)
none_pending (x ∷ xs) ys e = absurd (let nothing : ⊥ = cc in nothing)

some_same : (xs ys : List ℕ) → Some xs ≡ Some ys → ys ≡ xs
some_same xs ys e = cc

nothing_follows : (ys more : List ℕ) → ys ≡ [] → MayFollow (Some ys) more → more ≡ []
nothing_follows ys more none (inl e) = e
nothing_follows ys more none (inr e) = some_same ys more e ∙ none

-- what a session that ended in a fault has read and written. Pending bytes were read too. If the source's bytes aren't known,
-- they aren't counted
module _ (fault : SessionFault) (m n : Moment) (b : IsBroken m n fault) (fresh : m.input.pending ≡ []) (empty : m.output.waiting ≡ []) where
  written : HasBegun m.output.written n.output.written (text_after [] b.commands)
  written = text_begun m.output.written n.output.written m.output.waiting b.fails.lost (text_after [] b.commands) empty b.fails.says b.fails.grows

  -- after the bytes that were taken, these bytes are pending, and this is left in the source
  module _ (pending : List ℕ) (left : Option (List ℕ)) (took : Consumes m.input.left left ((b.whole ++ b.more) ++ pending))
      (drained : fault ≡ Read → pending ≡ [])
      (ends : (more : List ℕ) → MayFollow left more → b.ending ≡ Input → b.more ++ (pending ++ more) ≡ []) where
    after_whole : (more : List ℕ) → ((b.whole ++ b.more) ++ pending) ++ more ≡ b.whole ++ (b.more ++ (pending ++ more))
    after_whole more = append_assoc (b.whole ++ b.more) pending more ∙ append_assoc b.whole b.more (pending ++ more)

    short_of : IsCutShort fault m.input.left left m.output.written n.output.written
    short_of = record {
      read = (b.whole ++ b.more) ++ pending;
      output = written.0;
      took = took;
      wrote = written.1;
      begins = λ more text follows is.
          let P : List ℕ → Type 0 = λ u. IsSession u text in
          beginning_trans written.0 (text_after [] b.commands) text written.2
          (text_first b.ending b.whole (b.more ++ (pending ++ more)) b.pieces b.commands (ends more follows) b.cut b.run text (subst P (after_whole more) is));
      full = λ is more others follows are.
          let P : List ℕ → Type 0 = λ u. AreCommands (pieces_of u) others in
          ops_first b.ending b.whole (b.more ++ (pending ++ more)) b.pieces b.commands (ends more follows) b.cut b.run others
          (subst P (after_whole more) are) (b.full is);
    }

    answered_of : fault ≢ Write → n.output.waiting ≡ [] → HasAnswered fault m.input.left left m.output.written n.output.written
    answered_of no_write none = record {
      read = (b.whole ++ b.more) ++ pending;
      answered = b.answered;
      took = took;
      wrote = said_written m.output.written n.output.written m.output.waiting n.output.waiting (text_after [] b.answered) empty none (b.fails.before no_write);
      first = λ more others follows are.
          let P : List ℕ → Type 0 = λ u. AreCommands (pieces_of u) others in
          let f = same_first b.ending b.whole (b.more ++ (pending ++ more)) b.pieces b.commands (ends more follows) b.cut b.run others
          (subst P (after_whole more) are) in
          (b.last ++ f.more, f.is ∙ ap (λ (u : List Command). u ++ f.more) b.are ∙ append_assoc b.answered b.last f.more);
      filled = b.filled;
      all = λ is commands are.
          let P : List ℕ → Type 0 = λ u. AreCommands (pieces_of ((b.whole ++ b.more) ++ u)) commands in
          let Q : List ℕ → Type 0 = λ u. AreCommands (pieces_of u) commands in
          let s = b.stalled is in
          all_but_one b.whole b.more b.pieces b.commands b.answered b.last b.ending s.0 b.cut b.run b.are s.1 s.2 commands
          (subst Q (append-nil (b.whole ++ b.more)) (subst P (drained is) are));
    }

    leaves_of : Leaves fault m.input.left left m.output.written n.output.written n.output.waiting
    leaves_of = (short_of, answered_of)

  -- by whether the source's bytes are known
  leaves_known : (pending : List ℕ) (left : Option (List ℕ)) → n.input.pending ≡ pending → n.input.left ≡ left
      → Leaves fault m.input.left left m.output.written n.output.written n.output.waiting
  leaves_known pending None p l =
      let K : Option (List ℕ) → Type 0 = λ u. Consumes (unread m.input) (prepend_known n.input.pending u) (b.whole ++ b.more) in
      leaves_of [] None (took_untold m.input.pending m.input.left n.input.pending (b.whole ++ b.more) (subst K l b.took)) (λ is. refl)
      (λ more follows e. no_more (b.ended e).0 more follows)
    where
      took_untold : (fresh : List ℕ) (first : Option (List ℕ)) (pending bytes : List ℕ) → Consumes (prepend_known fresh first) (prepend_known pending None) bytes
          → Consumes first None (bytes ++ [])
      took_untold fresh None pending bytes h = tt
      took_untold fresh (Some xs) pending bytes h = absurd h

      no_more : b.more ≡ [] → (more : List ℕ) → MayFollow None more → b.more ++ ([] ++ more) ≡ []
      no_more none more (inl e) = ap (λ (u : List ℕ). u ++ more) none ∙ e
      no_more none more (inr e) = absurd (let no : ⊥ = cc in no)
  leaves_known pending (Some ys) p l =
      let K : Option (List ℕ) → Type 0 = λ u. Consumes (unread m.input) (prepend_known n.input.pending u) (b.whole ++ b.more) in
      let J : List ℕ → Type 0 = λ u. Consumes (unread m.input) (prepend_known u (Some ys)) (b.whole ++ b.more) in
      leaves_of pending (Some ys) (read_all m.input.left m.input.pending pending (b.whole ++ b.more) (Some ys) fresh (subst J p (subst K l b.took)))
      (λ is. sym p ∙ (b.fails.idle is).1)
      (λ more follows e. at_end more follows (b.ended e))
    where
      at_end : (more : List ℕ) → MayFollow (Some ys) more → (b.more ≡ []) × IsAtEnd (unread n.input) → b.more ++ (pending ++ more) ≡ []
      at_end more follows (none, ended) =
          let P : Option (List ℕ) → Type 0 = λ u. IsAtEnd (prepend_known n.input.pending u) in
          let Q : List ℕ → Type 0 = λ u. IsAtEnd (prepend_known u (Some ys)) in
          let both = none_pending pending ys (subst Q p (subst P l ended)) in
          ap (λ (u : List ℕ). u ++ (pending ++ more)) none ∙ ap (λ (u : List ℕ). u ++ more) both.0 ∙ nothing_follows ys more both.1 follows

  pub cut_short : IsCutShort fault m.input.left n.input.left m.output.written n.output.written
  cut_short = (leaves_known n.input.pending n.input.left refl refl).0

  pub has_answered : fault ≢ Write → n.output.waiting ≡ [] → HasAnswered fault m.input.left n.input.left m.output.written n.output.written
  has_answered = (leaves_known n.input.pending n.input.left refl refl).1

-- ---- the counts

session_cause : (fault : SessionFault) (m n : Moment) → m.input.reads_left ≡ 2 ^ 32 → n.input.reads + n.input.reads_left ≡ m.input.reads + m.input.reads_left
    → IsCausedBy fault m n
    → HasCause fault (calls m.input.reads m.input.failed_reads m.output.failed_writes) (calls n.input.reads n.input.failed_reads n.output.failed_writes)
session_cause Read m n fresh counted (h, inl k) = (h, inl k)
session_cause Read m n fresh counted (h, inr k) = (h, inr (k.0, (let none = k.1 in omega arith)))
session_cause Write m n fresh counted h = h
session_cause Memory m n fresh counted h = h
session_cause Full m n fresh counted h = h

pub cause_of : (fault : SessionFault) (m n : Moment) → m.input.reads_left ≡ 2 ^ 32 → IsBroken m n fault
    → HasCause fault (calls m.input.reads m.input.failed_reads m.output.failed_writes) (calls n.input.reads n.input.failed_reads n.output.failed_writes)
cause_of fault m n fresh b = session_cause fault m n fresh b.fails.counted b.fails.cause

-- ---- by how the session ended

module _ {E : Type 0} (m n : Moment) (left written written_after : Option (List ℕ)) (r : Result (Unit {0}) E)
    (fresh : m.input.pending ≡ []) (empty : m.output.waiting ≡ [])
    (l : m.input.left ≡ left) (w : m.output.written ≡ written) (wa : written_after ≡ n.output.written) where
  ended_of : (e : IsSentOn m n) → IsEnded m e.done_at n.output
  ended_of e = record { done = e.done; fresh = fresh; empty = empty; says = e.says; emptied = e.emptied }

  pub whole_sent : (left_after : Option (List ℕ)) → left_after ≡ n.input.left → OnOk r (IsSentOn m n) → OnOk r (IsWholeSession left left_after written written_after)
  whole_sent left_after la h =
      ok_map r (λ e. whole_at m e.done_at n.output left left_after written written_after (ended_of e) l (la ∙ ap (λ (i : InputData). i.left) e.same_input) w wa) h

  pub only_sent : OnOk r (IsSentOn m n) → OnOk r (IfSome left (λ input. (output : List ℕ) → IsSession input output → Appends written written_after output))
  only_sent h = ok_map r (λ e. only_at m e.done_at n.output left written written_after (ended_of e) l w wa) h

-- however a session ended, it made no more reads than it had left at its start
pub few_at : (m n : Moment) (most : ℕ) (r : Result (Unit {0}) SessionFault) → m.input.reads_left ≡ most
    → OnOk r (IsSentOn m n) → IfErr r (λ f. IsBroken m n f) → n.input.reads ≤ m.input.reads + most
few_at m n most (Ok x) fresh e b =
    let few = few_reads m.input e.done_at.input most e.done.bytes fresh e.done.moves.takes in
    let last = ap (λ (i : InputData). i.reads) e.same_input in
    omega arith
few_at m n most (Err f) fresh e b = let counted = b.fails.counted in omega arith

-- a session that ended in a fault was cut short. The values of its source and sink are those of the two moments
pub short_at : (m n : Moment) (left left_after written written_after : Option (List ℕ)) (r : Result (Unit {0}) SessionFault)
    → m.input.pending ≡ [] → m.output.waiting ≡ []
    → m.input.left ≡ left → left_after ≡ n.input.left → m.output.written ≡ written → written_after ≡ n.output.written
    → IfErr r (λ f. IsBroken m n f) → IfErr r (λ f. IsCutShort f left left_after written written_after)
short_at m n left left_after written written_after (Ok x) fresh empty l la w wa h = tt
short_at m n left left_after written written_after (Err f) fresh empty l la w wa h =
    let P : Option (List ℕ) → Type 0 = λ u. IsCutShort f u left_after written written_after in
    let Q : Option (List ℕ) → Type 0 = λ u. IsCutShort f m.input.left u written written_after in
    let R : Option (List ℕ) → Type 0 = λ u. IsCutShort f m.input.left n.input.left u written_after in
    let S : Option (List ℕ) → Type 0 = λ u. IsCutShort f m.input.left n.input.left m.output.written u in
    subst P l (subst Q (sym la) (subst R w (subst S (sym wa) (cut_short f m n h fresh empty))))

-- a session was cut short by `Memory` before it read or wrote anything
pub short_none : (fault : SessionFault) (left written : Option (List ℕ)) → fault ≡ Memory → IsCutShort fault left left written written
short_none fault left written is = record {
  read = [];
  output = [];
  took = consumes_none left;
  wrote = appends_none written;
  begins = λ more whole follows session. (whole, refl);
  full = λ full. absurd (let e : Memory ≡ Full = sym is ∙ full in let no : ⊥ = cc in no);
}

-- a session that ended in a fault has written whole answers, unless a write failed. The values are those of the two moments
pub answered_at : (m n : Moment) (left left_after written written_after : Option (List ℕ)) (r : Result (Unit {0}) SessionFault)
    → m.input.pending ≡ [] → m.output.waiting ≡ []
    → m.input.left ≡ left → left_after ≡ n.input.left → m.output.written ≡ written → written_after ≡ n.output.written
    → IfErr r (λ f. IsBroken m n f) → IfErr r (λ f. f ≢ Write → IsIdle n.output) → IfErr r (λ f. f ≢ Write → HasAnswered f left left_after written written_after)
answered_at m n left left_after written written_after (Ok x) fresh empty l la w wa h k = tt
answered_at m n left left_after written written_after (Err f) fresh empty l la w wa h k = λ no.
    let P : Option (List ℕ) → Type 0 = λ u. HasAnswered f u left_after written written_after in
    let Q : Option (List ℕ) → Type 0 = λ u. HasAnswered f m.input.left u written written_after in
    let R : Option (List ℕ) → Type 0 = λ u. HasAnswered f m.input.left n.input.left u written_after in
    let S : Option (List ℕ) → Type 0 = λ u. HasAnswered f m.input.left n.input.left m.output.written u in
    subst P l (subst Q (sym la) (subst R w (subst S (sym wa) (has_answered f m n h fresh empty no (k no).0))))

-- a session that ended in `Memory` before it read or wrote anything has answered no command
pub answered_none : (fault : SessionFault) (left written : Option (List ℕ)) → fault ≡ Memory → HasAnswered fault left left written written
answered_none fault left written is = record {
  read = [];
  answered = [];
  took = consumes_none left;
  wrote = appends_none written;
  first = λ more commands follows are. (commands, refl);
  filled = λ full. absurd (let e : Memory ≡ Full = sym is ∙ full in let no : ⊥ = cc in no);
  all = λ read. absurd (let e : Memory ≡ Read = sym is ∙ read in let no : ⊥ = cc in no);
}

-- after a fault, unless a write failed, the sink holds back no more than before the session
pub held_at : (p : OutputData) (old new : ℕ) (r : Result (Unit {0}) SessionFault) → new ≡ p.held → IfErr r (λ f. f ≢ Write → IsIdle p)
    → IfErr r (λ f. f ≢ Write → new ≤ old)
held_at p old new (Ok x) same h = tt
held_at p old new (Err f) same h = λ no. let none = (h no).1 in omega arith

pub sent_at : (m n : Moment) (new : ℕ) (r : Result (Unit {0}) SessionFault) → new ≡ n.output.held → OnOk r (IsSentOn m n) → OnOk r (new ≡ 0)
sent_at m n new r same h = ok_map r (λ e. same ∙ e.sent) h
