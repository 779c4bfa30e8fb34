-- How a fault in one step becomes a fault in several steps: what was written of all that was said, and which call failed.
use Rattle.std.proofs.Common.{◌≡◌, ◌≢◌, ℕ, ◌+◌, List, [], ◌++◌, Option, None, Some, refl, sym, ◌∙◌, ap, subst, append_assoc, append-nil, take, drop, inl, inr, Result, Ok, Err, IfErr, OnErr, OnOk}
use Rattle.std.specs.Io.KnownBytes.{Appends, Keeps, append_known}
use Rattle.std.proofs.lemmas.List.{take-append-drop}
use Rattle.covbook.specs.declared.book.BookFault.{BookFault}
use Rattle.covbook.specs.declared.book.BookFault.TheVariants as book_faults
use Rattle.covsession.specs.Broken.{Breaks, CountsWrites, Fails, FailsTaking, IsCausedBy, IsIdle, IsLinePart, IsPart, Stalls}
use Rattle.covsession.specs.Fault.{HasBegun}
use Rattle.covsession.specs.SessionFaults.{of_book}
use Rattle.covsession.specs.Streams.{InputData, OutputData, Moment, AreCut, Moves, Says, moment, said_so_far, unread}
use Rattle.covsession.specs.declared.session.fault.SessionFault.{SessionFault}
use Rattle.covsession.specs.declared.session.fault.SessionFault.TheVariants.{Read, Write, Memory, Full}
use Rattle.covsession.specs.declared.session.text.LineEnd.TheVariants.{Feed}
use Rattle.covsession.proofs.SessionBytes.{Consumes-trans, Appends-trans}
use Rattle.covsession.proofs.SessionMoves.{Grows-trans, Grows-none, Says-trans, appends_none, consumes_none, says_written, wait_known}

-- ---- an output

-- nothing was said, and nothing failed
pub breaks_unsaid : (o : OutputData) (fault : SessionFault) (text : List ℕ) → CountsWrites fault o.failed_writes o.failed_writes → Breaks o o fault text
breaks_unsaid o fault text failed = record {
  lost = o.waiting ++ text;
  says = wait_known o.written o.waiting (o.waiting ++ text) text refl;
  grows = Grows-none o.written;
  failed = failed;
  same_sink = refl;
  before = λ no. appends_none (said_so_far o);
}

pub breaks_memory : (o : OutputData) (fault : SessionFault) (text : List ℕ) → fault ≡ Memory → Breaks o o fault text
breaks_memory o fault text is =
    let P : SessionFault → Type 0 = λ f. Breaks o o f text in
    subst P (sym is) (breaks_unsaid o Memory text refl)

-- what waited and some more bytes were written in part
begun_known : (old new : Option (List ℕ)) (waiting text part rest : List ℕ) → waiting ++ text ≡ part ++ rest → Appends old new part
    → Appends (append_known old waiting) (append_known new rest) text
begun_known None new waiting text part rest e h = tt
begun_known (Some xs) None waiting text part rest e h = absurd h
begun_known (Some xs) (Some ys) waiting text part rest e h =
    ap (λ (u : List ℕ). u ++ rest) h ∙ append_assoc xs part rest ∙ ap (λ (u : List ℕ). xs ++ u) (sym e) ∙ sym (append_assoc xs waiting text)

pub breaks_begun : (o p : OutputData) (fault : SessionFault) (text : List ℕ) → fault ≡ Write → HasBegun o.written p.written (o.waiting ++ text)
    → p.failed_writes ≡ o.failed_writes + 1 → p.sink ≡ o.sink → Breaks o p fault text
breaks_begun o p fault text is begun failed sink =
    let P : SessionFault → Type 0 = λ f. CountsWrites f o.failed_writes p.failed_writes in
    record {
      lost = begun.2.0;
      says = begun_known o.written p.written o.waiting text begun.0 begun.2.0 begun.2.1 begun.1;
      grows = (begun.0, begun.1);
      failed = subst P (sym is) failed;
      same_sink = sink;
      before = λ no. absurd (no is);
    }

-- what waits alone was written in part
pub breaks_waiting : (o p : OutputData) (fault : SessionFault) → fault ≡ Write → HasBegun o.written p.written o.waiting
    → p.failed_writes ≡ o.failed_writes + 1 → p.sink ≡ o.sink → Breaks o p fault []
breaks_waiting o p fault is begun failed sink =
    let P : List ℕ → Type 0 = λ u. HasBegun o.written p.written u in
    breaks_begun o p fault [] is (subst P (sym (append-nil o.waiting)) begun) failed sink

-- nothing waits, and the text was written in part
pub breaks_text : (o p : OutputData) (fault : SessionFault) (text : List ℕ) → o.waiting ≡ [] → fault ≡ Write → HasBegun o.written p.written text
    → p.failed_writes ≡ o.failed_writes + 1 → p.sink ≡ o.sink → Breaks o p fault text
breaks_text o p fault text none is begun failed sink =
    let P : List ℕ → Type 0 = λ u. HasBegun o.written p.written (u ++ text) in
    breaks_begun o p fault text is (subst P (sym none) begun) failed sink

-- a write failed after something was said
pub breaks_after : (o p q : OutputData) (fault : SessionFault) (x y : List ℕ) → fault ≡ Write → Says o p x → Breaks p q fault y → Breaks o q fault (x ++ y)
breaks_after o p q fault x y is h k =
    let P : ℕ → Type 0 = λ n. CountsWrites fault n q.failed_writes in
    record {
      lost = k.lost;
      says = Appends-trans (said_so_far o) (said_so_far p) (append_known q.written k.lost) x y h.says k.says;
      grows = Grows-trans o.written p.written q.written h.grows k.grows;
      failed = subst P h.failed k.failed;
      same_sink = k.same_sink ∙ h.same_sink;
      before = λ no. absurd (no is);
    }

-- a fault that stopped an output while a text was said stopped it while a longer text was said
pub breaks_more : (o p : OutputData) (fault : SessionFault) (x y : List ℕ) → Breaks o p fault x → Breaks o p fault (x ++ y)
breaks_more o p fault x y h = record {
  lost = h.lost ++ y;
  says = Appends-trans (said_so_far o) (append_known p.written h.lost) (append_known p.written (h.lost ++ y)) x y h.says
      (wait_known p.written h.lost (h.lost ++ y) y refl);
  grows = h.grows;
  failed = h.failed;
  same_sink = h.same_sink;
  before = h.before;
}

-- ---- both streams

output_cause : (m : Moment) (p : OutputData) (fault : SessionFault) → CountsWrites fault m.output.failed_writes p.failed_writes
    → IsCausedBy fault m (record { input = m.input; output = p })
output_cause m p Read h = absurd h
output_cause m p Write h = (refl, h)
output_cause m p Memory h = (refl, h)
output_cause m p Full h = (refl, h)

pub no_read : (fault : SessionFault) (a b : ℕ) → CountsWrites fault a b → fault ≡ Read → ⊥
no_read fault a b h is = let P : SessionFault → Type 0 = λ f. CountsWrites f a b in subst P is h

pub fails_output : (m n : Moment) (fault : SessionFault) (text : List ℕ) → n.input ≡ m.input → Breaks m.output n.output fault text → Fails m n fault [] text
fails_output m n fault text same h =
    let P : InputData → Type 0 = λ i. Fails m (record { input = i; output = n.output }) fault [] text in
    subst P (sym same)
    (record {
      bytes = [];
      took = consumes_none (unread m.input);
      counted = refl;
      same_source = refl;
      lost = h.lost;
      says = h.says;
      grows = h.grows;
      same_sink = h.same_sink;
      cause = output_cause m n.output fault h.failed;
      cut = text;
      whole = refl;
      before = h.before;
      idle = λ is. absurd (no_read fault m.output.failed_writes n.output.failed_writes h.failed is);
    })

later_cause : (m n o : Moment) (fault : SessionFault) → n.input.failed_reads ≡ m.input.failed_reads → n.output.failed_writes ≡ m.output.failed_writes
    → IsCausedBy fault n o → IsCausedBy fault m o
later_cause m n o Read r w (h, inl k) = (h ∙ w, inl (k ∙ ap (λ (u : ℕ). u + 1) r))
later_cause m n o Read r w (h, inr k) = (h ∙ w, inr (k.0 ∙ r, k.1))
later_cause m n o Write r w h = (h.0 ∙ r, h.1 ∙ ap (λ (u : ℕ). u + 1) w)
later_cause m n o Memory r w h = (h.0 ∙ r, h.1 ∙ w)
later_cause m n o Full r w h = (h.0 ∙ r, h.1 ∙ w)

pub fails_after : (m n o : Moment) (fault : SessionFault) (b x answers y : List ℕ) → Moves m n b x → Fails n o fault answers y
    → Fails m o fault (x ++ answers) (x ++ y)
fails_after m n o fault b x answers y h k = record {
  bytes = b ++ k.bytes;
  took = Consumes-trans (unread m.input) (unread n.input) (unread o.input) b k.bytes h.takes.took k.took;
  counted = k.counted ∙ h.takes.counted;
  same_source = k.same_source ∙ h.takes.same_source;
  lost = k.lost;
  says = Appends-trans (said_so_far m.output) (said_so_far n.output) (append_known o.output.written k.lost) x y h.says.says k.says;
  grows = Grows-trans m.output.written n.output.written o.output.written h.says.grows k.grows;
  same_sink = k.same_sink ∙ h.says.same_sink;
  cause = later_cause m n o fault h.takes.failed h.says.failed k.cause;
  cut = k.cut;
  whole = ap (λ (u : List ℕ). x ++ u) k.whole ∙ sym (append_assoc x answers k.cut);
  before = λ no. Appends-trans (said_so_far m.output) (said_so_far n.output) (said_so_far o.output) x answers h.says.says (k.before no);
  idle = k.idle;
}

-- memory ran out while nothing moved
pub fails_here : (m : Moment) (fault : SessionFault) → fault ≡ Memory → Fails m m fault [] []
fails_here m fault is = fails_output m m fault [] refl (breaks_memory m.output fault [] is)

-- memory ran out after some bytes were taken
pub fails_taken : (m n : Moment) (fault : SessionFault) (b : List ℕ) → fault ≡ Memory → Moves m n b [] → Fails m n fault [] []
fails_taken m n fault b is h = fails_after m n n fault b [] [] [] h (fails_here n fault is)

-- a read failed after what waited was sent on
read_fails : (m n : Moment) → Stalls m.input n.input → Says m.output n.output [] → IsIdle n.output → Fails m n Read [] []
read_fails m n h k idle = record {
  bytes = [];
  took = h.took;
  counted = h.counted;
  same_source = h.same_source;
  lost = n.output.waiting;
  says = k.says;
  grows = k.grows;
  same_sink = k.same_sink;
  cause = (k.failed, h.failed);
  cut = [];
  whole = refl;
  before = λ no. k.says;
  idle = λ is. (idle, h.drained);
}

pub taking_read : (m n : Moment) (fault : SessionFault) → fault ≡ Read → Stalls m.input n.input → Says m.output n.output [] → IsIdle n.output
    → FailsTaking (λ bytes. bytes ≡ []) m n fault
unfolding read_fails
taking_read m n fault is h k idle =
    let P : SessionFault → Type 0 = λ f. FailsTaking (λ bytes. bytes ≡ []) m n f in
    subst P (sym is) (record { fails = read_fails m n h k idle; not_full = λ e. (let no : ⊥ = cc in no); part = λ is. refl })

-- the same from the result of the read
pub err_read_fails : (m n : Moment) (r : Result (Unit {0}) SessionFault) → Says m.output n.output [] → IsIdle n.output → IfErr r (λ f. f ≡ Read)
    → OnErr r (Stalls m.input n.input) → IfErr r (λ f. FailsTaking (λ bytes. bytes ≡ []) m n f)
err_read_fails m n (Ok x) k idle is h = tt
err_read_fails m n (Err f) k idle is h = taking_read m n f is h k idle

-- ---- a fault before the whole of a command was taken

-- memory ran out after some bytes of it were taken
pub taking_taken : (Such : List ℕ → Type 0) (m n : Moment) (fault : SessionFault) (b : List ℕ) → fault ≡ Memory → Moves m n b [] → FailsTaking Such m n fault
taking_taken Such m n fault b is h = record {
  fails = fails_taken m n fault b is h;
  not_full = λ e. (let same : Memory ≡ Full = sym is ∙ e in let no : ⊥ = cc in no);
  part = λ e. absurd (let same : Memory ≡ Read = sym is ∙ e in let no : ⊥ = cc in no);
}

-- what was said couldn't be sent on
pub taking_unsent : (Such : List ℕ → Type 0) (m n : Moment) (fault : SessionFault) → fault ≡ Write → n.input ≡ m.input → Breaks m.output n.output fault []
    → FailsTaking Such m n fault
taking_unsent Such m n fault is same h = record {
  fails = fails_output m n fault [] same h;
  not_full = λ e. (let same : Write ≡ Full = sym is ∙ e in let no : ⊥ = cc in no);
  part = λ e. absurd (let same : Write ≡ Read = sym is ∙ e in let no : ⊥ = cc in no);
}

-- some bytes of the command were taken before the step that failed
pub taking_after : (Such Part : List ℕ → Type 0) (m n o : Moment) (fault : SessionFault) (done : List ℕ) → Moves m n done []
    → ((bytes : List ℕ) → Such bytes → Part (done ++ bytes)) → FailsTaking Such n o fault → FailsTaking Part m o fault
unfolding fails_after
taking_after Such Part m n o fault done h joins k = record {
  fails = fails_after m n o fault done [] [] [] h k.fails;
  not_full = k.not_full;
  part = λ is. joins k.fails.bytes (k.part is);
}

-- a part of a line was taken, and a fault came before the next byte of the line
pub taking_line : (m n o : Moment) (fault : SessionFault) (line : List ℕ) → IsLinePart line → Moves m n line [] → FailsTaking (λ bytes. bytes ≡ []) n o fault
    → FailsTaking IsLinePart m o fault
taking_line m n o fault line one h k =
    taking_after (λ bytes. bytes ≡ []) IsLinePart m n o fault line h
    (λ bytes none. (let P : List ℕ → Type 0 = λ u. IsLinePart (line ++ u) in subst P (sym none) (subst IsLinePart (sym (append-nil line)) one))) k

-- pieces for which `Such` holds were taken, and a fault came before the whole of the next line was taken
pub taking_later : (Such : List (List ℕ) → Type 0) (m n o : Moment) (fault : SessionFault) (pieces : List (List ℕ)) (done : List ℕ) → AreCut Feed done pieces
    → Such pieces → Moves m n done [] → FailsTaking IsLinePart n o fault → FailsTaking (IsPart Such) m o fault
taking_later Such m n o fault pieces done cut such h k =
    taking_after IsLinePart (IsPart Such) m n o fault done h
    (λ bytes one. record { pieces = pieces; done = done; line = bytes; is = refl; cut = cut; one_line = one; such = such }) k

-- a fault came before the whole of the first line was taken
pub taking_first : (Such : List (List ℕ) → Type 0) (m n : Moment) (fault : SessionFault) → Such [] → FailsTaking IsLinePart m n fault
    → FailsTaking (IsPart Such) m n fault
taking_first Such m n fault such k = record {
  fails = k.fails;
  not_full = k.not_full;
  part = λ is. record { pieces = []; done = []; line = k.fails.bytes; is = refl; cut = λ more. refl; one_line = k.part is; such = such };
}

-- ---- a session that stops sends on what was said

sent_cause : (m n : Moment) (p : OutputData) (fault : SessionFault) → p.failed_writes ≡ n.output.failed_writes → IsCausedBy fault m n
    → IsCausedBy fault m (moment n.input p)
sent_cause m n p Read same h = (same ∙ h.0, h.1)
sent_cause m n p Write same h = (h.0, same ∙ h.1)
sent_cause m n p Memory same h = (h.0, same ∙ h.1)
sent_cause m n p Full same h = (h.0, same ∙ h.1)

-- what was said was sent on
pub fails_sent : (m n o : Moment) (fault : SessionFault) (answers text : List ℕ) → o.input ≡ n.input → fault ≢ Write → fault ≢ Read
    → Fails m n fault answers text → Says n.output o.output [] → Fails m o fault answers text
fails_sent m n o fault answers text same no_write other h k =
    let P : InputData → Type 0 = λ i. Fails m (moment i o.output) fault answers text in
    let waiting = o.output.waiting in
    let A : List ℕ → Type 0 = λ u. Appends (said_so_far m.output) (said_so_far o.output) u in
    let given : A answers =
    subst A (append-nil answers)
    (Appends-trans (said_so_far m.output) (said_so_far n.output) (said_so_far o.output) answers [] (h.before no_write) k.says) in
    let T : List ℕ → Type 0 = λ u. Appends (said_so_far m.output) (append_known o.output.written (waiting ++ h.cut)) u in
    subst P (sym same)
    (record {
      bytes = h.bytes;
      took = h.took;
      counted = h.counted;
      same_source = h.same_source;
      lost = waiting ++ h.cut;
      says = subst T (sym h.whole)
          (Appends-trans (said_so_far m.output) (said_so_far o.output) (append_known o.output.written (waiting ++ h.cut)) answers h.cut given
          (wait_known o.output.written waiting (waiting ++ h.cut) h.cut refl));
      grows = Grows-trans m.output.written n.output.written o.output.written h.grows k.grows;
      same_sink = k.same_sink ∙ h.same_sink;
      cause = sent_cause m n o.output fault k.failed h.cause;
      cut = h.cut;
      whole = h.whole;
      before = λ no. given;
      idle = λ is. absurd (other is);
    })

-- no call failed between two moments
abbrev pub IsQuiet : Moment → Moment → Type 0
IsQuiet m n = (n.input.failed_reads ≡ m.input.failed_reads) × (n.output.failed_writes ≡ m.output.failed_writes)

-- a write failed while what was said was sent on
pub fails_write : (m n o : Moment) (fault : SessionFault) (answers text : List ℕ) → o.input ≡ n.input → fault ≢ Write → IsQuiet m n
    → Fails m n fault answers text → Breaks n.output o.output Write [] → Fails m o Write answers text
fails_write m n o fault answers text same no_write quiet h k =
    let P : InputData → Type 0 = λ i. Fails m (moment i o.output) Write answers text in
    let all = append_known o.output.written (k.lost ++ h.cut) in
    let some = append_known o.output.written k.lost in
    let T : List ℕ → Type 0 = λ u. Appends (said_so_far m.output) all u in
    let begun = Appends-trans (said_so_far m.output) (said_so_far n.output) some answers [] (h.before no_write) k.says in
    subst P (sym same)
    (record {
      bytes = h.bytes;
      took = h.took;
      counted = h.counted;
      same_source = h.same_source;
      lost = k.lost ++ h.cut;
      says = subst T (ap (λ (u : List ℕ). u ++ h.cut) (append-nil answers) ∙ sym h.whole)
          (Appends-trans (said_so_far m.output) some all (answers ++ []) h.cut begun (wait_known o.output.written k.lost (k.lost ++ h.cut) h.cut refl));
      grows = Grows-trans m.output.written n.output.written o.output.written h.grows k.grows;
      same_sink = k.same_sink ∙ h.same_sink;
      cause = (quiet.0, k.failed ∙ ap (λ (u : ℕ). u + 1) quiet.1);
      cut = h.cut;
      whole = h.whole;
      before = λ no. absurd (no refl);
      idle = λ is. absurd (let no : ⊥ = cc in no);
    })

-- ---- bytes that were written in part

-- the first `at` bytes were written, and then a call failed that wrote none
pub begun_to : (a b c : Option (List ℕ)) (bytes : List ℕ) (at : ℕ) → Appends a b (take at bytes) → Keeps b c → HasBegun a c bytes
begun_to None b c bytes at h k = ([], tt, (bytes, refl))
begun_to (Some xs) None c bytes at h k = absurd h
begun_to (Some xs) (Some ys) None bytes at h k = absurd k
begun_to (Some xs) (Some ys) (Some zs) bytes at h k = (take at bytes, k ∙ h, (drop at bytes, sym (take-append-drop at bytes)))

-- all bytes were written, and then a call failed that wrote none
pub begun_whole : (a b c : Option (List ℕ)) (bytes : List ℕ) → Appends a b bytes → Keeps b c → HasBegun a c bytes
begun_whole None b c bytes h k = ([], tt, (bytes, refl))
begun_whole (Some xs) None c bytes h k = absurd h
begun_whole (Some xs) (Some ys) None bytes h k = absurd k
begun_whole (Some xs) (Some ys) (Some zs) bytes h k = (bytes, k ∙ h, ([], sym (append-nil bytes)))

-- ---- by how a call ended

-- what waited was written, and then a text that can't wait was written, or a beginning of it
module _ (o q p : OutputData) (bytes : List ℕ) (written : Option (List ℕ)) (failures : ℕ) (put : Says o q []) (none : q.waiting ≡ []) (sink : p.sink ≡ q.sink)
    (its_written : q.written ≡ written) (its_failures : q.failed_writes ≡ failures) where
  pub ok_written : (r : Result (Unit {0}) SessionFault) → p.waiting ≡ q.waiting → OnOk r (Appends written p.written bytes) → OnOk r (p.failed_writes ≡ failures)
      → OnOk r (Says o p bytes)
  ok_written (Ok x) same says failed =
      let P : Option (List ℕ) → Type 0 = λ w. Appends w p.written bytes in
      Says-trans o q p [] bytes put (says_written q p bytes none same (subst P (sym its_written) says) (failed ∙ sym its_failures) sink)
  ok_written (Err e) same says failed = tt

  pub err_written : (r : Result (Unit {0}) SessionFault) → IfErr r (λ f. f ≡ Write) → OnErr r (HasBegun written p.written bytes)
      → OnErr r (p.failed_writes ≡ failures + 1) → IfErr r (λ f. Breaks o p f bytes)
  err_written (Ok x) is begun failed = tt
  err_written (Err f) is begun failed =
      let P : Option (List ℕ) → Type 0 = λ w. HasBegun w p.written bytes in
      let more = ap (λ (u : ℕ). u + 1) (sym its_failures) in
      breaks_after o q p f [] bytes is put (breaks_text q p f bytes none is (subst P (sym its_written) begun) (failed ∙ more) sink)

-- a text was said, and a write of all that waits failed
pub err_put : (o q p : OutputData) (bytes : List ℕ) (r : Result (Unit {0}) SessionFault) → Says o q bytes → IfErr r (λ f. f ≡ Write) → IfErr r (λ f. Breaks q p f [])
    → IfErr r (λ f. Breaks o p f bytes)
err_put o q p bytes (Ok x) h is k = tt
err_put o q p bytes (Err f) h is k =
    let P : List ℕ → Type 0 = λ u. Breaks o p f u in
    subst P (append-nil bytes) (breaks_after o q p f bytes [] is h k)

-- a second text was said after the first
pub ok_after : (o q p : OutputData) (x y : List ℕ) (r : Result (Unit {0}) SessionFault) → Says o q x → OnOk r (Says q p y) → OnOk r (Says o p (x ++ y))
ok_after o q p x y (Ok u) h k = Says-trans o q p x y h k
ok_after o q p x y (Err f) h k = tt

pub err_after : (o q p : OutputData) (x y : List ℕ) (r : Result (Unit {0}) SessionFault) → Says o q x → IfErr r (λ f. f ≡ Write)
    → IfErr r (λ f. Breaks q p f y) → IfErr r (λ f. Breaks o p f (x ++ y))
err_after o q p x y (Ok u) h is k = tt
err_after o q p x y (Err f) h is k = breaks_after o q p f x y is h k

-- a fault of the book stopped the output before any of the answer was said
pub breaks_book : (o p : OutputData) (fault : BookFault) (text : List ℕ) → p ≡ o → Breaks o p (of_book fault) text
breaks_book o p fault text same =
    let P : OutputData → Type 0 = λ q. Breaks o q (of_book fault) text in
    subst P (sym same) (by_fault fault)
  where
    by_fault : (f : BookFault) → Breaks o o (of_book f) text
    by_fault book_faults.Full = breaks_unsaid o Full text refl
    by_fault book_faults.Memory = breaks_unsaid o Memory text refl

-- memory ran out before anything was said
pub memory_unsaid : (o : OutputData) (fault : SessionFault) → fault ≡ Memory → Breaks o o fault [] × (fault ≢ Full)
memory_unsaid o fault is =
    let P : SessionFault → Type 0 = λ f. Breaks o o f [] × (f ≢ Full) in
    subst P (sym is) (breaks_unsaid o Memory [] refl, λ e. (let no : ⊥ = cc in no))

-- a fault came before the whole of a command was taken, and the input is unchanged since then
pub taking_same : (Such : List ℕ → Type 0) (m n : Moment) (i : InputData) (fault : SessionFault) → i ≡ n.input → FailsTaking Such m n fault
    → FailsTaking Such m (moment i n.output) fault
taking_same Such m n i fault same h = let P : InputData → Type 0 = λ j. FailsTaking Such m (moment j n.output) fault in subst P (sym same) h
