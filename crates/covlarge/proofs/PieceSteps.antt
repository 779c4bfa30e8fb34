-- What the next piece of a tracefile is read as. `view` is what is known of the tracefile's fields.
use Rattle.std.proofs.Common.{◌≡◌, ◌⊎◌, ℕ, ◌+◌, ◌-◌, ◌^◌, ◌<◌, ◌≤◌, List, [], ◌∷◌, ◌++◌, length, take, drop, Option, Ok, Err, inl, inr, sym, ap, subst, ◌∙◌, length-drop, length-take, take-append-drop, arith}
use Rattle.std.proofs.lemmas.Bool.{cases_lt}
use Rattle.std.proofs.lemmas.List.{length-take-le}
use Rattle.std.proofs.Math.Nat.{min-eq_left, min-le_right}
use Rattle.std.proofs.Math.Seq.{take-length}
use Rattle.std.specs.Io.KnownBytes.{Consumes, IsAtEnd}
use Rattle.std.specs.Prelude.{min}
use Rattle.covdata.specs.declared.version.LcovVersion.{LcovVersion}
use Rattle.covline.proofs.Cut.{length-lines}
use Rattle.covline.specs.Lines.{lines_of}
use Rattle.covdata.specs.Row.{SectData, SubmissionData}
use Rattle.covpieces.specs.Pieces.{CarriedData, front_text}
use Rattle.covpieces.specs.Sections.{EndsSection}
use Rattle.covread.specs.Outcome.{max_bytes}
use Rattle.covdata.specs.declared.fault.ReadFault.TheVariants.{TooLong}
use Rattle.covstream.specs.Blocks.{IsReadFault}
use Rattle.covstream.specs.declared.fault.BlockFault.{BlockFault}
use Rattle.covstream.specs.declared.fault.BlockFault.TheVariants as blocks
use Rattle.covlarge.proofs.Cuts.{ends_later}
use Rattle.covlarge.proofs.Stages.{stops, ends_here, last_refused, piece_refused, too_long, lines_over, gives_more}
use Rattle.covlarge.proofs.ToCome.{fails_here, fails_on}
use Rattle.covlarge.specs.Found.{AreSections, BeginsLong, HasFound, IsFound}
use Rattle.covlarge.specs.Large.{piece_bytes}
use Rattle.covlarge.specs.Piece.{IsRefused, IsUnread, of_block}
use Rattle.covlarge.specs.State.{IsNextPiece, MayGive}
use Rattle.covlarge.specs.StateData.{IsWithin, StateData}
use Rattle.covlarge.specs.Summary.{HoldsOnIfTold, SummaryData}
use Rattle.covlarge.specs.Version.{IsOutcomeOf, IsSkippedOf, carried_over}
use Rattle.covlarge.specs.declared.fault.PieceFault.{PieceFault}
use Rattle.covlarge.specs.declared.fault.PieceFault.TheVariants.{Refused, Unreadable, Memory}
use Rattle.covlarge.specs.declared.large_tracefile.NextPiece.TheVariants.{More}
use Rattle.covlarge.specs.declared.piece_text.Found.{Found}
use Rattle.covlarge.specs.declared.piece_text.Found.TheVariants as found

-- the bytes behind a piece
pub behind_piece : (n : ℕ) (text bytes rest : List ℕ) → rest ≡ take (length text - n) (drop n text) → text ≡ bytes → rest ≡ drop n bytes
behind_piece n text bytes rest is same =
    is ∙ ap (λ (k : ℕ). take k (drop n text)) (sym (length-drop n text)) ∙ take-length (drop n text) ∙ ap (drop n) same

-- the numbers after one more piece
pub within_more : (left left_after lines reads failed lines_after reads_after failed_after : ℕ) → IsWithin left lines reads failed → left ≡ left_after + 1 → lines_after ≤ lines + max_bytes
    → reads_after < reads + 2 ^ 28 → failed_after ≡ failed → IsWithin left_after lines_after reads_after failed_after
within_more left left_after lines reads failed lines_after reads_after failed_after within one few_lines few_reads same = record {
  few_lines = omega (arith, within.few_lines, few_lines, one);
  few_reads = omega (arith, within.few_reads, few_reads, one);
  no_failure = same ∙ within.no_failure;
}

pub few_lines_more : (v : LcovVersion) (c after : CarriedData) (body : List ℕ) (n : ℕ) (sects : List SectData) → after ≡ carried_over v c (take n body) sects → n ≤ max_bytes → after.lines ≤ c.lines + max_bytes
few_lines_more v c after body n sects is few =
    let counted : after.lines ≡ c.lines + length (lines_of (take n body)) = ap (λ (x : CarriedData). x.lines) is ∙ lines_over v c (take n body) sects in
    omega (arith, counted, length-lines (take n body), length-take n body, few)

module _ {S : Type 0} (left : S → Option (List ℕ)) (failed : S → ℕ) (view state : StateData S) (same : view ≡ state) where
  -- no more pieces may be read
  pub no_more : view.left ≡ 0 → MayGive left state [] (Err TooLong)
  no_more none = subst (λ (s : StateData S). MayGive left s [] (Err TooLong)) same (stops left view none)

  pub some_left : 0 < view.left → 0 < state.left
  some_left some = subst (λ (s : StateData S). 0 < s.left) same some

  -- no text was read
  unread_view : (after : S) (fault : BlockFault) → IsReadFault (left view.source) (left after) (failed view.source) (failed after) fault → IsNextPiece left failed view (Err (of_block fault))
  unread_view after blocks.Unreadable (bytes, took, more) = fails_here left failed view.source after bytes took more
  unread_view after blocks.Memory fault = tt

  pub unread : (after : S) (fault : BlockFault) → IsReadFault (left view.source) (left after) (failed view.source) (failed after) fault → IsNextPiece left failed state (Err (of_block fault))
  unread after fault why = subst (λ (s : StateData S). IsNextPiece left failed s (Err (of_block fault))) same (unread_view after fault why)

  -- ---- after a text was read

  module _ (after : S) (front_begun bytes_begun front body : List ℕ) (what : Found)
      (read : HasFound (min (length front_begun + piece_bytes) max_bytes) max_bytes front_begun bytes_begun body (left view.source) (left after) what)
      (front_same : front ≡ front_begun) (front_is : front_begun ≡ front_text view.carried) (bytes_are : bytes_begun ≡ view.rest) where
    -- at least so many bytes of the text were looked at, with its front
    abbrev least : ℕ
    least = min (length front_begun + piece_bytes) max_bytes

    front_of : front ≡ front_text view.carried
    front_of = front_same ∙ front_is

    body_is : body ≡ view.rest ++ read.0
    body_is = read.2 ∙ ap (λ (t : List ℕ). t ++ read.0) bytes_are

    long_view : what ≡ found.TooLong → MayGive left view [] (Err TooLong)
    long_view is =
        let long : BeginsLong max_bytes (length front_begun) body = subst (λ (w : Found). IsFound least max_bytes (length front_begun) body (IsAtEnd (left after)) w) is read.3 in
        too_long left view after read.0 body read.1 body_is (subst (λ (f : List ℕ). BeginsLong max_bytes (length f) body) front_is long)

    pub long : what ≡ found.TooLong → MayGive left state [] (Err TooLong)
    long is = subst (λ (s : StateData S). MayGive left s [] (Err TooLong)) same (long_view is)

    -- ---- the last piece

    at_end : what ≡ found.Last → IsAtEnd (left after)
    at_end is = (subst (λ (w : Found). IsFound least max_bytes (length front_begun) body (IsAtEnd (left after)) w) is read.3).0

    pub few_bytes : what ≡ found.Last → length front + length body ≤ max_bytes
    few_bytes is =
        let few = (subst (λ (w : Found). IsFound least max_bytes (length front_begun) body (IsAtEnd (left after)) w) is read.3).1 in
        subst (λ (f : List ℕ). length f + length body ≤ max_bytes) (sym front_same) few

    last_unread_view : what ≡ found.Last → (fault : PieceFault) → IsUnread view.version view.carried (front ++ body) fault → IsNextPiece left failed view (Err fault)
    last_unread_view is (Refused fault) why =
        last_refused left view after read.0 body fault read.1 (at_end is) body_is (subst (λ (f : List ℕ). IsRefused view.version view.carried (f ++ body) fault) front_of why)
    last_unread_view is Unreadable none = absurd none
    last_unread_view is Memory why = tt

    pub last_unread : what ≡ found.Last → (fault : PieceFault) → IsUnread view.version view.carried (front ++ body) fault → IsNextPiece left failed state (Err fault)
    last_unread is fault why = subst (λ (s : StateData S). IsNextPiece left failed s (Err fault)) same (last_unread_view is fault why)

    last_view : what ≡ found.Last → (s : SubmissionData) (told : Option SummaryData) → IsOutcomeOf view.version (front ++ body) (Ok s)
        → HoldsOnIfTold (IsSkippedOf view.version) view.carried.lines view.held body s told → MayGive left view (s ∷ []) (Ok told)
    last_view is s told outcome holds =
        ends_here left view after read.0 body s told read.1 (at_end is) body_is (subst (λ (f : List ℕ). IsOutcomeOf view.version (f ++ body) (Ok s)) front_of outcome) holds

    pub last_read : what ≡ found.Last → (s : SubmissionData) (told : Option SummaryData) → IsOutcomeOf view.version (front ++ body) (Ok s)
        → HoldsOnIfTold (IsSkippedOf view.version) view.carried.lines view.held body s told → MayGive left state (s ∷ []) (Ok told)
    last_read is s told outcome holds = subst (λ (x : StateData S). MayGive left x (s ∷ []) (Ok told)) same (last_view is s told outcome holds)

    -- ---- a piece that ends with a section

    are_sections : (n : ℕ) → what ≡ found.Sections n → AreSections least max_bytes (length front_begun) body n
    are_sections n is = subst (λ (w : Found). IsFound least max_bytes (length front_begun) body (IsAtEnd (left after)) w) is read.3

    pub sections : (n : ℕ) → what ≡ found.Sections n → (n ≤ length body) × (length front_begun + n ≤ max_bytes) × EndsSection (take n body)
    sections n is =
        let s = are_sections n is in
        (s.within, s.room, s.ends)

    -- the next piece makes this one long, unless its front does not leave room for that
    long_with : (n : ℕ) → what ≡ found.Sections n → (next_rest : List ℕ) → next_rest ≡ drop n body → (more following others : List ℕ) → next_rest ++ more ≡ following ++ others → EndsSection following
        → (piece_bytes < length (take n body) + length following) ⊎ (max_bytes < length (front_text view.carried) + piece_bytes)
    long_with n is next_rest rest more following others same ends =
        let s = are_sections n is in
        let few : least ≤ max_bytes = min-le_right (length front_begun + piece_bytes) max_bytes in
        let ended = ends_later least max_bytes (length front_begun) body n s few more following others (ap (λ (t : List ℕ). t ++ more) (sym rest) ∙ same) ends in
        let len : length (take n body) ≡ n = length-take-le n body s.within in
        let long_front : length front_begun ≡ length (front_text view.carried) = ap length front_is in
        elim (cases_lt max_bytes (length front_begun + piece_bytes)) [
          | inl none ↦ inr (omega (arith, none, long_front))
          | inr room ↦
              let exact : least ≡ length front_begun + piece_bytes = min-eq_left room in
              inl (omega (arith, exact, ended, len))
        ]

    pub few_in_piece : (n : ℕ) → what ≡ found.Sections n → length front + n ≤ max_bytes
    few_in_piece n is = subst (λ (f : List ℕ). length f + n ≤ max_bytes) (sym front_same) ((sections n is).1)

    piece_unread_view : (n : ℕ) → what ≡ found.Sections n → (fault : PieceFault) → IsUnread view.version view.carried (front ++ take n body) fault → IsNextPiece left failed view (Err fault)
    piece_unread_view n is (Refused fault) why =
        piece_refused left view after read.0 body n fault read.1 body_is ((sections n is).2) (subst (λ (f : List ℕ). IsRefused view.version view.carried (f ++ take n body) fault) front_of why)
    piece_unread_view n is Unreadable none = absurd none
    piece_unread_view n is Memory why = tt

    pub piece_unread : (n : ℕ) → what ≡ found.Sections n → (fault : PieceFault) → IsUnread view.version view.carried (front ++ take n body) fault → IsNextPiece left failed state (Err fault)
    piece_unread n is fault why = subst (λ (s : StateData S). IsNextPiece left failed s (Err fault)) same (piece_unread_view n is fault why)

    piece_view : (n : ℕ) → what ≡ found.Sections n → (next : StateData S) (s : SubmissionData) → next.source ≡ after → next.rest ≡ drop n body → next.version ≡ view.version
        → next.carried ≡ carried_over view.version view.carried (take n body) s.sects → view.left ≡ next.left + 1 → failed after ≡ failed view.source
        → IsOutcomeOf view.version (front ++ take n body) (Ok s) → HoldsOnIfTold (IsSkippedOf view.version) view.carried.lines view.held (take n body) s next.held
        → IsNextPiece left failed view (Ok (More s next))
    piece_view n is next s source rest version carried one good outcome holds =
        let took : Consumes (left view.source) (left next.source) read.0 = subst (λ (x : S). Consumes (left view.source) (left x) read.0) (sym source) read.1 in
        let joined : view.rest ++ read.0 ≡ take n body ++ next.rest = sym body_is ∙ sym (take-append-drop n body) ∙ ap (λ (t : List ℕ). take n body ++ t) (sym rest) in (
          omega (arith, one),
          λ fails. fails_on left failed view.source next.source read.0 took (ap failed source ∙ good) fails,
          gives_more view next (take n body) s ((sections n is).2) (subst (λ (f : List ℕ). IsOutcomeOf view.version (f ++ take n body) (Ok s)) front_of outcome) holds version carried
              (omega (arith, one)) (long_with n is next.rest rest) left read.0 took joined,
        )

    pub piece_read : (n : ℕ) → what ≡ found.Sections n → (next : StateData S) (s : SubmissionData) → next.source ≡ after → next.rest ≡ drop n body → next.version ≡ view.version
        → next.carried ≡ carried_over view.version view.carried (take n body) s.sects → view.left ≡ next.left + 1 → failed after ≡ failed view.source
        → IsOutcomeOf view.version (front ++ take n body) (Ok s) → HoldsOnIfTold (IsSkippedOf view.version) view.carried.lines view.held (take n body) s next.held
        → IsNextPiece left failed state (Ok (More s next))
    piece_read n is next s source rest version carried one good outcome holds =
        subst (λ (x : StateData S). IsNextPiece left failed x (Ok (More s next))) same (piece_view n is next s source rest version carried one good outcome holds)
