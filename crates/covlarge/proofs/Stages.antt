-- What may come of a tracefile of which some pieces were read.
use Rattle.std.proofs.Common.{◌≡◌, ◌⊎◌, ℕ, ◌+◌, ◌<◌, ◌≤◌, List, [], ◌∷◌, ◌++◌, length, take, drop, Option, Result, Ok, Err, refl, sym, ap, subst, ◌∙◌, append_assoc, append-nil, length-append, take-append-drop, arith, inl, inr}
use Rattle.std.proofs.lemmas.List.{take-append-le, length-take-le}
use Rattle.std.proofs.lemmas.Bool.{cases_order}
use Rattle.std.specs.List.{concat}
use Rattle.std.specs.Io.KnownBytes.{Consumes, IsAtEnd}
use Rattle.covdata.specs.declared.version.LcovVersion.{LcovVersion}
use Rattle.covdata.specs.declared.version.LcovVersion.TheVariants.{One, Two}
use Rattle.covline.specs.Lines.{lines_of}
use Rattle.covdata.specs.Row.{SectData, SubmissionData}
use Rattle.covpieces.proofs.InPieces.{joined_nothing}
use Rattle.covpieces.specs.Pieces.{CarriedData, HaveBeenRead, all_of, front_text, joined}
use Rattle.covpieces.specs.Sections.{EndsSection}
use Rattle.covread.specs.Outcome.{max_bytes}
use Rattle.covdata.specs.declared.fault.ReadFault.{ReadFault}
use Rattle.covdata.specs.declared.fault.ReadFault.TheVariants.{TooLong}
use Rattle.covlarge.proofs.Summary.{holds_then_if_told}
use Rattle.covlarge.proofs.ToCome.{some_text, all_to_end, all_further, all_on, come_on}
use Rattle.covlarge.specs.Found.{BeginsLong}
use Rattle.covlarge.specs.Large.{AreLong, BeginsTooLong, piece_bytes}
use Rattle.covlarge.specs.Piece.{IsRefused}
use Rattle.covlarge.specs.State.{EndsAs, GoesOn, IsFaultyPiece, IsToCome, MayGive}
use Rattle.covlarge.specs.StateData.{StateData}
use Rattle.covlarge.specs.Summary.{HoldsOnIfTold, SummaryData}
use Rattle.covlarge.specs.Version.{IsOutcomeOf, IsSkippedOf, carried_over}

abbrev End : Type 0
End = Result (Option SummaryData) ReadFault

-- ---- nothing more is read

module _ {S : Type 0} (left : S → Option (List ℕ)) (state : StateData S) where
  -- no more pieces are read
  pub stops : state.left ≡ 0 → MayGive left state [] (Err TooLong)
  stops none =
      let more = some_text (left state.source) in (
        state.rest ++ more.0,
        (more.0, refl, more.1),
        record { pieces = []; before = []; last = state.carried; rest = state.rest ++ more.0; together = refl; each = refl; long = tt; ends = (refl, inr (refl, inr (omega (arith, none)))) },
      )

  -- the last piece
  pub ends_here : (after : S) (bytes body : List ℕ) (s : SubmissionData) (told : Option SummaryData) → Consumes (left state.source) (left after) bytes → IsAtEnd (left after)
      → body ≡ state.rest ++ bytes → IsOutcomeOf state.version (front_text state.carried ++ body) (Ok s)
      → HoldsOnIfTold (IsSkippedOf state.version) state.carried.lines state.held body s told → MayGive left state (s ∷ []) (Ok told)
  ends_here after bytes body s told took end is outcome holds =
      let all : IsToCome left state body = (bytes, is, all_to_end (left state.source) (left after) bytes took end) in
      let whole : HoldsOnIfTold (IsSkippedOf state.version) state.carried.lines state.held body (all_of (s ∷ [])) told =
      subst (λ (x : SubmissionData). HoldsOnIfTold (IsSkippedOf state.version) state.carried.lines state.held body x told) (sym (joined_nothing s)) holds in (
        body,
        all,
        record { pieces = []; before = []; last = state.carried; rest = body; together = refl; each = refl; long = tt; ends = (s, outcome, refl, whole) },
      )

  -- the last piece is refused
  pub last_refused : (after : S) (bytes body : List ℕ) (fault : ReadFault) → Consumes (left state.source) (left after) bytes → IsAtEnd (left after)
      → body ≡ state.rest ++ bytes → IsRefused state.version state.carried (front_text state.carried ++ body) fault → MayGive left state [] (Err fault)
  last_refused after bytes body fault took end is why =
      let all : IsToCome left state body = (bytes, is, all_to_end (left state.source) (left after) bytes took end) in
      let faulty : IsFaultyPiece state.version state.carried body fault = record {
        piece = body;
        more = [];
        together = sym (append-nil body);
        ends = inr refl;
        found = why.found;
        isnt_long = why.isnt_long;
        outcome = why.outcome;
        is = why.is;
      } in (
        body,
        all,
        record { pieces = []; before = []; last = state.carried; rest = body; together = refl; each = refl; long = tt; ends = (refl, inl faulty) },
      )

  -- a piece is refused that ends with a section
  pub piece_refused : (after : S) (bytes body : List ℕ) (n : ℕ) (fault : ReadFault) → Consumes (left state.source) (left after) bytes → body ≡ state.rest ++ bytes → EndsSection (take n body)
      → IsRefused state.version state.carried (front_text state.carried ++ take n body) fault → MayGive left state [] (Err fault)
  piece_refused after bytes body n fault took is ends why =
      let further = all_further (left state.source) (left after) bytes took in
      let all : IsToCome left state (body ++ further.0) = (bytes ++ further.0, ap (λ (t : List ℕ). t ++ further.0) is ∙ append_assoc state.rest bytes further.0, further.1) in
      let faulty : IsFaultyPiece state.version state.carried (body ++ further.0) fault = record {
        piece = take n body;
        more = drop n body ++ further.0;
        together = ap (λ (t : List ℕ). t ++ further.0) (sym (take-append-drop n body)) ∙ append_assoc (take n body) (drop n body) further.0;
        ends = inl ends;
        found = why.found;
        isnt_long = why.isnt_long;
        outcome = why.outcome;
        is = why.is;
      } in (
        body ++ further.0,
        all,
        record { pieces = []; before = []; last = state.carried; rest = body ++ further.0; together = refl; each = refl; long = tt; ends = (refl, inl faulty) },
      )

-- ---- a section that is too long

at_least_by : (most m : ℕ) → (m ≤ most → ⊥) → (most ≡ m) ⊎ ((most < m) ⊎ (m < most)) → most < m
at_least_by most m not (inl same) = absurd (not (omega (arith, same)))
at_least_by most m not (inr (inl less)) = less
at_least_by most m not (inr (inr more)) = absurd (not (omega (arith, more)))

pub at_least : (most m : ℕ) → (m ≤ most → ⊥) → most < m
at_least most m not = at_least_by most m not (cases_order most m)

long_section : (most : ℕ) (front body more : List ℕ) → BeginsLong most (length front) body → (n : ℕ) → n ≤ length (body ++ more) → EndsSection (take n (body ++ more))
    → most < length (front ++ take n (body ++ more))
long_section most front body more long n within ends =
    let len : length (front ++ take n (body ++ more)) ≡ length front + n = length-append front (take n (body ++ more)) ∙ ap (λ (k : ℕ). length front + k) (length-take-le n (body ++ more) within) in
    let not = λ (few : length front + n ≤ most).
    let inside : n ≤ length body = omega (arith, long.long, few) in
    long.none n inside few (subst (λ (t : List ℕ). EndsSection t) (take-append-le n body more inside) ends) in
    let many : most < length front + n = at_least most (length front + n) not in
    omega (arith, len, many)

long_text : (most : ℕ) (front body more : List ℕ) → BeginsLong most (length front) body → most < length (front ++ (body ++ more))
long_text most front body more long = omega (arith, long.long, length-append front (body ++ more), length-append body more)

pub begins_too_long : (front body more : List ℕ) → BeginsLong max_bytes (length front) body → BeginsTooLong front (body ++ more)
begins_too_long front body more long = record { all = long_text max_bytes front body more long; section = long_section max_bytes front body more long }

pub too_long : {S : Type 0} (left : S → Option (List ℕ)) (state : StateData S) (after : S) (bytes body : List ℕ) → Consumes (left state.source) (left after) bytes → body ≡ state.rest ++ bytes
    → BeginsLong max_bytes (length (front_text state.carried)) body → MayGive left state [] (Err TooLong)
too_long left state after bytes body took is long =
    let further = all_further (left state.source) (left after) bytes took in
    let all : IsToCome left state (body ++ further.0) = (bytes ++ further.0, ap (λ (t : List ℕ). t ++ further.0) is ∙ append_assoc state.rest bytes further.0, further.1) in
    let begins : BeginsTooLong (front_text state.carried) (body ++ further.0) = begins_too_long (front_text state.carried) body further.0 long in (
      body ++ further.0,
      all,
      record { pieces = []; before = []; last = state.carried; rest = body ++ further.0; together = refl; each = refl; long = tt; ends = (refl, inr (refl, inl begins)) },
    )

-- ---- one piece more

pub lines_over : (v : LcovVersion) (c : CarriedData) (piece : List ℕ) (sects : List SectData) → (carried_over v c piece sects).lines ≡ c.lines + length (lines_of piece)
lines_over One c piece sects = refl
lines_over Two c piece sects = refl

module _ {S : Type 0} (state next : StateData S) (piece : List ℕ) (s : SubmissionData)
    (ends : EndsSection piece) (outcome : IsOutcomeOf state.version (front_text state.carried ++ piece) (Ok s))
    (holds : HoldsOnIfTold (IsSkippedOf state.version) state.carried.lines state.held piece s next.held)
    (version : next.version ≡ state.version) (carried : next.carried ≡ carried_over state.version state.carried piece s.sects) (one : state.left ≤ next.left + 1)
    (far : (more following others : List ℕ) → next.rest ++ more ≡ following ++ others → EndsSection following
    → (piece_bytes < length piece + length following) ⊎ (max_bytes < length (front_text state.carried) + piece_bytes)) where
  lines_then : next.carried.lines ≡ state.carried.lines + length (lines_of piece)
  lines_then = ap (λ (c : CarriedData). c.lines) carried ∙ lines_over state.version state.carried piece s.sects

  each_more : (pieces : List (List ℕ)) (before : List SubmissionData) (last : CarriedData) → HaveBeenRead (IsOutcomeOf next.version) (carried_over next.version) next.carried pieces before last
      → HaveBeenRead (IsOutcomeOf state.version) (carried_over state.version) state.carried (piece ∷ pieces) (s ∷ before) last
  each_more pieces before last each =
      let same = subst (λ (v : LcovVersion). HaveBeenRead (IsOutcomeOf v) (carried_over v) next.carried pieces before last) version each in
      (ends, outcome, subst (λ (c : CarriedData). HaveBeenRead (IsOutcomeOf state.version) (carried_over state.version) c pieces before last) carried same)

  holds_more : (text : List ℕ) (t : SubmissionData) (told : Option SummaryData) → HoldsOnIfTold (IsSkippedOf next.version) next.carried.lines next.held text t told
      → HoldsOnIfTold (IsSkippedOf state.version) state.carried.lines state.held (piece ++ text) (joined s t) told
  holds_more text t told later =
      let same = subst (λ (v : LcovVersion). HoldsOnIfTold (IsSkippedOf v) next.carried.lines next.held text t told) version later in
      let counted = subst (λ (n : ℕ). HoldsOnIfTold (IsSkippedOf state.version) n next.held text t told) lines_then same in
      holds_then_if_told (IsSkippedOf state.version) state.carried.lines state.held piece text s t next.held told ends holds counted

  faulty_more : (last : CarriedData) (rest : List ℕ) (fault : ReadFault) → IsFaultyPiece next.version last rest fault → IsFaultyPiece state.version last rest fault
  faulty_more last rest fault faulty = subst (λ (v : LcovVersion). IsFaultyPiece v last rest fault) version faulty

  ends_more : (text : List ℕ) (before : List SubmissionData) (last : CarriedData) (rest : List ℕ) (read : List SubmissionData) (end : End) → EndsAs next text before last rest read end
      → EndsAs state (piece ++ text) (s ∷ before) last rest (s ∷ read) end
  ends_more text before last rest read (Ok told) (t, out, is, later) = (
    t,
    subst (λ (v : LcovVersion). IsOutcomeOf v (front_text last ++ rest) (Ok t)) version out,
    ap (λ (r : List SubmissionData). s ∷ r) is,
    holds_more text (all_of read) told later,
  )
  ends_more text before last rest read (Err fault) (is, inl faulty) = (ap (λ (r : List SubmissionData). s ∷ r) is, inl (faulty_more last rest fault faulty))
  ends_more text before last rest read (Err fault) (is, inr (long, inl begins)) = (ap (λ (r : List SubmissionData). s ∷ r) is, inr (long, inl begins))
  ends_more text before last rest read (Err fault) (is, inr (long, inr few)) = (ap (λ (r : List SubmissionData). s ∷ r) is, inr (long, inr (omega (arith, few, one))))

  -- this piece with the first one of the next, and the next ones among each other
  long_more : (text more rest : List ℕ) (pieces : List (List ℕ)) (before : List SubmissionData) (last : CarriedData) → text ≡ next.rest ++ more → text ≡ concat pieces ++ rest
      → HaveBeenRead (IsOutcomeOf next.version) (carried_over next.version) next.carried pieces before last → AreLong (carried_over next.version) next.carried pieces before
      → AreLong (carried_over state.version) state.carried (piece ∷ pieces) (s ∷ before)
  long_more text more rest [] before last is together each long = tt
  long_more text more rest (following ∷ pieces) [] last is together each long = absurd each
  long_more text more rest (following ∷ pieces) (t ∷ before) last is together each long =
      let same = subst (λ (v : LcovVersion). AreLong (carried_over v) next.carried (following ∷ pieces) (t ∷ before)) version long in (
        far more following (concat pieces ++ rest) (sym is ∙ together ∙ append_assoc following (concat pieces) rest) each.0,
        subst (λ (c : CarriedData). AreLong (carried_over state.version) c (following ∷ pieces) (t ∷ before)) carried same,
      )

  goes_more : (text more : List ℕ) (read : List SubmissionData) (end : End) → text ≡ next.rest ++ more → GoesOn next text read end → GoesOn state (piece ++ text) (s ∷ read) end
  goes_more text more read end is goes = record {
    pieces = piece ∷ goes.pieces;
    before = s ∷ goes.before;
    last = goes.last;
    rest = goes.rest;
    together = ap (λ (t : List ℕ). piece ++ t) goes.together ∙ sym (append_assoc piece (concat goes.pieces) goes.rest);
    each = each_more goes.pieces goes.before goes.last goes.each;
    long = long_more text more goes.rest goes.pieces goes.before goes.last is goes.together goes.each goes.long;
    ends = ends_more text goes.before goes.last goes.rest read end goes.ends;
  }

  -- what the rest gives, the whole gives with this piece's submission in front
  pub gives_more : (left : S → Option (List ℕ)) (bytes : List ℕ) → Consumes (left state.source) (left next.source) bytes → state.rest ++ bytes ≡ piece ++ next.rest
      → (read : List SubmissionData) (end : End) → MayGive left next read end → MayGive left state (s ∷ read) end
  gives_more left bytes took is read end (text, (more, is_text, all), goes) = (
    piece ++ text,
    (bytes ++ more, come_on state.rest bytes piece next.rest more text is is_text, all_on (left state.source) (left next.source) bytes more took all),
    goes_more text more read end is_text goes,
  )
