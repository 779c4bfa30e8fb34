-- What is read piece by piece is what the whole is read as.
use Rattle.std.proofs.Common.{◌≡◌, ◌⊎◌, ℕ, suc, ◌+◌, ◌≤◌, List, [], ◌∷◌, ◌++◌, length, Option, Some, None, Result, Ok, Err, IsSome, IfSome, option_map, refl, sym, ap, subst, ◌∙◌, append_assoc, append-nil, arith, inl, inr}
use Rattle.std.specs.List.{concat}
use Rattle.covdata.specs.declared.version.LcovVersion.{LcovVersion}
use Rattle.covdata.specs.declared.version.LcovVersion.TheVariants.{One, Two}
use Rattle.covlcov2.specs.Outcome as lcov2
use Rattle.covdata.specs.Row.{SectData, SubmissionData}
use Rattle.covpieces.proofs.InPieces.{joined_nothing}
use Rattle.covpieces.specs.Pieces.{CarriedData, HaveBeenRead, OneByOne, all_of, carried_after, front_text, joined, lcov2_carried_after, moved, no_sections, nothing_carried, told}
use Rattle.covpieces.specs.Sections.{EndsSection}
use Rattle.covpieces.specs.Whole.{IsWholeLcov2Outcome, IsWholeOutcome}
use Rattle.covread.specs.Outcome as trace
use Rattle.covdata.specs.declared.fault.ReadFault.{ReadFault}
use Rattle.covdata.specs.declared.fault.ReadFault.TheVariants.{TooLong, Line, Outside, Inside, Misplaced}
use Rattle.covlarge.proofs.Summary.{holds_all_if_told}
use Rattle.covlarge.proofs.ToCome.{all_after}
use Rattle.covlarge.specs.Large.{AreLong, BeginsTooLong, IsAll, IsReadAs, IsStop, MayBeReadAs, max_pieces, told_fault}
use Rattle.covlarge.specs.State.{EndsAs, IsFaultyPiece, MayGive, begun_after, begun_state}
use Rattle.covlarge.specs.StateData.{StateData}
use Rattle.covlarge.specs.Summary.{HoldsOnIfTold, SummaryData, nothing_held}
use Rattle.covlarge.specs.Version.{IsOutcomeOf, IsSkippedOf, IsWholeOf, carried_over}

abbrev End : Type 0
End = Result (Option SummaryData) ReadFault

-- ---- submissions

nothing_joined : (s : SubmissionData) → joined no_sections s ≡ s
nothing_joined s = ap (λ (n : ℕ). record { sects = s.sects; odd = n }) (omega arith)

joined_assoc : (a b c : SubmissionData) → joined a (joined b c) ≡ joined (joined a b) c
joined_assoc a b c =
    let sects : joined a (joined b c) ≡ record { sects = (a.sects ++ b.sects) ++ c.sects; odd = a.odd + (b.odd + c.odd) } =
    ap (λ (x : List SectData). record { sects = x; odd = a.odd + (b.odd + c.odd) }) (sym (append_assoc a.sects b.sects c.sects)) in
    let odd : record { sects = (a.sects ++ b.sects) ++ c.sects; odd = a.odd + (b.odd + c.odd) } ≡ joined (joined a b) c =
    ap (λ (n : ℕ). record { sects = (a.sects ++ b.sects) ++ c.sects; odd = n }) (omega arith) in
    sects ∙ odd

all_pushed : (before : List SubmissionData) (s : SubmissionData) → all_of (before ++ s ∷ []) ≡ joined (all_of before) s
all_pushed [] s = joined_nothing s ∙ sym (nothing_joined s)
all_pushed (first ∷ before) s = ap (joined first) (all_pushed before s) ∙ joined_assoc first (all_of before) s

as_many : (IsOutcome : List ℕ → Result SubmissionData ReadFault → Type 0) (over : CarriedData → List ℕ → List SectData → CarriedData) (c : CarriedData) (pieces : List (List ℕ)) (before : List SubmissionData) (last : CarriedData)
    → HaveBeenRead IsOutcome over c pieces before last → length pieces ≡ length before
as_many IsOutcome over c [] [] last each = refl
as_many IsOutcome over c [] (s ∷ before) last each = absurd each
as_many IsOutcome over c (piece ∷ pieces) [] last each = absurd each
as_many IsOutcome over c (piece ∷ pieces) (s ∷ before) last each = ap suc (as_many IsOutcome over (over c piece s.sects) pieces before last each.2)

-- ---- faults

told_moved : (c : CarriedData) (fault : ReadFault) → told c fault ≡ told_fault (moved c fault)
told_moved c (Line at fault) = refl
told_moved c (Outside at) = refl
told_moved c (Inside at) = refl
told_moved c (Misplaced at) = refl
told_moved c other = refl

ok_isnt_err : (s : SubmissionData) (f : ReadFault) → (let x : Result SubmissionData ReadFault = Ok s in let y : Result SubmissionData ReadFault = Err f in x ≡ y) → ⊥
ok_isnt_err s f e = cc

err_is : (f g : ReadFault) → (let x : Result SubmissionData ReadFault = Err f in let y : Result SubmissionData ReadFault = Err g in x ≡ y) → f ≡ g
err_is f g e = cc

-- the laws of both versions
abbrev pub LawOf : LcovVersion → Type 0
LawOf v = OneByOne (IsOutcomeOf v) (IsWholeOf v) (carried_over v)

pub law_of : OneByOne trace.IsOutcome IsWholeOutcome carried_after → OneByOne lcov2.IsOutcome IsWholeLcov2Outcome lcov2_carried_after → (v : LcovVersion) → LawOf v
law_of one two One = one
law_of one two Two = two

module _ {S : Type 0} (left : S → Option (List ℕ)) (v : LcovVersion) (held : Option SummaryData) (source : S) (law : LawOf v) (begins : IfSome held (λ (b : SummaryData). b ≡ nothing_held)) where
  ok_whole : (text : List ℕ) (pieces : List (List ℕ)) (before : List SubmissionData) (last : CarriedData) (rest : List ℕ) (s : SubmissionData) → text ≡ concat pieces ++ rest
      → HaveBeenRead (IsOutcomeOf v) (carried_over v) nothing_carried pieces before last → IsOutcomeOf v (front_text last ++ rest) (Ok s) → IsWholeOf v text (Ok (joined (all_of before) s))
  ok_whole text pieces before last rest s is each outcome =
      elim (law.last pieces before last rest (Ok s) each outcome) [
        | inl long ↦ absurd (ok_isnt_err s TooLong long)
        | inr whole ↦ subst (λ (t : List ℕ). IsWholeOf v t (Ok (joined (all_of before) s))) (sym is) whole
      ]

  faulty_end : (text : List ℕ) (pieces : List (List ℕ)) (before : List SubmissionData) (last : CarriedData) (rest : List ℕ) (fault : ReadFault) → text ≡ concat pieces ++ rest
      → HaveBeenRead (IsOutcomeOf v) (carried_over v) nothing_carried pieces before last → (fault ≡ TooLong → ⊥) → IsOutcomeOf v (front_text last ++ rest) (Err fault)
      → IsWholeOf v text (Err (moved last fault))
  faulty_end text pieces before last rest fault is each not outcome =
      elim (law.last pieces before last rest (Err fault) each outcome) [
        | inl long ↦ absurd (not (err_is fault TooLong long))
        | inr whole ↦ subst (λ (t : List ℕ). IsWholeOf v t (Err (moved last fault))) (sym is) whole
      ]

  faulty_inside : (text : List ℕ) (pieces : List (List ℕ)) (before : List SubmissionData) (last : CarriedData) (piece more : List ℕ) (fault : ReadFault) → text ≡ concat pieces ++ piece ++ more
      → HaveBeenRead (IsOutcomeOf v) (carried_over v) nothing_carried pieces before last → EndsSection piece → (fault ≡ TooLong → ⊥) → IsOutcomeOf v (front_text last ++ piece) (Err fault)
      → IsWholeOf v text (Err (moved last fault))
  faulty_inside text pieces before last piece more fault is each ends not outcome =
      elim (law.fault pieces before last piece more fault each ends outcome) [
        | inl long ↦ absurd (not long)
        | inr whole ↦ subst (λ (t : List ℕ). IsWholeOf v t (Err (moved last fault))) (sym is) whole
      ]

  faulty_whole : (text : List ℕ) (pieces : List (List ℕ)) (before : List SubmissionData) (last : CarriedData) (rest : List ℕ) (fault : ReadFault) → text ≡ concat pieces ++ rest
      → HaveBeenRead (IsOutcomeOf v) (carried_over v) nothing_carried pieces before last → (f : IsFaultyPiece v last rest fault)
      → EndsSection f.piece ⊎ (f.more ≡ []) → IsWholeOf v text (Err (moved last f.found))
  faulty_whole text pieces before last rest fault is each f (inl ends) =
      let whole = is ∙ ap (λ (t : List ℕ). concat pieces ++ t) f.together ∙ sym (append_assoc (concat pieces) f.piece f.more) in
      faulty_inside text pieces before last f.piece f.more f.found whole each ends f.isnt_long f.outcome
  faulty_whole text pieces before last rest fault is each f (inr none) =
      let all : rest ≡ f.piece = f.together ∙ ap (λ (t : List ℕ). f.piece ++ t) none ∙ append-nil f.piece in
      let whole = is ∙ ap (λ (t : List ℕ). concat pieces ++ t) all in
      faulty_end text pieces before last f.piece f.found whole each f.isnt_long f.outcome

  stop_of : (text : List ℕ) (pieces : List (List ℕ)) (before : List SubmissionData) (last : CarriedData) (rest : List ℕ) (fault : ReadFault) → text ≡ concat pieces ++ rest
      → HaveBeenRead (IsOutcomeOf v) (carried_over v) nothing_carried pieces before last
      → IsFaultyPiece v last rest fault ⊎ ((fault ≡ TooLong) × (BeginsTooLong (front_text last) rest ⊎ (max_pieces ≤ length before)))
      → IsStop v text last rest (length pieces) fault
  stop_of text pieces before last rest fault is each (inl faulty) =
      inl (moved last faulty.found, faulty_whole text pieces before last rest fault is each faulty faulty.ends, faulty.is ∙ told_moved last faulty.found)
  stop_of text pieces before last rest fault is each (inr (long, inl begins)) = inr (long, inl begins)
  stop_of text pieces before last rest fault is each (inr (long, inr many)) =
      inr (long, inr (subst (λ (n : ℕ). max_pieces ≤ n) (sym (as_many (IsOutcomeOf v) (carried_over v) nothing_carried pieces before last each)) many))

  read_as : (first text : List ℕ) (read : List SubmissionData) (end : End) (pieces : List (List ℕ)) (before : List SubmissionData) (last : CarriedData) (rest : List ℕ) → text ≡ concat pieces ++ rest
      → HaveBeenRead (IsOutcomeOf v) (carried_over v) nothing_carried pieces before last → AreLong (carried_over v) nothing_carried pieces before
      → EndsAs (begun_after v held first source) text before last rest read end → IsReadAs v text read end
  read_as first text read (Ok summary) pieces before last rest is each long (s, outcome, all, holds) =
      let same : all_of read ≡ joined (all_of before) s = ap all_of all ∙ all_pushed before s in (
        subst (λ (x : SubmissionData). IsWholeOf v text (Ok x)) (sym same) (ok_whole text pieces before last rest s is each outcome),
        holds_all_if_told (IsSkippedOf v) text (all_of read) held summary begins holds,
      )
  read_as first text read (Err fault) pieces before last rest is each long (all, why) = record {
    pieces = pieces;
    rest = rest;
    carried = last;
    together = is;
    each = subst (λ (r : List SubmissionData). HaveBeenRead (IsOutcomeOf v) (carried_over v) nothing_carried pieces r last) (sym all) each;
    long = subst (λ (r : List SubmissionData). AreLong (carried_over v) nothing_carried pieces r) (sym all) long;
    stop = stop_of text pieces before last rest fault is each why;
  }

  -- whatever the pieces give is what the whole may be read as
  whole : (read : List SubmissionData) (end : End) → MayGive left (begun_state v held source) read end → MayBeReadAs v (left source) read end
  whole read end (text, (more, is, all), goes) = (
    text,
    subst (λ (t : List ℕ). IsAll (left source) t) (sym is) all,
    read_as [] text read end goes.pieces goes.before goes.last goes.rest goes.together goes.each goes.long goes.ends,
  )

  pub whole_of : (state : StateData S) → state ≡ begun_state v held source → (read : List SubmissionData) (end : End) → MayGive left state read end → MayBeReadAs v (left source) read end
  whole_of state is read end gives = whole read end (subst (λ (s : StateData S). MayGive left s read end) is gives)

  -- the same if the first bytes were read of the source before
  after : (first : List ℕ) (read : List SubmissionData) (end : End) → MayGive left (begun_after v held first source) read end
      → MayBeReadAs v (option_map (λ (more : List ℕ). first ++ more) (left source)) read end
  after first read end (text, (more, is, all), goes) = (
    text,
    all_after first (left source) more text is all,
    read_as first text read end goes.pieces goes.before goes.last goes.rest goes.together goes.each goes.long goes.ends,
  )

  pub whole_after : (first : List ℕ) (state : StateData S) → state ≡ begun_after v held first source → (read : List SubmissionData) (end : End) → MayGive left state read end
      → MayBeReadAs v (option_map (λ (more : List ℕ). first ++ more) (left source)) read end
  whole_after first state is read end gives = after first read end (subst (λ (s : StateData S). MayGive left s read end) is gives)

-- what the whole holds is told at its end, if that was asked for
is_told : (p : List ℕ → Type 0) (n : ℕ) (text : List ℕ) (s : SubmissionData) (b : SummaryData) (told : Option SummaryData) → HoldsOnIfTold p n (Some b) text s told → IsSome told
is_told p n text s b None holds = absurd holds
is_told p n text s b (Some a) holds = refl

pub told_at_end : {S : Type 0} (left : S → Option (List ℕ)) (state : StateData S) (read : List SubmissionData) (told : Option SummaryData)
    → state.held ≡ Some nothing_held → MayGive left state read (Ok told) → IsSome told
told_at_end left state read told begun (text, all, goes) =
    is_told (IsSkippedOf state.version) state.carried.lines text (all_of read) nothing_held told
    (subst (λ (h : Option SummaryData). HoldsOnIfTold (IsSkippedOf state.version) state.carried.lines h text (all_of read) told) begun goes.ends.3)

-- otherwise nothing is told
isnt_told : (p : List ℕ → Type 0) (n : ℕ) (text : List ℕ) (s : SubmissionData) (told : Option SummaryData) → HoldsOnIfTold p n None text s told → told ≡ None
isnt_told p n text s None holds = refl
isnt_told p n text s (Some a) holds = absurd holds

pub untold_at_end : {S : Type 0} (left : S → Option (List ℕ)) (state : StateData S) (read : List SubmissionData) (told : Option SummaryData)
    → state.held ≡ None → MayGive left state read (Ok told) → told ≡ None
untold_at_end left state read told none (text, all, goes) =
    isnt_told (IsSkippedOf state.version) state.carried.lines text (all_of read) told
    (subst (λ (h : Option SummaryData). HoldsOnIfTold (IsSkippedOf state.version) state.carried.lines h text (all_of read) told) none goes.ends.3)
