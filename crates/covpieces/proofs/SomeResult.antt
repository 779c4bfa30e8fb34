-- Each list of pieces says something, and the whole text says one thing: so the whole is read in pieces as it is read at once.
use Rattle.std.proofs.Common.{◌≡◌, ◌⊎◌, ℕ, List, [], ◌∷◌, ◌++◌, Result, Ok, Err, refl, ap, subst, inl, inr}
use Rattle.covline.specs.Lines.{lines_of}
use Rattle.covdata.specs.Row.{SubmissionData}
use Rattle.covdata.specs.declared.fault.ReadFault.{ReadFault}
use Rattle.covdata.specs.declared.fault.ReadFault.TheVariants.{TooLong}
use Rattle.covread.proofs.TraceGrammar.{LineLaw}
use Rattle.covread.proofs.TraceOutcome as trace
use Rattle.covlcov2.specs.LineLaws.{Lcov2LineLaw}
use Rattle.covlcov2.proofs.OneOutcome as lcov2
use Rattle.covpieces.specs.Pieces.{IsCut, CarriedData, nothing_carried, front_text, moved, joined, no_sections, ReadsInPieces}
use Rattle.covpieces.specs.Whole.{IsWholeOutcome, IsWholeLcov2Outcome}
use Rattle.covpieces.proofs.InPieces.{Outcomes, Next}

-- two outcomes of a whole text are equal
pub one_whole : LineLaw → (text : List ℕ) (r s : Result SubmissionData ReadFault) → IsWholeOutcome text r → IsWholeOutcome text s → r ≡ s
one_whole law text (Ok a) (Ok b) h k = ap (λ (x : SubmissionData). Ok x) (trace.one_submission law (lines_of text) a b h k)
one_whole law text (Ok a) (Err g) h k = absurd (trace.lawful_no_fault (lines_of text) g (a, h) k)
one_whole law text (Err f) (Ok b) h k = absurd (trace.lawful_no_fault (lines_of text) f (b, k) h)
one_whole law text (Err f) (Err g) h k = ap (λ (x : ReadFault). Err x) (trace.one_fault law (lines_of text) f g h k)

pub one_whole_lcov2 : Lcov2LineLaw → (text : List ℕ) (r s : Result SubmissionData ReadFault) → IsWholeLcov2Outcome text r → IsWholeLcov2Outcome text s → r ≡ s
one_whole_lcov2 law text (Ok a) (Ok b) h k = ap (λ (x : SubmissionData). Ok x) (lcov2.one_submission law (lines_of text) a b h k)
one_whole_lcov2 law text (Ok a) (Err g) h k = absurd (lcov2.lawful_no_fault (lines_of text) g (a, h) k)
one_whole_lcov2 law text (Err f) (Ok b) h k = absurd (lcov2.lawful_no_fault (lines_of text) f (b, k) h)
one_whole_lcov2 law text (Err f) (Err g) h k = ap (λ (x : ReadFault). Err x) (lcov2.one_fault law (lines_of text) f g h k)

module _ (IsOutcome : Outcomes) (next : Next) (some : (text : List ℕ) → (outcome : Result SubmissionData ReadFault) × IsOutcome text outcome) where
  abbrev Result_of : CarriedData → List (List ℕ) → Type 0
  Result_of c pieces = (r : Result SubmissionData ReadFault) × ReadsInPieces IsOutcome next c pieces r

  after_ok : (c : CarriedData) (piece : List ℕ) (pieces : List (List ℕ)) (s : SubmissionData) → IsOutcome (front_text c ++ piece) (Ok s)
      → (rest : Result SubmissionData ReadFault) → ReadsInPieces IsOutcome next (next c piece s.sects) pieces rest → Result_of c (piece ∷ pieces)
  after_ok c piece pieces s outcome (Ok t) reads = (Ok (joined s t), (s, t, outcome, reads, refl))
  after_ok c piece pieces s outcome (Err f) reads = (Err f, inr (s, outcome, reads))

  result_after : (c : CarriedData) (piece : List ℕ) (pieces : List (List ℕ)) (others : (d : CarriedData) → Result_of d pieces) (told : Result SubmissionData ReadFault)
      → IsOutcome (front_text c ++ piece) told → Result_of c (piece ∷ pieces)
  result_after c piece pieces others (Ok s) outcome =
      let rest = others (next c piece s.sects) in
      after_ok c piece pieces s outcome rest.0 rest.1
  result_after c piece pieces others (Err f) outcome = (Err (moved c f), inl (f, outcome, refl))

  pub some_result : (c : CarriedData) (pieces : List (List ℕ)) → Result_of c pieces
  some_result c [] = (Ok no_sections, refl)
  some_result c (piece ∷ pieces) =
      let first = some (front_text c ++ piece) in
      result_after c piece pieces (λ d. some_result d pieces) first.0 first.1

  -- if the pieces say what the whole says, and the whole says one thing, the pieces say that
  pub back : (IsWhole : Outcomes)
      → ((text : List ℕ) (pieces : List (List ℕ)) (r : Result SubmissionData ReadFault) → IsCut text pieces → ReadsInPieces IsOutcome next nothing_carried pieces r → (r ≡ Err TooLong) ⊎ IsWhole text r)
      → ((text : List ℕ) (r s : Result SubmissionData ReadFault) → IsWhole text r → IsWhole text s → r ≡ s)
      → (text : List ℕ) (pieces : List (List ℕ)) (r : Result SubmissionData ReadFault) → IsCut text pieces → IsWhole text r
      → ReadsInPieces IsOutcome next nothing_carried pieces (Err TooLong) ⊎ ReadsInPieces IsOutcome next nothing_carried pieces r
  back IsWhole whole one text pieces r cut is =
      let given = some_result nothing_carried pieces in
      elim (whole text pieces given.0 cut given.1) [
        | inl long ↦ inl (subst (λ (x : Result SubmissionData ReadFault). ReadsInPieces IsOutcome next nothing_carried pieces x) long given.1)
        | inr told ↦ inr (subst (λ (x : Result SubmissionData ReadFault). ReadsInPieces IsOutcome next nothing_carried pieces x) (one text given.0 r told is) given.1)
      ]
