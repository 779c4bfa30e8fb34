-- A tracefile of which pieces are read one after another.
use Rattle.std.proofs.Common.{◌≡◌, ℕ, List, [], ◌∷◌, ◌++◌, Option, Result, Ok, Err, sym, subst, append_assoc}
use Rattle.covdata.specs.Row.{SubmissionData}
use Rattle.covdata.specs.declared.fault.ReadFault.{ReadFault}
use Rattle.covdata.specs.declared.version.LcovVersion.{LcovVersion}
use Rattle.covlarge.specs.Large.{MayBeReadAs}
use Rattle.covlarge.specs.State.{IsChecked, IsNextPiece, MayFailFrom, MayGive}
use Rattle.covlarge.specs.declared.fault.PieceFault.{PieceFault}
use Rattle.covlarge.specs.declared.fault.PieceFault.TheVariants.{Refused, Unreadable, Memory}
use Rattle.covlarge.specs.declared.large_tracefile.NextPiece.{NextPiece}
use Rattle.covlarge.specs.declared.large_tracefile.NextPiece.TheVariants.{Last, More}
use Rattle.covlarge.specs.StateData.{StateData}
use Rattle.covlarge.specs.Summary.{SummaryData}

-- whatever the tracefile gives from now on, it gives from the first moment on with the submissions in front that were read between
abbrev pub GivesAfter : {S : Type 0} → (left : S → Option (List ℕ)) → (first now : StateData S) → Type 0
GivesAfter left first now =
    (so_far : List SubmissionData) × ((read : List SubmissionData) (end : Result (Option SummaryData) ReadFault) → MayGive left now read end → MayGive left first (so_far ++ read) end)

pub gives_begun : {S : Type 0} (left : S → Option (List ℕ)) (first : StateData S) → GivesAfter left first first
gives_begun left first = ([], λ read end gives. gives)

pub gives_on : {S : Type 0} (left : S → Option (List ℕ)) (first now next : StateData S) (s : SubmissionData) → GivesAfter left first now
    → ((read : List SubmissionData) (end : Result (Option SummaryData) ReadFault) → MayGive left next read end → MayGive left now (s ∷ read) end) → GivesAfter left first next
gives_on left first now next s (so_far, gives) more = (
  so_far ++ s ∷ [],
  λ read end later. subst (λ (r : List SubmissionData). MayGive left first r end) (sym (append_assoc so_far (s ∷ []) read)) (gives (s ∷ read) end (more read end later)),
)

module _ {S : Type 0} (left : S → Option (List ℕ)) (failed : S → ℕ) (first state : StateData S) where
  abbrev End : Type 0
  End = Result (Option SummaryData) ReadFault

  -- the last piece was read
  pub ended : (piece : NextPiece S) (s : SubmissionData) (told : Option SummaryData) → piece ≡ Last s told → IsNextPiece left failed state (Ok piece) → (so_far : GivesAfter left first state)
      → MayGive left first (so_far.0 ++ s ∷ []) (Ok told)
  ended piece s told is next so_far = so_far.1 (s ∷ []) (Ok told) ((subst (λ (p : NextPiece S). IsNextPiece left failed state (Ok p)) is next).1)

  -- one more piece was read
  pub went_on : (piece : NextPiece S) (s : SubmissionData) (next : StateData S) → piece ≡ More s next → IsNextPiece left failed state (Ok piece) → GivesAfter left first state → GivesAfter left first next
  went_on piece s next is more so_far = gives_on left first state next s so_far ((subst (λ (p : NextPiece S). IsNextPiece left failed state (Ok p)) is more).2)

  pub may_fail : (piece : NextPiece S) (s : SubmissionData) (next : StateData S) → piece ≡ More s next → IsNextPiece left failed state (Ok piece)
      → (MayFailFrom left failed state.source → MayFailFrom left failed first.source) → MayFailFrom left failed next.source → MayFailFrom left failed first.source
  may_fail piece s next is more fails failing = fails ((subst (λ (p : NextPiece S). IsNextPiece left failed state (Ok p)) is more).1 failing)

  -- no more pieces are read
  pub stopped : (version : LcovVersion) (source : S) (fault : PieceFault) → first.source ≡ source → ((read : List SubmissionData) (end : End) → MayGive left first read end → MayBeReadAs version (left source) read end)
      → IsNextPiece left failed state (Err fault) → GivesAfter left first state → (MayFailFrom left failed state.source → MayFailFrom left failed first.source)
      → IsChecked left failed version source (Err fault)
  stopped version source (Refused fault) same whole stop so_far fails = (so_far.0 ++ [], whole (so_far.0 ++ []) (Err fault) (so_far.1 [] (Err fault) stop))
  stopped version source Unreadable same whole stop so_far fails = subst (λ (s : S). MayFailFrom left failed s) same (fails stop)
  stopped version source Memory same whole stop so_far fails = tt
