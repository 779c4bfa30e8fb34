-- Inputs that are read when their turn comes, each in one part or in several, and what is collected of them in a book.
use Rattle.std.specs.List.{AllByRecursion}
use Rattle.std.specs.Prelude.{ℕ, ◌<◌, ◌≤◌, List, [], ◌∷◌, ◌++◌, length, take, slice_get, IsSomeAnd, None, Some, Result, Ok, Err}
use Rattle.covdata.specs.Row.{SubmissionData}
use Rattle.covbook.specs.Gather.{LogData}
use Rattle.covbook.specs.Op.{OpData, EntryData}
use Rattle.covbook.specs.Step.{max_entries, next_entry}
use Rattle.covbook.specs.Texts.{IsText}
use Rattle.covworkers.specs.declared.late_fault.LateFault.{LateFault}
use Rattle.covworkers.specs.declared.late_fault.LateFault.TheVariants as late
use Rattle.covworkers.specs.declared.book_fault.IntoBookFault.{IntoBookFault}
use Rattle.covworkers.specs.declared.book_fault.IntoBookFault.TheVariants as into_book
use Rattle.covworkers.specs.declared.collect_fault.CollectFault.{CollectFault}
use Rattle.covworkers.specs.declared.collect_fault.CollectFault.TheVariants as collects
use Rattle.covworkers.specs.declared.part.Part.{Part}
use Rattle.covworkers.specs.declared.part.Part.TheVariants as parts
use Rattle.covworkers.specs.declared.refused.RefusedInput.{RefusedInput}
use Rattle.covworkers.specs.Collect.{AreOutcomes, IsCollectedWith, OutcomeData, all_places, submissions_of}
use Rattle.covworkers.specs.CollectFault.{collect_number}
use Rattle.covworkers.specs.Work.{Chances, HasOutcome, in_front}

-- what reading an input's next part may return: a submission, with which the input ends; or a submission and the rest of the input,
-- of which fewer parts are left; or a fault, with which the input ends; or that the input can't be read, if this may happen to it; or
-- that memory ran out. Whatever the rest gives, the input may give with the submission in front
abbrev pub IsNextPart : {X A F : Type 0} → (MayGive : X → OutcomeData F → Type 0) → (MayFail : X → Type 0) → (most : X → ℕ) → X → Result (Part X A) (LateFault F) → Type 0
IsNextPart MayGive MayFail most input (Ok (parts.Last submission)) = (0 < most input) × MayGive input (record { read = submission ∷ []; fault = None })
IsNextPart {X} {A} {F} MayGive MayFail most input (Ok (parts.More submission rest)) =
    (most rest < most input) × (MayFail rest → MayFail input) × ((outcome : OutcomeData F) → MayGive rest outcome → MayGive input (in_front submission outcome))
IsNextPart MayGive MayFail most input (Err (late.Refused fault)) = MayGive input (record { read = []; fault = Some fault })
IsNextPart MayGive MayFail most input (Err late.Unreadable) = MayFail input
IsNextPart MayGive MayFail most input (Err late.Memory) = Unit {0}

-- what reading an input as a whole may return: what it may be read as, or why it may be refused; or that it can't be read, if this
-- may happen to it; or that memory ran out
abbrev pub IsLateOutcome : {F : Type 0} → (MayGive : Result SubmissionData F → Type 0) → (MayFail : Type 0) → Result SubmissionData (LateFault F) → Type 0
IsLateOutcome MayGive MayFail (Ok submission) = MayGive (Ok submission)
IsLateOutcome MayGive MayFail (Err (late.Refused fault)) = MayGive (Err fault)
IsLateOutcome MayGive MayFail (Err late.Unreadable) = MayFail
IsLateOutcome MayGive MayFail (Err late.Memory) = Unit {0}

-- the outcomes that an input may have, and whether it may fail, as `Chances`
abbrev pub chances_of : {X F : Type 0} → (MayGive : X → OutcomeData F → Type 0) → (MayFail : X → Type 0) → Chances X F
chances_of MayGive MayFail = record { Gives = MayGive; MayFail = MayFail }

-- the input at this place can't be read, and each input before it was read
abbrev pub IsFirstUnread : {X F : Type 0} → (MayGive : X → OutcomeData F → Type 0) → (MayFail : X → Type 0) → List X → ℕ → Type 0
IsFirstUnread MayGive MayFail inputs index =
    IsSomeAnd (slice_get inputs index) MayFail × AllByRecursion (λ input. HasOutcome (MayGive input)) (take index inputs)

-- the inputs fill the history: they were read as at least as many submissions as a full history has entries
abbrev pub FillHistory : {X F : Type 0} → (MayGive : X → OutcomeData F → Type 0) → List X → Type 0
FillHistory {X} {F} MayGive inputs =
    (outcome : ℕ → OutcomeData F) × AreOutcomes MayGive inputs outcome × (max_entries ≤ length (submissions_of all_places outcome (length inputs)))

-- which faults of collecting may come if no history is kept: `Full` only if the inputs fill the history. `Gather` and `NotLast` don't
-- come
abbrev pub MayCome : (Fill : Type 0) → CollectFault → Type 0
MayCome Fill collects.BadJobs = Unit {0}
MayCome Fill collects.Full = Fill
MayCome Fill collects.Memory = Unit {0}
MayCome Fill (collects.Gather fault) = ⊥
MayCome Fill collects.NotLast = ⊥

-- which of them may come, whatever the inputs are
abbrev pub MayComeAtAll : CollectFault → Type 0
MayComeAtAll fault = MayCome (Unit {0}) fault

-- why inputs aren't collected in a book: this is the first input that can't be read, or this fault of collecting may come
abbrev pub IsIntoBookFault : {X F : Type 0} → (MayGive : X → OutcomeData F → Type 0) → (MayFail : X → Type 0) → List X → IntoBookFault → Type 0
IsIntoBookFault MayGive MayFail inputs (into_book.Unread index) = IsFirstUnread MayGive MayFail inputs index
IsIntoBookFault MayGive MayFail inputs (into_book.Collect fault) = MayCome (FillHistory MayGive inputs) fault

-- a fault that names an input that can't be read names the first such input
abbrev pub IsUnreadFault : {X F : Type 0} → (MayGive : X → OutcomeData F → Type 0) → (MayFail : X → Type 0) → List X → IntoBookFault → Type 0
IsUnreadFault MayGive MayFail inputs (into_book.Unread index) = IsFirstUnread MayGive MayFail inputs index
IsUnreadFault MayGive MayFail inputs (into_book.Collect fault) = Unit {0}

-- the numbers of these faults stay the same in all versions
abbrev pub into_book_number : IntoBookFault → ℕ
into_book_number (into_book.Collect fault) = collect_number fault
into_book_number (into_book.Unread index) = 6

-- a book's history and the refused inputs are what this number of jobs collects from these inputs before job 0 asks for a text: each
-- input has an outcome that it may have. Whichever text job 0 asks for next, there are logs of the jobs with which the history with
-- this last entry is what is collected with these outcomes
abbrev pub IsCollectedSoFar : {X F : Type 0} → (MayGive : X → OutcomeData F → Type 0) → (inputs : List X) → (jobs : ℕ) → (entries : List EntryData) → (refused : List (RefusedInput F)) → Type 0
IsCollectedSoFar {X} {F} MayGive inputs jobs entries refused =
    (outcome : ℕ → OutcomeData F) × AreOutcomes MayGive inputs outcome
    × ((last : OpData) → IsText last → (logs : List LogData) × IsCollectedWith outcome (length inputs) jobs last (entries ++ next_entry entries 0 last ∷ []) logs refused)
