-- Private steps: where a worker stops, and which fault is returned for that.
use Rattle.std.specs.Prelude.{◌≡◌, ℕ, ◌+◌, ◌-◌, ◌^◌, ◌==◌, ◌&&◌, Bool, min, if◌then◌else◌, nat_le, nat_lt, Option, None, Some, Result, Ok, Err}
use Rattle.covbook.specs.declared.book.BookFault.{BookFault}
use Rattle.covbook.specs.declared.book.BookFault.TheVariants as book
use Rattle.covbook.specs.Step.{max_entries}
use Rattle.covworkers.specs.declared.book_fault.IntoBookFault.{IntoBookFault}
use Rattle.covworkers.specs.declared.book_fault.IntoBookFault.TheVariants.{Unread, Collect}
use Rattle.covworkers.specs.declared.collect_fault.CollectFault.{CollectFault}
use Rattle.covworkers.specs.declared.collect_fault.CollectFault.TheVariants as collects
use Rattle.covworkers.specs.declared.late_fault.LateFault.{LateFault}
use Rattle.covworkers.specs.declared.late_fault.LateFault.TheVariants as late
use Rattle.covworkers.specs.declared.stop.Refusal.{Refusal}
use Rattle.covworkers.specs.declared.stop.Stop.{Stop}
use Rattle.covworkers.specs.declared.stop.Stop.TheVariants as stops

-- the jobs read all inputs, and at least as many submissions as a full history has entries. `upto` is the least place up to which a
-- job read that was refused something
abbrev pub has_filled : (upto parts : ℕ) → Bool
has_filled upto parts = upto == 2 ^ 64 - 1 && nat_le max_entries parts

-- which fault of collecting is returned if the book refused a call. `Full` comes only if the inputs fill the history. If they don't,
-- the history never gets full, or memory ran out as well: `Memory`, which needs no cause, stands for both cases
abbrev pub of_refused : (filled : Bool) → BookFault → CollectFault
of_refused filled book.Full = if filled then collects.Full else collects.Memory
of_refused filled book.Memory = collects.Memory

-- which fault is returned for a stop
abbrev pub of_stop : Stop → IntoBookFault
of_stop (stops.Unread index) = Unread index
of_stop (stops.Refused refusal) = Collect (of_refused (has_filled refusal.upto refusal.parts) refusal.fault)

-- memory was refused before a job read its first input
abbrev pub no_memory : Stop
no_memory = stops.Refused (record { fault = book.Memory; upto = 0; parts = 0 })

-- the fault that came first
abbrev pub first_of : Option BookFault → BookFault → BookFault
first_of None fault = fault
first_of (Some first) fault = first

-- what it means to a job that an input gives no more submissions: its text is refused; or the input can't be read, and the job stops; or
-- memory ran out, and the job stops there with the fault that came first
abbrev pub of_late : {F : Type 0} → (index : ℕ) → (first : Option BookFault) → LateFault F → Result F Stop
of_late index first (late.Refused fault) = Ok fault
of_late index first late.Unreadable = Err (stops.Unread index)
of_late index first late.Memory = Err (stops.Refused (record { fault = first_of first book.Memory; upto = index; parts = 0 }))

-- a job stopped while it read the input at this place, so it has read its inputs before the place. If it stopped since the input
-- can't be read, `MayFail` holds
abbrev pub IsStopAt : ℕ → (MayFail : Type 0) → Stop → Type 0
IsStopAt index MayFail (stops.Unread other) = (other ≡ index) × MayFail
IsStopAt index MayFail (stops.Refused refusal) = refusal.upto ≡ index

-- the lesser of the two places
abbrev pub lesser_of : Option ℕ → ℕ → ℕ
lesser_of None index = index
lesser_of (Some least) index = min least index

-- the first fault, with the lesser of the two places, and the parts of both, up to the largest number of 64 bits
abbrev pub both_of : Option Refusal → Refusal → Refusal
both_of None next = next
both_of (Some first) next = record { fault = first.fault; upto = min first.upto next.upto; parts = min (first.parts + next.parts) (2 ^ 64 - 1) }

-- how many submissions a job has read after one more input, of which it read `more`: as long as nothing is refused, those that it
-- submitted. Else `more` than before the input, up to the largest number of 64 bits
abbrev pub counted_of : Option BookFault → (submitted before more : ℕ) → ℕ
counted_of None submitted before more = submitted
counted_of (Some fault) submitted before more = min (before + more) (2 ^ 64 - 1)

-- the same stop, with more parts
abbrev pub more_parts : (parts : ℕ) → Stop → Stop
more_parts parts (stops.Unread index) = stops.Unread index
more_parts parts (stops.Refused refusal) = stops.Refused (record { fault = refusal.fault; upto = refusal.upto; parts = min (refusal.parts + parts) (2 ^ 64 - 1) })

-- which stop is returned: the one at the input that can't be read, if each job that was refused something has read its inputs
-- before that input. Else the refusal
abbrev pub worst_of : (least : Option ℕ) → (refused : Option Refusal) → Option Stop
worst_of None None = None
worst_of (Some index) None = Some (stops.Unread index)
worst_of None (Some refusal) = Some (stops.Refused refusal)
worst_of (Some index) (Some refusal) = Some (if nat_lt index refusal.upto then stops.Unread index else stops.Refused refusal)
