-- What holds after a session that ended in a fault: it has written a beginning of its session text, and the counts of calls show
-- which call failed.
use Rattle.std.specs.Io.KnownBytes.{Consumes, Appends}
use Rattle.std.specs.Prelude.{◌≡◌, ◌⊎◌, ◌<◌, ◌≤◌, ℕ, ◌+◌, ◌^◌, List, [], ◌++◌, length, Option, Some}
use Rattle.covbook.specs.Step.{max_entries}
use Rattle.covline.specs.Lines.{pieces_of}
use Rattle.covsession.specs.Command.{Command, AreCommands, ops_of}
use Rattle.covsession.specs.Session.{IsSession, session_text}
use Rattle.covsession.specs.declared.session.fault.SessionFault.{SessionFault}
use Rattle.covsession.specs.declared.session.fault.SessionFault.TheVariants.{Read, Write, Memory, Full}

-- the whole begins with the part
abbrev pub IsBeginning : List ℕ → List ℕ → Type 0
IsBeginning part whole = (rest : List ℕ) × (whole ≡ part ++ rest)

-- a sink took a beginning of the text, and nothing else
abbrev pub HasBegun : (written written_after : Option (List ℕ)) → (text : List ℕ) → Type 0
HasBegun written written_after text = (part : List ℕ) × Appends written written_after part × IsBeginning part text

-- what follows the bytes that were read: nothing, if the input is taken to end with them; or what the source still has
abbrev pub MayFollow : Option (List ℕ) → List ℕ → Type 0
MayFollow left more = (more ≡ []) ⊎ (left ≡ Some more)

-- a session that ended in this fault. Its input may be taken to end with what it has read, or to go on with what the source
-- still has. Either way, what it has written is a beginning of the input's session text. `Full` comes only if, either way, the
-- input asks for more operations than the history has room for
pub record IsCutShort (fault : SessionFault) (left left_after written written_after : Option (List ℕ)) : Type 0 where
  pub read : List ℕ
  pub output : List ℕ
  pub took : Consumes left left_after read
  pub wrote : Appends written written_after output
  pub begins : (more whole : List ℕ) → MayFollow left_after more → IsSession (read ++ more) whole → IsBeginning output whole
  pub full : fault ≡ Full → (more : List ℕ) (commands : List Command) → MayFollow left_after more
      → AreCommands (pieces_of (read ++ more)) commands → max_entries < length (ops_of commands)

-- the list begins with these commands
abbrev pub AreFirst : (first all : List Command) → Type 0
AreFirst first all = (more : List Command) × (all ≡ first ++ more)

-- a session that ended in this fault, and not for a write: it has written the whole answers to some commands, and nothing else.
-- They are the first commands of its input, which may be taken to end or to go on as above. At `Full` they have filled the
-- history. At `Read`, at most one command of what it has read is still without an answer
pub record HasAnswered (fault : SessionFault) (left left_after written written_after : Option (List ℕ)) : Type 0 where
  pub read : List ℕ
  pub answered : List Command
  pub took : Consumes left left_after read
  pub wrote : Appends written written_after (session_text answered)
  pub first : (more : List ℕ) (commands : List Command) → MayFollow left_after more
      → AreCommands (pieces_of (read ++ more)) commands → AreFirst answered commands
  pub filled : fault ≡ Full → length (ops_of answered) ≡ max_entries
  pub all : fault ≡ Read → (commands : List Command) → AreCommands (pieces_of read) commands → length commands ≤ length answered + 1

-- how many reads were made of a source and how many of them failed, and how many calls of a sink failed
pub record CallsData : Type 0 where
  pub reads : ℕ
  pub failed_reads : ℕ
  pub failed_writes : ℕ

abbrev pub calls : (reads failed_reads failed_writes : ℕ) → CallsData
calls reads failed_reads failed_writes = record { reads = reads; failed_reads = failed_reads; failed_writes = failed_writes }

-- which call failed. At `Read`, one read failed, or none failed and 4,294,967,296 reads were made. At `Write`, one write or flush
-- failed. At `Memory` and `Full`, no call failed
abbrev pub HasCause : SessionFault → CallsData → CallsData → Type 0
HasCause Read old new =
    (new.failed_writes ≡ old.failed_writes)
    × ((new.failed_reads ≡ old.failed_reads + 1) ⊎ ((new.failed_reads ≡ old.failed_reads) × (new.reads ≡ old.reads + 2 ^ 32)))
HasCause Write old new = (new.failed_reads ≡ old.failed_reads) × (new.failed_writes ≡ old.failed_writes + 1)
HasCause Memory old new = (new.failed_reads ≡ old.failed_reads) × (new.failed_writes ≡ old.failed_writes)
HasCause Full old new = (new.failed_reads ≡ old.failed_reads) × (new.failed_writes ≡ old.failed_writes)
