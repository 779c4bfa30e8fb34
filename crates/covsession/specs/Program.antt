-- What the program reports at a session's end: an exit status, and words if it ended in a fault.
use Rattle.std.specs.Io.KnownBytes.{Appends}
use Rattle.std.specs.Prelude.{◌≡◌, ◌≢◌, ◌≤◌, ℕ, ◌+◌, ◌^◌, List, [], Option, Result, Ok, Err, IfErr, OnOk, codes}
use Rattle.covsession.specs.Fault.{CallsData, HasAnswered, HasCause, IsCutShort}
use Rattle.covsession.specs.Session.{said, IsWholeSession}
use Rattle.covsession.specs.declared.session.fault.SessionFault.{SessionFault}
use Rattle.covsession.specs.declared.session.fault.SessionFault.TheVariants.{Read, Write, Memory, Full}

-- the exit status of a fault: 1 if a stream failed, 3 if memory ran out or the history was full
abbrev pub fault_status : SessionFault → ℕ
fault_status Read = 1
fault_status Write = 1
fault_status Memory = 3
fault_status Full = 3

abbrev pub words_of_fault : SessionFault → List ℕ
words_of_fault Read = codes "read fault"
words_of_fault Write = codes "write fault"
words_of_fault Memory = codes "out of memory"
words_of_fault Full = codes "book full"

-- the exit status of a session with this end
abbrev pub end_status : Result (Unit {0}) SessionFault → ℕ
end_status (Ok done) = 0
end_status (Err fault) = fault_status fault

-- the line that reports how a session ended: the line of its fault, or nothing if it ended well
abbrev pub end_words : Result (Unit {0}) SessionFault → List ℕ
end_words (Ok done) = []
end_words (Err fault) = said (words_of_fault fault)

-- a session that ended well: no call failed, and it made at most 4,294,967,296 reads
abbrev pub HasNoFault : CallsData → CallsData → Type 0
HasNoFault old new =
    (new.failed_reads ≡ old.failed_reads) × (new.failed_writes ≡ old.failed_writes) × (new.reads ≤ old.reads + 2 ^ 32)

-- a session ran over an input and an output, and this is the exit status. If it is 0, the session ended well, and the output holds
-- nothing back. Any other status is that of a fault: the session was cut short, and the counts of calls show the cause. Unless the
-- fault is `Write`, only whole answers were written, and the output holds back no more than before. The fault's line was written to
-- the stream for faults, unless a write to that stream failed. `held`: how many bytes the output may hold back
abbrev pub TellsSession : (status : ℕ) → (left left_after written written_after told told_after : Option (List ℕ)) → (held held_after : ℕ)
    → (before after : CallsData) → (failures failures_after : ℕ) → Type 0
TellsSession status left left_after written written_after told told_after held held_after before after failures failures_after =
    (ended : Result (Unit {0}) SessionFault) × (status ≡ end_status ended)
    × OnOk ended (IsWholeSession left left_after written written_after × HasNoFault before after × (held_after ≡ 0))
    × IfErr ended (λ fault. IsCutShort fault left left_after written written_after × HasCause fault before after
    × (fault ≢ Write → HasAnswered fault left left_after written written_after) × (fault ≢ Write → held_after ≤ held))
    × (failures_after ≡ failures → Appends told told_after (end_words ended))
