-- Why a store rejects a submission.
use Rattle.std.specs.Prelude.{◌≡◌, Some}
use Rattle.covdata.specs.Row.{SubmissionData}
use Rattle.covtable.specs.Clash.{ClashData}
use Rattle.covtable.specs.Table.{Table, clash_at}

-- its checksums clash, or an allocation failed
pub data RefuseData : Type 0 where
  ClashRefuse : (clash : ClashData) → RefuseData
  MemoryRefuse : RefuseData

-- if the refusal is a clash, it is the first clash of the submission with the table
abbrev pub IsRefusedAt : Table → SubmissionData → RefuseData → Type 0
IsRefusedAt table submission (ClashRefuse clash) = clash_at table submission ≡ Some clash
IsRefusedAt table submission MemoryRefuse = Unit {0}
