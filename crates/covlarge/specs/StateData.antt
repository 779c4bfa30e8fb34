-- A tracefile of which some pieces were read.
use Rattle.std.specs.Prelude.{◌≡◌, ◌≤◌, ◌+◌, ◌*◌, ◌^◌, ℕ, List, Option}
use Rattle.covdata.specs.declared.version.LcovVersion.{LcovVersion}
use Rattle.covlarge.specs.Summary.{SummaryData}
use Rattle.covpieces.specs.Pieces.{CarriedData}

-- a tracefile of which some pieces were read: its version; what goes over to the next piece; what the pieces hold, if that is asked
-- for; how many more pieces may be read; the bytes that were read and aren't in a piece yet; and the source of the bytes after them
pub record StateData (S : Type 0) : Type 0 where
  pub version : LcovVersion
  pub carried : CarriedData
  pub held : Option SummaryData
  pub left : ℕ
  pub rest : List ℕ
  pub source : S

-- so many lines and reads were counted that none of the pieces that may be left counts too far, and no read failed
pub record IsWithin (left lines reads failed_reads : ℕ) : Type 0 where
  pub few_lines : lines + left * 2 ^ 28 ≤ 2 ^ 48
  pub few_reads : reads + left * 2 ^ 28 ≤ 2 ^ 48
  pub no_failure : failed_reads ≡ 0
