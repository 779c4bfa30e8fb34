-- Private steps: what a sink has taken of a text that is printed block by block.
use Rattle.std.specs.Io.KnownBytes.{Appends}
use Rattle.std.specs.Prelude.{◌≡◌, ℕ, suc, List, ◌++◌, Bool, true, false, not, Option}
use Rattle.covsession.specs.Fault.{HasBegun}

-- a sink: the bytes that it has taken, if these are known, and how many of its calls failed
pub record SinkData : Type 0 where
  pub written : Option (List ℕ)
  pub failed : ℕ

abbrev pub sink_data : Option (List ℕ) → ℕ → SinkData
sink_data written failed = record { written = written; failed = failed }

-- a printer: the bytes that have left its block, the bytes that wait in the block, and whether no write has failed
pub record PrinterData : Type 0 where
  pub printed : List ℕ
  pub waiting : List ℕ
  pub is_open : Bool

-- the sink took the text, and no call failed; or one call failed, and the sink took a beginning of the text
abbrev pub HasPrinted : (is_open : Bool) → (text : List ℕ) → (start now : SinkData) → Type 0
HasPrinted true text start now = Appends start.written now.written text × (now.failed ≡ start.failed)
HasPrinted false text start now = HasBegun start.written now.written text × (now.failed ≡ suc start.failed)

-- whatever was printed before, these bytes were printed after it
abbrev pub WritesOn : (had_failed has_failed : Bool) → (bytes : List ℕ) → (now next : SinkData) → Type 0
WritesOn had_failed has_failed bytes now next =
    (text : List ℕ) → (start : SinkData) → HasPrinted (not had_failed) text start now → HasPrinted (not has_failed) (text ++ bytes) start next
