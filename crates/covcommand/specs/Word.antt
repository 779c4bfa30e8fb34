-- A word of a call that isn't UTF-8, and the line that complains about it.
use Rattle.std.specs.Prelude.{◌≡◌, ◌&&◌, ◌++◌, ℕ, List, codes, decimal, if◌then◌else◌, map, nat_le}
use Rattle.std.specs.Str.{IsUtf8}
use Rattle.std.specs.String.{string_bytes}
use Rattle.covcommand.specs.declared.fault.CommandFault.{CommandFault}
use Rattle.covcommand.specs.declared.fault.CommandFault.TheVariants.{Help, Line, Memory, Version}

-- printable ASCII, from the space (32) to the tilde (126), is shown as it is, and any other byte as a question mark (63)
abbrev pub shown : ℕ → ℕ
shown byte = if nat_le 32 byte && nat_le byte 126 then byte else 63

-- the line that complains about this word at this place
abbrev pub not_text : (place : ℕ) → (word : List ℕ) → List ℕ
not_text place word = codes "error: word " ++ decimal place ++ codes " isn't UTF-8: " ++ map shown word ++ codes "\n"

-- the fault of a word at this place: the line that complains about it, if the word isn't UTF-8, or `Memory`
abbrev pub IsWordFault : (place : ℕ) → (word : List ℕ) → CommandFault → Type 0
IsWordFault place word (Help text) = ⊥
IsWordFault place word (Line text) = (IsUtf8 word → ⊥) × (string_bytes text ≡ not_text place word)
IsWordFault place word Memory = Unit {0}
IsWordFault place word (Version text) = ⊥
