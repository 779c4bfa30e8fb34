-- The parts of a pattern as the code reads them, seen as plain data.
use Rattle.std.specs.Prelude.{◌≡◌, ◌<◌, ◌+◌, ℕ, ◌||◌, ◌&&◌, nat_le, List, drop, length}
use Rattle.covreport.specs.Pattern as pattern
use Rattle.covreport.specs.declared.pattern.parts.ByteSet.{ByteSet}
use Rattle.covreport.specs.declared.pattern.parts.ByteSet.TheVariants as sets
use Rattle.covreport.specs.declared.pattern.parts.Part.{Part}
use Rattle.covreport.specs.declared.pattern.parts.Part.TheVariants as parts
use Rattle.covreport.specs.declared.pattern.parts.Head.{Head}

-- the set, with the bytes that its body refers to
abbrev pub set_data : ByteSet → pattern.ByteSet
set_data sets.Any = pattern.Any
set_data (sets.Exactly byte) = pattern.Exactly byte
set_data (sets.OneOf body) = pattern.OneOf body.now
set_data (sets.NoneOf body) = pattern.NoneOf body.now

-- the part, with its set
abbrev pub part_data : Part → pattern.Part
part_data parts.AnyRun = pattern.AnyRun
part_data (parts.OneByte set) = pattern.OneByte (set_data set)

-- a set's body is a range of bytes and then this rest
pub record BeginsWithRange (body : List ℕ) (low high : ℕ) (rest : List ℕ) : Type 0 where
  pub has : (byte : ℕ) → pattern.in_body byte body ≡ ((nat_le low byte && nat_le byte high) || pattern.in_body byte rest)
  pub less : length rest < length body

-- a part, and what follows it in its pattern
abbrev pub head_data : Head → pattern.Part × List ℕ
head_data head = (part_data head.part, head.rest.now)

-- a set's body, and what follows the ] after it
abbrev pub after_body : List ℕ → List ℕ → List ℕ × List ℕ
after_body text body = (body, drop (length body + 1) text)

-- a part whose first byte comes right before the bytes `rest`, and what follows the part
abbrev pub after_head : List ℕ → pattern.Head → pattern.Part × List ℕ
after_head rest head = (head.part, drop head.more rest)
