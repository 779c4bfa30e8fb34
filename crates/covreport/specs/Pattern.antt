-- Patterns for paths: the parts of a pattern, and which paths they fit. A pattern fits a whole path or not at all.
use Rattle.std.specs.Prelude.{ℕ, ◌+◌, zero, suc, Bool, true, false, ◌==◌, ◌&&◌, ◌||◌, not, nat_le, List, [], ◌∷◌, length, Option, Some, None, option_map, unwrap_or, if◌then◌else◌}
use Rattle.std.specs.List.{list_any}

-- the bytes of which a part takes one: every byte, this byte, the bytes that a set's body has, or the bytes that it doesn't
-- have
pub data ByteSet : Type 0 where
  Any : ByteSet
  Exactly : (byte : ℕ) → ByteSet
  OneOf : (body : List ℕ) → ByteSet
  NoneOf : (body : List ℕ) → ByteSet

-- a part takes a run of bytes, which may be empty, or one byte of a set
pub data Part : Type 0 where
  AnyRun : Part
  OneByte : (set : ByteSet) → Part

-- a part, and how many more bytes of the pattern belong to it after its first byte
pub record Head : Type 0 where
  pub part : Part
  pub more : ℕ

-- the bytes before the first ] if there is one
abbrev pub before_close : List ℕ → Option (List ℕ)
before_close [] = None
before_close (b ∷ rest) = if b == 93 then Some [] else option_map (λ body. b ∷ body) (before_close rest)

-- the body of a set: its first byte, which may be any byte, and the bytes after that one and before the next ]
abbrev pub body_of : List ℕ → Option (List ℕ)
body_of [] = None
body_of (first ∷ rest) = option_map (λ body. first ∷ body) (before_close rest)

-- the set whose [ comes right before these bytes, if a ] closes it. If the bytes begin with !, the set has each byte that isn't
-- in its body
abbrev pub opened_set : List ℕ → Option Head
opened_set [] = None
opened_set (b ∷ rest) =
    if b == 33
    then option_map (λ body. record { part = OneByte (NoneOf body); more = length body + 2 }) (body_of rest)
    else option_map (λ body. record { part = OneByte (OneOf body); more = length body + 1 }) (body_of (b ∷ rest))

-- the part that begins with a \ right before these bytes. It takes the byte after the \, or the \ itself at the end of the
-- pattern
abbrev pub quoted : List ℕ → Head
quoted [] = record { part = OneByte (Exactly 92); more = 0 }
quoted (b ∷ rest) = record { part = OneByte (Exactly b); more = 1 }

-- a byte that takes itself
abbrev pub plain : ℕ → Head
plain b = record { part = OneByte (Exactly b); more = 0 }

-- the part that begins with this byte, if these bytes follow it: * takes any run, ? takes any byte, \ quotes, [ opens a set.
-- Each other byte takes itself, and so does a [ that no ] closes
abbrev pub head_of : ℕ → List ℕ → Head
head_of b rest =
    if b == 42 then record { part = AnyRun; more = 0 }
    else if b == 63 then record { part = OneByte Any; more = 0 }
    else if b == 92 then quoted rest
    else if b == 91 then unwrap_or (opened_set rest) (plain b)
    else plain b

-- the parts of a pattern without its first `taken` bytes, which belong to the part before
abbrev pub parts_after : ℕ → List ℕ → List Part
parts_after taken [] = []
parts_after (suc taken) (b ∷ rest) = parts_after taken rest
parts_after zero (b ∷ rest) = (head_of b rest).part ∷ parts_after (head_of b rest).more rest

abbrev pub parts_of : List ℕ → List Part
parts_of pattern = parts_after 0 pattern

-- a set's body has this byte. Three bytes a - b of the body stand for the range from a to b. Each other byte stands for itself
abbrev pub in_body : ℕ → List ℕ → Bool
in_body byte [] = false
in_body byte (a ∷ []) = byte == a
in_body byte (a ∷ b ∷ []) = byte == a || byte == b
in_body byte (a ∷ dash ∷ b ∷ rest) =
    if dash == 45
    then (nat_le a byte && nat_le byte b) || in_body byte rest
    else byte == a || in_body byte (dash ∷ b ∷ rest)

abbrev pub takes : ByteSet → ℕ → Bool
takes Any byte = true
takes (Exactly other) byte = byte == other
takes (OneOf body) byte = in_body byte body
takes (NoneOf body) byte = not (in_body byte body)

-- what is left of a path after each run of bytes at its front. The empty run comes first
abbrev pub ends_of : List ℕ → List (List ℕ)
ends_of [] = [] ∷ []
ends_of (b ∷ path) = (b ∷ path) ∷ ends_of path

-- the parts fit the whole path. A star fits if the other parts fit what is left after some run of bytes
abbrev pub fits : List Part → List ℕ → Bool
fits [] [] = true
fits [] (b ∷ path) = false
fits (AnyRun ∷ parts) path = list_any (fits parts) (ends_of path)
fits (OneByte set ∷ parts) [] = false
fits (OneByte set ∷ parts) (b ∷ path) = takes set b && fits parts path

-- the pattern matches the whole path
abbrev pub matches : List ℕ → List ℕ → Bool
matches pattern path = fits (parts_of pattern) path
