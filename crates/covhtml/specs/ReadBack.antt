-- How a browser reads a text with character references (HTML), for the four that pages have.
use Rattle.std.specs.Prelude.{ℕ, zero, suc, Bool, true, false, ◌==◌, ◌&&◌, ◌||◌, not, if◌then◌else◌, List, [], ◌∷◌, codes}

-- the text begins with these bytes
abbrev pub begins_with : (front text : List ℕ) → Bool
begins_with [] text = true
begins_with (a ∷ front) [] = false
begins_with (a ∷ front) (b ∷ text) = a == b && begins_with front text

-- what a character reference stands for, and how many bytes follow its ampersand
pub record Reference : Type 0 where
  pub byte : ℕ
  pub more : ℕ

-- the reference whose ampersand comes right before these bytes. Otherwise the ampersand stands for itself
abbrev pub reference_before : List ℕ → Reference
reference_before rest =
    if begins_with (codes "lt;") rest then record { byte = 60; more = 3 }
    else if begins_with (codes "gt;") rest then record { byte = 62; more = 3 }
    else if begins_with (codes "amp;") rest then record { byte = 38; more = 4 }
    else if begins_with (codes "quot;") rest then record { byte = 34; more = 5 }
    else record { byte = 38; more = 0 }

-- the text without its first `passed` bytes, which belong to the reference before, and with each reference read
abbrev pub read_after : (passed : ℕ) → List ℕ → List ℕ
read_after passed [] = []
read_after (suc passed) (b ∷ rest) = read_after passed rest
read_after zero (b ∷ rest) =
    if b == 38 then (reference_before rest).byte ∷ read_after (reference_before rest).more rest else b ∷ read_after 0 rest

abbrev pub read_back : List ℕ → List ℕ
read_back text = read_after 0 text

-- an ampersand before these bytes begins one of the four references
abbrev pub begins_reference : List ℕ → Bool
begins_reference rest =
    begins_with (codes "lt;") rest || begins_with (codes "gt;") rest || begins_with (codes "amp;") rest || begins_with (codes "quot;") rest

-- the text can stand between tags and in a quoted attribute: it has no `<`, no `>` and no `"`, and each `&` begins a reference
abbrev pub is_escaped : List ℕ → Bool
is_escaped [] = true
is_escaped (b ∷ rest) = (if b == 38 then begins_reference rest else not (b == 60 || b == 62 || b == 34)) && is_escaped rest
