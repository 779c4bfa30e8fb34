-- A file's name as it is shown in a line of text.
use Rattle.std.specs.Prelude.{◌≡◌, ℕ, Bool, ◌||◌, ◌==◌, nat_lt, if◌then◌else◌, List, [], ◌∷◌, ◌++◌, codes, flat_map}
use Rattle.hex.specs.Hex.{encode_lower}

-- a control byte of ASCII
abbrev pub is_control : ℕ → Bool
is_control b = nat_lt b 32 || b == 127

-- a control byte as `\x` and two hexadecimal digits
abbrev pub shown_control : ℕ → List ℕ
shown_control b = codes "\\x" ++ encode_lower (b ∷ [])

-- a control byte in hexadecimal, a backslash twice, any other byte as it is
abbrev pub shown_byte : ℕ → List ℕ
shown_byte b = if b == 92 then codes "\\\\" else if is_control b then shown_control b else b ∷ []

abbrev pub shown_name : List ℕ → List ℕ
shown_name name = flat_map shown_byte name

-- a byte of whole lines: a line feed stays
abbrev pub shown_in_lines : ℕ → List ℕ
shown_in_lines b = if b == 10 then b ∷ [] else shown_byte b

abbrev pub shown_lines : List ℕ → List ℕ
shown_lines lines = flat_map shown_in_lines lines

-- a part of the bytes `whole`, from their front, was appended to the text, and nothing else
pub record HasBegun (whole text text_after : List ℕ) : Type 0 where
  pub put : List ℕ
  pub rest : List ℕ
  pub appended : text_after ≡ text ++ put
  pub together : put ++ rest ≡ whole
