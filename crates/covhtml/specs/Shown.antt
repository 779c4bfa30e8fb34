-- How a text from outside is shown in a page.
use Rattle.std.specs.Prelude.{ℕ, ◌+◌, ◌%◌, Bool, ◌==◌, ◌&&◌, not, if◌then◌else◌, List, [], ◌∷◌, codes, flat_map}
use Rattle.std.specs.Char.{is_ascii_control}
use Rattle.std.specs.Str.Lossy.{utf8_lossy}

-- a control byte of ASCII other than a tab
abbrev pub is_control : ℕ → Bool
is_control b = is_ascii_control b && not (b == 9)

-- the picture of a control byte (Unicode, Control Pictures: U+2400 to U+241F, and U+2421 for 127), in UTF-8
abbrev pub picture : ℕ → List ℕ
picture b = 0xE2 ∷ 0x90 ∷ (if b == 127 then 0xA1 else 0x80 + b % 32) ∷ []

-- a control byte as its picture, any other byte as it is
abbrev pub visible_byte : ℕ → List ℕ
visible_byte b = if is_control b then picture b else b ∷ []

-- `<`, `>`, `&` and `"` as character references (HTML), a control byte as its picture, any other byte as it is
abbrev pub shown_byte : ℕ → List ℕ
shown_byte b =
    if b == 60 then codes "&lt;" else if b == 62 then codes "&gt;" else if b == 38 then codes "&amp;" else if b == 34 then codes "&quot;" else visible_byte b

-- the text that a reader sees: U+FFFD stands for bytes that aren't UTF-8
abbrev pub visible : List ℕ → List ℕ
visible text = flat_map visible_byte (utf8_lossy text)

-- the same text as it is written in a page
abbrev pub shown : List ℕ → List ℕ
shown text = flat_map shown_byte (utf8_lossy text)
