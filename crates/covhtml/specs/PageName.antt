-- The name of a source file's page: a file beside `index.html`.
use Rattle.std.specs.Prelude.{◌⊎◌, ◌≡◌, ℕ, ◌-◌, ◌/◌, ◌%◌, ◌≤◌, Bool, ◌==◌, ◌||◌, nat_le, if◌then◌else◌, List, [], ◌∷◌, ◌++◌, length, take, drop, codes, decimal, flat_map, IsTrue}
use Rattle.std.specs.Char.{digit_char, is_ascii_digit, is_ascii_lowercase}
use Rattle.std.specs.List.{AllByRecursion}

-- a lower-case letter, a digit, a full stop or an underscore
abbrev pub stays : ℕ → Bool
stays b = is_ascii_lowercase b || is_ascii_digit b || b == 46 || b == 95

-- a slash as `-`, a byte that doesn't stay as `~` and two hexadecimal digits
abbrev pub name_byte : ℕ → List ℕ
name_byte b = if stays b then b ∷ [] else if b == 47 then 45 ∷ [] else 126 ∷ digit_char (b / 16) ∷ digit_char (b % 16) ∷ []

abbrev pub encoded_path : List ℕ → List ℕ
encoded_path path = flat_map name_byte path

-- the longest encoded path that a name has room for, with its beginning and its end
abbrev pub most_bytes : ℕ
most_bytes = 245

-- as `file-src-main.c.html`. A path with a longer encoding has the number of its file in the list of files, as `long-17.html`
abbrev pub page_name : (number : ℕ) (path : List ℕ) → List ℕ
page_name number path =
    if nat_le (length (encoded_path path)) most_bytes
    then codes "file-" ++ encoded_path path ++ codes ".html"
    else codes "long-" ++ decimal number ++ codes ".html"

-- a byte of a name: lower-case letters, digits, `.`, `_`, `-` and `~`, which mean themselves in a link and in each file system
abbrev pub is_name_byte : ℕ → Bool
is_name_byte b = stays b || b == 45 || b == 126

-- the name is that of a page in the same folder, on any file system: no slash, no upper-case letter, at most 255 bytes, and neither
-- `.`, `..`, `index.html` nor `style.css`, since it begins with another letter
pub record IsSafeName (name : List ℕ) : Type 0 where
  pub bytes : AllByRecursion (λ b. IsTrue (is_name_byte b)) name
  pub short : length name ≤ 255
  pub begins : (take 5 name ≡ codes "file-") ⊎ (take 5 name ≡ codes "long-")
  pub ends : drop (length name - 5) name ≡ codes ".html"
