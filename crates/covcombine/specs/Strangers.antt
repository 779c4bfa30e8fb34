-- Files that are no tracefiles, told by their first bytes.
use Rattle.std.specs.Prelude.{ℕ, Bool, ◌==◌, ◌||◌, List, [], ◌∷◌, ◌++◌, codes, nat_eq, if◌then◌else◌, Option, None, Some}
use Rattle.std.specs.List.{starts_with}
use Rattle.covcombine.specs.declared.stranger.Stranger.{Stranger}
use Rattle.covcombine.specs.declared.stranger.Stranger.TheVariants.{Empty, Gzip, Compress, Bzip2, Xz, Zstd, Zip, Utf16, Marked, Gcda}

-- how many bytes of a file are looked at
abbrev pub first_bytes : ℕ
first_bytes = 16

abbrev pub begins : (front bytes : List ℕ) → Bool
begins front bytes = starts_with nat_eq bytes front

-- text in UTF-16, text behind a byte order mark, and the counts of a program that gcc built
abbrev pub unpacked_kind : List ℕ → Option Stranger
unpacked_kind bytes =
    if begins (255 ∷ 254 ∷ []) bytes || begins (254 ∷ 255 ∷ []) bytes then Some Utf16
    else if begins (239 ∷ 187 ∷ 191 ∷ []) bytes then Some Marked
    else if begins (codes "adcg") bytes then Some Gcda
    else None

-- a packed file, by the bytes that its format begins with, or another kind
abbrev pub kind_of : List ℕ → Option Stranger
kind_of bytes =
    if begins (31 ∷ 139 ∷ []) bytes then Some Gzip
    else if begins (31 ∷ 157 ∷ []) bytes then Some Compress
    else if begins (codes "BZh") bytes then Some Bzip2
    else if begins (253 ∷ (codes "7zXZ" ++ 0 ∷ [])) bytes then Some Xz
    else if begins (40 ∷ 181 ∷ 47 ∷ 253 ∷ []) bytes then Some Zstd
    else if begins (codes "PK" ++ 3 ∷ 4 ∷ []) bytes then Some Zip
    else unpacked_kind bytes

-- what kind of other file begins with these bytes; `None` if the file may be a tracefile
abbrev pub strange : List ℕ → Option Stranger
strange [] = Some Empty
strange (b ∷ bytes) = kind_of (b ∷ bytes)

-- the bytes before the first line feed (10) or carriage return (13)
abbrev pub first_line : List ℕ → List ℕ
first_line [] = []
first_line (b ∷ bytes) = if b == 10 || b == 13 then [] else b ∷ first_line bytes
