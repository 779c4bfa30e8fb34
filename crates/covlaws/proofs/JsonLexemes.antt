-- The lexemes of covlist's JSON, before those of any text that follows.
use Rattle.std.proofs.Common.{◌≡◌, ℕ, zero, suc, ◌<◌, ◌/◌, ◌%◌, ◌^◌, Bool, true, false, List, [], ◌∷◌, ◌++◌, length, Option, refl, sym, ap, ap₂, subst, ◌∙◌, append_assoc, arith, codes, decimal, flat_map}
use Rattle.std.specs.Prelude.{if◌then◌else◌, slice_index}
use Rattle.std.specs.List.{AllByRecursion}
use Rattle.std.specs.Str.{is_utf8}
use Rattle.covtable.specs.declared.totals.Totals.{Totals}
use Rattle.covtable.specs.Files.{FileTotalsData}
use Rattle.hex.specs.Hex.{IsBytes, encode_lower, encode_with, lower_digits}
use Rattle.json.specs.Lex.{Lexeme, token, comma, colon, string_token, lex, between}
use Rattle.json.specs.Print.{escape, escape_byte, quoted}
use Rattle.json.specs.Token.{Token}
use Rattle.json.specs.Word.{ends_word}
use Rattle.json.proofs.Printed.Decimals.{IsNumber-decimal}
use Rattle.json.proofs.Printed.Numbers.{lex-number}
use Rattle.json.proofs.Printed.Strings.{content-escape, lex-escape}
use Rattle.covlist.specs.Json.{points, members, string_name, hexadecimal_name, name_member, file_object, further_object, objects, list_json_of, summary_json_of}
use Rattle.covlaws.specs.ListValue.{FitTotals, FitsFile}

-- ---- numbers and strings

number_lexed : (n : ℕ) → n < 2 ^ 64 → (rest : List ℕ) → ends_word rest ≡ true → lex between (decimal n ++ rest) ≡ token (Token.number (decimal n)) ∷ lex between rest
number_lexed n small rest ends = lex-number (decimal n) rest (IsNumber-decimal n small) ends

string_lexed : (s rest : List ℕ) → lex between (quoted s ++ rest) ≡ token (Token.string s) ∷ lex between rest
unfolding lex
string_lexed s rest =
    subst (λ (x : List ℕ). lex between (34 ∷ x) ≡ token (Token.string s) ∷ lex between rest) (sym (append_assoc (escape s) (34 ∷ []) rest))
    (ap₂ (λ (read : Option (List ℕ)) (ls : List Lexeme). token (string_token read) ∷ ls) (content-escape s rest) (lex-escape s rest))

-- a key with its colon
abbrev pub key_lexemes : List ℕ → List Lexeme → List Lexeme
key_lexemes s ls = token (Token.string s) ∷ colon ∷ ls

key_lexed : (s rest : List ℕ) → lex between (quoted s ++ (58 ∷ rest)) ≡ key_lexemes s (lex between rest)
unfolding lex
key_lexed s rest = string_lexed s (58 ∷ rest)

-- no digit is escaped

plain_at : (digits : List ℕ) → AllByRecursion (λ c. escape_byte c ≡ c ∷ []) digits → (i : ℕ) → i < length digits → escape_byte (slice_index digits i) ≡ slice_index digits i ∷ []
plain_at [] all i lt = absurd (omega arith)
plain_at (c ∷ cs) all zero lt = all.0
plain_at (c ∷ cs) all (suc i) lt = plain_at cs all.1 i (omega arith)

digits_plain : AllByRecursion (λ c. escape_byte c ≡ c ∷ []) lower_digits
unfolding escape_byte
digits_plain = (refl, (refl, (refl, (refl, (refl, (refl, (refl, (refl, (refl, (refl, (refl, (refl, (refl, (refl, (refl, (refl, tt))))))))))))))))

escape_hexadecimal : (path : List ℕ) → IsBytes path → escape (encode_lower path) ≡ encode_lower path
unfolding encode_with
escape_hexadecimal [] bytes = refl
escape_hexadecimal (b ∷ path) bytes =
    let small : b < 256 = bytes 0 in
    let high_small : b / 16 < 16 = omega (arith, small) in
    let low_small : b % 16 < 16 = omega arith in
    let high = plain_at lower_digits digits_plain (b / 16) high_small in
    let low = plain_at lower_digits digits_plain (b % 16) low_small in
    ap₂ (λ (x y : List ℕ). x ++ (y ++ escape (encode_lower path))) high low
    ∙ ap (λ (x : List ℕ). slice_index lower_digits (b / 16) ∷ slice_index lower_digits (b % 16) ∷ x) (escape_hexadecimal path (λ i. bytes (suc i)))

-- ---- totals

abbrev pub points_lexemes : (hit found : ℕ) → List Lexeme → List Lexeme
points_lexemes hit found ls =
    token Token.begin_object ∷ key_lexemes (codes "found") (token (Token.number (decimal found))
    ∷ comma ∷ key_lexemes (codes "hit") (token (Token.number (decimal hit)) ∷ token Token.end_object ∷ ls))

points_lexed : (hit found : ℕ) → hit < 2 ^ 64 → found < 2 ^ 64 → (rest : List ℕ) → lex between (points hit found ++ rest) ≡ points_lexemes hit found (lex between rest)
unfolding lex escape_byte
points_lexed hit found hit_small found_small rest =
    let last : List ℕ = codes "}" ++ rest in
    let second : List ℕ = codes ",\"hit\":" ++ (decimal hit ++ last) in
    let text : points hit found ++ rest ≡ codes "{\"found\":" ++ (decimal found ++ second) =
    ap (λ (x : List ℕ). codes "{\"found\":" ++ x)
    (append_assoc ((decimal found ++ codes ",\"hit\":") ++ decimal hit) (codes "}") rest
    ∙ append_assoc (decimal found ++ codes ",\"hit\":") (decimal hit) last
    ∙ append_assoc (decimal found) (codes ",\"hit\":") (decimal hit ++ last)) in
    ap (lex between) text
    ∙ ap (λ (ls : List Lexeme). token Token.begin_object ∷ ls) (key_lexed (codes "found") (decimal found ++ second))
    ∙ ap (λ (ls : List Lexeme). token Token.begin_object ∷ key_lexemes (codes "found") ls) (number_lexed found found_small second refl)
    ∙ ap (λ (ls : List Lexeme). token Token.begin_object ∷ key_lexemes (codes "found") (token (Token.number (decimal found)) ∷ comma ∷ ls)) (key_lexed (codes "hit") (decimal hit ++ last))
    ∙ ap (λ (ls : List Lexeme). token Token.begin_object ∷ key_lexemes (codes "found") (token (Token.number (decimal found)) ∷ comma ∷ key_lexemes (codes "hit") ls)) (number_lexed hit hit_small last refl)

abbrev pub totals_lexemes : Totals → List Lexeme → List Lexeme
totals_lexemes t ls =
    key_lexemes (codes "lines") (points_lexemes t.lh t.lf (comma ∷ key_lexemes (codes "functions") (points_lexemes t.fh t.ff
    (comma ∷ key_lexemes (codes "branches") (points_lexemes t.bh t.bf ls)))))

totals_lexed : (t : Totals) → FitTotals t → (rest : List ℕ) → lex between (members t ++ rest) ≡ totals_lexemes t (lex between rest)
unfolding lex escape_byte
totals_lexed t fit rest =
    let third : List ℕ = codes ",\"branches\":" ++ (points t.bh t.bf ++ rest) in
    let second : List ℕ = codes ",\"functions\":" ++ (points t.fh t.ff ++ third) in
    let text : members t ++ rest ≡ codes "\"lines\":" ++ (points t.lh t.lf ++ second) =
    ap (λ (x : List ℕ). codes "\"lines\":" ++ x)
    (append_assoc (((points t.lh t.lf ++ codes ",\"functions\":") ++ points t.fh t.ff) ++ codes ",\"branches\":") (points t.bh t.bf) rest
    ∙ append_assoc ((points t.lh t.lf ++ codes ",\"functions\":") ++ points t.fh t.ff) (codes ",\"branches\":") (points t.bh t.bf ++ rest)
    ∙ append_assoc (points t.lh t.lf ++ codes ",\"functions\":") (points t.fh t.ff) third
    ∙ append_assoc (points t.lh t.lf) (codes ",\"functions\":") (points t.fh t.ff ++ third)) in
    ap (lex between) text
    ∙ key_lexed (codes "lines") (points t.lh t.lf ++ second)
    ∙ ap (λ (ls : List Lexeme). key_lexemes (codes "lines") ls) (points_lexed t.lh t.lf fit.lines_hit fit.lines_found second)
    ∙ ap (λ (ls : List Lexeme). key_lexemes (codes "lines") (points_lexemes t.lh t.lf (comma ∷ ls))) (key_lexed (codes "functions") (points t.fh t.ff ++ third))
    ∙ ap (λ (ls : List Lexeme). key_lexemes (codes "lines") (points_lexemes t.lh t.lf (comma ∷ key_lexemes (codes "functions") ls))) (points_lexed t.fh t.ff fit.functions_hit fit.functions_found third)
    ∙ ap (λ (ls : List Lexeme). key_lexemes (codes "lines") (points_lexemes t.lh t.lf (comma ∷ key_lexemes (codes "functions") (points_lexemes t.fh t.ff (comma ∷ ls)))))
    (key_lexed (codes "branches") (points t.bh t.bf ++ rest))
    ∙ ap (λ (ls : List Lexeme). key_lexemes (codes "lines") (points_lexemes t.lh t.lf (comma ∷ key_lexemes (codes "functions") (points_lexemes t.fh t.ff (comma ∷ key_lexemes (codes "branches") ls)))))
    (points_lexed t.bh t.bf fit.branches_hit fit.branches_found rest)

-- ---- files

abbrev pub name_lexemes : (is_text : Bool) → List ℕ → List Lexeme → List Lexeme
name_lexemes true path ls = key_lexemes (codes "file") (token (Token.string path) ∷ ls)
name_lexemes false path ls = key_lexemes (codes "file_hex") (token (Token.string (encode_lower path)) ∷ ls)

name_lexed : (is_text : Bool) (path : List ℕ) → IsBytes path → (rest : List ℕ)
    → lex between ((if is_text then string_name path else hexadecimal_name path) ++ rest) ≡ name_lexemes is_text path (lex between rest)
unfolding lex escape_byte
name_lexed true path bytes rest =
    key_lexed (codes "file") (quoted path ++ rest) ∙ ap (λ (ls : List Lexeme). key_lexemes (codes "file") ls) (string_lexed path rest)
name_lexed false path bytes rest =
    ap (λ (x : List ℕ). lex between ((codes "\"file_hex\":\"" ++ (x ++ codes "\"")) ++ rest)) (sym (escape_hexadecimal path bytes))
    ∙ key_lexed (codes "file_hex") (quoted (encode_lower path) ++ rest)
    ∙ ap (λ (ls : List Lexeme). key_lexemes (codes "file_hex") ls) (string_lexed (encode_lower path) rest)

abbrev pub file_lexemes : FileTotalsData → List Lexeme → List Lexeme
file_lexemes file ls = token Token.begin_object ∷ name_lexemes (is_utf8 file.path) file.path (comma ∷ totals_lexemes file.totals (token Token.end_object ∷ ls))

file_lexed : (file : FileTotalsData) → FitsFile file → (rest : List ℕ) → lex between (file_object file ++ rest) ≡ file_lexemes file (lex between rest)
unfolding lex
file_lexed file fits rest =
    let last : List ℕ = codes "}" ++ rest in
    let second : List ℕ = codes "," ++ (members file.totals ++ last) in
    let text : file_object file ++ rest ≡ codes "{" ++ (name_member file.path ++ second) =
    ap (λ (x : List ℕ). codes "{" ++ x)
    (append_assoc ((name_member file.path ++ codes ",") ++ members file.totals) (codes "}") rest
    ∙ append_assoc (name_member file.path ++ codes ",") (members file.totals) last
    ∙ append_assoc (name_member file.path) (codes ",") (members file.totals ++ last)) in
    ap (lex between) text
    ∙ ap (λ (ls : List Lexeme). token Token.begin_object ∷ ls) (name_lexed (is_utf8 file.path) file.path fits.path second)
    ∙ ap (λ (ls : List Lexeme). token Token.begin_object ∷ name_lexemes (is_utf8 file.path) file.path (comma ∷ ls)) (totals_lexed file.totals fits.totals last)

abbrev pub further_lexemes : List FileTotalsData → List Lexeme → List Lexeme
further_lexemes [] ls = ls
further_lexemes (file ∷ files) ls = comma ∷ file_lexemes file (further_lexemes files ls)

further_lexed : (files : List FileTotalsData) → AllByRecursion FitsFile files → (rest : List ℕ) → lex between (flat_map further_object files ++ rest) ≡ further_lexemes files (lex between rest)
unfolding lex
further_lexed [] fit rest = refl
further_lexed (file ∷ files) fit rest =
    let later = flat_map further_object files in
    ap (lex between) (append_assoc (further_object file) later rest)
    ∙ ap (λ (ls : List Lexeme). comma ∷ ls) (file_lexed file fit.0 (later ++ rest))
    ∙ ap (λ (ls : List Lexeme). comma ∷ file_lexemes file ls) (further_lexed files fit.1 rest)

abbrev pub objects_lexemes : List FileTotalsData → List Lexeme → List Lexeme
objects_lexemes [] ls = ls
objects_lexemes (file ∷ files) ls = file_lexemes file (further_lexemes files ls)

objects_lexed : (files : List FileTotalsData) → AllByRecursion FitsFile files → (rest : List ℕ) → lex between (objects files ++ rest) ≡ objects_lexemes files (lex between rest)
unfolding lex
objects_lexed [] fit rest = refl
objects_lexed (file ∷ files) fit rest =
    let later = flat_map further_object files in
    ap (lex between) (ap (λ (x : List ℕ). codes "\n" ++ x) (append_assoc (file_object file) later rest))
    ∙ file_lexed file fit.0 (later ++ rest)
    ∙ ap (λ (ls : List Lexeme). file_lexemes file ls) (further_lexed files fit.1 rest)

-- ---- whole texts

-- the end of the list of files, and the totals of all
abbrev pub end_lexemes : Totals → List Lexeme
end_lexemes all =
    token Token.end_array ∷ comma ∷ key_lexemes (codes "total") (token Token.begin_object ∷ totals_lexemes all (token Token.end_object ∷ token Token.end_object ∷ []))

pub list_lexed : (files : List FileTotalsData) (all : Totals) → AllByRecursion FitsFile files → FitTotals all
    → lex between (list_json_of files all) ≡ token Token.begin_object ∷ key_lexemes (codes "files") (token Token.begin_array ∷ objects_lexemes files (end_lexemes all))
unfolding lex escape_byte
list_lexed files all fit all_fit =
    let last : List ℕ = members all ++ codes "}}\n" in
    let second : List ℕ = codes "\n],\"total\":{" ++ last in
    let text : list_json_of files all ≡ codes "{\"files\":[" ++ (objects files ++ second) =
    ap (λ (x : List ℕ). codes "{\"files\":[" ++ x)
    (append_assoc (objects files ++ codes "\n],\"total\":{") (members all) (codes "}}\n") ∙ append_assoc (objects files) (codes "\n],\"total\":{") last) in
    ap (lex between) text
    ∙ ap (λ (ls : List Lexeme). token Token.begin_object ∷ ls) (key_lexed (codes "files") (codes "[" ++ (objects files ++ second)))
    ∙ ap (λ (ls : List Lexeme). token Token.begin_object ∷ key_lexemes (codes "files") (token Token.begin_array ∷ ls)) (objects_lexed files fit second)
    ∙ ap (λ (ls : List Lexeme). token Token.begin_object ∷ key_lexemes (codes "files") (token Token.begin_array ∷ objects_lexemes files (token Token.end_array ∷ comma ∷ ls)))
    (key_lexed (codes "total") (codes "{" ++ last))
    ∙ ap (λ (ls : List Lexeme). token Token.begin_object ∷ key_lexemes (codes "files") (token Token.begin_array ∷ objects_lexemes files (token Token.end_array ∷ comma ∷ key_lexemes (codes "total") (token Token.begin_object ∷ ls))))
    (totals_lexed all all_fit (codes "}}\n"))

pub summary_lexed : (t : Totals) → FitTotals t → lex between (summary_json_of t) ≡ token Token.begin_object ∷ totals_lexemes t (token Token.end_object ∷ [])
unfolding lex
summary_lexed t fit = ap (λ (ls : List Lexeme). token Token.begin_object ∷ ls) (totals_lexed t fit (codes "}\n"))
