-- The tokens of covlist's JSON, and the value that they are.
use Rattle.std.proofs.Common.{◌≡◌, ℕ, ◌≤◌, Bool, true, false, List, [], ◌∷◌, ◌++◌, Some, refl, sym, ap, ◌∙◌, append_assoc, append-nil, arith, codes}
use Rattle.std.specs.Prelude.{if◌then◌else◌, option_and_then}
use Rattle.std.specs.List.{AllByRecursion}
use Rattle.std.specs.Str.{is_utf8}
use Rattle.covtable.specs.declared.totals.Totals.{Totals}
use Rattle.covtable.specs.Files.{FileTotalsData}
use Rattle.hex.specs.Hex.{encode_lower}
use Rattle.json.specs.Json.{Json, string, object, member, value, if_last, max_depth, document}
use Rattle.json.specs.Lex.{Lexeme, token, comma, fresh, after_value, punctuate, tokens}
use Rattle.json.specs.Token.{Token}
use Rattle.json.specs.Tree.{json_tokens, items_tokens, depth, items_depth}
use Rattle.json.proofs.Printed.Trees.{value-json_tokens}
use Rattle.covlist.specs.Json.{list_json_of, summary_json_of}
use Rattle.covlaws.specs.ListValue.{totals_members, file_value, file_items, list_value, FitTotals, FitsFile}
use Rattle.covlaws.proofs.JsonLexemes.{key_lexemes, totals_lexemes, name_lexemes, further_lexemes, objects_lexemes, list_lexed, summary_lexed}

-- ---- commas and colons

file_tokens : (is_text : Bool) (path : List ℕ) (t : Totals) (ls : List Lexeme)
    → punctuate fresh (token Token.begin_object ∷ name_lexemes is_text path (comma ∷ totals_lexemes t (token Token.end_object ∷ ls)))
    ≡ json_tokens (object (if is_text then member (codes "file") (string path) (totals_members t) else member (codes "file_hex") (string (encode_lower path)) (totals_members t))) ++ punctuate after_value ls
unfolding punctuate
file_tokens true path t ls = refl
file_tokens false path t ls = refl

further_tokens : (files : List FileTotalsData) (ls : List Lexeme) → punctuate after_value (further_lexemes files (token Token.end_array ∷ ls)) ≡ items_tokens (file_items files) ++ punctuate after_value ls
unfolding punctuate
further_tokens [] ls = refl
further_tokens (file ∷ files) ls =
    file_tokens (is_utf8 file.path) file.path file.totals (further_lexemes files (token Token.end_array ∷ ls))
    ∙ ap (λ (ts : List Token). json_tokens (file_value file) ++ ts) (further_tokens files ls)
    ∙ sym (append_assoc (json_tokens (file_value file)) (items_tokens (file_items files)) (punctuate after_value ls))

objects_tokens : (files : List FileTotalsData) (ls : List Lexeme) → punctuate fresh (objects_lexemes files (token Token.end_array ∷ ls)) ≡ items_tokens (file_items files) ++ punctuate after_value ls
unfolding punctuate
objects_tokens [] ls = refl
objects_tokens (file ∷ files) ls =
    file_tokens (is_utf8 file.path) file.path file.totals (further_lexemes files (token Token.end_array ∷ ls))
    ∙ ap (λ (ts : List Token). json_tokens (file_value file) ++ ts) (further_tokens files ls)
    ∙ sym (append_assoc (json_tokens (file_value file)) (items_tokens (file_items files)) (punctuate after_value ls))

list_tokens : (files : List FileTotalsData) (all : Totals) → AllByRecursion FitsFile files → FitTotals all → tokens (list_json_of files all) ≡ json_tokens (list_value files all)
unfolding punctuate
list_tokens files all fit all_fit =
    let total : List Lexeme =
    comma ∷ key_lexemes (codes "total") (token Token.begin_object ∷ totals_lexemes all (token Token.end_object ∷ token Token.end_object ∷ [])) in
    ap (punctuate fresh) (list_lexed files all fit all_fit)
    ∙ ap (λ (ts : List Token). Token.begin_object ∷ Token.key (codes "files") ∷ Token.begin_array ∷ ts) (objects_tokens files total)

summary_tokens : (t : Totals) → FitTotals t → tokens (summary_json_of t) ≡ json_tokens (object (totals_members t))
unfolding punctuate
summary_tokens t fit = ap (punctuate fresh) (summary_lexed t fit)

-- ---- the value

read_of : (text : List ℕ) (j : Json) → depth j ≤ max_depth → tokens text ≡ json_tokens j → document text ≡ Some j
read_of text j shallow are =
    ap (λ (ts : List Token). option_and_then (λ (p : Json × List Token). if_last p.0 p.1) (value max_depth ts)) (are ∙ sym (append-nil (json_tokens j)))
    ∙ ap (option_and_then (λ (p : Json × List Token). if_last p.0 p.1)) (value-json_tokens j max_depth [] shallow)

file_shallow : (is_text : Bool) (path : List ℕ) (t : Totals)
    → depth (object (if is_text then member (codes "file") (string path) (totals_members t) else member (codes "file_hex") (string (encode_lower path)) (totals_members t))) ≤ 2
file_shallow true path t = omega arith
file_shallow false path t = omega arith

files_shallow : (files : List FileTotalsData) → items_depth (file_items files) ≤ 2
files_shallow [] = omega arith
files_shallow (file ∷ files) = omega (arith, file_shallow (is_utf8 file.path) file.path file.totals, files_shallow files)

pub list_read : (files : List FileTotalsData) (all : Totals) → AllByRecursion FitsFile files → FitTotals all → document (list_json_of files all) ≡ Some (list_value files all)
list_read files all fit all_fit = read_of (list_json_of files all) (list_value files all) (omega (arith, files_shallow files)) (list_tokens files all fit all_fit)

pub summary_read : (t : Totals) → FitTotals t → document (summary_json_of t) ≡ Some (object (totals_members t))
summary_read t fit = read_of (summary_json_of t) (object (totals_members t)) (omega arith) (summary_tokens t fit)
