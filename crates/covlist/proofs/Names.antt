-- How a file is named in JSON.
use Rattle.std.proofs.Common.{◌≡◌, ℕ, List, [], ◌∷◌, ◌++◌, ap, ◌∙◌, append_assoc}
use Rattle.std.specs.Str.{IsUtf8, is_utf8}
use Rattle.std.proofs.lemmas.Bool.{cond-true, cond-false, false_from_ne_true}
use Rattle.std.proofs.lemmas.List.{append-nil}
use Rattle.std.proofs.lemmas.Str.{IsUtf8-from_is_utf8, is_utf8-from_IsUtf8}
use Rattle.json.specs.Token.{Token, string}
use Rattle.json.specs.Print.{print, print_from, quoted}
use Rattle.covlist.specs.Json.{hexadecimal_name, name_member, string_name}

-- the text of one string
print_string : (s : List ℕ) → print (string s ∷ []) ≡ quoted s
unfolding print_from
print_string s = append-nil (quoted s)

-- what a writer of one string has written
pub written : (before : List ℕ) (tokens : List Token) (s : List ℕ) → before ≡ [] → tokens ≡ string s ∷ [] → before ++ print tokens ≡ quoted s
written before tokens s none one = ap (λ (b : List ℕ). b ++ print tokens) none ∙ ap print one ∙ print_string s

pub named_by_string : (path : List ℕ) → IsUtf8 path → name_member path ≡ string_name path
named_by_string path is = cond-true (is_utf8 path) (string_name path) (hexadecimal_name path) (is_utf8-from_IsUtf8 path is)

pub named_by_bytes : (path : List ℕ) → ¬ (IsUtf8 path) → name_member path ≡ hexadecimal_name path
named_by_bytes path is_not =
    cond-false (is_utf8 path) (string_name path) (hexadecimal_name path) (false_from_ne_true (is_utf8 path) (λ is. is_not (IsUtf8-from_is_utf8 path is)))

-- three texts, appended one after another
pub three_put : (t t1 t2 a b c : List ℕ) → t1 ≡ t ++ a → t2 ≡ t1 ++ b → t2 ++ c ≡ t ++ (a ++ b ++ c)
three_put t t1 t2 a b c first second = ap (λ (x : List ℕ). x ++ c) (second ∙ ap (λ (x : List ℕ). x ++ b) first) ∙ simp append_assoc
