-- The value that covlist's JSON stands for tells the files and the totals.
use Rattle.std.proofs.Common.{◌≡◌, ℕ, ◌<◌, ◌^◌, Bool, true, false, List, [], ◌∷◌, length, Result, Ok, Err, refl, sym, ap, ap₂, ◌∙◌, arith, codes}
use Rattle.std.specs.Prelude.{if◌then◌else◌}
use Rattle.std.specs.List.{AllByRecursion}
use Rattle.std.specs.Str.{is_utf8}
use Rattle.std.proofs.lemmas.Bool.{false≢true}
use Rattle.std.proofs.lemmas.Fmt.{decimal_injective}
use Rattle.covtable.specs.declared.totals.Totals.{Totals}
use Rattle.covtable.specs.Files.{FileTotalsData}
use Rattle.hex.specs.Hex.{IsBytes, encode_lower, decode_of}
use Rattle.hex.specs.declared.error.FromHexError.{FromHexError}
use Rattle.hex.proofs.HexLemmas.{decode_of-encode_lower}
use Rattle.json.specs.Json.{Json, null, number, string, array, object, Items, no_items, item, Members, no_members, member}
use Rattle.covlaws.specs.ListValue.{points_value, totals_members, file_value, file_items, list_value, FitTotals, FitsFile}

-- ---- parts of a value

abbrev text_in : Json → List ℕ
text_in (number s) = s
text_in (string s) = s
text_in j = []

abbrev members_in : Json → Members
members_in (object ms) = ms
members_in j = no_members

abbrev array_in : Json → Items
array_in (array js) = js
array_in j = no_items

abbrev first_key : Members → List ℕ
first_key no_members = []
first_key (member k j ms) = k

abbrev first_value : Members → Json
first_value no_members = null
first_value (member k j ms) = j

abbrev further : Members → Members
further no_members = no_members
further (member k j ms) = ms

abbrev has_items : Items → Bool
has_items no_items = false
has_items (item j js) = true

abbrev first_item : Items → Json
first_item no_items = null
first_item (item j js) = j

abbrev further_items : Items → Items
further_items no_items = no_items
further_items (item j js) = js

-- ---- what they tell

points_tell : (hit found other_hit other_found : ℕ) → hit < 2 ^ 64 → found < 2 ^ 64 → other_hit < 2 ^ 64 → other_found < 2 ^ 64
    → points_value hit found ≡ points_value other_hit other_found → (hit ≡ other_hit) × (found ≡ other_found)
points_tell hit found other_hit other_found a b c d e = (
  decimal_injective hit other_hit a c (ap (λ (j : Json). text_in (first_value (further (members_in j)))) e),
  decimal_injective found other_found b d (ap (λ (j : Json). text_in (first_value (members_in j))) e),
)

same_totals : (t u : Totals) → t.lf ≡ u.lf → t.lh ≡ u.lh → t.ff ≡ u.ff → t.fh ≡ u.fh → t.bf ≡ u.bf → t.bh ≡ u.bh → t ≡ u
same_totals t u lf lh ff fh bf bh = λ i. record { lf = lf i; lh = lh i; ff = ff i; fh = fh i; bf = bf i; bh = bh i }

totals_tell : (t u : Totals) → FitTotals t → FitTotals u → totals_members t ≡ totals_members u → t ≡ u
totals_tell t u a b e =
    let lines = points_tell t.lh t.lf u.lh u.lf a.lines_hit a.lines_found b.lines_hit b.lines_found (ap first_value e) in
    let functions = points_tell t.fh t.ff u.fh u.ff a.functions_hit a.functions_found b.functions_hit b.functions_found (ap (λ (ms : Members). first_value (further ms)) e) in
    let branches = points_tell t.bh t.bf u.bh u.bf a.branches_hit a.branches_found b.branches_hit b.branches_found (ap (λ (ms : Members). first_value (further (further ms))) e) in
    same_totals t u lines.1 lines.0 functions.1 functions.0 branches.1 branches.0

abbrev bytes_in : Result (List ℕ) FromHexError → List ℕ
bytes_in (Ok bytes) = bytes
bytes_in (Err fault) = []

abbrev named : (is_text : Bool) → List ℕ → Members → Members
named is_text path rest = if is_text then member (codes "file") (string path) rest else member (codes "file_hex") (string (encode_lower path)) rest

name_tells : (is_text other_is_text : Bool) (path other : List ℕ) (rest other_rest : Members) → IsBytes path → IsBytes other → named is_text path rest ≡ named other_is_text other other_rest
    → (path ≡ other) × (rest ≡ other_rest)
name_tells true true path other rest other_rest a b e = (ap (λ (ms : Members). text_in (first_value ms)) e, ap further e)
name_tells true false path other rest other_rest a b e = let n : 4 ≡ 8 = ap (λ (ms : Members). length (first_key ms)) e in absurd (omega (arith, n))
name_tells false true path other rest other_rest a b e = let n : 8 ≡ 4 = ap (λ (ms : Members). length (first_key ms)) e in absurd (omega (arith, n))
name_tells false false path other rest other_rest a b e =
    let digits : encode_lower path ≡ encode_lower other = ap (λ (ms : Members). text_in (first_value ms)) e in
    (ap bytes_in (sym (decode_of-encode_lower path a) ∙ ap decode_of digits ∙ decode_of-encode_lower other b), ap further e)

file_tells : (file other : FileTotalsData) → FitsFile file → FitsFile other → file_value file ≡ file_value other → file ≡ other
file_tells file other a b e =
    let parts = name_tells (is_utf8 file.path) (is_utf8 other.path) file.path other.path (totals_members file.totals) (totals_members other.totals) a.path b.path (ap members_in e) in
    let totals = totals_tell file.totals other.totals a.totals b.totals parts.1 in
    λ i. record { path = parts.0 i; totals = totals i }

files_tell : (files others : List FileTotalsData) → AllByRecursion FitsFile files → AllByRecursion FitsFile others → file_items files ≡ file_items others → files ≡ others
files_tell [] [] a b e = refl
files_tell [] (other ∷ others) a b e = absurd (false≢true (ap has_items e))
files_tell (file ∷ files) [] a b e = absurd (false≢true (sym (ap has_items e)))
files_tell (file ∷ files) (other ∷ others) a b e =
    ap₂ (λ (f : FileTotalsData) (fs : List FileTotalsData). f ∷ fs) (file_tells file other a.0 b.0 (ap first_item e)) (files_tell files others a.1 b.1 (ap further_items e))

pub list_tells : (files others : List FileTotalsData) (all other : Totals) → AllByRecursion FitsFile files → FitTotals all → AllByRecursion FitsFile others → FitTotals other
    → list_value files all ≡ list_value others other → (files ≡ others) × (all ≡ other)
list_tells files others all other a b c d e = (
  files_tell files others a c (ap (λ (j : Json). array_in (first_value (members_in j))) e),
  totals_tell all other b d (ap (λ (j : Json). members_in (first_value (further (members_in j)))) e),
)
