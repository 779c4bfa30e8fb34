-- The values (RFC 8259) that covlist's JSON stands for.
use Rattle.std.specs.Prelude.{ℕ, ◌<◌, ◌^◌, if◌then◌else◌, List, [], ◌∷◌, codes, decimal}
use Rattle.std.specs.Str.{is_utf8}
use Rattle.covtable.specs.declared.totals.Totals.{Totals}
use Rattle.covtable.specs.Files.{FileTotalsData}
use Rattle.hex.specs.Hex.{IsBytes, encode_lower}
use Rattle.json.specs.Json.{Json, number, string, array, object, Items, no_items, item, Members, no_members, member}

abbrev pub points_value : (hit found : ℕ) → Json
points_value hit found = object (member (codes "found") (number (decimal found)) (member (codes "hit") (number (decimal hit)) no_members))

abbrev pub totals_members : Totals → Members
totals_members t =
    member (codes "lines") (points_value t.lh t.lf) (member (codes "functions") (points_value t.fh t.ff) (member (codes "branches") (points_value t.bh t.bf) no_members))

-- the path, or its bytes in hexadecimal if it isn't UTF-8, and then these members
abbrev pub named_members : List ℕ → Members → Members
named_members path rest = if is_utf8 path then member (codes "file") (string path) rest else member (codes "file_hex") (string (encode_lower path)) rest

abbrev pub file_value : FileTotalsData → Json
file_value file = object (named_members file.path (totals_members file.totals))

abbrev pub file_items : List FileTotalsData → Items
file_items [] = no_items
file_items (file ∷ files) = item (file_value file) (file_items files)

abbrev pub list_value : List FileTotalsData → (all : Totals) → Json
list_value files all = object (member (codes "files") (array (file_items files)) (member (codes "total") (object (totals_members all)) no_members))

-- the numbers fit into 64 bits
pub record FitTotals (t : Totals) : Type 0 where
  pub lines_hit : t.lh < 2 ^ 64
  pub lines_found : t.lf < 2 ^ 64
  pub functions_hit : t.fh < 2 ^ 64
  pub functions_found : t.ff < 2 ^ 64
  pub branches_hit : t.bh < 2 ^ 64
  pub branches_found : t.bf < 2 ^ 64

-- so do those of the file, and its path consists of bytes
pub record FitsFile (file : FileTotalsData) : Type 0 where
  pub path : IsBytes file.path
  pub totals : FitTotals file.totals
