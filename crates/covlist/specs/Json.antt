-- The files with their totals as JSON (RFC 8259).
use Rattle.std.specs.Prelude.{ℕ, if◌then◌else◌, List, [], ◌∷◌, ◌++◌, codes, decimal, flat_map}
use Rattle.std.specs.Str.{is_utf8}
use Rattle.covtable.specs.declared.totals.Totals.{Totals}
use Rattle.covtable.specs.Files.{FileTotalsData}
use Rattle.hex.specs.Hex.{encode_lower}
use Rattle.json.specs.Print.{quoted}

-- how many points of a kind are found, and how many are hit
abbrev pub points : (hit found : ℕ) → List ℕ
points hit found = codes "{\"found\":" ++ decimal found ++ codes ",\"hit\":" ++ decimal hit ++ codes "}"

-- the members of an object that say the totals
abbrev pub members : Totals → List ℕ
members t =
    codes "\"lines\":" ++ points t.lh t.lf ++ codes ",\"functions\":" ++ points t.fh t.ff ++ codes ",\"branches\":" ++ points t.bh t.bf

-- the totals alone
abbrev pub summary_json_of : Totals → List ℕ
summary_json_of t = codes "{" ++ members t ++ codes "}\n"

-- the member that names a file by a string, with quotes and escapes
abbrev pub string_name : List ℕ → List ℕ
string_name path = codes "\"file\":" ++ quoted path

-- the member that names a file by its bytes in hexadecimal
abbrev pub hexadecimal_name : List ℕ → List ℕ
hexadecimal_name path = codes "\"file_hex\":\"" ++ encode_lower path ++ codes "\""

-- the first of these if the path is UTF-8
abbrev pub name_member : List ℕ → List ℕ
name_member path = if is_utf8 path then string_name path else hexadecimal_name path

abbrev pub file_object : FileTotalsData → List ℕ
file_object file = codes "{" ++ name_member file.path ++ codes "," ++ members file.totals ++ codes "}"

-- the object of a file that isn't the first
abbrev pub further_object : FileTotalsData → List ℕ
further_object file = codes ",\n" ++ file_object file

-- the objects of all files, each on a line of its own, with commas between them
abbrev pub objects : List FileTotalsData → List ℕ
objects [] = []
objects (file ∷ files) = codes "\n" ++ file_object file ++ flat_map further_object files

-- the files, and the totals of all of them
abbrev pub list_json_of : List FileTotalsData → (all : Totals) → List ℕ
list_json_of files all = codes "{\"files\":[" ++ objects files ++ codes "\n],\"total\":{" ++ members all ++ codes "}}\n"
