-- Words of a call that clap doesn't take as they are written.
use Rattle.std.specs.Prelude.{Bool, false, not, ◌&&◌, ◌||◌, List, [], ◌∷◌, codes, if◌then◌else◌}
use Rattle.std.specs.Str.{bytes_eq}
use Rattle.clap.specs.Walk.{Text}

-- `--one-test` alone stands for `--one-test=`, the empty name. Otherwise clap would take the next word, a file, for the name
abbrev pub spelled_word : (is_name : Bool) → Text → Text
spelled_word is_name word = if not is_name && bytes_eq word (codes "--one-test") then codes "--one-test=" else word

-- words from `--` on are names. `are_names`: such a word stands before these
abbrev pub spelled_from : (are_names : Bool) → List Text → List Text
spelled_from are_names [] = []
spelled_from are_names (word ∷ words) =
    spelled_word (are_names || bytes_eq word (codes "--")) word ∷ spelled_from (are_names || bytes_eq word (codes "--")) words

-- the words of a call as clap takes them
abbrev pub spelled_out : List Text → List Text
spelled_out words = spelled_from false words
