-- Private steps of a check: what follows the beginning of a line.
use Rattle.std.specs.Prelude.{ℕ, if◌then◌else◌, List, [], ◌∷◌}
use Rattle.covcheck.specs.Skipped.{is_cut}

-- what follows the colons, spaces and tabs at the front
abbrev pub after_cuts : List ℕ → List ℕ
after_cuts [] = []
after_cuts (b ∷ bs) = if is_cut b then after_cuts bs else b ∷ bs

-- the text from its first colon, space or tab on; it is empty if the text has none of these
abbrev pub after_word : List ℕ → List ℕ
after_word [] = []
after_word (b ∷ bs) = if is_cut b then b ∷ bs else after_word bs
