-- Sections that have a row: one with items, and several of which one has a row.
use Rattle.covstore.proofs.Words.{◌≢◌, List, [], ◌∷◌, ◌++◌, length, sym, ap, ◌∙◌, arith, flat_map, length-append, nil_from_length, flat_map-append, SectData, rows_of_sect}

-- one section with a row is enough, whatever is before and after it
pub some_of_them : (before : List SectData) (sect : SectData) (after : List SectData) → rows_of_sect sect ≢ [] → flat_map rows_of_sect (before ++ sect ∷ after) ≢ []
some_of_them before sect after some none =
    let front = flat_map rows_of_sect before in
    let back = flat_map rows_of_sect after in
    let all = ap length (sym (flat_map-append rows_of_sect before (sect ∷ after)) ∙ none) in
    some (nil_from_length (rows_of_sect sect) (omega (arith, length-append front (rows_of_sect sect ++ back), length-append (rows_of_sect sect) back, all)))
