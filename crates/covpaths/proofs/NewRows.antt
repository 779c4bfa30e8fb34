-- Rows with new names.
use Rattle.std.proofs.Common.{◌≡◌, List, [], ◌∷◌, ◌++◌, map, refl, sym, ap, ap₂, ◌∙◌}
use Rattle.std.specs.Prelude.{flat_map}
use Rattle.std.proofs.lemmas.List.{map-append}
use Rattle.covdata.specs.Row.{ItemData, Row, SectData, rows_of_sect}
use Rattle.covpaths.specs.Names.{NamesData, named_row, named_sect}

items_named : (names : NamesData) (s : SectData) (items : List ItemData)
    → map (λ i. record { test = (named_sect names s).test; file = (named_sect names s).file; item = i }) items
    ≡ map (named_row names) (map (λ i. record { test = s.test; file = s.file; item = i }) items)
items_named names s [] = refl
items_named names s (i ∷ items) = ap (λ (rows : List Row). named_row names (record { test = s.test; file = s.file; item = i }) ∷ rows) (items_named names s items)

pub rows_named : (names : NamesData) (sects : List SectData)
    → flat_map rows_of_sect (map (named_sect names) sects) ≡ map (named_row names) (flat_map rows_of_sect sects)
rows_named names [] = refl
rows_named names (s ∷ sects) =
    ap₂ (λ (first rest : List Row). first ++ rest) (items_named names s s.items) (rows_named names sects)
    ∙ sym (map-append (named_row names) (rows_of_sect s) (flat_map rows_of_sect sects))
