-- The files of rows are the files of the rows' keys.
use Rattle.std.proofs.Common.{◌≡◌, ℕ, List, map, ap, subst}
use Rattle.covdata.specs.Row.{Row}
use Rattle.covtable.specs.Value.{Key, key_of_row}
use Rattle.covtable.proofs.Members.{In, In-map, In-unmap}

-- ---- the files of rows are those of their keys

pub file_of_key : (rows : List Row) (key : Key) → In key (map key_of_row rows) → In key.file (map (λ (row : Row). row.file) rows)
file_of_key rows key i =
    let found = In-unmap key_of_row rows key i in
    subst (λ (file : List ℕ). In file (map (λ (row : Row). row.file) rows)) (ap (λ (k : Key). k.file) found.2) (In-map (λ (row : Row). row.file) rows found.0 found.1)

pub key_of_file : (rows : List Row) (file : List ℕ) → In file (map (λ (row : Row). row.file) rows) → (key : Key) × In key (map key_of_row rows) × (key.file ≡ file)
key_of_file rows file i = let found = In-unmap (λ (row : Row). row.file) rows file i in (key_of_row found.0, In-map key_of_row rows found.0 found.1, found.2)
