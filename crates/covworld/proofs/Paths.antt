-- The path of a file in a folder, byte by byte.
use Rattle.std.proofs.Common.{◌≡◌, ℕ, true, eqb, List, [], ◌∷◌, ◌++◌, length, take, drop, sym, ap, ap₂, ◌∙◌, append_assoc}
use Rattle.std.proofs.lemmas.List.{take-append-drop}
use lib.Pointwise.{bytes_decides, pointwise}
use Rattle.covworld.specs.OutputFiles.{path_in}

-- what follows the folder's path is a slash and the file's name
pub split_path : (folder name path rest last : List ℕ) (slash : ℕ) → pointwise eqb (take (length folder) path) folder ≡ true → rest ≡ drop (length folder) path
    → rest ≡ slash ∷ last → slash ≡ 47 → last ≡ name → path ≡ path_in folder name
split_path folder name path rest last slash begins is cut here same =
    sym (take-append-drop (length folder) path)
    ∙ ap₂ (λ (front back : List ℕ). front ++ back) ((bytes_decides (take (length folder) path) folder).0 begins)
    (sym is ∙ cut ∙ ap₂ (λ (s : ℕ) (l : List ℕ). s ∷ l) here same)
    ∙ sym (append_assoc folder (47 ∷ []) name)
