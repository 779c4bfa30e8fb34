-- What comes of reading a source file.
use Rattle.std.proofs.Common.{◌≡◌, ℕ, ◌<◌, ◌≤◌, Bool, true, false, cond, nat_le, List, [], ◌∷◌, ◌++◌, length, map, Option, refl, sym, ap, ◌∙◌, inl, inr, arith}
use Rattle.std.specs.Str.{IsUtf8}
use Rattle.std.proofs.lemmas.Bool.{cond-true, cond-false}
use Rattle.std.proofs.lemmas.Bool.Decides.{nat_tests}
use Rattle.std.proofs.lemmas.List.{map-append}
use Rattle.covhtml.specs.Rows.{RowData}
use Rattle.covpages.specs.Sources.{IsSource, SourceData, Text, Unreadable, Short, has_lines, last_after, last_line, source_with}
use Rattle.covread.specs.Outcome.{max_bytes}
use Rattle.covworld.specs.Folder.{FolderData, IsTextOf}

last_of : (last : ℕ) (front : List RowData) (row : RowData) → last_after last (front ++ row ∷ []) ≡ row.number
last_of last [] row = refl
last_of last (r ∷ front) row = last_of r.number front row

module _ {X : Type 0} (seen : X → RowData) (rows front : List X) (row : X) where
  pub last_seen : rows ≡ front ++ row ∷ [] → (seen row).number ≡ last_line (map seen rows)
  last_seen is =
      sym (last_of 0 (map seen front) (seen row))
      ∙ ap last_line (sym (ap (map seen) is ∙ map-append seen front (row ∷ [])))

pub none_seen : {X : Type 0} (seen : X → RowData) (rows : List X) → length rows ≡ 0 → 0 ≡ last_line (map seen rows)
none_seen seen [] none = refl
none_seen seen (x ∷ rows) none = absurd (omega (arith, none))

module _ (rows : List RowData) (text : List ℕ) where
  pub too_long : max_bytes < length text → Unreadable ≡ source_with rows text
  too_long long =
      let test : nat_le (length text) max_bytes ≡ false = grind (arith, nat_tests) in
      sym (cond-false (nat_le (length text) max_bytes) (cond (has_lines rows text) (Text text) Short) Unreadable test)

  fits : length text ≤ max_bytes → source_with rows text ≡ cond (has_lines rows text) (Text text) Short
  fits few =
      let test : nat_le (length text) max_bytes ≡ true = grind (arith, nat_tests) in
      cond-true (nat_le (length text) max_bytes) (cond (has_lines rows text) (Text text) Short) Unreadable test

  pub whole_text : length text ≤ max_bytes → has_lines rows text ≡ true → Text text ≡ source_with rows text
  whole_text few has = sym (fits few ∙ cond-true (has_lines rows text) (Text text) Short has)

  pub short_text : length text ≤ max_bytes → has_lines rows text ≡ false → Short ≡ source_with rows text
  short_text few has = sym (fits few ∙ cond-false (has_lines rows text) (Text text) Short has)

module _ (folder : FolderData) (name : List ℕ) (rows : List RowData) where
  pub not_text : (IsUtf8 name → ⊥) → IsSource folder name rows Unreadable
  not_text bad = inl (refl, inr bad)

  pub not_readable : folder.MayFail name → IsSource folder name rows Unreadable
  not_readable fails = inl (refl, inl fails)

  pub read_so : (text : List ℕ) (source : SourceData) → IsTextOf (folder.holds name) text → source ≡ source_with rows text → IsSource folder name rows source
  read_so text source held is = inr (text, held, is)
