-- What printing a text puts into a printer.
use Rattle.std.specs.Prelude.{◌≡◌, ℕ, Bool, true, false, List, ◌++◌}

-- the printer has the text, or the beginning of the text if it wants no more pieces. A printer that wanted none before gets none
pub record HasPut {P : Type 0} (text : P → List ℕ) (is_open : P → Bool) (before after : P) (whole_text : List ℕ) : Type 0 where
  pub begun : (rest : List ℕ) × (text after ++ rest ≡ text before ++ whole_text)
  pub whole : is_open after ≡ true → text after ≡ text before ++ whole_text
  pub stops : is_open before ≡ false → text after ≡ text before
