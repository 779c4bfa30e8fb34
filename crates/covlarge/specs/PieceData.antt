-- The text of a piece.
use Rattle.std.specs.Prelude.{ℕ, List}

-- the front of a piece, and bytes of the tracefile behind it
pub record PieceData : Type 0 where
  pub front : List ℕ
  pub bytes : List ℕ
