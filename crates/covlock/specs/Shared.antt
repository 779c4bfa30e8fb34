-- What contracts see of a shared book. Until the book is closed, a caller knows only the entries of its own calls.
use Rattle.std.specs.Prelude.{ℕ}

-- how many jobs share it
pub record SharedData : Type 0 where
  pub jobs : ℕ
