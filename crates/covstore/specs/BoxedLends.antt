-- What a box holds after it has lent its value.
use Rattle.std.specs.Borrow.{Lends, Fml, RattleType, MutBor}
use Rattle.std.specs.declared.alloc.Allocator.{Ghosts}
use Rattle.covstore.specs.contracts.boxed.Boxed.{the_row}

-- the box holds the last value that was written through r
abbrev pub lends_value : (T A : RattleType) → Ghosts A.Denot → MutBor T.Denot → MutBor T.Denot → Fml
lends_value T A g boxed r = Lends (the_row T A g) T boxed r (λ last. last)
