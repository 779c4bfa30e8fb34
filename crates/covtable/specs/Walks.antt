-- What the calls of an iterator give, seen as a list.
use Rattle.std.specs.Prelude.{◌≡◌, Option, Some, None, List, [], ◌∷◌}

-- wherever the iterator stands, `next` gives the first of what is left, and leaves the others; it gives `None` if nothing is left
pub record GivesInTurn {I X Y : Type 0} (view : X → Y) (left : I → List Y) (gives : I → Option X → I → Type 0) : Type 0 where
  pub some : (before after : I) (next : X) → gives before (Some next) after → left before ≡ view next ∷ left after
  pub none : (before after : I) → gives before None after → left before ≡ []
