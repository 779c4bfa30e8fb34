use Rattle.std.specs.Prelude.{◌≡◌, ℕ, List, map, take}
use Rattle.std.specs.List.{list_any}
use Rattle.std.specs.Str.{bytes_eq}
use Rattle.std.specs.String.{string_bytes}
use Rattle.covcombine.specs.Options.{IsTwice}
use Rattle.covcombine.proofs.Twice.{has}
use Rattle.covcombine.proofs.work.named_twice.Given as goal

-- none of the names so far stands twice, and the set has them all
abbrev pub invariant-loop-word : goal.invariant-loop-word
invariant-loop-word l = record {
  none : (name : List ℕ) → IsTwice (map string_bytes (take l.word-index l.names)) name → ⊥;
  seen : (name : List ℕ) → has (λ k. k.now) l.seen.keys name ≡ list_any (bytes_eq name) (map string_bytes (take l.word-index l.names));
}
