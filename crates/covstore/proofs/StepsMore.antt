-- If two steps, one after the other, keep what is committed in an index, both together keep it.
use Rattle.covstore.proofs.Words.{ℕ, List, ap, ◌∙◌, nat_cmp, KeepsCommitted, value_of}
use Rattle.std.specs.Option.{is_some}
use Rattle.covstore.specs.declared.index.FileIndex.{FileIndex}

pub held_both : {A : Type 0} (index more most : FileIndex A) → KeepsCommitted index more → KeepsCommitted more most → KeepsCommitted index most
held_both index more most first second = record {
  counts = second.counts ∙ first.counts;
  holders = second.holders ∙ first.holders;
  texts = λ line e. second.texts line (ap (λ (points : List (ℕ × ℕ)). is_some (value_of nat_cmp line points)) first.holders ∙ e) ∙ first.texts line e;
}
