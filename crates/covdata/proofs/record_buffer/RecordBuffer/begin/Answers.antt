use Rattle.std.proofs.Common.{◌<◌, ◌∷◌, ◌∙◌, ℕ, List, length, ap, sym, subst, arith}
use Rattle.std.proofs.lemmas.List.{drop_all}
use Rattle.covdata.proofs.record_buffer.RecordBuffer.begin.Goals as goal

-- behind the last byte there is nothing
pub put-requires : goal.put-requires
put-requires c = subst (λ (bytes : List ℕ). length bytes < 112) (sym (drop_all 112 c.self.inside.bytes (omega (arith, c.self.told)))) (omega arith)

pub returns : goal.returns
returns c = c.put.ensures ∙ ap (λ (bytes : List ℕ). c.args.last ∷ bytes) (drop_all 112 c.self.inside.bytes (omega (arith, c.self.told)))
