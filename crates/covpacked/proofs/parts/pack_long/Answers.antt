use Rattle.std.proofs.Common.{◌∙◌, ap, ℕ, [], ◌∷◌, ◌++◌, ◌/◌, ◌%◌, arith}
use Rattle.covpacked.proofs.Packing.{packed_long}
use Rattle.covpacked.proofs.parts.pack_long.Goals as goal

pub returns-clause-ok : goal.returns-clause-ok
returns-clause-ok g c =
    let before = c.args.numbers.now in
    let count = c.args.parts.count in
    packed_long before.items c.args.parts (count % 18446744073709551616) (count / 18446744073709551616) (omega arith) c.len.result c.extend_from_slice.new.self.items
    (omega (arith, c.len.ensures, before.ok.0)) (c.in_ok-extend_from_slice.ensures.items ∙ ap (λ (kind : ℕ). before.items ++ kind ∷ c.args.parts.line ∷ count % 18446744073709551616 ∷ count / 18446744073709551616 ∷ c.args.parts.first ∷ c.args.parts.second ∷ []) c.number.ensures)
