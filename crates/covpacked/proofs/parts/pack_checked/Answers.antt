use Rattle.std.proofs.Common.{◌+◌, ◌*◌, arith}
use Rattle.covpacked.proofs.Packing.{packed_checked}
use Rattle.covpacked.proofs.parts.pack_checked.Goals as goal

pub returns-then-parts-lt-HALF-clause-ok : goal.returns-then-parts-lt-HALF-clause-ok
returns-then-parts-lt-HALF-clause-ok g c =
    let before = c.args.numbers.now in
    let p = c.args.parts in
    let word = c.short_word-word in
    packed_checked before.items p c.requires word.result word.ensures.short word.ensures.kind word.ensures.line (omega (arith, word.ensures.upper, c.len-begin.ensures, before.ok.0))
    (p.count + p.second * 4294967296) c.extend_from_slice.new.self.items (omega arith) (omega arith) c.in_ok-extend_from_slice.ensures.items
