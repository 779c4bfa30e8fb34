use Rattle.std.proofs.Common.{◌≡◌, ◌∙◌, None, length, arith}
use Rattle.covmap.proofs.PageParts.{insert_last}
use Rattle.covmap.proofs.slots.staged.insert_empty.Goals as goal

pub returns-then-index-len-clause-ok : goal.returns-then-index-len-clause-ok
returns-then-index-len-clause-ok g c =
    let last : c.args.index ≡ length c.args.column.now.items = omega (arith, c.if-index-len.true, c.len.ensures, c.args.column.now.ok.0) in
    c.in_ok-push.ensures.items ∙ insert_last c.args.column.now.items c.args.index None last
