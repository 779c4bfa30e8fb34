use Rattle.std.proofs.Common.{◌≡◌, ◌∙◌, None, ap, length, arith}
use Rattle.std.specs.List.{insert}
use Rattle.covmap.specs.Slots.{beside}
use Rattle.covmap.proofs.PageParts.{beside_after, beside_length, insert_last}
use Rattle.covmap.proofs.slots.page.Page.insert.Goals as goal

pub insert_before-requires : goal.insert_before-requires
insert_before-requires g c =
    omega (arith, c.requires, c.if-index-len.false, c.len.ensures, ap length c.self.view_is, beside_length c.self.inside.keys.items c.self.inside.values.items, c.self.inside.keys.ok.0)

pub returns-then-index-len-clause-ok : goal.returns-then-index-len-clause-ok
returns-then-index-len-clause-ok g c =
    let keys = c.self.inside.keys.items in
    let values = c.self.inside.values.items in
    let last : c.args.index ≡ length keys = omega (arith, c.if-index-len.true, c.len.ensures, c.self.inside.keys.ok.0) in
    ap (λ keys. beside keys values) (c.in_ok-push.ensures.items ∙ insert_last keys c.args.index c.args.key last)
    ∙ beside_after keys values c.args.index c.args.key (omega (arith, last, c.self.invariant)) (omega (arith, last))
    ∙ ap (λ slots. insert slots c.args.index (c.args.key, None)) c.self.view_is
