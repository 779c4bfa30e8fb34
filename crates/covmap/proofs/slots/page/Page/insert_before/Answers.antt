use Rattle.std.proofs.Common.{rules}
use Rattle.std.proofs.Common.{◌∙◌, None, ap, length, arith}
use Rattle.std.specs.List.{insert}
use Rattle.covmap.specs.Slots.{beside}
use Rattle.covmap.proofs.PageParts.{beside_after, beside_insert, beside_length}
use Rattle.covmap.proofs.slots.page.Page.insert_before.Goals as goal

pub insert-requires : goal.insert-requires
insert-requires g c =
    omega (arith, c.requires, ap length c.self.view_is, beside_length c.self.inside.keys.items c.self.inside.values.items, c.self.inside.keys.ok.0)

pub returns-then-len-index-clause-ok : goal.returns-then-len-index-clause-ok
returns-then-len-index-clause-ok g c =
    let keys = c.self.inside.keys.items in
    let values = c.self.inside.values.items in
    ap (λ keys. beside keys values) c.in_ok-insert.ensures.items
    ∙ beside_after keys values c.args.index c.args.key (omega (arith, c.if-len-index.true, c.len.ensures, c.self.inside.values.ok.0)) (omega (arith, c.requires, ap length c.self.view_is, beside_length keys values))
    ∙ ap (λ slots. insert slots c.args.index (c.args.key, None)) c.self.view_is

pub returns-clause-ok : goal.returns-clause-ok
returns-clause-ok g c =
    let keys = c.self.inside.keys.items in
    let values = c.self.inside.values.items in
    ap (λ keys. beside keys c.insert-3.new.self.items) c.in_ok-insert-2.ensures.items
    ∙ ap (beside (insert keys c.args.index c.args.key)) (c.in_ok-insert-3.ensures.items ∙ ap (λ values. insert values c.args.index None) c.in_ok-reserve.ensures.items)
    ∙ beside_insert keys values c.args.index c.args.key (omega (arith, c.if-len-index.false, c.len.ensures, c.self.inside.values.ok.0)) c.self.invariant
    ∙ ap (λ slots. insert slots c.args.index (c.args.key, None)) c.self.view_is

pub returns-in_err-insert-3-clause-err : goal.returns-in_err-insert-3-clause-err
returns-in_err-insert-3-clause-err g c = search rules fits 100
