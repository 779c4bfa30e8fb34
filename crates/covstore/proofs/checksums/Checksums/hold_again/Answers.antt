use Rattle.covstore.proofs.Words.{◌≡◌, None, ◌∙◌, ap, sym, nat_cmp, false≢true, value_of, ChecksumsData}
use Rattle.std.specs.Option.{is_some}
use Rattle.covstore.proofs.checksums.Checksums.hold_again.Goals as goal

pub unreachable-requires : goal.unreachable-requires
unreachable-requires g c =
    let line = c.args.line in
    let none : value_of nat_cmp line c.self.inside.holders.staged ≡ None = sym c.lookup_staged.ensures.value ∙ c.in_default.is in
    false≢true (sym (ap is_some none) ∙ ap (λ (before : ChecksumsData). is_some (value_of nat_cmp line before.staged)) c.self.view_is ∙ c.requires.held)

pub set_holders-requires : goal.set_holders-requires
set_holders-requires g c = c.self.invariant.staged c.args.line (ap is_some (sym c.lookup_staged.ensures.value ∙ c.in-Some.is))
