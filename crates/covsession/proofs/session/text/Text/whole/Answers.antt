use Rattle.std.proofs.Common.{◌<◌, length, ap, ◌∙◌, arith}
use Rattle.covsession.proofs.SessionBytes.{whole_kept}
use Rattle.covsession.proofs.session.text.Text.whole.Goals as goal

pub returns : goal.returns
returns g c = λ before now is h.
    let few : length c.args.self.now.kept.items < c.args.self.now.limit = omega (arith, is, c.as_slice.ensures.len, ap length c.as_slice.ensures.value, c.args.self.now.kept.small) in
    c.as_slice.ensures.value ∙ whole_kept _ _ _ h.keeps few
