use Rattle.std.proofs.Common.{sym, codes}
use Rattle.covpieces.proofs.Keys.{begins_told}
use Rattle.covpieces.proofs.cut.ends_section.Goals as goal

pub returns : goal.returns
returns c =
    let key = codes "end_of_record" in
    rw c.is_some.ensures (rw (sym c.without_returns.ensures) (begins_told (λ rest. rest.now) key c.without_returns.result.now c.strip_key.result c.strip_key.ensures))
