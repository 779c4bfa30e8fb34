use Rattle.covcheck.proofs.Keys.{begins_told}
use Rattle.covcheck.proofs.format.begins.Goals as goal

pub returns : goal.returns
returns c = rw c.is_some.ensures (begins_told (λ rest. rest.now) c.args.key.now c.args.text.now c.strip_key.result c.strip_key.ensures)
