use Rattle.std.proofs.Common.{Some}
use Rattle.covuses.proofs.FirstBytes.{first_read}
use Rattle.covuses.proofs.streams.first_bytes.Goals as goal

pub returns : goal.returns
returns c =
    first_read 16 c.args.text.now c.new.result _ (Some c.read_at_most.new.source.reader.now) c.new-source.ensures.bytes c.new.ensures c.read_at_most.result c.read_at_most.ensures.read
