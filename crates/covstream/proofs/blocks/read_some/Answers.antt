use Rattle.std.proofs.Common.{length, arith}
use Rattle.std.proofs.lemmas.List.{length-take}
use Rattle.covstream.proofs.ReadBlocks.{read_within}
use Rattle.covstream.proofs.blocks.read_some.Goals as goal

pub returns-clause-read : goal.returns-clause-read
returns-clause-read g c =
    read_within _ _ _ _ c.args.room (length c.args.block.now) _ _ c.requires.some
    (omega (arith, length-take c.min-most.result c.args.block.now, c.min-most.ensures)) c.in_ok-got.ensures.read
