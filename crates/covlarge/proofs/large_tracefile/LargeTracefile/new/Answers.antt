use Rattle.std.proofs.Common.{None}
use Rattle.covlarge.proofs.Conversion.{law_of, whole_of}
use Rattle.covlarge.proofs.large_tracefile.LargeTracefile.new.Goals as goal

pub returns-clause-whole : goal.returns-clause-whole
returns-clause-whole g c =
    let laws = c.pieces_are_read_one_by_one.ensures in
    whole_of g.S.Source.left c.args.version None c.args.source (law_of laws.trace laws.lcov2 c.args.version) tt c.begun.result c.begun.ensures
