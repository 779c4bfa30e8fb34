use Rattle.std.proofs.Common.{◌≡◌, None, Option, ap, ◌∙◌}
use Rattle.covlarge.specs.StateData.{StateData}
use Rattle.covlarge.proofs.Conversion.{law_of, untold_at_end, whole_after}
use Rattle.covlarge.proofs.large_tracefile.LargeTracefile.new_after.Goals as goal

pub returns-clause-whole : goal.returns-clause-whole
returns-clause-whole g c =
    let laws = c.pieces_are_read_one_by_one.ensures in
    whole_after g.S.Source.left c.args.version None c.args.source (law_of laws.trace laws.lcov2 c.args.version) tt c.args.first c.begun_after.result c.begun_after.ensures

pub returns-clause-untold : goal.returns-clause-untold
returns-clause-untold g c read told gives =
    untold_at_end g.S.Source.left c.begun_after.result read told (ap (λ (s : StateData _). s.held) c.begun_after.ensures) gives
