use Rattle.std.proofs.Common.{◌≡◌, Some, refl, ap, ◌∙◌}
use Rattle.covdata.specs.declared.version.LcovVersion.{LcovVersion}
use Rattle.covlarge.specs.State.{begun_state}
use Rattle.covlarge.specs.StateData.{StateData}
use Rattle.covlarge.specs.Summary.{SummaryData, nothing_held}
use Rattle.covlarge.proofs.Conversion.{law_of, told_at_end, whole_of}
use Rattle.covlarge.proofs.large_tracefile.LargeTracefile.summed.Goals as goal

-- a tracefile of which nothing is held yet
nothing_yet : {S : Type 0} (version : LcovVersion) (held : SummaryData) (source : S) (state : StateData S) → held ≡ nothing_held → state ≡ begun_state version (Some held) source
    → state ≡ begun_state version (Some nothing_held) source
nothing_yet version held source state none is = is ∙ ap (λ (h : SummaryData). begun_state version (Some h) source) none

held_yet : {S : Type 0} (version : LcovVersion) (held : SummaryData) (source : S) (state : StateData S) → held ≡ nothing_held → state ≡ begun_state version (Some held) source
    → state.held ≡ Some nothing_held
held_yet {S} version held source state none is = ap (λ (s : StateData S). s.held) (nothing_yet version held source state none is)

pub returns-clause-whole : goal.returns-clause-whole
returns-clause-whole g c =
    let laws = c.pieces_are_read_one_by_one.ensures in
    whole_of g.S.Source.left c.args.version (Some nothing_held) c.args.source (law_of laws.trace laws.lcov2 c.args.version) refl c.begun.result
    (nothing_yet c.args.version c.new.result c.args.source c.begun.result c.new.ensures c.begun.ensures)

pub returns-clause-told : goal.returns-clause-told
returns-clause-told g c read told gives =
    told_at_end g.S.Source.left c.begun.result read told (held_yet c.args.version c.new.result c.args.source c.begun.result c.new.ensures c.begun.ensures) gives
