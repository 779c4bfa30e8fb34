use Rattle.std.proofs.Common.{◌≡◌, ℕ, List, Some, refl, ap, ◌∙◌}
use Rattle.covdata.specs.declared.version.LcovVersion.{LcovVersion}
use Rattle.covlarge.specs.State.{begun_after}
use Rattle.covlarge.specs.StateData.{StateData}
use Rattle.covlarge.specs.Summary.{SummaryData, nothing_held}
use Rattle.covlarge.proofs.Conversion.{law_of, told_at_end, whole_after}
use Rattle.covlarge.proofs.large_tracefile.LargeTracefile.summed_after.Goals as goal

-- a tracefile of which nothing is held yet
nothing_yet : {S : Type 0} (version : LcovVersion) (held : SummaryData) (first : List ℕ) (source : S) (state : StateData S) → held ≡ nothing_held → state ≡ begun_after version (Some held) first source
    → state ≡ begun_after version (Some nothing_held) first source
nothing_yet version held first source state none is = is ∙ ap (λ (h : SummaryData). begun_after version (Some h) first source) none

held_yet : {S : Type 0} (version : LcovVersion) (held : SummaryData) (first : List ℕ) (source : S) (state : StateData S) → held ≡ nothing_held → state ≡ begun_after version (Some held) first source
    → state.held ≡ Some nothing_held
held_yet {S} version held first source state none is = ap (λ (s : StateData S). s.held) (nothing_yet version held first source state none is)

pub returns-clause-whole : goal.returns-clause-whole
returns-clause-whole g c =
    let laws = c.pieces_are_read_one_by_one.ensures in
    whole_after g.S.Source.left c.args.version (Some nothing_held) c.args.source (law_of laws.trace laws.lcov2 c.args.version) refl c.args.first c.begun_after.result
    (nothing_yet c.args.version c.new.result c.args.first c.args.source c.begun_after.result c.new.ensures c.begun_after.ensures)

pub returns-clause-told : goal.returns-clause-told
returns-clause-told g c read told gives =
    told_at_end g.S.Source.left c.begun_after.result read told (held_yet c.args.version c.new.result c.args.first c.args.source c.begun_after.result c.new.ensures c.begun_after.ensures) gives
