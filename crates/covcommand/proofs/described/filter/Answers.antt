use Rattle.covcommand.proofs.described.filter.Goals as goal

pub returns : goal.returns
returns c =
    let with_tracefile = c.taking-filter.ensures _ _ (c.new.ensures.app, c.new.ensures.local) c.tracefile.ensures in
    let with_patterns = c.taking-filter-2.ensures _ _ with_tracefile c.several.ensures in
    let with_output = c.taking-filter-3.ensures _ _ with_patterns c.output.ensures in
    let with_lcov2 = c.taking-filter-4.ensures _ _ with_output c.lcov2.ensures in
    let with_strict = c.taking-filter-5.ensures _ _ with_lcov2 c.strict.ensures in
    c.taking.ensures _ _ with_strict c.large.ensures
