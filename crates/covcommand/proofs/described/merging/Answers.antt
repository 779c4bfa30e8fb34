use Rattle.covcommand.proofs.described.merging.Goals as goal

pub returns : goal.returns
returns c =
    let with_files = c.taking-merging.ensures _ _ (c.new.ensures.app, c.new.ensures.local) c.several.ensures in
    let with_jobs = c.taking-merging-2.ensures _ _ with_files c.jobs.ensures in
    let with_output = c.taking-merging-3.ensures _ _ with_jobs c.output.ensures in
    let with_lcov2 = c.taking-merging-4.ensures _ _ with_output c.lcov2.ensures in
    let with_strict = c.taking-merging-5.ensures _ _ with_lcov2 c.strict.ensures in
    let with_large = c.taking-merging-6.ensures _ _ with_strict c.large.ensures in
    let with_includes = c.taking-merging-7.ensures _ _ with_large c.patterns.ensures in
    c.taking.ensures _ _ with_includes c.patterns-2.ensures
