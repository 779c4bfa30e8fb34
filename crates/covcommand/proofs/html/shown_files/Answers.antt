use Rattle.covcommand.proofs.html.shown_files.Goals as goal

pub returns : goal.returns
returns c =
    let with_files = c.taking-shown.ensures _ _ (c.new.ensures.app, c.new.ensures.local) c.several.ensures in
    let with_jobs = c.taking-shown-2.ensures _ _ with_files c.jobs.ensures in
    let with_lcov2 = c.taking-shown-3.ensures _ _ with_jobs c.lcov2.ensures in
    let with_strict = c.taking-shown-4.ensures _ _ with_lcov2 c.strict.ensures in
    let with_large = c.taking-shown-5.ensures _ _ with_strict c.large.ensures in
    let with_includes = c.taking-shown-6.ensures _ _ with_large c.patterns.ensures in
    c.taking.ensures _ _ with_includes c.patterns-2.ensures
