use Rattle.covcommand.proofs.described.check.Goals as goal

pub returns : goal.returns
returns c =
    let explained = c.explained-check.ensures _ (c.new.ensures.app, c.new.ensures.local) in
    let with_files = c.taking-check.ensures _ _ explained c.several.ensures in
    let with_jobs = c.taking-check-2.ensures _ _ with_files c.jobs.ensures in
    let with_gcov = c.taking-check-3.ensures _ _ with_jobs c.annotated.ensures in
    let with_lcov2 = c.taking-check-4.ensures _ _ with_gcov c.lcov2.ensures in
    let with_strict = c.taking-check-5.ensures _ _ with_lcov2 c.strict.ensures in
    c.taking.ensures _ _ with_strict c.large.ensures
