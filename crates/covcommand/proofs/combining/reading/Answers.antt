use Rattle.covcommand.proofs.combining.reading.Goals as goal

pub returns : goal.returns
returns c =
    let with_files = c.taking-reading.ensures _ _ (c.new.ensures.app, c.new.ensures.local) c.files.ensures in
    let with_jobs = c.taking-reading-2.ensures _ _ with_files c.own_jobs.ensures in
    let with_output = c.taking-reading-3.ensures _ _ with_jobs c.output.ensures in
    let with_strict = c.taking-reading-4.ensures _ _ with_output c.strict.ensures in
    let with_includes = c.taking-reading-5.ensures _ _ with_strict c.patterns.ensures in
    let with_excludes = c.taking-reading-6.ensures _ _ with_includes c.patterns-2.ensures in
    c.taking.ensures _ _ with_excludes c.expect.ensures
