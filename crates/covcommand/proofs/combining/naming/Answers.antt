use Rattle.covcommand.proofs.combining.naming.Goals as goal

pub returns : goal.returns
returns c =
    let with_paths = c.taking-naming.ensures _ _ c.reading.ensures c.paths.ensures in
    c.taking.ensures _ _ with_paths c.one_test.ensures
