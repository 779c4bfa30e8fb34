use Rattle.covcommand.proofs.described.gcov.Goals as goal

pub returns : goal.returns
returns c =
    let explained = c.explained-gcov.ensures _ (c.new.ensures.app, c.new.ensures.local) in
    let with_files = c.taking-gcov.ensures _ _ explained c.several.ensures in
    let with_test = c.taking-gcov-2.ensures _ _ with_files c.test.ensures in
    c.taking.ensures _ _ with_test c.output.ensures
