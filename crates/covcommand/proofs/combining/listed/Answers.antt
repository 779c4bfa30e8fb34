use Rattle.covcommand.proofs.combining.listed.Goals as goal

pub returns : goal.returns
returns c =
    let with_list = c.taking-listed.ensures _ _ c.naming.ensures c.files_from.ensures in
    c.taking.ensures _ _ with_list c.null.ensures
