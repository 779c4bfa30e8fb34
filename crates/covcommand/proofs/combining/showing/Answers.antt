use Rattle.covcommand.proofs.combining.showing.Goals as goal

pub returns : goal.returns
returns c =
    let with_list = c.taking-showing.ensures _ _ c.listed.ensures c.flag.ensures in
    let with_json = c.taking-showing-2.ensures _ _ with_list c.json.ensures in
    c.taking.ensures _ _ with_json c.quiet.ensures
