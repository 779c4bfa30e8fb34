use Rattle.covcommand.proofs.html.html.Goals as goal

pub returns : goal.returns
returns c =
    let explained = c.explained-html.ensures _ c.shown_files.ensures in
    let with_folder = c.taking-html.ensures _ _ explained c.folder.ensures in
    let with_title = c.taking-html-2.ensures _ _ with_folder c.text.ensures in
    let with_date = c.taking-html-3.ensures _ _ with_title c.text-2.ensures in
    c.taking.ensures _ _ with_date c.sources.ensures
