use Rattle.std.proofs.Common.{ℕ, List, map, subst}
use Rattle.covhtml.specs.RowView.{row_data}
use Rattle.covpages.specs.View.{source_data}
use Rattle.covpages.proofs.SourceTexts.{not_readable, not_text, read_so}
use Rattle.covstream.specs.declared.fault.BlockFault.{BlockFault}
use Rattle.covworld.specs.Files.{IsUnread}
use Rattle.covworld.specs.Folder.{IsTextOf, folder_data}
use Rattle.covpages.proofs.source_text.read_source.Goals as goal

pub returns-in_default : goal.returns-in_default
returns-in_default g c =
    not_text (folder_data g.F.Folder g.F.File.Source c.args.folder.now) c.args.name.now (map row_data c.args.rows.now) c.in_default.ensures.cases.0

pub returns-in-Ok-file_text : goal.returns-in-Ok-file_text
returns-in-Ok-file_text g c =
    read_so (folder_data g.F.Folder g.F.File.Source c.args.folder.now) c.args.name.now (map row_data c.args.rows.now) c.in-Ok-file_text.text (source_data c.source_of.result)
    (subst (λ (name : List ℕ). IsTextOf (g.F.Folder.holds c.args.folder.now name) c.in-Ok-file_text.text) c.in-Ok.ensures.cases.0 c.in-Ok-file_text.ensures.text)
    c.source_of.ensures

pub returns-in-Err-Unreadable : goal.returns-in-Err-Unreadable
returns-in-Err-Unreadable g c =
    let folder = folder_data g.F.Folder g.F.File.Source c.args.folder.now in
    let unread = subst (λ (fault : BlockFault). IsUnread folder c.in-Ok.name.now fault) c.in-Err-Unreadable.field-0-is c.in-Err-Unreadable.ensures.unread in
    not_readable folder c.args.name.now (map row_data c.args.rows.now) (subst folder.MayFail c.in-Ok.ensures.cases.0 unread)
