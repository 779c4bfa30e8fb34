use Rattle.std.proofs.Common.{rules, ◌≡◌, ◌∙◌, ℕ, suc, ◌≤◌, List, length, ap, subst, sym}
use Rattle.covlist.specs.Shown.{shown_name}
use Rattle.covread.specs.Outcome.{max_bytes}
use Rattle.covworld.specs.Folder.{IsTextOf, folder_data}
use Rattle.covstream.specs.declared.fault.BlockFault.TheVariants as files
use Rattle.covrun.specs.declared.work.CheckedFormat.TheVariants.{Text}
use Rattle.covrun.proofs.Checks.{examined_text, examined_unread, may_fail_of}
use Rattle.covrun.proofs.file_report.examine_text.Goals as goal

pub returns-in-Ok : goal.returns-in-Ok
returns-in-Ok g c =
    examined_text (folder_data g.F.Folder g.F.File.Source c.args.folder.now)
    c.args.format c.args.strictness c.args.name.now _ c.get.result.now
    (c.in_ok-shown.ensures.name ∙ ap shown_name c.as_bytes.ensures.value)
    (subst (λ (t : List ℕ). length t ≤ suc max_bytes) (sym c.get.ensures) c.in-Ok.ensures.few)
    (subst (IsTextOf (g.F.Folder.holds c.args.folder.now c.args.name.now)) (sym c.get.ensures) c.in-Ok.ensures.text)
    _ c.report_on_text.ensures

pub returns-in-Err-Unreadable : goal.returns-in-Err-Unreadable
returns-in-Err-Unreadable g c =
    let other : c.in-Err-Unreadable.field-0 ≡ files.Memory → ⊥ = search rules in
    examined_unread (folder_data g.F.Folder g.F.File.Source c.args.folder.now)
    (Text c.args.format) c.args.strictness c.args.name.now c.in_ok-shown.shown (c.in_ok-shown.ensures.name ∙ ap shown_name c.as_bytes.ensures.value)
    (may_fail_of (folder_data g.F.Folder g.F.File.Source c.args.folder.now) c.args.name.now c.in-Err-Unreadable.field-0 other c.in-Err-Unreadable.ensures.unread) c.report_on_unread.result (c.report_on_unread.ensures.report c.args.strictness) c.report_on_unread.ensures.fault
