use Rattle.covstore.proofs.Words.{subst, ClashesIn, file_staged}
use Rattle.covstore.proofs.file.File.stage_section.Goals as goal

pub returns-in_ok-of-in-Err-Clash-clause-clash : goal.returns-in_ok-of-in-Err-Clash-clause-clash
returns-in_ok-of-in-Err-Clash-clause-clash g c = λ rows files has.
    let told = subst (λ stop. ClashesIn {A = g.row.A.Denot} c.args.items.now c.args.test.now (file_staged c.args.self.now) stop) c.in-Err-Clash.field-0-is c.in-Err-Clash.ensures.clash in
    rw (c.in-Err-Clash.field-0-is, c.in_ok-of-in-Err-Clash.ensures) (told rows files c.args.file.now has)
