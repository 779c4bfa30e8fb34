use Rattle.std.proofs.Common.{refl, ap}
use Rattle.covreport.specs.PatternParts.{part_data}
use Rattle.covreport.proofs.Heads.{head_read}
use Rattle.covreport.proofs.Steps.{star_seen}
use Rattle.covreport.proofs.pattern.steps.Matcher.step.Goals as goal

pub take_byte-requires-clause-parts : goal.take_byte-requires-clause-parts
take_byte-requires-clause-parts c =
    let read = head_read c.args.self.now.here.pattern.now c.read_head-head.result c.in-len1-up.len_at_least c.read_head-head.ensures in
    rw (← ap part_data c.in-OneByte.is) read.parts

pub returns-in-AnyRun : goal.returns-in-AnyRun
returns-in-AnyRun c =
    let read = head_read c.args.self.now.here.pattern.now c.read_head-head.result c.in-len1-up.len_at_least c.read_head-head.ensures in
    let star = rw (ap part_data c.in-AnyRun.is) at read in
    star_seen c.args.self.now.here _ c.args.self.now.star star refl c.requires
