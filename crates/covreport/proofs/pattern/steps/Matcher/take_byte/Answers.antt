use Rattle.std.proofs.Common.{◌∙◌, sym, get_or}
use Rattle.covreport.specs.PatternParts.{set_data}
use Rattle.covreport.proofs.Heads.{opened}
use Rattle.covreport.proofs.Steps.{byte_taken}
use Rattle.covreport.proofs.pattern.steps.Matcher.take_byte.Goals as goal

pub returns-in-len1-up : goal.returns-in-len1-up
returns-in-len1-up c =
    let here = c.args.self.now.here in
    byte_taken (set_data c.args.set) (get_or here.path.now 0 0) here _ c.args.self.now.star
    (record { parts = c.requires.parts; less = c.requires.less })
    (opened here.path.now c.in-len1-up.len_at_least)
    (sym c.takes.ensures ∙ c.if-takes.true)
    c.requires.goes_on
