use Rattle.std.proofs.Common.{inr, ap, ◌∙◌, ℕ, eqb}
use Rattle.std.specs.Prelude.{option_map}
use Rattle.covread.specs.GcovSteps.{section_data}
use Rattle.covread.proofs.GcovLoop.{lost_end}
use Rattle.covread.proofs.gcov.reader.Reader.finish.Goals as goal

pub returns-then-not-is_empty : goal.returns-then-not-is_empty
returns-then-not-is_empty g c = inr (lost_end c.args.self.test.now c.args.self.waiting.items (option_map (section_data c.args.self.sects.items) c.args.self.section) c.args.self.sects.sects (c.if-not-is_empty.ensures ∙ ap (λ (n : ℕ). eqb n 0) c.args.self.waiting.ok.0))
