use Rattle.std.proofs.Common.{ℕ, ◌+◌, ◌-◌, ◌^◌, min, length, refl, ◌∙◌, ap}
use Rattle.covsession.proofs.SessionLines.{collected_lines}
use Rattle.covsession.proofs.session.text.Text.add_lines.Goals as goal

pub returns-clause-collected : goal.returns-clause-collected
returns-clause-collected g c = λ before h.
    collected_lines _ _ _ _ _ _ _ _ _ _ c.args.lines.now before h
    c.in_ok-keep.ensures.limit c.in_ok-keep.ensures.line (c.in_ok-keep.ensures.kept _ h.keeps)
    (c.saturating_add-self.ensures ∙ ap (λ (n : ℕ). min (n + length c.args.lines.now) (2 ^ 64 - 1)) c.in_ok-keep.ensures.total)
    refl
