use Rattle.std.proofs.Common.{ℕ, ◌+◌, ◌-◌, ◌^◌, min, length, ◌∙◌, ap}
use Rattle.covsession.specs.Text.{line_after}
use Rattle.covsession.specs.declared.session.text.LineSoFar.{LineSoFar}
use Rattle.covsession.proofs.SessionBytes.{collected_add}
use Rattle.covsession.proofs.session.text.Text.add.Goals as goal

pub returns-clause-collected : goal.returns-clause-collected
returns-clause-collected g c = λ before now h.
    collected_add _ _ _ _ _ _ _ _ _ _ c.args.part.now before now h
    c.in_ok-keep.ensures.limit c.in_ok-keep.ensures.begins (c.in_ok-keep.ensures.kept _ h.keeps)
    (c.saturating_add-self.ensures ∙ ap (λ (n : ℕ). min (n + length c.args.part.now) (2 ^ 64 - 1)) c.in_ok-keep.ensures.total)
    (c.with_bytes-self.ensures ∙ ap (λ (s : LineSoFar). line_after s c.args.part.now) c.in_ok-keep.ensures.line)
