use Rattle.std.proofs.Common.{◌≡◌, drop, sym, ◌∙◌, ap}
use Rattle.covsession.specs.Text.{line_after}
use Rattle.covsession.specs.declared.session.text.LineSoFar.{LineSoFar}
use Rattle.covsession.specs.declared.session.text.LineSoFar.TheVariants.{Other}
use Rattle.covsession.proofs.SessionBytes.{line_after-other}
use Rattle.covsession.proofs.session.text.with_bytes.Goals as goal

pub returns-in-Other : goal.returns-in-Other
returns-in-Other c =
    let e : c.loop-byte.line ≡ Other = c.in-Other.is in
    let rest = drop c.loop-byte.byte-index c.args.bytes.now in
    sym (line_after-other rest) ∙ ap (λ (s : LineSoFar). line_after s rest) (sym e) ∙ c.loop-byte.invariant
