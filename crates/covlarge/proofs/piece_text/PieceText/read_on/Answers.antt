use Rattle.std.proofs.Common.{◌≡◌, ℕ, ◌+◌, length, take, drop, min, subst, arith, length-take}
use Rattle.covread.specs.Outcome.{max_bytes}
use Rattle.covlarge.proofs.Cuts.{as_found}
use Rattle.covlarge.specs.Found.{HasFound}
use Rattle.covlarge.specs.Large.{piece_bytes}
use Rattle.covlarge.specs.PieceData.{PieceData}
use Rattle.covlarge.proofs.piece_text.PieceText.read_on.Goals as goal

-- what is found in the text is found in the bytes behind its front
pub returns-clause-found : goal.returns-clause-found
returns-clause-found g c =
    let front = c.self.inside.front in
    let text = c.self.inside.text in
    let all = c.in_ok-text.text in
    let left = g.S.Source.left c.args.source.now in
    let left_after = g.S.Source.left c.read_on.new.source in
    let least : c.min-least.result ≡ min (length (take front text) + piece_bytes) max_bytes = omega (arith, c.min-least.ensures, c.saturating_add.ensures, length-take front text, c.self.invariant) in
    subst (λ (p : PieceData). HasFound (min (length p.front + piece_bytes) max_bytes) max_bytes p.front p.bytes (drop front all) left left_after c.in_ok-text.found) c.self.view_is
    (subst (λ (n : ℕ). HasFound n max_bytes (take front text) (drop front text) (drop front all) left left_after c.in_ok-text.found) least
    (as_found c.min-least.result max_bytes front text all left left_after c.in_ok-text.found c.self.invariant c.in_ok-text.ensures.found))
