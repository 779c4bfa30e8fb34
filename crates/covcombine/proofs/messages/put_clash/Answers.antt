use Rattle.std.proofs.Common.{◌∙◌, ◌++◌, ◌∷◌, [], codes, decimal, ℕ, List, ap}
use Rattle.covlist.specs.Shown.{shown_name}
use Rattle.covcombine.proofs.Lines.{on_ok, placed_words, six}
use Rattle.covcombine.proofs.messages.put_clash.Goals as goal

pub returns : goal.returns
returns c =
    on_ok c.append-3.result c.append-3.new.self c.put_shown_name-2.new.text (codes " in an earlier record: two versions of the source?" ++ 10 ∷ []) _ c.append-3.ensures.ok
    (six c.args.lines.now _ c.put_place.new.lines c.in_ok-put_place.ensures _ c.append.new.self c.in_ok-append.ensures.ok _ c.put_shown_name.new.text c.in_ok-put_shown_name.ensures.ok
    _ c.append-2.new.self c.in_ok-append-2.ensures.ok _ c.put_shown_name-2.new.text c.in_ok-put_shown_name-2.ensures.ok _
    ∙ ap (λ (t : List ℕ). c.args.lines.now ++ t)
    (placed_words (shown_name c.args.file.now) (codes ":") (decimal c.args.line) (codes ": ") (codes "checksum ") (shown_name c.args.given.now) (codes ", but ")
    (shown_name c.args.held.now) (codes " in an earlier record: two versions of the source?") (10 ∷ [])))
