use Rattle.std.proofs.Common.{◌∙◌, ◌++◌, ◌∷◌, [], codes, ℕ, List, ap}
use Rattle.covlist.specs.Shown.{shown_name}
use Rattle.covcombine.proofs.Lines.{ended_six, on_ok, six}
use Rattle.covcombine.proofs.messages.put_unused.Goals as goal

pub returns : goal.returns
returns c =
    on_ok c.append-4.result c.append-4.new.self c.put_shown_name-2.new.text (codes ": applies to no source file" ++ 10 ∷ []) _ c.append-4.ensures.ok
    (six c.args.lines.now c.args.front.now c.append.new.self c.in_ok-append.ensures.ok _ c.append-2.new.self c.in_ok-append-2.ensures.ok
    _ c.put_shown_name.new.text c.in_ok-put_shown_name.ensures.ok _ c.append-3.new.self c.in_ok-append-3.ensures.ok
    _ c.put_shown_name-2.new.text c.in_ok-put_shown_name-2.ensures.ok _
    ∙ ap (λ (t : List ℕ). c.args.lines.now ++ t)
    (ended_six c.args.front.now (codes "--path ") (shown_name c.args.old.now) (codes "=") (shown_name c.args.new.now) (codes ": applies to no source file") (10 ∷ [])))
