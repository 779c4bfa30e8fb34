use Rattle.std.proofs.Common.{◌∙◌, ◌++◌, ◌∷◌, [], codes, ℕ, List, ap}
use Rattle.covcombine.proofs.Lines.{ended_two, on_ok, two}
use Rattle.covcombine.proofs.messages.put_none_left.Goals as goal

pub returns : goal.returns
returns c =
    on_ok c.append-2.result c.append-2.new.self c.append.new.self (codes "--include and --exclude leave no source file" ++ 10 ∷ []) _ c.append-2.ensures.ok
    (two c.args.lines.now c.args.front.now c.append.new.self c.in_ok-append.ensures.ok _
    ∙ ap (λ (t : List ℕ). c.args.lines.now ++ t) (ended_two c.args.front.now (codes "--include and --exclude leave no source file") (10 ∷ [])))
