use Rattle.std.proofs.Common.{◌∙◌, ◌++◌, ◌∷◌, [], codes, ℕ, List, ap}
use Rattle.covlist.specs.Shown.{shown_name}
use Rattle.covcombine.specs.Messages.{option_name}
use Rattle.covcombine.proofs.Lines.{ended_five, five, on_ok}
use Rattle.covcombine.proofs.messages.put_unmatched.Goals as goal

pub returns : goal.returns
returns c =
    let named = c.in_ok-append-2.ensures.ok ∙ ap (λ (n : List ℕ). c.append.new.self ++ n) c.name.ensures in
    on_ok c.append-4.result c.append-4.new.self c.put_shown_name.new.text (codes ": matches no source file" ++ 10 ∷ []) _ c.append-4.ensures.ok
    (five c.args.lines.now c.args.front.now c.append.new.self c.in_ok-append.ensures.ok (option_name c.args.option) c.append-2.new.self named
    _ c.append-3.new.self c.in_ok-append-3.ensures.ok _ c.put_shown_name.new.text c.in_ok-put_shown_name.ensures.ok _
    ∙ ap (λ (t : List ℕ). c.args.lines.now ++ t)
    (ended_five c.args.front.now (option_name c.args.option) (codes " ") (shown_name c.args.pattern.now) (codes ": matches no source file") (10 ∷ [])))
