use Rattle.std.proofs.Common.{◌∙◌, ◌++◌, ◌∷◌, [], codes, ℕ, List, ap}
use Rattle.covlist.specs.Shown.{shown_name}
use Rattle.covcombine.specs.Messages.{rule_fault_words}
use Rattle.covcombine.proofs.Lines.{ended_three, four, on_ok}
use Rattle.covcombine.proofs.messages.put_bad_path.Goals as goal

pub returns : goal.returns
returns c =
    let why = c.in_ok-append-2.ensures.ok ∙ ap (λ (t : List ℕ). c.put_shown_name.new.text ++ t) c.rule_fault_words.ensures in
    on_ok c.append-3.result c.append-3.new.self c.append-2.new.self (10 ∷ []) _ c.append-3.ensures.ok
    (four c.args.lines.now _ c.append.new.self c.in_ok-append.ensures.ok _ c.put_shown_name.new.text c.in_ok-put_shown_name.ensures.ok
    (rule_fault_words c.args.fault) c.append-2.new.self why _
    ∙ ap (λ (t : List ℕ). c.args.lines.now ++ t)
    (ended_three (codes "error: --path ") (shown_name c.args.word.now) (rule_fault_words c.args.fault) (10 ∷ [])))
