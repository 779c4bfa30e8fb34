use Rattle.std.proofs.Common.{◌∙◌, ◌++◌, codes, ℕ, List, sym, ap}
use Rattle.covcombine.proofs.Lines.{begins_so, on_ok, three}
use Rattle.covcombine.proofs.messages.put_begins.Goals as goal

pub returns : goal.returns
returns c =
    on_ok c.append-3.result c.append-3.new.self c.put_shown_name.new.text (codes "\"") _ c.append-3.ensures.ok
    (three c.args.lines.now _ c.append-2.new.self c.in_ok-append.ensures.ok _ c.put_shown_name.new.text c.in_ok-put_shown_name.ensures.ok _
    ∙ ap (λ (t : List ℕ). c.args.lines.now ++ t) (sym (begins_so c.args.begins.now (sym c.is_empty.ensures ∙ c.if-is_empty.false))))
