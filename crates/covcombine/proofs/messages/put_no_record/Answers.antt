use Rattle.std.proofs.Common.{◌∙◌, ◌++◌, ◌∷◌, [], codes, ℕ, List, ap}
use Rattle.covlist.specs.Shown.{shown_name}
use Rattle.covcombine.specs.Messages.{no_record_words}
use Rattle.covcombine.proofs.Lines.{four, named_words, on_ok}
use Rattle.covcombine.proofs.messages.put_no_record.Goals as goal

pub returns : goal.returns
returns c =
    on_ok c.append-2.result c.append-2.new.self c.put_no_record_words.new.lines (codes ")" ++ 10 ∷ []) _ c.append-2.ensures.ok
    (four c.args.lines.now _ c.put_name.new.lines c.in_ok-put_name.ensures _ c.append.new.self c.in_ok-append.ensures.ok _ c.put_no_record_words.new.lines c.in_ok-put_no_record_words.ensures _
    ∙ ap (λ (t : List ℕ). c.args.lines.now ++ t)
    (named_words (shown_name c.args.name.now) (codes ": ") (codes "no record (") (no_record_words c.args.begins.now c.args.sections) (codes ")") (10 ∷ [])))
