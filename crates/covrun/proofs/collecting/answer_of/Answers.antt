use Rattle.std.proofs.Common.{rules, map, inr}
use Rattle.std.specs.String.{string_bytes}
use Rattle.covrun.specs.View.{question_data}
use Rattle.covrun.proofs.Endings.{ends_unclean, ends_with_answer, none_counted}
use Rattle.covrun.proofs.collecting.answer_of.Goals as goal

pub returns-then-not-is_empty-2-clause-failure : goal.returns-then-not-is_empty-2-clause-failure
returns-then-not-is_empty-2-clause-failure g c =
    inr (ends_unclean c.args.naming (map string_bytes c.args.files.now) c.args.strictness c.args.collected.now.book.entries c.args.collected.now.refused
    (question_data c.args.asks.now) c.in_ok-lines.lines c.in_ok-unclean.unclean c.requires (search rules) c.in_ok-lines.ensures.lines (search (none_counted, rules))
    c.in_ok-unclean.ensures.lines (search rules))

pub returns-clause-answer : goal.returns-clause-answer
returns-clause-answer g c =
    ends_with_answer c.args.naming (map string_bytes c.args.files.now) c.args.strictness c.args.collected.now.book.entries c.args.collected.now.refused
    (question_data c.args.asks.now) c.in_ok-lines.lines c.in_ok-unclean.unclean _ c.requires (search rules) c.in_ok-lines.ensures.lines (search (none_counted, rules))
    c.in_ok-unclean.ensures.lines (search (none_counted, rules)) c.in_ok-answered.ensures.answer
