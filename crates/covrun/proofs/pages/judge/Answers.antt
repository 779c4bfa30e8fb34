use Rattle.std.proofs.Common.{ap, sym, subst, ◌≡◌, ◌⊎◌, ℕ, List, ◌++◌, [], ◌∷◌, map, inl, inr, ◌∙◌}
use Rattle.std.specs.String.{string_bytes}
use Rattle.covbook.specs.Step.{next_entry}
use Rattle.covrun.specs.Ending.{of_collected}
use Rattle.covrun.specs.View.{question_data}
use Rattle.covrun.specs.Work.{last_of}
use Rattle.covrun.specs.declared.naming.Naming.TheVariants.{Shown}
use Rattle.covrun.proofs.Showing.{list_answered, list_is_text}
use Rattle.covrun.proofs.pages.judge.Goals as goal

pub answer_of-requires : goal.answer_of-requires
answer_of-requires g c = list_is_text (question_data c.args.work.now.asks) c.requires

pub returns-clause-prints : goal.returns-clause-prints
returns-clause-prints g c =
    list_answered Shown c.args.work.now.files c.args.work.now.strictness (question_data c.args.work.now.asks)
    (c.args.collected.now.book.entries ++ next_entry c.args.collected.now.book.entries 0 (last_of (question_data c.args.work.now.asks)) ∷ []) c.args.collected.now.refused _ _ c.requires
    (c.in_ok-answer_of.ensures.answer
    ∙ ap (λ (files : List (List ℕ)). of_collected Shown files c.args.work.now.strictness (question_data c.args.work.now.asks)
    (c.args.collected.now.book.entries ++ next_entry c.args.collected.now.book.entries 0 (last_of (question_data c.args.work.now.asks)) ∷ []) c.args.collected.now.refused) c.get.ensures)
