use Rattle.covstore.proofs.Words.{◌≡◌, ◌∙◌, List, None, ap, sym, subst, ℕ, length, nat_cmp, put, value_of}
use Rattle.covstore.specs.KeptTexts.{ArePlaced, KeptTextsData, texts_at}
use Rattle.covstore.proofs.KeptTexts.{dropped, no_place, placed_dropped, placed_pushed, pushed, pushed_committed}
use Rattle.covstore.proofs.kept_texts.KeptTexts.add.Goals as goal

pub returns-in-Err-clause-committed : goal.returns-in-Err-clause-committed
returns-in-Err-clause-committed g c =
    let inside = c.self.inside in
    let more = c.push.new.texts.items in
    let same = c.rollback.ensures.committed ∙ c.in-Err.ensures.committed in
    let kept = c.in-Err.ensures.before inside.committed c.self.invariant.committed_fits in
    ap (texts_at c.truncate.new.self.items) same
    ∙ ap (λ (texts : List (List ℕ)). texts_at texts inside.places.committed) c.truncate.ensures.items
    ∙ dropped c.args.line c.args.text inside.places inside.texts.items inside.committed c.self.invariant more kept
    ∙ ap (λ (before : KeptTextsData). before.committed) c.self.view_is

pub returns-in-Err-clause-err : goal.returns-in-Err-clause-err
returns-in-Err-clause-err g c =
    let inside = c.self.inside in
    let more = c.push.new.texts.items in
    let same = c.rollback.ensures.staged ∙ c.in-Err.ensures.committed in
    let kept = c.in-Err.ensures.before inside.committed c.self.invariant.committed_fits in
    ap (texts_at c.truncate.new.self.items) same
    ∙ ap (λ (texts : List (List ℕ)). texts_at texts inside.places.committed) c.truncate.ensures.items
    ∙ dropped c.args.line c.args.text inside.places inside.texts.items inside.committed c.self.invariant more kept
    ∙ ap (λ (before : KeptTextsData). before.committed) c.self.view_is

pub invariant_of-self : goal.invariant_of-self
invariant_of-self g c =
    let inside = c.self.inside in
    let more = c.push.new.texts.items in
    let kept = c.in-Err.ensures.before inside.committed c.self.invariant.committed_fits in
    subst (λ (texts : List (List ℕ)). ArePlaced c.rollback.new.self texts inside.committed) (sym c.truncate.ensures.items)
    (placed_dropped c.args.line c.args.text inside.places inside.texts.items inside.committed c.self.invariant more kept c.rollback.new.self (c.rollback.ensures.committed ∙ c.in-Err.ensures.committed) (c.rollback.ensures.staged ∙ c.in-Err.ensures.committed))

pub invariant_of-self-in_default : goal.invariant_of-self-in_default
invariant_of-self-in_default g c =
    let inside = c.self.inside in
    let none : value_of nat_cmp c.args.line inside.places.staged ≡ None =
    no_place c.args.line inside.texts.items inside.places.staged (ap (λ (before : KeptTextsData). value_of nat_cmp c.args.line before.staged) c.self.view_is ∙ c.requires) in
    subst (λ (texts : List (List ℕ)). ArePlaced c.push.new.places texts inside.committed) (sym c.in_default.ensures.texts)
    (placed_pushed c.args.line c.args.text inside.places inside.texts.items inside.committed c.self.invariant c.push.new.places none c.in_default.ensures.committed c.in_default.ensures.places)

pub returns-clause-committed : goal.returns-clause-committed
returns-clause-committed g c =
    let inside = c.self.inside in
    ap (texts_at c.push.new.texts.items) c.in_default.ensures.committed
    ∙ ap (λ (texts : List (List ℕ)). texts_at texts inside.places.committed) c.in_default.ensures.texts
    ∙ pushed_committed c.args.line c.args.text inside.places inside.texts.items inside.committed c.self.invariant
    ∙ ap (λ (before : KeptTextsData). before.committed) c.self.view_is

pub returns-clause-ok : goal.returns-clause-ok
returns-clause-ok g c =
    let inside = c.self.inside in
    ap (texts_at c.push.new.texts.items) c.in_default.ensures.places
    ∙ ap (λ (texts : List (List ℕ)). texts_at texts (put nat_cmp c.args.line (length inside.texts.items) inside.places.staged)) c.in_default.ensures.texts
    ∙ pushed c.args.line c.args.text inside.places inside.texts.items inside.committed c.self.invariant
    ∙ ap (λ (before : KeptTextsData). put nat_cmp c.args.line c.args.text before.staged) c.self.view_is
