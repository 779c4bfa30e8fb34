use Rattle.std.proofs.Common.{◌≡◌, ◌∙◌, List, length, ap, arith, refl, subst, sym}
use Rattle.covbook.specs.Op.{EntryData}
use Rattle.covbook.specs.Step.{IsLegal}
use Rattle.covlock.specs.Weight.{weight_below}
use Rattle.covlock.proofs.shared_state.SharedState.new.Goals as goal

pub invariant_of-result : goal.invariant_of-result
invariant_of-result g c =
    let none : length c.args.book.entries ≡ 0 = ap (λ (es : List EntryData). length es) c.requires.book in
    record {
      legal = subst (λ (es : List EntryData). IsLegal es) (sym c.requires.book) (record { answers = refl; totals = refl });
      few = omega (arith, none);
      all_noted = c.requires.noted ∙ sym c.requires.book;
      all_published = c.requires.published ∙ sym c.requires.book;
      counted = c.requires.count ∙ sym (ap (λ (es : List EntryData). weight_below (length es)) c.requires.book);
      no_part = c.requires.parts;
      no_amount = c.requires.amount;
    }
