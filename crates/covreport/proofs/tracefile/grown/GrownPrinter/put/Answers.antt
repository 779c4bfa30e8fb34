use Rattle.std.proofs.Common.{◌≡◌, ◌≢◌, ◌++◌, List, [], ◌∷◌, ℕ, Bool, true, false, refl, sym, ap, ◌∙◌}
use Rattle.covreport.proofs.tracefile.grown.GrownPrinter.put.Goals as goal

-- if the text was cut already, or is cut by this piece, something was put
cut_stays : (was : Bool) (old piece : List ℕ) → (was ≡ false → old ≢ []) → (was ≡ true → piece ≢ []) → old ++ piece ≢ []
cut_stays was (b ∷ old) piece before now none = absurd cc
cut_stays true [] piece before now none = now refl none
cut_stays false [] piece before now none = before refl refl

pub invariant_of-self : goal.invariant_of-self
invariant_of-self g c =
    let old = c.args.self.now in
    record {
      whole = λ is. c.grow-self.ensures.whole is ∙ ap (λ (t : List ℕ). t ++ c.args.piece.now) (old.whole (c.grow-self.ensures.was is)) ∙ sym c.and-self.ensures;
      cut = λ is none. cut_stays old.is_whole old.put.bytes c.args.piece.now old.cut (c.grow-self.ensures.refused is) (sym c.and-self.ensures ∙ none);
    }
