-- Where the body of a set ends, and what follows it.
use Rattle.std.proofs.Common.{◌≡◌, ℕ, zero, suc, ◌+◌, ◌-◌, ◌<◌, ◌≤◌, eqb, List, [], ◌∷◌, length, take, drop, refl, sym, ap, arith, add-one, Some, None}
use Rattle.std.specs.Prelude.{option_map}
use Rattle.std.proofs.lemmas.Bool.{false_from_ne_true}
use Rattle.std.proofs.lemmas.List.{length-take-le, take_rest}
use Rattle.memchr.specs.Find.{NoneBefore, Nowhere, Passes, is_byte}
use Rattle.covreport.specs.Pattern.{before_close, body_of}
use Rattle.covreport.specs.PatternParts.{after_body}

abbrev IsClose : List ℕ → ℕ → Type 0
IsClose text = Passes (is_byte 93) text

unclosed : (text : List ℕ) → ((j : ℕ) → j < length text → ¬ IsClose text j) → before_close text ≡ None
unclosed [] none = refl
unclosed (b ∷ bs) none =
    rw (false_from_ne_true (eqb b 93) (none 0 (omega arith)), unclosed bs (λ j lt. none (suc j) (omega arith))) refl

closed_at : (text : List ℕ) (k : ℕ) → k < length text → ((j : ℕ) → j < k → ¬ IsClose text j) → IsClose text k → before_close text ≡ Some (take k text)
closed_at [] k lt none is = absurd (omega arith)
closed_at (b ∷ bs) zero lt none is = rw is refl
closed_at (b ∷ bs) (suc k) lt none is =
    rw (false_from_ne_true (eqb b 93) (none 0 (omega arith)), closed_at bs k (omega arith) (λ j l. none (suc j) (omega arith)) is) refl

-- if no ] follows the first byte, there is no body
pub body_unread : (text : List ℕ) (first : ℕ) (behind : List ℕ) → text ≡ first ∷ behind → Nowhere (IsClose behind) 0 (length behind) →
    option_map (after_body text) (body_of text) ≡ None
body_unread text first behind e none =
    rw (e, unclosed behind (λ j lt. none j (omega arith) lt)) refl

read_cut : (first : ℕ) (behind : List ℕ) (k : ℕ) → k < length behind → before_close behind ≡ Some (take k behind) →
    Some (take (k + 1) (first ∷ behind), take (length behind - (k + 1)) (drop (k + 1) behind)) ≡ option_map (after_body (first ∷ behind)) (body_of (first ∷ behind))
read_cut first behind k lt is =
    let le : k ≤ length behind = omega arith in
    rw (is, take_rest behind (k + 1), add-one k, add-one (suc (length (take k behind))))
    (ap (λ (n : ℕ). Some (first ∷ take k behind, drop (suc n) behind)) (sym (length-take-le k behind le)))

-- if the first ] comes after the first byte and k more, the body is these bytes
pub body_read : (text : List ℕ) (first : ℕ) (behind : List ℕ) (k : ℕ) → text ≡ first ∷ behind → NoneBefore (IsClose behind) 0 (length behind) k × IsClose behind k →
    Some (take (k + 1) text, take (length behind - (k + 1)) (drop (k + 1) behind)) ≡ option_map (after_body text) (body_of text)
body_read text first behind k e at =
    rw e (read_cut first behind k at.0.high (closed_at behind k at.0.high (λ j lt. at.0.before j (omega arith) lt) at.1))
