-- If a list is overwritten from the front by a list of the same length, the result is the new list.
use Rattle.std.proofs.Common.{◌≡◌, ◌∙◌, ℕ, List, ◌++◌, length, take, drop, ap, sym}
use Rattle.std.proofs.Math.Seq.{take-length, drop-length}
use Rattle.std.proofs.lemmas.List.{append-nil}

pub all_written : {X : Type 0} (count : ℕ) (new old : List X) → length new ≡ length old → count ≡ length old → take count (new ++ drop (length new) old) ≡ new
all_written {X} count new old same all =
    ap (λ (n : ℕ). take count (new ++ drop n old)) same
    ∙ ap (λ (rest : List X). take count (new ++ rest)) (drop-length old)
    ∙ ap (λ (xs : List X). take count xs) (append-nil new)
    ∙ ap (λ (n : ℕ). take n new) (all ∙ sym same)
    ∙ take-length new
