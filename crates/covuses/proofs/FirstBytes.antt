-- The first bytes of a text that is read block by block.
use Rattle.std.proofs.Common.{inl, inr, ℕ, ◌≡◌, ◌≤◌, List, [], ◌++◌, length, take, Option, None, Some, Result, Ok, Err, sym, ap, subst, ◌∙◌, append-nil}
use Rattle.std.proofs.Math.Seq.{take-append_seam}
use Rattle.std.proofs.lemmas.List.{take_all}
use Rattle.std.specs.Prelude.{IfOk}
use Rattle.covstream.specs.Blocks.{HasReadAtMost, HasReadOn}
use Rattle.covstream.specs.declared.fault.BlockFault.{BlockFault}

first_known : (most : ℕ) (bytes read : List ℕ) (left_after : Option (List ℕ)) → HasReadAtMost most (Some bytes) left_after read → length read ≤ most → read ≡ take most bytes
first_known most bytes read None (took, ends) few = absurd took
first_known most bytes read (Some rest) (took, inl ended) few =
    sym (ap (take most) (took ∙ ap (λ (r : List ℕ). read ++ r) ended ∙ append-nil read) ∙ take_all most read few)
first_known most bytes read (Some rest) (took, inr full) few =
    sym (ap (take most) took ∙ ap (λ (n : ℕ). take n (read ++ rest)) (sym full) ∙ take-append_seam read rest)

-- what is read behind no bytes, of a source whose bytes are known
pub first_read : (most : ℕ) (bytes empty : List ℕ) (left left_after : Option (List ℕ)) → left ≡ Some bytes → empty ≡ [] → (result : Result (List ℕ) BlockFault)
    → IfOk result (HasReadOn most left left_after empty) → IfOk result (λ (first : List ℕ). first ≡ take most bytes)
first_read most bytes empty left left_after is none (Ok first) (read, took, joined, few) =
    joined ∙ ap (λ (e : List ℕ). e ++ read) none ∙ first_known most bytes read left_after (subst (λ (l : Option (List ℕ)). HasReadAtMost most l left_after read) is took) few
first_read most bytes empty left left_after is none (Err fault) read = read
