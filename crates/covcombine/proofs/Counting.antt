-- Counts of submissions, one after another.
use Rattle.std.proofs.Common.{◌≡◌, ℕ, ◌+◌, List, [], ◌∷◌, length, ap, ◌∙◌, arith}
use Rattle.std.proofs.lemmas.List.Sums.{sum_by-cons}
use Rattle.std.specs.List.{sum_by}
use Rattle.covdata.specs.Row.{SubmissionData, items_in}
use Rattle.covlarge.specs.Summary.{told_number}
use Rattle.covcombine.specs.Notes.{counts_of}
use Rattle.covcombine.specs.Steps.{counts_with, no_counts}
use Rattle.covcombine.specs.declared.note.Counts.{Counts}

abbrev counts : (sections items odd : ℕ) → Counts
counts sections items odd = record { sections = sections; items = items; odd = odd }

same_counts : (a b c x y z : ℕ) → a ≡ x → b ≡ y → c ≡ z → counts a b c ≡ counts x y z
same_counts a b c x y z sections items odd =
    ap (λ (n : ℕ). counts n b c) sections ∙ ap (λ (n : ℕ). counts x n c) items ∙ ap (λ (n : ℕ). counts x y n) odd

-- a number may be told before more is added, or only at the end
told_on : (n : ℕ) (f : SubmissionData → ℕ) (s : SubmissionData) (read : List SubmissionData)
    → told_number (told_number (n + sum_by f (s ∷ [])) + sum_by f read) ≡ told_number (n + sum_by f (s ∷ read))
told_on n f s read =
    let one = sum_by-cons f s [] in
    let all = sum_by-cons f s read in
    omega (arith, one, all)

told_first : (n : ℕ) → told_number (0 + n) ≡ told_number n
told_first n = omega arith

pub counts_on : (before : Counts) (s : SubmissionData) (read : List SubmissionData) → counts_with (counts_with before (s ∷ [])) read ≡ counts_with before (s ∷ read)
counts_on before s read =
    same_counts _ _ _ _ _ _ (told_on before.sections (λ (s : SubmissionData). length s.sects) s read) (told_on before.items (λ (s : SubmissionData). items_in s.sects) s read)
    (told_on before.odd (λ (s : SubmissionData). s.odd) s read)

pub none_yet : (read : List SubmissionData) → counts_with no_counts read ≡ counts_of read
none_yet read =
    same_counts _ _ _ _ _ _ (told_first (sum_by (λ (s : SubmissionData). length s.sects) read)) (told_first (sum_by (λ (s : SubmissionData). items_in s.sects) read))
    (told_first (sum_by (λ (s : SubmissionData). s.odd) read))
