-- A submission without rows is prepared as the empty one.
use Rattle.covstore.proofs.Words.{◌≡◌, ◌≢◌, [], length, Result, Ok, Err, ap, sym, ◌∙◌, IfOk, nil_from_length, SubmissionData, items_in, rows_of}
use Rattle.covtable.proofs.Bounds.{length-rows_of_sects}

-- without items there are no rows
pub no_rows : (s : SubmissionData) → items_in s.sects ≡ 0 → [] ≡ rows_of s
no_rows s none = sym (nil_from_length (rows_of s) (length-rows_of_sects s.sects ∙ none))

pub some_rows_of : (s : SubmissionData) → (items_in s.sects ≡ 0 → ⊥) → rows_of s ≢ []
some_rows_of s some none = some (sym (length-rows_of_sects s.sects) ∙ ap length none)

pub if_ok_then : {X E : Type 0} {P Q : X → Type 0} (r : Result X E) → ((x : X) → P x → Q x) → IfOk r P → IfOk r Q
if_ok_then (Ok x) f p = f x p
if_ok_then (Err e) f p = p
