-- What a sink has taken of a text that is printed block by block.
use Rattle.std.proofs.Common.{◌≡◌, ℕ, suc, List, [], ◌++◌, Bool, true, false, not, Option, sym, ap, subst, ◌∙◌, append_assoc}
use Rattle.std.proofs.KnownBytes.{Appends-trans}
use Rattle.std.specs.Io.KnownBytes.{Appends}
use Rattle.covsession.specs.Fault.{HasBegun}
use Rattle.covworld.specs.Printed.{SinkData, HasPrinted, WritesOn}

-- a beginning of a text is also a beginning of the text with more appended
pub begun_longer : (a b : Option (List ℕ)) (text more : List ℕ) → HasBegun a b text → HasBegun a b (text ++ more)
begun_longer a b text more (part, took, (rest, is)) = (part, took, (rest ++ more, ap (λ (u : List ℕ). u ++ more) is ∙ append_assoc part rest more))

-- a text was taken, and then a beginning of more
pub begun_further : (a b c : Option (List ℕ)) (text more : List ℕ) → Appends a b text → HasBegun b c more → HasBegun a c (text ++ more)
begun_further a b c text more took (part, begun, (rest, is)) =
    (text ++ part, Appends-trans a b c text part took begun, (rest, ap (λ (u : List ℕ). text ++ u) is ∙ sym (append_assoc text part rest)))

-- after a failed write nothing more is written
pub printed_no_more : (text more : List ℕ) (start now : SinkData) → HasPrinted false text start now → HasPrinted false (text ++ more) start now
printed_no_more text more start now (begun, failed) = (begun_longer start.written now.written text more begun, failed)

-- a write of more bytes failed
pub printed_part : (text more : List ℕ) (start now next : SinkData) → HasPrinted true text start now
    → HasBegun now.written next.written more → next.failed ≡ suc now.failed → HasPrinted false (text ++ more) start next
printed_part text more start now next (took, same) wrote failed =
    (begun_further start.written now.written next.written text more took wrote, failed ∙ ap suc same)

-- after a failed write nothing more is written
pub writes_no_more : (had_failed : Bool) (bytes : List ℕ) (now : SinkData) → had_failed ≡ true → WritesOn had_failed true bytes now now
writes_no_more true bytes now is text start printed = printed_no_more text bytes start now printed
writes_no_more false bytes now is text start printed = absurd cc

-- a write failed for the first time
pub writes_part : (had_failed : Bool) (bytes : List ℕ) (now next : SinkData) → had_failed ≡ false → HasBegun now.written next.written bytes
    → next.failed ≡ suc now.failed → WritesOn had_failed true bytes now next
writes_part true bytes now next is wrote failed text start printed = absurd cc
writes_part false bytes now next is wrote failed text start printed = printed_part text bytes start now next printed wrote failed

-- a text was put to a printer that was empty. Either the whole text was printed, or a write failed and a beginning of the text
-- was printed
pub printed_out : (has_failed open_then open_at : Bool) (front put printed text : List ℕ) (start now : SinkData) → front ≡ []
    → ((rest : List ℕ) × (put ++ rest ≡ front ++ text)) → (open_at ≡ true → put ≡ front ++ text) → printed ≡ put
    → (open_then ≡ true → open_at ≡ true) → open_then ≡ not has_failed → HasPrinted (not has_failed) printed start now → HasPrinted (not has_failed) text start now
printed_out false open_then open_at front put printed text start now empty begun whole is stays same told =
    subst (λ (t : List ℕ). HasPrinted true t start now) (is ∙ whole (stays same) ∙ ap (λ (f : List ℕ). f ++ text) empty) told
printed_out true open_then open_at front put printed text start now empty (rest, begun) whole is stays same told =
    subst (λ (t : List ℕ). HasPrinted false t start now) (ap (λ (p : List ℕ). p ++ rest) is ∙ begun ∙ ap (λ (f : List ℕ). f ++ text) empty)
    (printed_no_more printed rest start now told)
