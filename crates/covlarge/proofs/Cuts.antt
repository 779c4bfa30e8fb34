-- Where a text is cut behind its front.
use Rattle.std.proofs.Common.{◌≡◌, ℕ, ◌+◌, ◌-◌, ◌<◌, ◌≤◌, List, [], ◌∷◌, ◌++◌, length, take, drop, Option, inl, inr, sym, ap, subst, ◌∙◌, append_assoc, append-nil, arith, length-append, length-take, take-append-drop, take-take, take_at}
use Rattle.std.proofs.KnownBytes.{Consumes-nil, Consumes-trans}
use Rattle.std.proofs.lemmas.List.{take-append-le, drop-append-le, length-take-le}
use Rattle.std.specs.Io.KnownBytes.{Consumes, IsAtEnd}
use Rattle.covdata.specs.Delimiters.{line_feed}
use Rattle.covline.specs.Lines.{lines_of}
use Rattle.covpieces.proofs.InPieces.{lines_after}
use Rattle.covpieces.specs.Sections.{AreWholeSections, EndsSection}
use Rattle.covstream.specs.Blocks.{HasReadOn}
use Rattle.covlarge.proofs.Stages.{at_least}
use Rattle.covlarge.specs.Found.{AreSections, HasFound, HasReadUntil, IsFound}
use Rattle.covlarge.specs.declared.piece_text.Found.{Found}
use Rattle.covlarge.specs.declared.piece_text.Found.TheVariants.{Last, Sections, TooLong}

-- a text that ends with a section isn't empty
some_bytes : (text : List ℕ) → EndsSection text → 0 < length text
some_bytes text ends = omega (arith, ap length ends.feed, length-append ends.front (line_feed ∷ []))

-- whole sections of the first bytes are whole sections
pub sections_found : (least most front : ℕ) (bytes : List ℕ) (n : ℕ) → AreWholeSections (take (most - front) bytes) n → 0 < n → least ≤ front + length bytes → AreSections least most front bytes n
sections_found least most front bytes n whole some enough =
    let within : n ≤ most - front = omega (arith, whole.within, length-take (most - front) bytes) in
    record {
      within = omega (arith, whole.within, length-take (most - front) bytes);
      room = omega (arith, within, some);
      ends = subst (λ (t : List ℕ). EndsSection t) (take-take n (most - front) bytes within) (whole.ends some);
      longest = λ k more inside room ends.
          let fits : k ≤ most - front = omega (arith, room) in
          let among : k ≤ length (take (most - front) bytes) = omega (arith, inside, fits, length-take (most - front) bytes) in
          whole.longest k more among (subst (λ (t : List ℕ). EndsSection t) (sym (take-take k (most - front) bytes fits)) ends);
      enough = enough;
    }

-- a text that ends with a section behind another one ends with a section
both_end : (first second : List ℕ) → EndsSection first → EndsSection second → EndsSection (first ++ second)
both_end first second ends later = record {
  front = first ++ later.front;
  feed = ap (λ (t : List ℕ). first ++ t) later.feed ∙ sym (append_assoc first later.front (line_feed ∷ []));
  above = lines_of first ++ later.above;
  last = later.last;
  lines = lines_after first second ends ∙ ap (λ (l : List (List ℕ)). lines_of first ++ l) later.lines ∙ sym (append_assoc (lines_of first) later.above (later.last ∷ []));
  ends = later.ends;
}

-- a text that ends with a section and follows the whole sections ends behind the bytes that were looked at
pub ends_later : (least most front : ℕ) (bytes : List ℕ) (n : ℕ) → AreSections least most front bytes n → least ≤ most → (more following others : List ℕ) → drop n bytes ++ more ≡ following ++ others
    → EndsSection following → least < front + (n + length following)
ends_later least most front bytes n s few more following others same ends =
    at_least least (front + (n + length following)) (λ (early : front + (n + length following) ≤ least).
    let inside : n + length following ≤ length bytes = omega (arith, early, s.enough) in
    let whole : bytes ++ more ≡ (take n bytes ++ following) ++ others =
    ap (λ (t : List ℕ). t ++ more) (sym (take-append-drop n bytes)) ∙ append_assoc (take n bytes) (drop n bytes) more
    ∙ ap (λ (t : List ℕ). take n bytes ++ t) same ∙ sym (append_assoc (take n bytes) following others) in
    let len : length (take n bytes ++ following) ≡ n + length following =
    length-append (take n bytes) following ∙ ap (λ (k : ℕ). k + length following) (length-take-le n bytes s.within) in
    let both : take (n + length following) bytes ≡ take n bytes ++ following =
    sym (take-append-le (n + length following) bytes more inside) ∙ ap (take (n + length following)) whole ∙ take_at (take n bytes ++ following) others (n + length following) len in
    let later : EndsSection (take (n + length following) bytes) = subst (λ (t : List ℕ). EndsSection t) (sym both) (both_end (take n bytes) following s.ends ends) in
    s.longest (n + length following) (omega (arith, some_bytes following ends)) inside (omega (arith, early, few)) later)

-- if the first bytes have no whole sections, no section ends in them
pub none_found : (room : ℕ) (bytes : List ℕ) → AreWholeSections (take room bytes) 0 → (n : ℕ) → n ≤ length bytes → n ≤ room → EndsSection (take n bytes) → ⊥
none_found room bytes whole n within few ends =
    let some : 0 < n = omega (arith, some_bytes (take n bytes) ends, length-take n bytes) in
    let inside : n ≤ length (take room bytes) = omega (arith, within, few, length-take room bytes) in
    whole.longest n some inside (subst (λ (t : List ℕ). EndsSection t) (sym (take-take n room bytes few)) ends)

-- ---- the bytes behind the front

-- nothing more was read
pub until_begun : (left : Option (List ℕ)) (text : List ℕ) → (bytes : List ℕ) × Consumes left left bytes × (text ≡ text ++ bytes)
until_begun left text = ([], Consumes-nil left, sym (append-nil text))

pub until_on : (old now new : Option (List ℕ)) (text text_now text_after : List ℕ) (most : ℕ) → (bytes : List ℕ) × Consumes old now bytes × (text_now ≡ text ++ bytes) → HasReadOn most now new text_now text_after
    → (bytes : List ℕ) × Consumes old new bytes × (text_after ≡ text ++ bytes)
until_on old now new text text_now text_after most (before, took, is) (bytes, (took_more, end), is_more, few) =
    (before ++ bytes, Consumes-trans old now new before bytes took took_more, is_more ∙ ap (λ (t : List ℕ). t ++ bytes) is ∙ append_assoc text before bytes)

-- fewer bytes than were wanted are all that the source had
pub until_end : (now new : Option (List ℕ)) (text_now text_after : List ℕ) (room wanted : ℕ) → HasReadOn room now new text_now text_after → room ≡ wanted - length text_now → length text_after < wanted → IsAtEnd new
until_end now new text_now text_after room wanted (bytes, (took, inl end), is, few) asked less = end
until_end now new text_now text_after room wanted (bytes, (took, inr full), is, few) asked less =
    absurd (let long : length text_after ≡ length text_now + length bytes = ap length is ∙ length-append text_now bytes in omega (arith, long, full, asked, less))

-- ---- a text as its front and the bytes behind it

pub front_stays : (front : ℕ) (text bytes text_after : List ℕ) → front ≤ length text → text_after ≡ text ++ bytes → take front text_after ≡ take front text
front_stays front text bytes text_after within is = ap (take front) is ∙ take-append-le front text bytes within

pub bytes_grow : (front : ℕ) (text bytes text_after : List ℕ) → front ≤ length text → text_after ≡ text ++ bytes → drop front text_after ≡ drop front text ++ bytes
bytes_grow front text bytes text_after within is = ap (drop front) is ∙ drop-append-le front text bytes within

pub as_found : (least most front : ℕ) (text text_after : List ℕ) (left left_after : Option (List ℕ)) (found : Found) → front ≤ length text → HasReadUntil least most front text text_after left left_after found
    → HasFound least most (take front text) (drop front text) (drop front text_after) left left_after found
as_found least most front text text_after left left_after found within (bytes, took, is, what) =
    let len : front ≡ length (take front text) = omega (arith, within, length-take front text) in
    (bytes, took, bytes_grow front text bytes text_after within is, subst (λ (n : ℕ). IsFound least most n (drop front text_after) (IsAtEnd left_after) found) len what)

-- the same at another end, and with fewer bytes
pub found_at : (least wanted most front : ℕ) (bytes : List ℕ) (P Q : Type 0) (found : Found) → least ≤ wanted → (P → Q) → IsFound wanted most front bytes P found → IsFound least most front bytes Q found
found_at least wanted most front bytes P Q Last fewer then what = (then what.0, what.1)
found_at least wanted most front bytes P Q (Sections n) fewer then what =
    record { within = what.within; room = what.room; ends = what.ends; longest = what.longest; enough = omega (arith, fewer, what.enough) }
found_at least wanted most front bytes P Q TooLong fewer then what = what
