-- Reading in pieces is reading the whole text: for both versions, from what is known of two texts one after another.
use Rattle.std.proofs.Common.{◌≡◌, ◌⊎◌, ℕ, ◌+◌, ◌-◌, Bool, true, false, List, [], ◌∷◌, ◌++◌, length, Result, Ok, Err, refl, sym, ap, subst, ◌∙◌, append_assoc, length-append, arith, inl, inr, if◌then◌else◌}
use Rattle.std.specs.Prelude.{All, codes}
use Rattle.std.specs.List.{concat}
use Rattle.std.proofs.lemmas.List.{append-nil}
use Rattle.covdata.specs.Lawful.{IsGoodTest, IsLawful, IsLawfulSect}
use Rattle.covdata.specs.Delimiters.{line_feed}
use Rattle.covline.specs.Lines.{lines_of}
use Rattle.covdata.specs.Row.{SectData, SubmissionData}
use Rattle.covline.specs.Spells.{Begins}
use Rattle.covline.proofs.Cut.{lines-append, lines_at, strip-none}
use Rattle.covdata.specs.declared.fault.ReadFault.{ReadFault}
use Rattle.covdata.specs.declared.fault.ReadFault.TheVariants.{TooLong, Line, Outside, Inside, Misplaced}
use Rattle.covpieces.specs.Sections.{EndsSection}
use Rattle.covpieces.specs.Pieces.{EndSections, IsCut, CarriedData, nothing_carried, group_line, with_name, front_lines, name_text, front_text, renumbered, moved_number, moved, joined, no_sections, with_first, ReadsInPieces}
use Rattle.covpieces.proofs.Faults.{Reading, GoAlike}
use Rattle.covpieces.proofs.GoodTests.{IsGoodTest-key, IsGoodTest-group}

-- ---- lines

-- the lines of a text after one that ends a section
pub lines_after : (piece rest : List ℕ) → EndsSection piece → lines_of (piece ++ rest) ≡ lines_of piece ++ lines_of rest
lines_after piece rest ends =
    ap (λ (t : List ℕ). lines_of (t ++ rest)) ends.feed ∙ ap lines_of (append_assoc ends.front (line_feed ∷ []) rest) ∙ lines-append ends.front rest
    ∙ ap (λ (t : List ℕ). lines_of t ++ lines_of rest) (sym ends.feed)

-- the lines of a text after one good line
lines_after_line : (line rest : List ℕ) → IsGoodTest line → lines_of (line ++ line_feed ∷ rest) ≡ line ∷ lines_of rest
lines_after_line line rest good = lines_at line rest good.one_line ∙ ap (λ (l : List ℕ). l ∷ lines_of rest) (strip-none line good.no_return)

lines_behind_group : (is_grouped : Bool) (text : List ℕ)
    → lines_of ((if is_grouped then group_line ++ line_feed ∷ [] else []) ++ text) ≡ (if is_grouped then group_line ∷ [] else []) ++ lines_of text
lines_behind_group false text = refl
lines_behind_group true text = ap lines_of (append_assoc group_line (line_feed ∷ []) text) ∙ lines_after_line group_line text IsGoodTest-group

lines_behind_name : (name front text : List ℕ) (lines : List (List ℕ)) → IsGoodTest name → lines_of (front ++ text) ≡ lines ++ lines_of text
    → lines_of (name_text name front ++ text) ≡ with_name name lines ++ lines_of text
lines_behind_name [] front text lines good behind = behind
lines_behind_name (b ∷ bs) front text lines good behind =
    ap lines_of (append_assoc (codes "TN:" ++ (b ∷ bs)) (line_feed ∷ front) text)
    ∙ lines_after_line (codes "TN:" ++ (b ∷ bs)) (front ++ text) (IsGoodTest-key (b ∷ bs) good) ∙ ap (λ (ls : List (List ℕ)). (codes "TN:" ++ (b ∷ bs)) ∷ ls) behind

-- the lines of a piece behind its front
pub lines_with_front : (c : CarriedData) (text : List ℕ) → IsGoodTest c.test → lines_of (front_text c ++ text) ≡ front_lines c ++ lines_of text
lines_with_front c text good =
    lines_behind_name c.test (if c.is_grouped then group_line ++ line_feed ∷ [] else []) text (if c.is_grouped then group_line ∷ [] else []) good (lines_behind_group c.is_grouped text)

-- ---- numbers

renumbered_twice : (f g h : ℕ → ℕ) → ((n : ℕ) → f (g n) ≡ h n) → (fault : ReadFault) → renumbered f (renumbered g fault) ≡ renumbered h fault
renumbered_twice f g h same (Line at fault) = ap (λ (n : ℕ). Line n fault) (same at)
renumbered_twice f g h same (Outside at) = ap (λ (n : ℕ). Outside n) (same at)
renumbered_twice f g h same (Inside at) = ap (λ (n : ℕ). Inside n) (same at)
renumbered_twice f g h same (Misplaced at) = ap (λ (n : ℕ). Misplaced n) (same at)
renumbered_twice f g h same other = refl

-- ---- submissions

pub joined_nothing : (s : SubmissionData) → joined s no_sections ≡ s
joined_nothing s =
    let sects : joined s no_sections ≡ record { sects = s.sects; odd = s.odd + 0 } = ap (λ (x : List SectData). record { sects = x; odd = s.odd + 0 }) (append-nil s.sects) in
    let odd : record { sects = s.sects; odd = s.odd + 0 } ≡ s = ap (λ (n : ℕ). record { sects = s.sects; odd = n }) (omega arith) in
    sects ∙ odd

-- ---- a format

abbrev pub Faults : Type 1
Faults = List (List ℕ) → ReadFault → Type 0

abbrev pub Outcomes : Type 1
Outcomes = List ℕ → Result SubmissionData ReadFault → Type 0

abbrev pub Next : Type 0
Next = CarriedData → List ℕ → List SectData → CarriedData

-- the lines of a piece behind its front
abbrev pub behind_front : CarriedData → List ℕ → List (List ℕ)
behind_front c piece = front_lines c ++ lines_of piece

-- what is known of a version of the format, if this is what a text's lines say, their first fault, the outcome of a text, and
-- what may go over to a piece
pub record FormatLaw (Reads : Reading) (IsFault : Faults) (IsOutcome : Outcomes) (IsCarried : CarriedData → Type 0) (next : Next) : Type 0 where
  pub reads_of : (text : List ℕ) (s : SubmissionData) → IsOutcome text (Ok s) → Reads (lines_of text) s
  pub fault_of : (text : List ℕ) (fault : ReadFault) → IsOutcome text (Err fault) → (fault ≡ TooLong) ⊎ IsFault (lines_of text) fault
  pub lawful_of : (text : List ℕ) (s : SubmissionData) → IsOutcome text (Ok s) → IsLawful s
  pub nothing : Reads [] no_sections
  pub begins : IsCarried nothing_carried
  pub good : (c : CarriedData) → IsCarried c → IsGoodTest c.test
  pub carries : (c : CarriedData) (piece : List ℕ) (s : SubmissionData) → IsCarried c → All IsLawfulSect s.sects → IsCarried (next c piece s.sects)
  pub counts : (c : CarriedData) (piece : List ℕ) (sects : List SectData) → (next c piece sects).lines ≡ c.lines + length (lines_of piece)
  pub alike : (c : CarriedData) (piece : List ℕ) (s : SubmissionData) → IsCarried c → EndsSection piece → Reads (behind_front c piece) s
      → GoAlike Reads (behind_front c piece) (front_lines (next c piece s.sects))
  pub joins : (c : CarriedData) (piece : List ℕ) (s : SubmissionData) → IsCarried c → EndsSection piece → Reads (behind_front c piece) s
      → (rest : List (List ℕ)) (t : SubmissionData) → Reads (front_lines (next c piece s.sects) ++ rest) t → Reads (behind_front c piece ++ rest) (joined s t)
  pub moves : (first front : List (List ℕ)) → GoAlike Reads first front → (rest : List (List ℕ)) (fault : ReadFault) → IsFault (front ++ rest) fault
      → IsFault (first ++ rest) (renumbered (λ at. length first + (at - length front)) fault)
  pub longer : (lines above : List (List ℕ)) (last : List ℕ) → lines ≡ above ++ last ∷ [] → Begins last (codes "end_of_record")
      → (more : List (List ℕ)) (fault : ReadFault) → IsFault lines fault → IsFault (lines ++ more) fault

module _ (Reads : Reading) (IsFault : Faults) (IsOutcome : Outcomes) (IsCarried : CarriedData → Type 0) (next : Next) (law : FormatLaw Reads IsFault IsOutcome IsCarried next) where
  -- what a text says whatever its length
  abbrev pub IsWhole : List ℕ → Result SubmissionData ReadFault → Type 0
  IsWhole text (Ok s) = Reads (lines_of text) s
  IsWhole text (Err fault) = IsFault (lines_of text) fault

  -- what a text says behind this front. Faults have the numbers of the whole text
  abbrev Told : CarriedData → List ℕ → Result SubmissionData ReadFault → Type 0
  Told c text (Ok s) = Reads (behind_front c text) s
  Told c text (Err fault) = (fault ≡ TooLong) ⊎ ((told : ReadFault) × (fault ≡ moved c told) × IsFault (behind_front c text) told)

  reads_behind : (c : CarriedData) (piece : List ℕ) (s : SubmissionData) → IsCarried c → IsOutcome (front_text c ++ piece) (Ok s) → Reads (behind_front c piece) s
  reads_behind c piece s is outcome =
      subst (λ (x : List (List ℕ)). Reads x s) (lines_with_front c piece (law.good c is)) (law.reads_of (front_text c ++ piece) s outcome)

  fault_behind : (c : CarriedData) (piece : List ℕ) (fault : ReadFault) → IsCarried c → IsOutcome (front_text c ++ piece) (Err fault) → (fault ≡ TooLong) ⊎ IsFault (behind_front c piece) fault
  fault_behind c piece fault is outcome =
      elim (law.fault_of (front_text c ++ piece) fault outcome) [
        | inl long ↦ inl long
        | inr first ↦ inr (subst (λ (x : List (List ℕ)). IsFault x fault) (lines_with_front c piece (law.good c is)) first)
      ]

  next_carried : (c : CarriedData) (piece : List ℕ) (s : SubmissionData) → IsCarried c → IsOutcome (front_text c ++ piece) (Ok s) → IsCarried (next c piece s.sects)
  next_carried c piece s is outcome = law.carries c piece s is (law.lawful_of (front_text c ++ piece) s outcome).texts

  -- ---- the rest after a piece

  lines_both : (c : CarriedData) (piece rest : List ℕ) → EndsSection piece → behind_front c piece ++ lines_of rest ≡ behind_front c (piece ++ rest)
  lines_both c piece rest ends = append_assoc (front_lines c) (lines_of piece) (lines_of rest) ∙ ap (λ (x : List (List ℕ)). front_lines c ++ x) (sym (lines_after piece rest ends))

  ok_after : (c : CarriedData) (piece rest : List ℕ) (s t : SubmissionData) → IsCarried c → EndsSection piece → Reads (behind_front c piece) s
      → Reads (behind_front (next c piece s.sects) rest) t → Reads (behind_front c (piece ++ rest)) (joined s t)
  ok_after c piece rest s t is ends first later =
      subst (λ (x : List (List ℕ)). Reads x (joined s t)) (lines_both c piece rest ends) (law.joins c piece s is ends first (lines_of rest) t later)

  -- where a line is after a piece, and where it is in the whole text
  abbrev number_after : CarriedData → List ℕ → SubmissionData → ℕ → ℕ
  number_after c piece s at = length (behind_front c piece) + (at - length (front_lines (next c piece s.sects)))

  numbers : (c : CarriedData) (piece : List ℕ) (s : SubmissionData) (at : ℕ) → moved_number c (number_after c piece s at) ≡ moved_number (next c piece s.sects) at
  numbers c piece s at = omega (arith, law.counts c piece s.sects, length-append (front_lines c) (lines_of piece))

  fault_then : (c : CarriedData) (piece rest : List ℕ) (s : SubmissionData) (told : ReadFault) → IsCarried c → EndsSection piece → Reads (behind_front c piece) s
      → IsFault (behind_front (next c piece s.sects) rest) told → IsFault (behind_front c (piece ++ rest)) (renumbered (number_after c piece s) told)
  fault_then c piece rest s told is ends first later =
      subst (λ (x : List (List ℕ)). IsFault x (renumbered (number_after c piece s) told)) (lines_both c piece rest ends)
      (law.moves (behind_front c piece) (front_lines (next c piece s.sects)) (law.alike c piece s is ends first) (lines_of rest) told later)

  err_after : (c : CarriedData) (piece rest : List ℕ) (s : SubmissionData) (fault : ReadFault) → IsCarried c → EndsSection piece → Reads (behind_front c piece) s
      → Told (next c piece s.sects) rest (Err fault) → Told c (piece ++ rest) (Err fault)
  err_after c piece rest s fault is ends first (inl long) = inl long
  err_after c piece rest s fault is ends first (inr later) =
      inr (
        renumbered (number_after c piece s) later.0,
        later.1 ∙ sym (renumbered_twice (moved_number c) (number_after c piece s) (moved_number (next c piece s.sects)) (numbers c piece s) later.0),
        fault_then c piece rest s later.0 is ends first later.2,
      )

  err_here : (c : CarriedData) (piece rest : List ℕ) (told fault : ReadFault) → EndsSection piece → fault ≡ moved c told → (told ≡ TooLong) ⊎ IsFault (behind_front c piece) told → Told c (piece ++ rest) (Err fault)
  err_here c piece rest told fault ends e (inl long) = inl (e ∙ ap (moved c) long)
  err_here c piece rest told fault ends e (inr first) =
      let place = ap (λ (x : List (List ℕ)). front_lines c ++ x) ends.lines ∙ sym (append_assoc (front_lines c) ends.above (ends.last ∷ [])) in
      inr (
        told,
        e,
        subst (λ (x : List (List ℕ)). IsFault x told) (lines_both c piece rest ends)
            (law.longer (behind_front c piece) (front_lines c ++ ends.above) ends.last place ends.ends (lines_of rest) told first),
      )

  -- ---- the last piece

  err_last : (c : CarriedData) (piece : List ℕ) (told fault : ReadFault) → fault ≡ moved c told → (told ≡ TooLong) ⊎ IsFault (behind_front c piece) told → Told c piece (Err fault)
  err_last c piece told fault e (inl long) = inl (e ∙ ap (moved c) long)
  err_last c piece told fault e (inr first) = inr (told, e, first)

  -- ---- all pieces

  told : (c : CarriedData) (piece : List ℕ) (pieces : List (List ℕ)) (r : Result SubmissionData ReadFault) → IsCarried c → EndSections (piece ∷ pieces) → ReadsInPieces IsOutcome next c (piece ∷ pieces) r
      → Told c (concat (piece ∷ pieces)) r
  told c piece [] (Ok whole) is ends (first, rest, outcome, none, e) =
      let same : whole ≡ first = e ∙ ap (joined first) none ∙ joined_nothing first in
      let text : piece ≡ piece ++ [] = sym (append-nil piece) in
      subst (λ (x : List ℕ). Reads (behind_front c x) whole) text (subst (λ (x : SubmissionData). Reads (behind_front c piece) x) (sym same) (reads_behind c piece first is outcome))
  told c piece [] (Err fault) is ends (inl here) =
      subst (λ (x : List ℕ). Told c x (Err fault)) (sym (append-nil piece)) (err_last c piece here.0 fault here.2 (fault_behind c piece here.0 is here.1))
  told c piece [] (Err fault) is ends (inr later) = absurd later.2
  told c piece (other ∷ pieces) (Ok whole) is ends (first, rest, outcome, later, e) =
      let read = reads_behind c piece first is outcome in
      let c2 = next c piece first.sects in
      let others = told c2 other pieces (Ok rest) (next_carried c piece first is outcome) ends.1 later in
      subst (λ (x : SubmissionData). Reads (behind_front c (piece ++ concat (other ∷ pieces))) x) (sym e) (ok_after c piece (concat (other ∷ pieces)) first rest is ends.0 read others)
  told c piece (other ∷ pieces) (Err fault) is ends (inl here) =
      err_here c piece (concat (other ∷ pieces)) here.0 fault ends.0 here.2 (fault_behind c piece here.0 is here.1)
  told c piece (other ∷ pieces) (Err fault) is ends (inr later) =
      let read = reads_behind c piece later.0 is later.1 in
      let c2 = next c piece later.0.sects in
      let others = told c2 other pieces (Err fault) (next_carried c piece later.0 is later.1) ends.1 later.2 in
      err_after c piece (concat (other ∷ pieces)) later.0 fault is ends.0 read others

  -- the first piece has no front
  starts : GoAlike Reads [] (front_lines nothing_carried)
  starts = record { whole = (no_sections, law.nothing); to_first = λ rest text. text; to_front = λ rest text. text }

  started : (text : List ℕ) (r : Result SubmissionData ReadFault) → Told nothing_carried text r → (r ≡ Err TooLong) ⊎ IsWhole text r
  started text (Ok s) reads = inr reads
  started text (Err fault) (inl long) = inl (ap (λ (f : ReadFault). Err f) long)
  started text (Err fault) (inr first) =
      inr (subst (λ (f : ReadFault). IsFault (lines_of text) f) (sym first.1) (law.moves [] (front_lines nothing_carried) starts (lines_of text) first.0 first.2))

  -- what the pieces say together is what the whole text says, unless a piece is too long
  pub whole : (text : List ℕ) (pieces : List (List ℕ)) (r : Result SubmissionData ReadFault) → IsCut text pieces → ReadsInPieces IsOutcome next nothing_carried pieces r → (r ≡ Err TooLong) ⊎ IsWhole text r
  whole text [] (Ok s) cut none =
      inr (subst (λ (x : List ℕ). Reads (lines_of x) s) (sym cut.together) (subst (λ (x : SubmissionData). Reads [] x) (sym none) law.nothing))
  whole text [] (Err fault) cut none = absurd none
  whole text (piece ∷ pieces) r cut reads =
      started text r (subst (λ (x : List ℕ). Told nothing_carried x r) (sym cut.together) (told nothing_carried piece pieces r law.begins cut.ends reads))

  -- ---- two texts

  pub after_first : (first rest : List ℕ) (s : SubmissionData) (r : Result SubmissionData ReadFault) → EndsSection first → IsOutcome first (Ok s)
      → let c = next nothing_carried first s.sects in
      IsWhole (front_text c ++ rest) r → IsWhole (first ++ rest) (with_first s c r)
  after_first first rest s (Ok t) ends outcome later =
      let c = next nothing_carried first s.sects in
      let is = law.carries nothing_carried first s law.begins (law.lawful_of first s outcome).texts in
      let behind = subst (λ (x : List (List ℕ)). Reads x t) (lines_with_front c rest (law.good c is)) later in
      ok_after nothing_carried first rest s t law.begins ends (law.reads_of first s outcome) behind
  after_first first rest s (Err told) ends outcome later =
      let c = next nothing_carried first s.sects in
      let is = law.carries nothing_carried first s law.begins (law.lawful_of first s outcome).texts in
      let behind = subst (λ (x : List (List ℕ)). IsFault x told) (lines_with_front c rest (law.good c is)) later in
      let read = law.reads_of first s outcome in
      let moved_on = law.moves [] (front_lines nothing_carried) starts (lines_of (first ++ rest)) (renumbered (number_after nothing_carried first s) told)
      (fault_then nothing_carried first rest s told law.begins ends read behind) in
      subst (λ (f : ReadFault). IsFault (lines_of (first ++ rest)) f)
      (renumbered_twice (moved_number nothing_carried) (number_after nothing_carried first s) (moved_number c) (numbers nothing_carried first s) told) moved_on
