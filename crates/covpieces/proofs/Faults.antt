-- First faulty lines, if a text's first lines are replaced by others after which it goes on alike.
use Rattle.std.proofs.Common.{◌≡◌, ℕ, ◌+◌, ◌-◌, List, [], ◌∷◌, ◌++◌, length, refl, sym, ap, subst, ◌∙◌, append_assoc, length-append, arith}
use Rattle.std.proofs.lemmas.List.{append-nil}
use Rattle.covdata.specs.Row.{SubmissionData}

-- what a text's lines say
abbrev pub Reading : Type 1
Reading = List (List ℕ) → SubmissionData → Type 0

abbrev pub Lawful : Reading → List (List ℕ) → Type 0
Lawful Reads lines = (submission : SubmissionData) × Reads lines submission

abbrev pub GoesOn : Reading → List (List ℕ) → Type 0
GoesOn Reads lines = (more : List (List ℕ)) × Lawful Reads (lines ++ more)

-- as `IsFirstFaulty` of covread and of covlcov2
pub record FirstFaulty (Reads : Reading) (lines : List (List ℕ)) (at : ℕ) (line : List ℕ) : Type 0 where
  pub before : List (List ℕ)
  pub after : List (List ℕ)
  pub place : lines ≡ before ++ line ∷ after
  pub number : at ≡ length before + 1
  pub goes_on : GoesOn Reads before
  pub ends_here : ¬ GoesOn Reads (before ++ line ∷ [])

-- a text goes on after the lines `first` as it goes on after `front`
pub record GoAlike (Reads : Reading) (first front : List (List ℕ)) : Type 0 where
  pub whole : Lawful Reads front
  pub to_first : (rest : List (List ℕ)) → Lawful Reads (front ++ rest) → Lawful Reads (first ++ rest)
  pub to_front : (rest : List (List ℕ)) → Lawful Reads (first ++ rest) → Lawful Reads (front ++ rest)

-- where a line is in two lists one after another
data Place (front rest before : List (List ℕ)) (line : List ℕ) (after : List (List ℕ)) : Type 0 where
  InFront : (more : List (List ℕ)) → front ≡ before ++ line ∷ more → Place front rest before line after
  InRest : (others : List (List ℕ)) → before ≡ front ++ others → rest ≡ others ++ line ∷ after → Place front rest before line after

place_cons : (x : List ℕ) (front rest before : List (List ℕ)) (line : List ℕ) (after : List (List ℕ)) → Place front rest before line after → Place (x ∷ front) rest (x ∷ before) line after
place_cons x front rest before line after (InFront more e) = InFront more (ap (λ (w : List (List ℕ)). x ∷ w) e)
place_cons x front rest before line after (InRest others e f) = InRest others (ap (λ (w : List (List ℕ)). x ∷ w) e) f

place_of : (front rest before : List (List ℕ)) (line : List ℕ) (after : List (List ℕ)) → front ++ rest ≡ before ++ line ∷ after → Place front rest before line after
place_of [] rest before line after e = InRest before refl e
place_of (x ∷ front) rest [] line after e = let first : x ≡ line = cc in InFront front (ap (λ (w : List ℕ). w ∷ front) first)
place_of (x ∷ front) rest (y ∷ before) line after e =
    let first : x ≡ y = cc in
    let others : front ++ rest ≡ before ++ line ∷ after = cc in
    subst (λ (w : List ℕ). Place (x ∷ front) rest (w ∷ before) line after) first (place_cons x front rest before line after (place_of front rest before line after others))

module _ (Reads : Reading) where
  -- if lines begin a lawful text, so do their own first lines
  shorter : (front more all : List (List ℕ)) → all ≡ front ++ more → GoesOn Reads all → GoesOn Reads front
  shorter front more all e on =
      (more ++ on.0, subst (λ (w : List (List ℕ)). Lawful Reads w) (ap (λ (w : List (List ℕ)). w ++ on.0) e ∙ append_assoc front more on.0) on.1)

  lawful_goes_on : (lines : List (List ℕ)) → Lawful Reads lines → GoesOn Reads lines
  lawful_goes_on lines text = ([], subst (λ (w : List (List ℕ)). Lawful Reads w) (sym (append-nil lines)) text)

  module _ (first front : List (List ℕ)) (alike : GoAlike Reads first front) where
    pub goes_on_first : (rest : List (List ℕ)) → GoesOn Reads (front ++ rest) → GoesOn Reads (first ++ rest)
    goes_on_first rest on =
        let text = alike.to_first (rest ++ on.0) (subst (λ (w : List (List ℕ)). Lawful Reads w) (append_assoc front rest on.0) on.1) in
        (on.0, subst (λ (w : List (List ℕ)). Lawful Reads w) (sym (append_assoc first rest on.0)) text)

    goes_on_front : (rest : List (List ℕ)) → GoesOn Reads (first ++ rest) → GoesOn Reads (front ++ rest)
    goes_on_front rest on =
        let text = alike.to_front (rest ++ on.0) (subst (λ (w : List (List ℕ)). Lawful Reads w) (append_assoc first rest on.0) on.1) in
        (on.0, subst (λ (w : List (List ℕ)). Lawful Reads w) (sym (append_assoc front rest on.0)) text)

    faulty_at : (rest : List (List ℕ)) (at : ℕ) (line : List ℕ) (f : FirstFaulty Reads (front ++ rest) at line) → Place front rest f.before line f.after
        → FirstFaulty Reads (first ++ rest) (length first + (at - length front)) line
    faulty_at rest at line f (InFront more e) =
        absurd (f.ends_here (shorter (f.before ++ line ∷ []) more front (e ∙ sym (append_assoc f.before (line ∷ []) more)) (lawful_goes_on front alike.whole)))
    faulty_at rest at line f (InRest others e place) = record {
      before = first ++ others;
      after = f.after;
      place = ap (λ (w : List (List ℕ)). first ++ w) place ∙ sym (append_assoc first others (line ∷ f.after));
      number = omega (arith, f.number, ap length e, length-append front others, length-append first others);
      goes_on = goes_on_first others (subst (λ (w : List (List ℕ)). GoesOn Reads w) e f.goes_on);
      ends_here = λ on.
          let other = goes_on_front (others ++ line ∷ []) (subst (λ (w : List (List ℕ)). GoesOn Reads w) (append_assoc first others (line ∷ [])) on) in
          f.ends_here (subst (λ (w : List (List ℕ)). GoesOn Reads w) (sym (append_assoc front others (line ∷ [])) ∙ ap (λ (w : List (List ℕ)). w ++ line ∷ []) (sym e)) other);
    }

    -- the first faulty line is the same, with another number
    pub faulty_after : (rest : List (List ℕ)) (at : ℕ) (line : List ℕ) → FirstFaulty Reads (front ++ rest) at line → FirstFaulty Reads (first ++ rest) (length first + (at - length front)) line
    faulty_after rest at line f = faulty_at rest at line f (place_of front rest f.before line f.after f.place)

  -- the first faulty line stays it if more lines follow
  pub faulty_longer : (lines more : List (List ℕ)) (at : ℕ) (line : List ℕ) → FirstFaulty Reads lines at line → FirstFaulty Reads (lines ++ more) at line
  faulty_longer lines more at line f = record {
    before = f.before;
    after = f.after ++ more;
    place = ap (λ (w : List (List ℕ)). w ++ more) f.place ∙ append_assoc f.before (line ∷ f.after) more;
    number = f.number;
    goes_on = f.goes_on;
    ends_here = f.ends_here;
  }
