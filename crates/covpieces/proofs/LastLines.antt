-- The last line of a text: its place, and what the text's lines are.
use Rattle.std.proofs.Common.{◌≡◌, ◌≢◌, ◌⊎◌, ℕ, zero, suc, ◌+◌, ◌-◌, ◌<◌, ◌≤◌, Bool, true, false, cond, eqb, List, [], ◌∷◌, ◌++◌, length, get_or, take, drop, Option, Some, None, refl, sym, ap, subst, ◌∙◌, append_assoc, length-append, take_at, take-append-drop, arith, inl, inr, lit<, if◌then◌else◌}
use Rattle.std.specs.Prelude.{codes, count_by}
use Rattle.std.proofs.lemmas.List.Sums.{sum_by-cons}
use Rattle.std.proofs.lemmas.List.{take_more, same_from_push, take-append-le, length-map}
use Rattle.std.proofs.lemmas.List.Elements.{All-get_or}
use Rattle.covdata.specs.Delimiters.{line_feed}
use Rattle.covline.specs.Lines.{onto_first, pieces_of, line_of, strip, lines_of}
use Rattle.covline.specs.Spells.{Begins}
use Rattle.covline.proofs.Cut.{lines_at, lines-append}
use Rattle.covpieces.specs.Sections.{EndsSection, AreWholeSections, has_key, grouped_after}
use Rattle.covpieces.specs.LastLines.{HasWholeLines, HasNoFeed, IsLastCut, grouping_of, is_feed}

-- ---- the lines of a text with its last line

lines_from : (text front line : List ℕ) → HasWholeLines front → IsLastCut text front line → lines_of text ≡ lines_of front ++ strip line ∷ []
lines_from text front line (inl none) cut =
    ap lines_of cut.parts ∙ ap (λ (f : List ℕ). lines_of (f ++ (line ++ line_feed ∷ []))) none ∙ lines_at line [] cut.one
    ∙ ap (λ (f : List ℕ). lines_of f ++ strip line ∷ []) (sym none)
lines_from text front line (inr ends) cut =
    ap lines_of cut.parts ∙ ap (λ (f : List ℕ). lines_of (f ++ (line ++ line_feed ∷ []))) ends.1 ∙ ap lines_of (append_assoc ends.0 (line_feed ∷ []) (line ++ line_feed ∷ []))
    ∙ lines-append ends.0 (line ++ line_feed ∷ []) ∙ ap (λ (ls : List (List ℕ)). lines_of (ends.0 ++ line_feed ∷ []) ++ ls) (lines_at line [] cut.one)
    ∙ ap (λ (f : List ℕ). lines_of f ++ strip line ∷ []) (sym ends.1)

-- the lines of a text are those before its last line, and that line
pub lines_with_last : (text front line : List ℕ) → IsLastCut text front line → lines_of text ≡ lines_of front ++ strip line ∷ []
lines_with_last text front line cut = lines_from text front line cut.whole cut

-- ---- where sections end

-- a text with this last line ends a section if the line does
pub section_ends : (text front line : List ℕ) → IsLastCut text front line → Begins (strip line) (codes "end_of_record") → EndsSection text
section_ends text front line cut begins = record {
  front = front ++ line;
  feed = cut.parts ∙ sym (append_assoc front line (line_feed ∷ []));
  above = lines_of front;
  last = strip line;
  lines = lines_with_last text front line cut;
  ends = begins;
}

-- conversely
no_section_ends : (text front line : List ℕ) → IsLastCut text front line → ¬ Begins (strip line) (codes "end_of_record") → EndsSection text → ⊥
no_section_ends text front line cut none ends =
    let same = same_from_push ends.above (lines_of front) ends.last (strip line) (sym ends.lines ∙ lines_with_last text front line cut) in
    none (subst (λ (l : List ℕ). Begins l (codes "end_of_record")) same.1 ends.ends)

-- what follows bytes, without a line feed in it, doesn't end in a line feed
no_feed_ends : (text : List ℕ) (none : HasNoFeed text) (n : ℕ) → 0 < n → n ≤ length text → (front more : List ℕ) → more ++ take n text ≡ front ++ line_feed ∷ [] → ⊥
no_feed_ends text none zero some few front more e = absurd (omega (arith, some))
no_feed_ends text none (suc n) some few front more e =
    let more_is : suc n ≡ n + 1 = omega arith in
    let last : take (suc n) text ≡ take n text ++ get_or text n 0 ∷ [] = ap (λ (m : ℕ). take m text) more_is ∙ take_more text n 0 (omega (arith, few)) in
    let whole : (more ++ take n text) ++ get_or text n 0 ∷ [] ≡ front ++ line_feed ∷ [] = append_assoc more (take n text) (get_or text n 0 ∷ []) ∙ ap (λ (t : List ℕ). more ++ t) (sym last) ∙ e in
    All-get_or (λ b. b ≢ line_feed) text n 0 (omega (arith, few)) none (same_from_push (more ++ take n text) front (get_or text n 0) line_feed whole).1

take_beyond : (front tail : List ℕ) (k n : ℕ) → k ≡ length front + n → take k (front ++ tail) ≡ front ++ take n tail
take_beyond [] tail k n e = ap (λ (m : ℕ). take m tail) (e ∙ omega arith)
take_beyond (x ∷ front) tail zero n e = absurd (omega (arith, e))
take_beyond (x ∷ front) tail (suc k) n e = ap (λ (t : List ℕ). x ∷ t) (take_beyond front tail k n (omega (arith, e)))

-- no beginning of a text ends in a line feed if it ends among bytes that are none
pub no_end_among : (text front tail : List ℕ) (k : ℕ) → text ≡ front ++ tail → HasNoFeed tail → length front < k → k ≤ length text → EndsSection (take k text) → ⊥
no_end_among text front tail k parts none more within ends =
    let n = k - length front in
    let e : take k text ≡ front ++ take n tail = ap (take k) parts ∙ take_beyond front tail k n (omega (arith, more)) in
    no_feed_ends tail none n (omega (arith, more)) (omega (arith, within, ap length parts, length-append front tail)) ends.front front (sym e ∙ ends.feed)

-- ---- looking for the last section

-- no beginning of the text that is longer than `rest` ends a section
pub record Looking (text rest : List ℕ) : Type 0 where
  pub more : List ℕ
  pub parts : text ≡ rest ++ more
  pub whole : HasWholeLines rest
  pub longest : (k : ℕ) → length rest < k → k ≤ length text → ¬ EndsSection (take k text)

pub looking_begins : (text rest : List ℕ) (n : ℕ) → rest ≡ take n text → HasWholeLines (take n text) → HasNoFeed (drop n text) → Looking text rest
looking_begins text rest n is whole none =
    let parts : text ≡ rest ++ drop n text = sym (take-append-drop n text) ∙ ap (λ (t : List ℕ). t ++ drop n text) (sym is) in
    record {
      more = drop n text;
      parts = parts;
      whole = subst HasWholeLines (sym is) whole;
      longest = λ k above within ends. no_end_among text rest (drop n text) k parts none above within ends;
    }

-- where the longer beginning ends: after the last line, in it, or behind it
data Where (k n m : ℕ) : Type 0 where
  Behind : n < k → Where k n m
  At : k ≡ n → Where k n m
  Within : k < n → Where k n m

where_of : (k n m : ℕ) → Where k n m
where_of zero zero m = At refl
where_of zero (suc n) m = Within (omega arith)
where_of (suc k) zero m = Behind (omega arith)
where_of (suc k) (suc n) m =
    elim (where_of k n m) [
      | Behind lt ↦ Behind (omega (arith, lt))
      | At e ↦ At (ap suc e)
      | Within lt ↦ Within (omega (arith, lt))
    ]

no_end_above : (text rest front line : List ℕ) → Looking text rest → IsLastCut rest front line → ¬ Begins (strip line) (codes "end_of_record") → (k : ℕ) → length front < k → k ≤ length text
    → EndsSection (take k text) → Where k (length rest) 0 → ⊥
no_end_above text rest front line so_far cut none k above within ends (Behind lt) = so_far.longest k lt within ends
no_end_above text rest front line so_far cut none k above within ends (At e) =
    let all : take k text ≡ rest = ap (take k) so_far.parts ∙ take_at rest so_far.more k (sym e) in
    no_section_ends rest front line cut none (subst EndsSection all ends)
no_end_above text rest front line so_far cut none k above within ends (Within lt) =
    let one : rest ≡ (front ++ line) ++ line_feed ∷ [] = cut.parts ∙ sym (append_assoc front line (line_feed ∷ [])) in
    let few : k ≤ length (front ++ line) = omega (arith, lt, ap length one, length-append (front ++ line) (line_feed ∷ [])) in
    let whole : text ≡ (front ++ line) ++ (line_feed ∷ [] ++ so_far.more) =
    so_far.parts ∙ ap (λ (t : List ℕ). t ++ so_far.more) one ∙ append_assoc (front ++ line) (line_feed ∷ []) so_far.more in
    let part : take k text ≡ take k (front ++ line) = ap (take k) whole ∙ take-append-le k (front ++ line) (line_feed ∷ [] ++ so_far.more) few in
    no_end_among (front ++ line) front line k refl cut.one above few (subst EndsSection part ends)

pub looking_on : (text rest front line : List ℕ) → Looking text rest → IsLastCut rest front line → ¬ Begins (strip line) (codes "end_of_record") → Looking text front
looking_on text rest front line so_far cut none = record {
  more = (line ++ line_feed ∷ []) ++ so_far.more;
  parts = so_far.parts ∙ ap (λ (t : List ℕ). t ++ so_far.more) cut.parts ∙ append_assoc front (line ++ line_feed ∷ []) so_far.more;
  whole = cut.whole;
  longest = λ k above within ends. no_end_above text rest front line so_far cut none k above within ends (where_of k (length rest) 0);
}

section_of : (rest : List ℕ) → (rest ≡ []) ⊎ EndsSection rest → 0 < length rest → EndsSection rest
section_of rest (inl none) some = absurd (omega (arith, some, ap length none))
section_of rest (inr ends) some = ends

pub looking_ends : (text rest : List ℕ) → Looking text rest → (rest ≡ []) ⊎ EndsSection rest → AreWholeSections text (length rest)
looking_ends text rest so_far found = record {
  within = omega (arith, ap length so_far.parts, length-append rest so_far.more);
  ends = λ some. subst EndsSection (sym (ap (take (length rest)) so_far.parts ∙ take_at rest so_far.more (length rest) refl)) (section_of rest found some);
  longest = so_far.longest;
}

-- ---- grouping

abbrev step : Bool → List ℕ → Bool
step grouped line = if has_key (codes "SF:") line then false else (if has_key (codes "FNL:") line then true else grouped)

grouped_push : (grouped : Bool) (lines : List (List ℕ)) (line : List ℕ) → grouped_after grouped (lines ++ line ∷ []) ≡ step (grouped_after grouped lines) line
grouped_push grouped [] line = refl
grouped_push grouped (l ∷ lines) line = grouped_push (step grouped l) lines line

step_some : (a b grouped decided : Bool) → (if a then Some false else (if b then Some true else None)) ≡ Some decided → (if a then false else (if b then true else grouped)) ≡ decided
step_some true b grouped decided e = let same : false ≡ decided = cc in same
step_some false true grouped decided e = let same : true ≡ decided = cc in same
step_some false false grouped decided e = absurd cc

step_none : (a b grouped : Bool) → (let none : Option Bool = None in (if a then Some false else (if b then Some true else None)) ≡ none) → (if a then false else (if b then true else grouped)) ≡ grouped
step_none true b grouped e = absurd cc
step_none false true grouped e = absurd cc
step_none false false grouped e = refl

grouped_cut : (grouped : Bool) (text front line : List ℕ) → IsLastCut text front line → grouped_after grouped (lines_of text) ≡ step (grouped_after grouped (lines_of front)) (strip line)
grouped_cut grouped text front line cut = ap (grouped_after grouped) (lines_with_last text front line cut) ∙ grouped_push grouped (lines_of front) (strip line)

pub grouped_decided : (grouped decided : Bool) (text front line : List ℕ) → IsLastCut text front line → grouping_of (strip line) ≡ Some decided → grouped_after grouped (lines_of text) ≡ decided
grouped_decided grouped decided text front line cut e =
    grouped_cut grouped text front line cut ∙ step_some (has_key (codes "SF:") (strip line)) (has_key (codes "FNL:") (strip line)) (grouped_after grouped (lines_of front)) decided e

pub grouped_kept : (grouped : Bool) (text front line : List ℕ) → IsLastCut text front line → grouping_of (strip line) ≡ None → grouped_after grouped (lines_of text) ≡ grouped_after grouped (lines_of front)
grouped_kept grouped text front line cut e =
    grouped_cut grouped text front line cut ∙ step_none (has_key (codes "SF:") (strip line)) (has_key (codes "FNL:") (strip line)) (grouped_after grouped (lines_of front)) e

-- ---- counting lines

length-onto : (b : ℕ) (pieces : List (List ℕ)) → 0 < length pieces → length (onto_first b pieces) ≡ length pieces
length-onto b [] some = absurd (omega arith)
length-onto b (piece ∷ pieces) some = refl

feeds_step : (b : ℕ) (pieces : List (List ℕ)) (test : Bool) → 0 < length pieces → length (if test then (b ∷ []) ∷ pieces else onto_first b pieces) ≡ cond test 1 0 + length pieces
feeds_step b pieces true some = omega arith
feeds_step b pieces false some = length-onto b pieces some ∙ omega arith

some_step : (b : ℕ) (pieces : List (List ℕ)) (test : Bool) → 0 < length pieces → 0 < length (if test then (b ∷ []) ∷ pieces else onto_first b pieces)
some_step b pieces true some = omega arith
some_step b pieces false some = omega (arith, length-onto b pieces some)

some_to_feed : (front : List ℕ) → 0 < length (pieces_of (front ++ line_feed ∷ []))
some_to_feed [] = lit< tt
some_to_feed (b ∷ front) = some_step b (pieces_of (front ++ line_feed ∷ [])) (eqb b line_feed) (some_to_feed front)

feeds_to_feed : (front : List ℕ) → count_by is_feed (front ++ line_feed ∷ []) ≡ length (pieces_of (front ++ line_feed ∷ []))
feeds_to_feed [] = refl
feeds_to_feed (b ∷ front) =
    sum_by-cons (λ y. cond (is_feed y) 1 0) b (front ++ line_feed ∷ []) ∙ ap (λ (n : ℕ). cond (eqb b line_feed) 1 0 + n) (feeds_to_feed front)
    ∙ sym (feeds_step b (pieces_of (front ++ line_feed ∷ [])) (eqb b line_feed) (some_to_feed front))

-- a text of whole lines has as many lines as line feeds
pub lines_are_feeds : (text : List ℕ) → HasWholeLines text → count_by is_feed text ≡ length (lines_of text)
lines_are_feeds text (inl none) = subst (λ (t : List ℕ). count_by is_feed t ≡ length (lines_of t)) (sym none) refl
lines_are_feeds text (inr ends) =
    subst (λ (t : List ℕ). count_by is_feed t ≡ length (lines_of t)) (sym ends.1)
    (feeds_to_feed ends.0 ∙ sym (length-map (pieces_of (ends.0 ++ line_feed ∷ [])) line_of))
