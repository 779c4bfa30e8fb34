-- Texts that begin with a `BRDA:` line with one mark: how this line is read in one pass, and what it says. Without its mark it is a
-- line of version 1.
use Rattle.std.proofs.Common.{◌≡◌, ◌≢◌, ℕ, ◌<◌, ◌^◌, inl, inr, true, false, eqb, List, [], ◌∷◌, ◌++◌, All, Option, Some, None, option_map, refl, sym, ap, subst, ◌∙◌, arith, append_assoc}
use Rattle.std.specs.Prelude.{codes, IfSome}
use Rattle.std.specs.List.{list_any}
use Rattle.std.specs.Option.{option_and_then}
use Rattle.std.proofs.lemmas.Bool.{cases_eq, eq-eqb, ne_eqb}
use Rattle.std.proofs.lemmas.Option.{none-some, option_and_then_some}
use Rattle.std.proofs.lemmas.List.Elements.{All-nil, All-cons, All-head, All-tail}
use Rattle.covline.specs.declared.reader.BranchLine.{BranchLine}
use Rattle.covdata.specs.Delimiters.{line_feed, carriage_return, comma}
use Rattle.covline.specs.Lines.{lines_of}
use Rattle.covdata.specs.Points.{BranchPoint}
use Rattle.covdata.specs.PointView.{branch_point_data}
use Rattle.covline.specs.Spells.{IsDigit, IsNumeral, IsTaken}
use Rattle.covline.specs.Reading.{after_key, field_at}
use Rattle.covline.specs.Fronts.{BeginsWithBranchLine, IsSmallIfAny, small_front, branch_after_line, branch_front}
use Rattle.covline.proofs.BranchLines.{branch_seen, branch_form}
use Rattle.covline.proofs.Cut.{HasNoFeed, NoReturn, lines_at, strip-none}
use Rattle.covline.proofs.ReadNumbers.{field_is}
use Rattle.covline.proofs.SmallNumbers.{after_some, same_some, small_field_has, small_is}
use Rattle.covlcov2.specs.Spells.{Edge, is_mark, is_exclusion, IsMark, IsBelow}
use Rattle.covlcov2.specs.Fronts.{BeginsWithLcov2Line, after_mark, marked_after_line, marked_after_key, marked_front}

-- ---- lines without a line feed, which don't end in a carriage return

-- each byte is above 13, so none is a line feed (10) or a carriage return (13)
abbrev IsClean : List ℕ → Type 0
IsClean [] = Unit {0}
IsClean (b ∷ bs) = (13 < b) × IsClean bs

clean_append : (front back : List ℕ) → IsClean front → IsClean back → IsClean (front ++ back)
clean_append [] back one other = other
clean_append (b ∷ bs) back one other = (one.0, clean_append bs back one.1 other)

clean_digits : (digits : List ℕ) → All IsDigit digits → IsClean digits
clean_digits [] each = tt
clean_digits (d ∷ ds) each = let digit = All-head IsDigit d ds each in (omega (arith, digit.0), clean_digits ds (All-tail IsDigit d ds each))

clean_taken : (word : List ℕ) (taken : Option ℕ) → IsTaken word taken → IsClean word
clean_taken word None is = subst IsClean (sym is) (omega arith, tt)
clean_taken word (Some n) is = clean_digits word is.each

no_feed : (text : List ℕ) → IsClean text → HasNoFeed text
no_feed [] clean = All-nil (λ b. b ≢ line_feed)
no_feed (b ∷ bs) clean = All-cons (λ b. b ≢ line_feed) b bs (λ e. let above = clean.0 in omega (arith, e, above)) (no_feed bs clean.1)

no_return : (text : List ℕ) → IsClean text → NoReturn text
no_return [] clean [] e = absurd cc
no_return [] clean (b ∷ before) e = absurd cc
no_return (x ∷ xs) clean [] e = let same : x ≡ carriage_return = cc in let above = clean.0 in omega (arith, same, above)
no_return (x ∷ xs) clean (b ∷ before) e = let same : xs ≡ before ++ carriage_return ∷ [] = cc in no_return xs clean.1 before same

clean_cut : (line rest : List ℕ) → IsClean line → lines_of (line ++ line_feed ∷ rest) ≡ line ∷ lines_of rest
clean_cut line rest clean = lines_at line rest (no_feed line clean) ∙ ap (λ (l : List ℕ). l ∷ lines_of rest) (strip-none line (no_return line clean))

-- ---- the mark

-- the text is a mark other than that of exclusion, and this rest
record HasFrontMark (text rest : List ℕ) : Type 0 where
  byte : ℕ
  parts : text ≡ byte ∷ rest
  mark : is_mark byte ≡ true
  kept : is_exclusion byte ≡ false
  clean : 13 < byte

front_mark : (b : ℕ) (bs rest : List ℕ) → is_mark b ≡ true → is_exclusion b ≡ false → 13 < b → Some bs ≡ Some rest → HasFrontMark (b ∷ bs) rest
front_mark b bs rest mark kept clean e = record { byte = b; parts = ap (λ (t : List ℕ). b ∷ t) (same_some bs rest e); mark = mark; kept = kept; clean = clean }

mark_is : (text rest : List ℕ) → after_mark text ≡ Some rest → HasFrontMark text rest
mark_is [] rest e = absurd (none-some rest e)
mark_is (b ∷ bs) rest e =
    elim (cases_eq b 101) [
      | inl same ↦ let test : eqb b 101 ≡ true = eq-eqb b 101 same in
          front_mark b bs rest (rw test refl) (ne_eqb b 85 (λ f. omega (arith, same, f))) (omega (arith, same)) (rw test at e)
      | inr differ ↦ let other : eqb b 101 ≡ false = ne_eqb b 101 differ in
          elim (cases_eq b 102) [
            | inl same ↦ let test : eqb b 102 ≡ true = eq-eqb b 102 same in
                front_mark b bs rest (rw (other, test) refl) (ne_eqb b 85 (λ f. omega (arith, same, f))) (omega (arith, same)) (rw (other, test) at e)
            | inr that ↦ let test : eqb b 102 ≡ false = ne_eqb b 102 that in absurd (none-some rest (rw (other, test) at e))
          ]
    ]

-- ---- the line

small_field : (digits after : List ℕ) (n : ℕ) → IsNumeral digits n → n < 2 ^ 64 → small_front (field_at (digits ++ comma ∷ after)) ≡ Some (n, after)
small_field digits after n numeral small = ap small_front (field_is digits after n numeral) ∙ small_is n after small

module _ (digits blocks branches word rest : List ℕ) (mark : ℕ) where
  abbrev marked_line : List ℕ
  marked_line = codes "BRDA:" ++ (digits ++ comma ∷ (mark ∷ (blocks ++ comma ∷ (branches ++ comma ∷ word))))

  marked_parts : codes "BRDA:" ++ (digits ++ comma ∷ (mark ∷ (blocks ++ comma ∷ (branches ++ comma ∷ (word ++ line_feed ∷ rest))))) ≡ marked_line ++ line_feed ∷ rest
  marked_parts =
      let end : List ℕ = line_feed ∷ rest in
      let last : branches ++ comma ∷ (word ++ end) ≡ (branches ++ comma ∷ word) ++ end = sym (append_assoc branches (comma ∷ word) end) in
      let middle : blocks ++ comma ∷ (branches ++ comma ∷ (word ++ end)) ≡ (blocks ++ comma ∷ (branches ++ comma ∷ word)) ++ end =
      ap (λ (u : List ℕ). blocks ++ comma ∷ u) last ∙ sym (append_assoc blocks (comma ∷ (branches ++ comma ∷ word)) end) in
      ap (λ (u : List ℕ). codes "BRDA:" ++ u)
      (ap (λ (u : List ℕ). digits ++ comma ∷ (mark ∷ u)) middle ∙ sym (append_assoc digits (comma ∷ (mark ∷ (blocks ++ comma ∷ (branches ++ comma ∷ word)))) end))

  marked_clean : 13 < mark → IsClean digits → IsClean blocks → IsClean branches → IsClean word → IsClean marked_line
  marked_clean m d k b w =
      let last : IsClean (branches ++ comma ∷ word) = clean_append branches (comma ∷ word) b (omega arith, w) in
      let middle : IsClean (blocks ++ comma ∷ (branches ++ comma ∷ word)) = clean_append blocks (comma ∷ (branches ++ comma ∷ word)) k (omega arith, last) in
      let first : IsClean (digits ++ comma ∷ (mark ∷ (blocks ++ comma ∷ (branches ++ comma ∷ word)))) =
      clean_append digits (comma ∷ (mark ∷ (blocks ++ comma ∷ (branches ++ comma ∷ word)))) d (omega arith, (m, middle)) in
      (omega arith, (omega arith, (omega arith, (omega arith, (omega arith, first)))))

no_exclusion : (b : ℕ) → is_exclusion b ≡ false → false ≡ list_any is_exclusion (b ∷ [])
no_exclusion b kept = rw kept refl

small_taken : (taken : Option ℕ) → IsSmallIfAny taken → IsBelow (2 ^ 128) taken
small_taken None small = tt
small_taken (Some n) small = omega (arith, small)

-- the first line of the text is the line of version 1 that `begins` has, with this mark
marked_says : (text digits more : List ℕ) (line : ℕ) (point : BranchPoint) (taken : Option ℕ) (rest : List ℕ) (marked : List ℕ) (mark : HasFrontMark marked more) → text ≡ codes "BRDA:" ++ (digits ++ comma ∷ marked) → IsNumeral digits line → line < 2 ^ 64
    → BeginsWithBranchLine (codes "BRDA:" ++ (digits ++ comma ∷ more)) point taken rest → BeginsWithLcov2Line text (Edge false point.line point.block (Some point.branch) taken) rest
marked_says text digits more line point taken rest marked mark parts numeral small begins =
    let tail : List ℕ = begins.blocks ++ comma ∷ (begins.branches ++ comma ∷ (begins.word ++ line_feed ∷ rest)) in
    let fields : digits ++ comma ∷ more ≡ begins.digits ++ comma ∷ tail = same_some (digits ++ comma ∷ more) (begins.digits ++ comma ∷ tail) (ap (after_key (codes "BRDA:")) begins.parts) in
    let pair : (line, more) ≡ (point.line, tail) =
    same_some (line, more) (point.line, tail)
    (sym (small_field digits more line numeral small) ∙ ap (λ (t : List ℕ). small_front (field_at t)) fields ∙ small_field begins.digits tail point.line begins.line_is begins.line_small) in
    let number : line ≡ point.line = ap (λ (p : ℕ × List ℕ). p.0) pair in
    let whole : text ≡ codes "BRDA:" ++ (digits ++ comma ∷ (mark.byte ∷ tail)) =
    parts ∙ ap (λ (t : List ℕ). codes "BRDA:" ++ (digits ++ comma ∷ t)) (mark.parts ∙ ap (λ (t : List ℕ). mark.byte ∷ t) (ap (λ (p : ℕ × List ℕ). p.1) pair)) in
    let clean = marked_clean digits begins.blocks begins.branches begins.word rest mark.byte mark.clean (clean_digits digits numeral.each) (clean_digits begins.blocks begins.block_is.each) (clean_digits begins.branches begins.branch_is.each)
    (clean_taken begins.word taken begins.taken_is) in
    record {
      line = marked_line digits begins.blocks begins.branches begins.word rest mark.byte;
      cut = ap lines_of (whole ∙ marked_parts digits begins.blocks begins.branches begins.word rest mark.byte) ∙ clean_cut (marked_line digits begins.blocks begins.branches begins.word rest mark.byte) rest clean;
      spells = record {
        form = record {
          digits = digits;
          marks = mark.byte ∷ [];
          blocks = begins.blocks;
          words = begins.branches;
          text = begins.word;
          parts = refl;
          number_is = subst (λ (n : ℕ). IsNumeral digits n) number numeral;
          each = All-cons IsMark mark.byte [] mark.mark (All-nil IsMark);
          excluded_is = no_exclusion mark.byte mark.kept;
          block_is = begins.block_is;
          branch_is = begins.branch_is;
          taken_is = begins.taken_is;
        };
        small = (begins.line_small, begins.block_small, begins.branch_small, small_taken taken begins.taken_small);
      };
    }

marked_from : (text : List ℕ) (f : BranchLine) → marked_front text ≡ Some (branch_seen f) → BeginsWithLcov2Line text (Edge false f.point.line f.point.block (Some f.point.branch) f.taken) f.rest.now
marked_from text f e =
    option_and_then_some marked_after_key (after_key (codes "BRDA:") text) (branch_seen f) e (λ fields key e1.
    option_and_then_some marked_after_line (small_front (field_at fields)) (branch_seen f) e1 (λ line first e2.
    option_and_then_some (λ (rest : List ℕ). branch_after_line (line.0, rest)) (after_mark line.1) (branch_seen f) e2 (λ more marked e3.
    let l = small_field_has fields line.1 line.0 first in
    let fields_are : fields ≡ l.digits ++ comma ∷ line.1 = l.parts ∙ append_assoc l.digits (comma ∷ []) line.1 in
    let parts : text ≡ codes "BRDA:" ++ (l.digits ++ comma ∷ line.1) = after_some (codes "BRDA:") text fields (sym key) ∙ ap (λ (t : List ℕ). codes "BRDA:" ++ t) fields_are in
    let plain : List ℕ = codes "BRDA:" ++ (l.digits ++ comma ∷ more) in
    let read : branch_front plain ≡ Some (branch_seen f) = ap (option_and_then branch_after_line) (small_field l.digits more line.0 l.numeral l.small) ∙ e3 in
    let begins : BeginsWithBranchLine plain (branch_point_data f.point) f.taken f.rest.now = branch_form (Some f) plain (sym read) in
    marked_says text l.digits more line.0 (branch_point_data f.point) f.taken f.rest.now line.1 (mark_is line.1 more marked) parts l.numeral l.small begins)))

pub marked_begins : (result : Option BranchLine) (text : List ℕ) → option_map branch_seen result ≡ marked_front text
    → IfSome result (λ f. BeginsWithLcov2Line text (Edge false f.point.line f.point.block (Some f.point.branch) f.taken) f.rest.now)
marked_begins None text read = tt
marked_begins (Some f) text read = marked_from text f (sym read)
