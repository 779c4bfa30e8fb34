-- The first part of a pattern, and the parts after it.
use Rattle.std.proofs.Common.{◌≡◌, ℕ, zero, suc, ◌+◌, ◌-◌, ◌≤◌, List, [], ◌∷◌, length, get_or, take, drop, refl, sym, ap, arith}
use Rattle.std.proofs.lemmas.List.{take_all, length-drop}
use Rattle.covreport.specs.Pattern.{Part, head_of, parts_after, parts_of}
use Rattle.covreport.specs.PatternParts.{part_data, head_data, after_head}
use Rattle.covreport.specs.declared.pattern.parts.Head.{Head}

-- to skip the bytes that belong to the part before is to drop them from the pattern
pub parts_drop : (taken : ℕ) (pattern : List ℕ) → parts_after taken pattern ≡ parts_of (drop taken pattern)
parts_drop zero [] = refl
parts_drop zero (b ∷ rest) = refl
parts_drop (suc taken) [] = refl
parts_drop (suc taken) (b ∷ rest) = parts_drop taken rest

abbrev pub tail : List ℕ → List ℕ
tail text = take (length text - 1) (drop 1 text)

-- a text that isn't empty is its first byte and the others
pub opened : (text : List ℕ) → 1 ≤ length text → text ≡ get_or text 0 0 ∷ tail text
opened [] some = absurd (omega arith)
opened (b ∷ bs) some =
    let all : length bs ≤ suc (length bs) - 1 = omega arith in
    ap (λ (t : List ℕ). b ∷ t) (sym (take_all (suc (length bs) - 1) bs all))

-- a part was read from a pattern
pub record IsRead (pattern : List ℕ) (part : Part) (rest : List ℕ) : Type 0 where
  pub parts : parts_of pattern ≡ part ∷ parts_of rest
  pub less : length rest + 1 ≤ length pattern

read_first : (first : ℕ) (after : List ℕ) (part : Part) (rest : List ℕ) → (part, rest) ≡ after_head after (head_of first after) → IsRead (first ∷ after) part rest
read_first first after part rest e = record {
  parts = rw (parts_drop (head_of first after).more after) (ap (λ (p : Part × List ℕ). p.0 ∷ parts_of p.1) (sym e));
  less =
      let same : rest ≡ drop (head_of first after).more after = ap (λ (p : Part × List ℕ). p.1) e in
      omega (arith, ap length same, length-drop (head_of first after).more after);
}

pub head_read : (pattern : List ℕ) (head : Head) → 1 ≤ length pattern → head_data head ≡ after_head (tail pattern) (head_of (get_or pattern 0 0) (tail pattern)) →
    IsRead pattern (part_data head.part) head.rest.now
head_read pattern head some e =
    rw (opened pattern some) (read_first (get_or pattern 0 0) (tail pattern) (part_data head.part) head.rest.now e)
