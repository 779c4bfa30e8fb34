-- A pass over the lines of a text: how many lines it has found that aren't read, the first of these, and the lines that it has
-- still to pass.
use Rattle.std.proofs.Common.{◌≡◌, ℕ, ◌+◌, inl, inr, List, [], ◌∷◌, length, Option, Some, None, refl, sym, subst, arith}
use Rattle.std.specs.Prelude.{MatchOption, IfSome}
use Rattle.covcheck.specs.declared.text_summary.SkippedLine.{SkippedLine}
use Rattle.covcheck.specs.TextSummary.{IsFirstOf}
use Rattle.covcheck.specs.Skipped.{AreAllThat, start_of}

abbrev pub Line : Type 0
Line = ℕ × List ℕ

-- `those` are all lines that the pass is to find, and `left` are those that it hasn't come to yet. If it has found a first line,
-- this is the first of `those`. If it has found none, all of `those` are left
abbrev pub IsFirstSoFar : Option SkippedLine → List Line → List Line → Type 0
IsFirstSoFar None left those = those ≡ left
IsFirstSoFar (Some first) left those = IsFirstOf those (Some first)

-- the pass has found `count` lines that aren't read. Together with those of the rest, these are all lines that aren't read, and
-- `first` is as in `IsFirstSoFar`
abbrev pub Passing : (Line → Type 0) → List Line → List Line → ℕ → Option SkippedLine → Type 0
Passing holds all rest count first =
    (left : List Line) → AreAllThat holds rest left
    → (those : List Line) × AreAllThat holds all those × (count + length left ≡ length those) × IsFirstSoFar first left those

pub passing_begins : (holds : Line → Type 0) (all : List Line) → Passing holds all all 0 None
passing_begins holds all left are = (left, are, omega arith, refl)

-- a line that is read is passed: nothing changes
pub passing_read : (holds : Line → Type 0) (all rest : List Line) (line : Line) (count : ℕ) (first : Option SkippedLine)
    → Passing holds all (line ∷ rest) count first → ¬ holds line → Passing holds all rest count first
passing_read holds all rest line count first passing is_read left are = passing left (inr (is_read, are))

-- when a line that isn't read is passed, the first one found stays; if there was none, this line is the first
first_stays : (line : Line) (left those : List Line) (first new : Option SkippedLine) → IsFirstSoFar first (line ∷ left) those
    → IfSome first (λ f. new ≡ Some f) → (first ≡ None → MatchOption new ⊥ (λ f. (f.at ≡ line.0) × (f.start.now ≡ start_of line.1)))
    → IsFirstSoFar new left those
first_stays line left those (Some f) new is stays begins = subst (λ (n : Option SkippedLine). IsFirstSoFar n left those) (sym stays) is
first_stays line left those None None is stays begins = absurd (begins refl)
first_stays line left those None (Some f) is stays begins = subst (λ (t : List Line). IsFirstOf t (Some f)) (sym is) (begins refl)

-- a line that isn't read is passed: the count is one more
pub passing_skipped : (holds : Line → Type 0) (all rest : List Line) (line : Line) (count : ℕ) (first new : Option SkippedLine)
    → Passing holds all (line ∷ rest) count first → holds line
    → IfSome first (λ f. new ≡ Some f) → (first ≡ None → MatchOption new ⊥ (λ f. (f.at ≡ line.0) × (f.start.now ≡ start_of line.1)))
    → Passing holds all rest (count + 1) new
passing_skipped holds all rest line count first new passing is_skipped stays begins left are =
    let p = passing (line ∷ left) (inl (is_skipped, left, refl, are)) in
    let n : count + 1 + length left ≡ length p.0 = omega (arith, p.2) in
    (p.0, p.1, n, first_stays line left p.0 first new p.3 stays begins)

first_at_end : (those : List Line) (first : Option SkippedLine) → IsFirstSoFar first [] those → IsFirstOf those first
first_at_end those None is = subst (λ (t : List Line). IsFirstOf t None) (sym is) tt
first_at_end those (Some f) is = is

-- after the last line, the count and the first line are those of all lines that aren't read
pub passing_ends : (holds : Line → Type 0) (all : List Line) (count : ℕ) (first : Option SkippedLine)
    → Passing holds all [] count first → (those : List Line) × AreAllThat holds all those × (count ≡ length those) × IsFirstOf those first
passing_ends holds all count first passing =
    let p = passing [] refl in
    let n : count ≡ length p.0 = omega (arith, p.2) in
    (p.0, p.1, n, first_at_end p.0 first p.3)
