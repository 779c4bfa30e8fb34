-- Which words a list of patterns refuses.
use Rattle.std.proofs.Common.{◌≡◌, ℕ, zero, suc, ◌<◌, ◌≤◌, List, [], ◌∷◌, length, get_or, take, map, Result, Err, refl, ap, sym, ◌∙◌, subst, arith}
use Rattle.std.proofs.lemmas.List.{length-map, length-take-le}
use Rattle.std.specs.List.{AllByRecursion}
use Rattle.covreport.specs.Choice.{max_patterns, max_pattern_bytes}
use Rattle.covreport.specs.declared.patterns.PatternFault.{PatternFault}
use Rattle.covreport.specs.declared.patterns.PatternFault.TheVariants as patterns
use Rattle.covrun.specs.Work.{ArePatterns, IsShort}
use Rattle.covrun.specs.WorkFault.{IsPatternRefusal, of_pattern}

map_take : {X Y : Type 0} (f : X → Y) (i : ℕ) (xs : List X) → map f (take i xs) ≡ take i (map f xs)
map_take f zero [] = refl
map_take f zero (x ∷ xs) = refl
map_take f (suc i) [] = refl
map_take {X} {Y} f (suc i) (x ∷ xs) = ap (λ (ys : List Y). f x ∷ ys) (map_take f i xs)

-- if the first `most` words are short, each of them is
short_at : {X : Type 0} (name : X → List ℕ) (words : List X) (most i : ℕ) (default : X) → i < most → i < length words
    → AllByRecursion IsShort (take most (map name words)) → IsShort (name (get_or words i default))
short_at name [] most i default few within all = absurd (omega (arith, within))
short_at name (word ∷ words) zero i default few within all = absurd (omega (arith, few))
short_at name (word ∷ words) (suc most) zero default few within all = all.0
short_at name (word ∷ words) (suc most) (suc i) default few within all = short_at name words most i default (omega (arith, few)) (omega (arith, within)) all.1

-- if the words before this one fill the list, the words are too many, and those that fit are short
full_at : {X : Type 0} (name : X → List ℕ) (words : List X) (most i : ℕ) → i < length words → (held : List (List ℕ)) → held ≡ map name (take i words)
    → length held ≡ most → AllByRecursion IsShort held
    → (most < length (map name words)) × AllByRecursion IsShort (take most (map name words))
full_at {X} name words most i within held are full all =
    let long : length held ≡ i = ap length are ∙ length-map (take i words) name ∙ length-take-le i words (omega (arith, within)) in
    let same : most ≡ i = sym full ∙ long in
    let firsts : held ≡ take most (map name words) = are ∙ map_take name i words ∙ ap (λ (n : ℕ). take n (map name words)) (sym same) in
    (omega (arith, same, within, length-map words name), subst (λ (xs : List (List ℕ)). AllByRecursion IsShort xs) firsts all)

too_long : (long length_of most : ℕ) → long ≡ length_of → length_of ≤ most → most < long → ⊥
too_long long length_of most same short many = omega (arith, same, short, many)

held_long : {X : Type 0} (name : X → List ℕ) (words : List X) (i : ℕ) → i < length words → (held : List (List ℕ)) → held ≡ map name (take i words) → length held ≡ i
held_long name words i within held are = ap length are ∙ length-map (take i words) name ∙ length-take-le i words (omega (arith, within))

-- if the list refuses this word, the words are refused with the same fault
pub refused_at : {X : Type 0} (name : X → List ℕ) (words : List X) (i : ℕ) (default : X) → i < length words
    → (held : List (List ℕ)) → held ≡ map name (take i words) → ArePatterns held
    → (word : List ℕ) → word ≡ name (get_or words i default)
    → (fault : PatternFault) (answer : Result (Unit {0}) PatternFault) → answer ≡ Err fault
    → (answer ≡ Err patterns.TooMany → length held ≡ max_patterns)
    → (answer ≡ Err patterns.TooLong → (length held < max_patterns) × (max_pattern_bytes < length word))
    → IsPatternRefusal (map name words) (of_pattern fault)
refused_at name words i default within held are taken word is patterns.TooMany answer told many long =
    full_at name words max_patterns i within held are (many told) taken.1
refused_at name words i default within held are taken word is patterns.TooLong answer told many long =
    let here = held_long name words i within held are in
    λ all. too_long (length word) (length (name (get_or words i default))) max_pattern_bytes (ap length is)
    (short_at name words max_patterns i default (subst (λ (n : ℕ). n < max_patterns) here (long told).0) within all) (long told).1
refused_at name words i default within held are taken word is patterns.Memory answer told many long = tt
