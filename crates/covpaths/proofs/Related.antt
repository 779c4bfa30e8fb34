-- The path that the rules give is the relation `IsMapped`.
use Rattle.std.proofs.Common.{◌≡◌, ◌⊎◌, inl, inr, ⊎_elim, ℕ, suc, ◌<◌, Bool, true, false, ◌||◌, eqb, List, [], ◌∷◌, ◌++◌, length, Option, None, Some, refl, sym, ap, ◌∙◌, subst, arith}
use Rattle.std.specs.Prelude.{◌↔◌}
use Rattle.std.specs.Option.{option_map_or}
use Rattle.std.proofs.lemmas.Bool.{cond-true, false≢true}
use Rattle.std.proofs.lemmas.Bool.Decides.{nat_tests}
use Rattle.covpaths.specs.Paths.{MappedData, RuleData, ends_at_slash, is_apart, mapped_by, mapped_from, mapped_or, mapped_path, path_if_any, path_of, rest_after, rest_if_apart, rest_under}
use Rattle.covpaths.specs.Relation.{Applies, IsMapped}
use Rattle.covpaths.proofs.GoodPaths.{under_parts}

-- ---- slashes

abbrev AtSlash : (old rest : List ℕ) → Type 0
AtSlash old rest = (rest ≡ []) ⊎ (((more : List ℕ) × (rest ≡ 47 ∷ more)) ⊎ ((more : List ℕ) × (old ≡ more ++ 47 ∷ [])))

same_byte : (b : ℕ) → eqb b b ≡ true
same_byte b = grind (arith, nat_tests)

ends_so : (more : List ℕ) → ends_at_slash (more ++ 47 ∷ []) ≡ true
ends_so [] = refl
ends_so (a ∷ []) = refl
ends_so (a ∷ b ∷ more) = ends_so (b ∷ more)

or_right : (s t : Bool) → t ≡ true → (s || t) ≡ true
or_right true t e = refl
or_right false t e = e

is_at_slash : (old rest : List ℕ) → AtSlash old rest → (is_apart rest || ends_at_slash old) ≡ true
is_at_slash old rest at = ⊎_elim
    (λ e. ap (λ (r : List ℕ). is_apart r || ends_at_slash old) e)
    (λ other. ⊎_elim
    (λ e. ap (λ (r : List ℕ). is_apart r || ends_at_slash old) e.1)
    (λ e. or_right (is_apart rest) (ends_at_slash old) (ap ends_at_slash e.1 ∙ ends_so e.0)) other) at

ends_with_slash : (old : List ℕ) → ends_at_slash old ≡ true → (more : List ℕ) × (old ≡ more ++ 47 ∷ [])
ends_with_slash [] e = absurd (false≢true e)
ends_with_slash (b ∷ []) e = let same : b ≡ 47 = grind (arith, nat_tests) in ([], ap (λ (x : ℕ). x ∷ []) same)
ends_with_slash (a ∷ b ∷ old) e = let rest = ends_with_slash (b ∷ old) e in (a ∷ rest.0, ap (λ (t : List ℕ). a ∷ t) rest.1)

at_slash : (old rest : List ℕ) → (is_apart rest || ends_at_slash old) ≡ true → AtSlash old rest
at_slash old [] e = inl refl
at_slash old (b ∷ rest) e = by (eqb b 47) refl
  where
    by : (r : Bool) → eqb b 47 ≡ r → AtSlash old (b ∷ rest)
    by true is = let same : b ≡ 47 = grind (arith, nat_tests) in inr (inl (rest, ap (λ (x : ℕ). x ∷ rest) same))
    by false is = inr (inr (ends_with_slash old (sym (ap (λ (t : Bool). t || ends_at_slash old) is) ∙ e)))

-- ---- one rule

rest_of_joined : (old rest : List ℕ) → rest_after old (old ++ rest) ≡ Some rest
rest_of_joined [] rest = refl
rest_of_joined (a ∷ old) rest = cond-true (eqb a a) (rest_after old (old ++ rest)) None (same_byte a) ∙ rest_of_joined old rest

path_is : (text mapped : List ℕ) → mapped ≡ text → 0 < length mapped → path_of text ≡ Some mapped
path_is [] mapped e some = absurd (omega (arith, some, ap (λ (t : List ℕ). length t) e))
path_is (b ∷ bytes) mapped e some = ap (λ (t : List ℕ). Some t) (sym e)

applies_so : (rule : RuleData) (path mapped : List ℕ) → Applies rule path mapped → mapped_by rule path ≡ Some mapped
applies_so rule path mapped a =
    ap (λ (p : List ℕ). path_if_any rule.new (rest_under rule.old p)) a.front
    ∙ ap (λ (o : Option (List ℕ)). path_if_any rule.new (rest_if_apart rule.old o)) (rest_of_joined rule.old a.rest)
    ∙ ap (path_if_any rule.new) (cond-true (is_apart a.rest || ends_at_slash rule.old) (Some a.rest) None (is_at_slash rule.old a.rest a.at_slash))
    ∙ path_is (rule.new ++ a.rest) mapped a.is a.some

so_applies : (rule : RuleData) (path mapped : List ℕ) → mapped_by rule path ≡ Some mapped → Applies rule path mapped
so_applies rule path mapped e = of (rest_under rule.old path) refl e
  where
    text : (t rest : List ℕ) → t ≡ rule.new ++ rest → path_of t ≡ Some mapped → (mapped ≡ rule.new ++ rest) × (0 < length mapped)
    text [] rest is found = absurd cc
    text (b ∷ bytes) rest is found = let same : b ∷ bytes ≡ mapped = cc in (sym same ∙ is, subst (λ (t : List ℕ). 0 < length t) same (omega arith))

    of : (o : Option (List ℕ)) → rest_under rule.old path ≡ o → path_if_any rule.new o ≡ Some mapped → Applies rule path mapped
    of None is found = absurd cc
    of (Some rest) is found =
        let parts = under_parts rule.old path rest is in
        let both = text (rule.new ++ rest) rest refl found in
        record { rest = rest; front = parts.0; at_slash = at_slash rule.old rest parts.1; is = both.0; some = both.1 }

-- ---- all rules

abbrev given : (place : ℕ) → List RuleData → (path : List ℕ) → List ℕ
given place rules path = option_map_or (λ (m : MappedData). m.path) (mapped_from place rules path) path

from_relation : (place : ℕ) (rules : List RuleData) (path mapped : List ℕ) → IsMapped rules path mapped → mapped ≡ given place rules path
from_relation place [] path mapped is = is
from_relation place (rule ∷ rules) path mapped is = ⊎_elim
    (λ a. sym (ap (λ (o : Option (List ℕ)). option_map_or (λ (m : MappedData). m.path) (mapped_or o place (mapped_from (suc place) rules path)) path) (applies_so rule path mapped a)))
    (λ other. of (mapped_by rule path) refl other.0 (from_relation (suc place) rules path mapped other.1)) is
  where
    of : (o : Option (List ℕ)) → mapped_by rule path ≡ o → ((other : List ℕ) → Applies rule path other → ⊥) → mapped ≡ given (suc place) rules path
        → mapped ≡ option_map_or (λ (m : MappedData). m.path) (mapped_or (mapped_by rule path) place (mapped_from (suc place) rules path)) path
    of None e none later = later ∙ sym (ap (λ (o : Option (List ℕ)). option_map_or (λ (m : MappedData). m.path) (mapped_or o place (mapped_from (suc place) rules path)) path) e)
    of (Some other) e none later = absurd (none other (so_applies rule path other e))

to_relation : (place : ℕ) (rules : List RuleData) (path : List ℕ) → IsMapped rules path (given place rules path)
to_relation place [] path = refl
to_relation place (rule ∷ rules) path = of (mapped_by rule path) refl (to_relation (suc place) rules path)
  where
    of : (o : Option (List ℕ)) → mapped_by rule path ≡ o → IsMapped rules path (given (suc place) rules path)
        → IsMapped (rule ∷ rules) path (option_map_or (λ (m : MappedData). m.path) (mapped_or (mapped_by rule path) place (mapped_from (suc place) rules path)) path)
    of None e later = subst (IsMapped (rule ∷ rules) path) (sym (ap (λ (o : Option (List ℕ)). option_map_or (λ (m : MappedData). m.path) (mapped_or o place (mapped_from (suc place) rules path)) path) e))
        (inr ((λ other a. let none : None ≡ Some other = sym e ∙ applies_so rule path other a in absurd cc), later))
    of (Some mapped) e later = subst (IsMapped (rule ∷ rules) path) (sym (ap (λ (o : Option (List ℕ)). option_map_or (λ (m : MappedData). m.path) (mapped_or o place (mapped_from (suc place) rules path)) path) e))
        (inl (so_applies rule path mapped e))

pub related : (rules : List RuleData) (path mapped : List ℕ) → IsMapped rules path mapped ↔ (mapped ≡ mapped_path rules path)
related rules path mapped = (from_relation 0 rules path mapped, λ is. subst (IsMapped rules path) (sym is) (to_relation 0 rules path))
