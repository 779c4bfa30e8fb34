-- Rules keep paths lawful, and so new names keep submissions lawful.
use Rattle.std.proofs.Common.{◌≡◌, ℕ, suc, ◌+◌, ◌≤◌, Bool, true, false, ◌||◌, eqb, List, [], ◌∷◌, ◌++◌, length, map, Option, None, Some, refl, sym, ap, ◌∙◌, subst, arith}
use Rattle.std.specs.Prelude.{unwrap_or}
use Rattle.std.specs.List.{AllByRecursion}
use Rattle.std.specs.Option.{option_map_or}
use Rattle.std.proofs.lemmas.Bool.{cond-true, cond-false}
use Rattle.std.proofs.lemmas.Bool.Decides.{nat_tests}
use Rattle.std.proofs.lemmas.List.Elements.{All-map, All-weaker}
use Rattle.std.proofs.lemmas.List.Sums.{sum_by-cons}
use Rattle.covdata.proofs.GoodTexts.{IsGoodTest-after, IsGoodTest-append}
use Rattle.covdata.specs.Lawful.{AllFit, IsGoodName, IsGoodTest, IsLawful, IsLawfulSect, max_items}
use Rattle.covdata.specs.Row.{SectData, SubmissionData, items_in}
use Rattle.covpaths.specs.Names.{AreGoodNames, IsGoodTestIfAny, NamesData, named, named_sect}
use Rattle.covpaths.specs.Paths.{IsGoodRule, MappedData, RuleData, ends_at_slash, is_apart, mapped_by, mapped_from, mapped_or, path_if_any, path_of, rest_after, rest_if_apart, rest_under}

-- ---- what follows a beginning

rest_is : (old path rest : List ℕ) → rest_after old path ≡ Some rest → path ≡ old ++ rest
rest_is [] path rest e = cc
rest_is (a ∷ old) [] rest e = absurd cc
rest_is (a ∷ old) (b ∷ path) rest e = by (eqb a b) refl (rest_is old path rest)
  where
    by : (r : Bool) → eqb a b ≡ r → (rest_after old path ≡ Some rest → path ≡ old ++ rest) → b ∷ path ≡ a ∷ old ++ rest
    by true is more =
        let same : a ≡ b = grind (arith, nat_tests) in
        ap (λ (t : List ℕ). b ∷ t) (more (sym (cond-true (eqb a b) (rest_after old path) None is) ∙ e))
        ∙ ap (λ (x : ℕ). x ∷ (old ++ rest)) (sym same)
    by false is more = let none : None ≡ Some rest = sym (cond-false (eqb a b) (rest_after old path) None is) ∙ e in absurd cc

-- what follows is apart from what stands before it
pub under_parts : (old path rest : List ℕ) → rest_under old path ≡ Some rest → (path ≡ old ++ rest) × ((is_apart rest || ends_at_slash old) ≡ true)
under_parts old path rest e = of (rest_after old path) refl e
  where
    apart : (r : List ℕ) (b : Bool) → (is_apart r || ends_at_slash old) ≡ b → rest_if_apart old (Some r) ≡ Some rest → (r ≡ rest) × ((is_apart r || ends_at_slash old) ≡ true)
    apart r true is found = let both : Some r ≡ Some rest = sym (cond-true (is_apart r || ends_at_slash old) (Some r) None is) ∙ found in (cc, is)
    apart r false is found = let none : None ≡ Some rest = sym (cond-false (is_apart r || ends_at_slash old) (Some r) None is) ∙ found in absurd cc

    of : (o : Option (List ℕ)) → rest_after old path ≡ o → rest_if_apart old o ≡ Some rest → (path ≡ old ++ rest) × ((is_apart rest || ends_at_slash old) ≡ true)
    of None is found = absurd cc
    of (Some r) is found =
        let parts = apart r (is_apart r || ends_at_slash old) refl found in
        (rest_is old path rest (is ∙ ap Some parts.0), subst (λ (t : List ℕ). (is_apart t || ends_at_slash old) ≡ true) parts.0 parts.1)

-- ---- paths

path_good : (text mapped : List ℕ) → IsGoodTest text → path_of text ≡ Some mapped → IsGoodName mapped
path_good [] mapped good e = absurd cc
path_good (b ∷ bytes) mapped good e =
    let same : b ∷ bytes ≡ mapped = cc in
    subst IsGoodName same (record { fits = good; some = omega arith })

mapped_good : (rule : RuleData) (path mapped : List ℕ) → IsGoodRule rule → IsGoodTest path → mapped_by rule path ≡ Some mapped → IsGoodName mapped
mapped_good rule path mapped good fits e = of (rest_under rule.old path) refl e
  where
    of : (o : Option (List ℕ)) → rest_under rule.old path ≡ o → path_if_any rule.new o ≡ Some mapped → IsGoodName mapped
    of None is found = absurd cc
    of (Some rest) is found =
        path_good (rule.new ++ rest) mapped
        (IsGoodTest-append rule.new rest good.fits (IsGoodTest-after rule.old rest (subst IsGoodTest (under_parts rule.old path rest is).0 fits))) found

pub from_good : (place : ℕ) (rules : List RuleData) (path : List ℕ) → AllByRecursion IsGoodRule rules → IsGoodName path
    → IsGoodName (option_map_or (λ (m : MappedData). m.path) (mapped_from place rules path) path)
from_good place [] path good name = name
from_good place (rule ∷ rules) path (good, more) name = of (mapped_by rule path) refl (from_good (suc place) rules path more name)
  where
    of : (o : Option (List ℕ)) → mapped_by rule path ≡ o → IsGoodName (option_map_or (λ (m : MappedData). m.path) (mapped_from (suc place) rules path) path)
        → IsGoodName (option_map_or (λ (m : MappedData). m.path) (mapped_or o place (mapped_from (suc place) rules path)) path)
    of None is later = later
    of (Some mapped) is later = mapped_good rule path mapped good name.fits is

-- ---- submissions

test_good : (new : Option (List ℕ)) (test : List ℕ) → IsGoodTestIfAny new → IsGoodTest test → IsGoodTest (unwrap_or new test)
test_good None test good own = own
test_good (Some name) test good own = good

items_named : (names : NamesData) (sects : List SectData) → items_in (map (named_sect names) sects) ≡ items_in sects
items_named names [] = refl
items_named names (s ∷ sects) =
    sum_by-cons (λ (sect : SectData). length sect.items) (named_sect names s) (map (named_sect names) sects)
    ∙ ap (λ (n : ℕ). length s.items + n) (items_named names sects)
    ∙ sym (sum_by-cons (λ (sect : SectData). length sect.items) s sects)

fit_named : (names : NamesData) (sects : List SectData) → AllByRecursion (λ (sect : SectData). AllFit sect.items) sects
    → AllByRecursion (λ (sect : SectData). AllFit sect.items) (map (named_sect names) sects)
fit_named names [] fit = fit
fit_named names (s ∷ sects) (fit, more) = (fit, fit_named names sects more)

sect_good : (names : NamesData) → AreGoodNames names → (s : SectData) → IsLawfulSect s → IsLawfulSect (named_sect names s)
sect_good names good s lawful = record {
  test = test_good names.test s.test good.test lawful.test;
  file = from_good 0 names.rules s.file good.rules lawful.file;
  items = lawful.items;
}

pub named_lawful : (names : NamesData) (s : SubmissionData) → AreGoodNames names → IsLawful s → IsLawful (named names s)
named_lawful names s good lawful = record {
  few = subst (λ (n : ℕ). n ≤ max_items) (sym (items_named names s.sects)) lawful.few;
  texts = All-map IsLawfulSect (named_sect names) s.sects
      (All-weaker IsLawfulSect (λ (sect : SectData). IsLawfulSect (named_sect names sect)) (sect_good names good) s.sects lawful.texts);
  fit = fit_named names s.sects lawful.fit;
  odd_fits = lawful.odd_fits;
}
