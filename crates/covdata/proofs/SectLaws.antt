-- Steps of a walk over sections, seen as plain data: how many items there are so far, and the first unlawful text.
use Rattle.std.proofs.Common.{◌≡◌, ℕ, ◌+◌, ◌^◌, ◌<◌, ◌≤◌, List, [], ◌∷◌, ◌++◌, length, get_or, take, drop, map, sym, ap, subst, ◌∙◌, arith}
use Rattle.std.specs.Prelude.{All, ◌↔◌}
use Rattle.std.specs.List.{AllByRecursion}
use Rattle.std.proofs.lemmas.List.{get_or-map, length-map, length-take, take-append-drop, drop_more, take_all}
use Rattle.std.proofs.lemmas.List.Elements.{All-nil, All-cons, All-map, All-head, All-more, All-same, recursion_from_All}
use Rattle.std.proofs.lemmas.List.Sums.{sum_by_more, sum_by_more_le}
use Rattle.covdata.specs.declared.item.Item.{Item}
use Rattle.covdata.specs.declared.sect.Sect.{Sect}
use Rattle.covdata.specs.Row.{ItemData, SectData, SubmissionData, item_data, items_in}
use Rattle.covdata.specs.SectView.{sect_data}
use Rattle.covdata.specs.Lawful.{max_items, AllFit, IsGoodTest, IsGoodName, IsLawful, IsLawfulItem, IsLawfulSect, IsFirstUnlawful}
use Rattle.covdata.proofs.GoodTexts.{All-part}

-- the section that the code reads at this place
pub record IsAt {A : Type 0} (sects : List (Sect A)) (i : ℕ) (s : Sect A) : Type 0 where
  pub within : i < length sects
  pub is : s ≡ get_or sects i s

in_data : {A : Type 0} (sects : List (Sect A)) (i : ℕ) (s : Sect A) → IsAt sects i s → i < length (map sect_data sects)
in_data sects i s at = omega (arith, length-map sects sect_data, at.within)

data_at : {A : Type 0} (sects : List (Sect A)) (i : ℕ) (s : Sect A) → IsAt sects i s → (d : SectData) → get_or (map sect_data sects) i d ≡ sect_data s
data_at sects i s at d = get_or-map sect_data sects i s d at.within ∙ ap sect_data (sym at.is)

-- the sections up to this one have as many items as those before it and this one together
pub items_more : {A : Type 0} (sects : List (Sect A)) (i : ℕ) (s : Sect A) → IsAt sects i s → items_in (take (i + 1) (map sect_data sects)) ≡ items_in (take i (map sect_data sects)) + length s.items
items_more sects i s at =
    sum_by_more (λ d. length d.items) (map sect_data sects) i (sect_data s) (in_data sects i s at) ∙ ap (λ (d : SectData). items_in (take i (map sect_data sects)) + length d.items) (data_at sects i s at (sect_data s))

-- these are at most as many as the items of all sections
pub items_within : {A : Type 0} (sects : List (Sect A)) (i : ℕ) (s : Sect A) → IsAt sects i s → items_in (take i (map sect_data sects)) + length s.items ≤ items_in (map sect_data sects)
items_within sects i s at =
    omega (arith, sum_by_more_le (λ d. length d.items) (map sect_data sects) i (sect_data s) (in_data sects i s at), ap (λ (d : SectData). length d.items) (data_at sects i s at (sect_data s)))

-- if P holds of all sections before this one and of this one, it holds of all sections up to this one
pub All-one_more : {A : Type 0} (P : SectData → Type 0) (sects : List (Sect A)) (i : ℕ) (s : Sect A) → IsAt sects i s → All P (take i (map sect_data sects)) → P (sect_data s) → All P (take (i + 1) (map sect_data sects))
All-one_more P sects i s at so_far here =
    All-more P (map sect_data sects) i (sect_data s) (in_data sects i s at) so_far (subst P (sym (data_at sects i s at (sect_data s))) here)

pub All-all : (P : SectData → Type 0) (all : List SectData) (n : ℕ) → length all ≤ n → All P (take n all) → All P all
All-all P all n long taken = All-same P all (take n all) (sym (take_all n all long)) taken

pub All-taken : (P : SectData → Type 0) (all : List SectData) (n : ℕ) → length all ≤ n → All P (take n all) → AllByRecursion P all
All-taken P all n long taken = recursion_from_All P all (All-all P all n long taken)

pub unlawful_at : {A : Type 0} (sects : List (Sect A)) (i : ℕ) (s : Sect A) → IsAt sects i s → All IsLawfulSect (take i (map sect_data sects)) → ¬ IsLawfulSect (sect_data s) → IsFirstUnlawful (map sect_data sects) i
unlawful_at sects i s at so_far here =
    let all = map sect_data sects in
    let lt : i < length all = in_data sects i s at in
    let after : drop i all ≡ sect_data s ∷ drop (i + 1) all = drop_more all i (sect_data s) lt ∙ ap (λ (d : SectData). d ∷ drop (i + 1) all) (data_at sects i s at (sect_data s)) in
    (take i all, sect_data s, drop (i + 1) all, sym (take-append-drop i all) ∙ ap (λ (ds : List SectData). take i all ++ ds) after, omega (arith, length-take i all), so_far, here)

-- if there is a first unlawful section, the sections aren't all lawful
pub unlawful_among : (sects : List SectData) (k : ℕ) → IsFirstUnlawful sects k → ¬ All IsLawfulSect sects
unlawful_among sects k first all =
    let whole : All IsLawfulSect (first.0 ++ first.1 ∷ first.2) = All-same IsLawfulSect (first.0 ++ first.1 ∷ first.2) sects (sym first.3) all in
    first.6 (All-head IsLawfulSect first.1 first.2 (All-part IsLawfulSect first.0 (first.1 ∷ first.2) whole))

-- ---- texts of items

-- each of these items, which are those of the Rattle code, has lawful texts
abbrev pub HaveLawfulTexts : {A : Type 0} → List (Item A) → Type 0
HaveLawfulTexts items = All (λ item. IsLawfulItem (item_data item)) items

lawful_each : {A : Type 0} (items : List (Item A)) → AllByRecursion IsLawfulItem (map item_data items) → HaveLawfulTexts items
lawful_each [] lawful = All-nil (λ item. IsLawfulItem (item_data item))
lawful_each (item ∷ items) lawful = All-cons (λ i. IsLawfulItem (item_data i)) item items lawful.0 (lawful_each items lawful.1)

lawful_all : {A : Type 0} (items : List (Item A)) (seen : List ItemData) → map item_data items ≡ seen → HaveLawfulTexts items → AllByRecursion IsLawfulItem seen
lawful_all items seen e lawful = subst (AllByRecursion IsLawfulItem) e (recursion_from_All IsLawfulItem (map item_data items) (All-map IsLawfulItem item_data items lawful))

-- a section whose test and file have good names is lawful exactly if the texts of its items are
pub lawful_sect : {A : Type 0} (s : SectData) (test file : List ℕ) (items : List (Item A)) → test ≡ s.test → file ≡ s.file → map item_data items ≡ s.items → IsGoodTest test → IsGoodName file → HaveLawfulTexts items ↔ IsLawfulSect s
lawful_sect s test file items same_test same_file same_items good_test good_file = (
  λ lawful. record { test = subst IsGoodTest same_test good_test; file = subst IsGoodName same_file good_file; items = lawful_all items s.items same_items lawful },
  λ lawful. lawful_each items (subst (AllByRecursion IsLawfulItem) (sym same_items) lawful.items),
)

-- ---- submissions

abbrev pub submission : List SectData → ℕ → SubmissionData
submission sects odd = record { sects = sects; odd = odd }

-- sections that pass all checks make a lawful submission
pub lawful_from : (all sects : List SectData) (items odd : ℕ) → all ≡ sects → (items ≡ items_in all) × (items ≤ max_items) → AllByRecursion (λ s. AllFit s.items) all → All IsLawfulSect all → odd < 2 ^ 64 → IsLawful (submission sects odd) × (items ≡ items_in sects)
lawful_from all sects items odd e counted fit texts small =
    let few : items_in all ≤ max_items = omega arith in
    let whole : IsLawful (submission all odd) = record { few = few; texts = texts; fit = fit; odd_fits = small } in
    subst (λ (s : List SectData). IsLawful (submission s odd) × (items ≡ items_in s)) e (whole, counted.0)

pub unlawful_from : (all sects : List SectData) (k odd : ℕ) → all ≡ sects → IsFirstUnlawful all k → ¬ IsLawful (submission sects odd)
unlawful_from all sects k odd e first lawful = unlawful_among all k first (All-same IsLawfulSect all sects e lawful.texts)

pub too_many : (all sects : List SectData) (odd : ℕ) → all ≡ sects → max_items < items_in all → ¬ IsLawful (submission sects odd)
too_many all sects odd e many lawful =
    let few : items_in sects ≤ max_items = lawful.few in
    omega (arith, ap items_in e)

pub refused_from : (all sects : List SectData) (items k : ℕ) → all ≡ sects → (items ≡ items_in all) × (items ≤ max_items) → IsFirstUnlawful all k → (items_in sects ≤ max_items) × IsFirstUnlawful sects k
refused_from all sects items k e counted first =
    let few : items_in all ≤ max_items = omega arith in
    subst (λ (s : List SectData). (items_in s ≤ max_items) × IsFirstUnlawful s k) e (few, first)
