-- Parts of lawful texts one after another: their sections, and first records that are whole parts.
use Rattle.std.proofs.Common.{◌≡◌, ℕ, List, [], ◌∷◌, ◌++◌, refl, sym, ap, subst, ◌∙◌, append_assoc}
use Rattle.std.specs.List.{flat_map, AllByRecursion}
use Rattle.std.proofs.lemmas.List.{append_cancel_left}
use Rattle.std.proofs.lemmas.List.Concat.{flat_map-append}
use Rattle.covdata.specs.Row.{SectData}
use Rattle.covdata.specs.Records.{LineData, Path, End}
use Rattle.covread.specs.Reads as reads
use Rattle.covread.specs.Reads.{Part, Outside, Section, IsOutside, IsInside, IsLawfulPart, records_of, items_of, sects_from}
use Rattle.covread.proofs.AllOf.{all_back}
use Rattle.covread.proofs.TraceGrammar.{Between, parts_from, parts_from-part, parts_from-parts}
use Rattle.covpieces.specs.Pieces.{last_test}

-- the test's name after these parts
abbrev pub test_at : List ℕ → List Part → List ℕ
test_at test [] = test
test_at test (Outside says ∷ parts) = test_at (reads.test_after test says) parts
test_at test (Section path inside ∷ parts) = test_at test parts

pub sects-append : (test : List ℕ) (a b : List Part) → sects_from test (a ++ b) ≡ sects_from test a ++ sects_from (test_at test a) b
sects-append test [] b = refl
sects-append test (Outside says ∷ a) b = sects-append (reads.test_after test says) a b
sects-append test (Section path inside ∷ a) b =
    ap (λ (x : List SectData). record { test = test; file = path; items = items_of inside } ∷ x) (sects-append test a b)

-- ---- the last record

abbrev pub last_of : LineData → List LineData → LineData
last_of d [] = d
last_of d (x ∷ xs) = last_of x xs

pub last_of-append : (d : LineData) (a b : List LineData) → last_of d (a ++ b) ≡ last_of (last_of d a) b
last_of-append d [] b = refl
last_of-append d (x ∷ a) b = last_of-append x a b

outside_ends : (says : LineData) → IsOutside says → says ≡ End → ⊥
outside_ends says is e = subst IsOutside e is

inside_ends : (says : LineData) → IsInside says → says ≡ End → ⊥
inside_ends says is e = subst IsInside e is

-- the last record after those of a section
last_after_section : (d : LineData) (path : List ℕ) (inside more : List LineData) → last_of d (Path path ∷ (inside ++ End ∷ []) ++ more) ≡ last_of End more
last_after_section d path inside more =
    last_of-append (Path path) (inside ++ End ∷ []) more ∙ ap (λ (x : LineData). last_of x more) (last_of-append (Path path) inside (End ∷ []))

-- if the last record is the end of a section, the current test is the last section's
pub test_of_last : (parts : List Part) (d : LineData) (test other : List ℕ) → AllByRecursion IsLawfulPart parts → last_of d (flat_map records_of parts) ≡ End → (d ≡ End → test ≡ other)
    → test_at test parts ≡ last_test other (sects_from test parts)
test_of_last [] d test other lawful ends known = known ends
test_of_last (Outside says ∷ parts) d test other lawful ends known =
    test_of_last parts says (reads.test_after test says) other lawful.1 ends (λ e. absurd (outside_ends says lawful.0 e))
test_of_last (Section path inside ∷ parts) d test other lawful ends known =
    test_of_last parts End test test lawful.1 (sym (last_after_section d path inside (flat_map records_of parts)) ∙ ends) (λ e. refl)

-- ---- first records that end with the end of a section

-- what follows a section's inner records and its end
record AfterInside (inside front back more : List LineData) : Type 0 where
  pub rest : List LineData
  pub front_is : front ≡ (inside ++ End ∷ []) ++ rest
  pub more_is : more ≡ rest ++ back
  pub ends : last_of End rest ≡ End

after_inside : (inside front back more : List LineData) (d : LineData) → (d ≡ End → ⊥) → AllByRecursion IsInside inside → (inside ++ End ∷ []) ++ more ≡ front ++ back → last_of d front ≡ End
    → AfterInside inside front back more
after_inside inside [] back more d not lawful e ends = absurd (not ends)
after_inside [] (y ∷ front) back more d not lawful e ends =
    let first : End ≡ y = cc in
    let others : more ≡ front ++ back = cc in
    record {
      rest = front;
      front_is = ap (λ (x : LineData). x ∷ front) (sym first);
      more_is = others;
      ends = ap (λ (x : LineData). last_of x front) first ∙ ends;
    }
after_inside (i ∷ inside) (y ∷ front) back more d not lawful e ends =
    let first : i ≡ y = cc in
    let others : (inside ++ End ∷ []) ++ more ≡ front ++ back = cc in
    let k = after_inside inside front back more y (λ same. inside_ends i lawful.0 (first ∙ same)) lawful.1 others ends in
    record {
      rest = k.rest;
      front_is = ap (λ (x : LineData). x ∷ front) (sym first) ∙ ap (λ (x : List LineData). i ∷ x) k.front_is;
      more_is = k.more_is;
      ends = k.ends;
    }

-- the records are those of whole lawful parts
pub record AreWhole (records : List LineData) : Type 0 where
  pub parts : List Part
  pub lawful : AllByRecursion IsLawfulPart parts
  pub same : flat_map records_of parts ≡ records

path_isnt_end : (path : List ℕ) → Path path ≡ End → ⊥
path_isnt_end path e = cc

whole_section : (path : List ℕ) (inside front rest : List LineData) (x : LineData) (parts : List Part) → Path path ≡ x → front ≡ (inside ++ End ∷ []) ++ rest → flat_map records_of parts ≡ rest
    → flat_map records_of (Section path inside ∷ parts) ≡ x ∷ front
whole_section path inside front rest x parts first front_is same =
    ap (λ (y : List LineData). Path path ∷ (inside ++ End ∷ []) ++ y) same
    ∙ ap (λ (y : List LineData). Path path ∷ y) (sym front_is) ∙ ap (λ (y : LineData). y ∷ front) first

-- if first records of a lawful text end with the end of a section, they are whole parts
pub whole_parts : (all : List Part) (front back : List LineData) (d : LineData) → AllByRecursion IsLawfulPart all → flat_map records_of all ≡ front ++ back → last_of d front ≡ End → AreWhole front
whole_parts all [] back d lawful e ends = record { parts = []; lawful = tt; same = refl }
whole_parts [] (x ∷ front) back d lawful e ends = absurd cc
whole_parts (Outside says ∷ all) (x ∷ front) back d lawful e ends =
    let first : says ≡ x = cc in
    let others : flat_map records_of all ≡ front ++ back = cc in
    let k = whole_parts all front back x lawful.1 others ends in
    record {
      parts = Outside says ∷ k.parts;
      lawful = (lawful.0, k.lawful);
      same = ap (λ (y : List LineData). says ∷ y) k.same ∙ ap (λ (y : LineData). y ∷ front) first;
    }
whole_parts (Section path inside ∷ all) (x ∷ front) back d lawful e ends =
    let first : Path path ≡ x = cc in
    let others : (inside ++ End ∷ []) ++ flat_map records_of all ≡ front ++ back = cc in
    let k = after_inside inside front back (flat_map records_of all) x (λ same. path_isnt_end path (first ∙ same)) lawful.0 others ends in
    let m = whole_parts all k.rest back End lawful.1 k.more_is k.ends in
    record {
      parts = Section path inside ∷ m.parts;
      lawful = (lawful.0, m.lawful);
      same = whole_section path inside front k.rest x m.parts first k.front_is m.same;
    }

-- ---- the parts after some whole ones

parts_from-front : (parts : List Part) (more : List LineData) → AllByRecursion IsLawfulPart parts → parts_from Between (flat_map records_of parts ++ more) ≡ parts ++ parts_from Between more
parts_from-front [] more lawful = refl
parts_from-front (part ∷ parts) more lawful =
    ap (parts_from Between) (append_assoc (records_of part) (flat_map records_of parts) more)
    ∙ parts_from-part part (flat_map records_of parts ++ more) lawful.0 ∙ ap (λ (x : List Part). part ∷ x) (parts_from-front parts more lawful.1)

pub record AreLater (front all : List Part) (back : List LineData) : Type 0 where
  pub parts : List Part
  pub whole : all ≡ front ++ parts
  pub lawful : AllByRecursion IsLawfulPart parts
  pub same : flat_map records_of parts ≡ back

-- if the records of a lawful text begin with those of lawful parts, its other records are those of its other parts
pub later_parts : (front all : List Part) (back : List LineData) → AllByRecursion IsLawfulPart front → AllByRecursion IsLawfulPart all → flat_map records_of all ≡ flat_map records_of front ++ back
    → AreLater front all back
later_parts front all back front_lawful lawful e =
    let whole : all ≡ front ++ parts_from Between back = sym (parts_from-parts all lawful) ∙ ap (parts_from Between) e ∙ parts_from-front front back front_lawful in
    let records : flat_map records_of front ++ flat_map records_of (parts_from Between back) ≡ flat_map records_of front ++ back =
    sym (flat_map-append records_of front (parts_from Between back)) ∙ ap (λ (x : List Part). flat_map records_of x) (sym whole) ∙ e in
    record {
      parts = parts_from Between back;
      whole = whole;
      lawful = all_back IsLawfulPart front (parts_from Between back) (subst (λ (x : List Part). AllByRecursion IsLawfulPart x) whole lawful);
      same = append_cancel_left (flat_map records_of front) (flat_map records_of (parts_from Between back)) back records;
    }
