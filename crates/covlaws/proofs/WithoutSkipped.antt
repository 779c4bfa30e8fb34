-- Records without the skipped ones: LCOV 2 has no record of a skipped line. They say the same.
use Rattle.std.proofs.Common.{◌≡◌, ℕ, ◌⊎◌, inl, inr, Bool, cond, List, [], ◌∷◌, ◌++◌, refl, sym, ap, ◌∙◌, arith}
use Rattle.std.specs.Prelude.{◌==◌, not, is_none, count_by}
use Rattle.std.specs.List.{flat_map, sum_by, AllByRecursion}
use Rattle.std.proofs.lemmas.List.Concat.{flat_map-append}
use Rattle.std.proofs.lemmas.List.Sums.{sum_by-cons}
use Rattle.covdata.specs.Points.{least}
use Rattle.covdata.specs.Records.{LineData, Test, Path, FuncCount, Total, End, Skip}
use Rattle.covdata.specs.Row.{ItemData, SectData}
use Rattle.covread.specs.Reads.{Part, Outside, Section, IsInside, IsLawfulPart, records_of, start_said, start_in, counted, items_said, items_of, own_total, is_odd, odd_in, test_after, sects_from}
use Rattle.covread.proofs.TraceGrammar.{Place, Between, Within, Accepts, accepts_open}

-- the record, unless it is that of a skipped line
abbrev pub unless_skipped : LineData → List LineData
unless_skipped Skip = []
unless_skipped says = says ∷ []

abbrev pub without_skipped : List LineData → List LineData
without_skipped records = flat_map unless_skipped records

-- ---- what they say in a section

module _ {B : Type 0} where
  flat_without : (f : LineData → List B) → f Skip ≡ [] → (records : List LineData) → flat_map f (without_skipped records) ≡ flat_map f records
  flat_without f none [] = refl
  flat_without f none (Skip ∷ records) = flat_without f none records ∙ ap (λ (x : List B). x ++ flat_map f records) (sym none)
  flat_without f none (says ∷ records) = ap (λ (x : List B). f says ++ x) (flat_without f none records)

  flat_same : (f g : LineData → List B) → ((says : LineData) → f says ≡ g says) → (records : List LineData) → flat_map f records ≡ flat_map g records
  flat_same f g same [] = refl
  flat_same f g same (says ∷ records) = ap (λ (x : List B). x ++ flat_map f records) (same says) ∙ ap (λ (x : List B). g says ++ x) (flat_same f g same records)

sum_without : (f : LineData → ℕ) → f Skip ≡ 0 → (records : List LineData) → sum_by f (without_skipped records) ≡ sum_by f records
sum_without f none [] = refl
sum_without f none (Skip ∷ records) = omega (arith, none, sum_without f none records, sum_by-cons f Skip records)
sum_without f none (says ∷ records) = omega (arith, sum_without f none records, sum_by-cons f says (without_skipped records), sum_by-cons f says records)

sum_same : (f g : LineData → ℕ) → ((says : LineData) → f says ≡ g says) → (records : List LineData) → sum_by f records ≡ sum_by g records
sum_same f g same [] = refl
sum_same f g same (says ∷ records) = omega (arith, same says, sum_same f g same records, sum_by-cons f says records, sum_by-cons g says records)

start_without : (name : List ℕ) (inside : List LineData) → start_in name (without_skipped inside) ≡ start_in name inside
start_without name inside = ap least (flat_without (start_said name) refl inside)

said_without : (inside : List LineData) (says : LineData) → items_said (without_skipped inside) says ≡ items_said inside says
said_without inside (FuncCount count name) = ap (counted name count) (start_without name inside)
said_without inside says = refl

items_without : (inside : List LineData) → items_of (without_skipped inside) ≡ items_of inside
items_without inside =
    flat_without (items_said (without_skipped inside)) refl inside
    ∙ flat_same (items_said (without_skipped inside)) (items_said inside) (said_without inside) inside

odd_alike : (inside : List LineData) (says : LineData) → is_odd (without_skipped inside) says ≡ is_odd inside says
odd_alike inside (FuncCount count name) = ap is_none (start_without name inside)
odd_alike inside (Total kind value) = ap (λ (items : List ItemData). not (value == own_total kind items)) (items_without inside)
odd_alike inside says = refl

abbrev one_if : Bool → ℕ
one_if b = cond b 1 0

odd_without : (inside : List LineData) → count_by (is_odd (without_skipped inside)) (without_skipped inside) ≡ count_by (is_odd inside) inside
odd_without inside =
    sum_without (λ says. one_if (is_odd (without_skipped inside) says)) refl inside
    ∙ sum_same (λ says. one_if (is_odd (without_skipped inside) says)) (λ says. one_if (is_odd inside says)) (λ says. ap one_if (odd_alike inside says)) inside

-- ---- parts

abbrev pub parts_without : List Part → List Part
parts_without [] = []
parts_without (Outside Skip ∷ parts) = parts_without parts
parts_without (Outside says ∷ parts) = Outside says ∷ parts_without parts
parts_without (Section path inside ∷ parts) = Section path (without_skipped inside) ∷ parts_without parts

inside_without : (inside : List LineData) → AllByRecursion IsInside inside → AllByRecursion IsInside (without_skipped inside)
inside_without [] h = tt
inside_without (Skip ∷ inside) h = inside_without inside h.1
inside_without (says ∷ inside) h = (h.0, inside_without inside h.1)

pub lawful_without : (parts : List Part) → AllByRecursion IsLawfulPart parts → AllByRecursion IsLawfulPart (parts_without parts)
lawful_without [] h = tt
lawful_without (Outside Skip ∷ parts) h = lawful_without parts h.1
lawful_without (Outside says ∷ parts) h = (h.0, lawful_without parts h.1)
lawful_without (Section path inside ∷ parts) h = (inside_without inside h.0, lawful_without parts h.1)

pub append_without : (front back : List LineData) → without_skipped (front ++ back) ≡ without_skipped front ++ without_skipped back
append_without front back = flat_map-append unless_skipped front back

pub records_without : (parts : List Part) → flat_map records_of (parts_without parts) ≡ without_skipped (flat_map records_of parts)
records_without [] = refl
records_without (Outside Skip ∷ parts) = records_without parts
records_without (Outside says ∷ parts) = ap (λ (x : List LineData). says ∷ x) (records_without parts)
records_without (Section path inside ∷ parts) =
    let all = flat_map records_of parts in
    ap (λ (x : List LineData). Path path ∷ ((without_skipped inside ++ End ∷ []) ++ x)) (records_without parts)
    ∙ ap (λ (x : List LineData). Path path ∷ (x ++ without_skipped all)) (sym (append_without inside (End ∷ [])))
    ∙ ap (λ (x : List LineData). Path path ∷ x) (sym (append_without (inside ++ End ∷ []) all))

pub sects_without : (test : List ℕ) (parts : List Part) → sects_from test (parts_without parts) ≡ sects_from test parts
sects_without test [] = refl
sects_without test (Outside Skip ∷ parts) = sects_without test parts
sects_without test (Outside says ∷ parts) = sects_without (test_after test says) parts
sects_without test (Section path inside ∷ parts) =
    ap (λ (items : List ItemData). record { test = test; file = path; items = items } ∷ sects_from test (parts_without parts)) (items_without inside)
    ∙ ap (λ (sects : List SectData). record { test = test; file = path; items = items_of inside } ∷ sects) (sects_without test parts)

pub odd_parts_without : (parts : List Part) → sum_by odd_in (parts_without parts) ≡ sum_by odd_in parts
odd_parts_without [] = refl
odd_parts_without (Outside Skip ∷ parts) =
    let none : odd_in (Outside Skip) ≡ 0 = refl in
    omega (arith, none, odd_parts_without parts, sum_by-cons odd_in (Outside Skip) parts)
odd_parts_without (Outside says ∷ parts) =
    omega (arith, odd_parts_without parts, sum_by-cons odd_in (Outside says) (parts_without parts), sum_by-cons odd_in (Outside says) parts)
odd_parts_without (Section path inside ∷ parts) =
    let here : odd_in (Section path (without_skipped inside)) ≡ odd_in (Section path inside) = odd_without inside in
    omega (arith, here, odd_parts_without parts, sum_by-cons odd_in (Section path (without_skipped inside)) (parts_without parts), sum_by-cons odd_in (Section path inside) parts)

-- ---- where they may be

pub accepts_with : (place : Place) (records : List LineData) → Accepts place (without_skipped records) → Accepts place records
accepts_with Between [] h = tt
accepts_with Between (Test name ∷ more) h = accepts_with Between more h
accepts_with Between (Path path ∷ more) h = accepts_with (Within path []) more h
accepts_with Between (Skip ∷ more) h = accepts_with Between more h
accepts_with Between (says ∷ more) h = absurd h
accepts_with (Within path inside) [] h = absurd h
accepts_with (Within path inside) (Test name ∷ more) h = absurd h
accepts_with (Within path inside) (Path other ∷ more) h = absurd h
accepts_with (Within path inside) (End ∷ more) h = accepts_with Between more h
accepts_with (Within path inside) (Skip ∷ more) h =
    accepts_with (Within path (inside ++ Skip ∷ [])) more (accepts_open (without_skipped more) path path inside (inside ++ Skip ∷ []) h)
accepts_with (Within path inside) (says ∷ more) h = accepts_with (Within path (inside ++ says ∷ [])) more h

-- records that more records may follow end between sections, or an end may follow them
pub may_close : (place : Place) (front back : List LineData) → Accepts place (front ++ back) → Accepts place front ⊎ Accepts place (front ++ End ∷ [])
may_close Between [] back h = inl tt
may_close (Within path inside) [] back h = inr tt
may_close Between (Test name ∷ more) back h = may_close Between more back h
may_close Between (Path path ∷ more) back h = may_close (Within path []) more back h
may_close Between (Skip ∷ more) back h = may_close Between more back h
may_close Between (says ∷ more) back h = absurd h
may_close (Within path inside) (Test name ∷ more) back h = absurd h
may_close (Within path inside) (Path other ∷ more) back h = absurd h
may_close (Within path inside) (End ∷ more) back h = may_close Between more back h
may_close (Within path inside) (says ∷ more) back h = may_close (Within path (inside ++ says ∷ [])) more back h
