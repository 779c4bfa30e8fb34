-- Lawful texts as a grammar of records, read from left to right: what may follow, and that a text has one reading.
use Rattle.std.proofs.Common.{◌≡◌, ℕ, List, [], ◌∷◌, ◌++◌, refl, sym, ap, subst, ◌∙◌, append_assoc}
use Rattle.std.specs.Prelude.{◌⊎◌}
use Rattle.std.specs.List.{flat_map, AllByRecursion}
use Rattle.std.proofs.lemmas.List.{append-nil}
use Rattle.covline.specs.LineLaws.{FewLines, GoodLines, GoodRest}
use Rattle.covdata.specs.Records.{LineData, Test, Path, End, Skip}
use Rattle.covline.specs.Spells.{Spells, HasFault}
use Rattle.covdata.specs.declared.trace_line.LineFault.{LineFault}
use Rattle.covread.specs.Reads.{Part, Outside, Section, IsInside, IsLawfulPart, records_of}

-- what is known of single lines
pub record LineLaw : Type 0 where
  pub meaning : (line : List ℕ) (a b : LineData) → Spells line a → Spells line b → a ≡ b
  pub fault : (line : List ℕ) (f g : LineFault) → HasFault line f → HasFault line g → f ≡ g
  pub never_both : (line : List ℕ) (says : LineData) (f : LineFault) → Spells line says → HasFault line f → ⊥
  pub one_of : (line : List ℕ) → ((says : LineData) × Spells line says) ⊎ ((f : LineFault) × HasFault line f)

-- what is known of the lines of texts
pub record TextLaw : Type 0 where
  pub line_law : LineLaw
  pub few_lines : FewLines
  pub good_lines : GoodLines
  pub good_rest : GoodRest

-- where a reader is: between sections, or in one that began with this path and has these records so far
pub data Place : Type 0 where
  Between : Place
  Within : (path : List ℕ) (inside : List LineData) → Place

-- for a reader at this place, these records make the rest of a lawful text
abbrev pub Accepts : Place → List LineData → Type 0
Accepts Between [] = Unit {0}
Accepts Between (Test name ∷ more) = Accepts Between more
Accepts Between (Path path ∷ more) = Accepts (Within path []) more
Accepts Between (Skip ∷ more) = Accepts Between more
Accepts Between (says ∷ more) = ⊥
Accepts (Within path inside) [] = ⊥
Accepts (Within path inside) (Test name ∷ more) = ⊥
Accepts (Within path inside) (Path other ∷ more) = ⊥
Accepts (Within path inside) (End ∷ more) = Accepts Between more
Accepts (Within path inside) (says ∷ more) = Accepts (Within path (inside ++ says ∷ [])) more

-- the parts that these records make, for a reader at this place
abbrev pub parts_from : Place → List LineData → List Part
parts_from Between [] = []
parts_from Between (Test name ∷ more) = Outside (Test name) ∷ parts_from Between more
parts_from Between (Path path ∷ more) = parts_from (Within path []) more
parts_from Between (Skip ∷ more) = Outside Skip ∷ parts_from Between more
parts_from Between (says ∷ more) = []
parts_from (Within path inside) [] = []
parts_from (Within path inside) (Test name ∷ more) = []
parts_from (Within path inside) (Path other ∷ more) = []
parts_from (Within path inside) (End ∷ more) = Section path inside ∷ parts_from Between more
parts_from (Within path inside) (says ∷ more) = parts_from (Within path (inside ++ says ∷ [])) more

-- inner records of the open section are added to those that it has
pub within : (path : List ℕ) (front inside : List LineData) (more : List LineData) → AllByRecursion IsInside inside
    → parts_from (Within path front) (inside ++ more) ≡ parts_from (Within path (front ++ inside)) more
within path front [] more h = ap (λ (x : List LineData). parts_from (Within path x) more) (sym (append-nil front))
within path front (Test name ∷ inside) more h = absurd h.0
within path front (Path other ∷ inside) more h = absurd h.0
within path front (End ∷ inside) more h = absurd h.0
within path front (says ∷ inside) more h = within path (front ++ says ∷ []) inside more h.1 ∙ ap (λ (x : List LineData). parts_from (Within path x) more) (append_assoc front (says ∷ []) inside)

-- the records of a lawful part make this part, followed by the parts that further records make
pub parts_from-part : (part : Part) (more : List LineData) → IsLawfulPart part → parts_from Between (records_of part ++ more) ≡ part ∷ parts_from Between more
parts_from-part (Outside (Test name)) more h = refl
parts_from-part (Outside Skip) more h = refl
parts_from-part (Outside says) more h = absurd h
parts_from-part (Section path inside) more h = ap (λ (x : List LineData). parts_from (Within path []) x) (append_assoc inside (End ∷ []) more) ∙ within path [] inside (End ∷ more) h

pub parts_from-parts : (parts : List Part) → AllByRecursion IsLawfulPart parts → parts_from Between (flat_map records_of parts) ≡ parts
parts_from-parts [] h = refl
parts_from-parts (part ∷ parts) h = parts_from-part part (flat_map records_of parts) h.0 ∙ ap (λ (x : List Part). part ∷ x) (parts_from-parts parts h.1)

-- lawful parts with equal records are equal
pub one_parts : (a b : List Part) → AllByRecursion IsLawfulPart a → AllByRecursion IsLawfulPart b → flat_map records_of a ≡ flat_map records_of b → a ≡ b
one_parts a b la lb e = sym (parts_from-parts a la) ∙ ap (parts_from Between) e ∙ parts_from-parts b lb

-- whether the rest is accepted doesn't depend on what the open section said
pub accepts_open : (more : List LineData) (p q : List ℕ) (a b : List LineData) → Accepts (Within p a) more → Accepts (Within q b) more
accepts_open [] p q a b h = h
accepts_open (Test name ∷ more) p q a b h = h
accepts_open (Path path ∷ more) p q a b h = h
accepts_open (End ∷ more) p q a b h = h
accepts_open (says ∷ more) p q a b h = accepts_open more p q (a ++ says ∷ []) (b ++ says ∷ []) h

-- in a section, if the rest of a text is accepted, it is accepted after inner records too
pub accepts_inside : (path : List ℕ) (front inside more : List LineData) → AllByRecursion IsInside inside → Accepts (Within path front) more → Accepts (Within path front) (inside ++ more)
accepts_inside path front [] more h a = a
accepts_inside path front (Test name ∷ inside) more h a = absurd h.0
accepts_inside path front (Path other ∷ inside) more h a = absurd h.0
accepts_inside path front (End ∷ inside) more h a = absurd h.0
accepts_inside path front (says ∷ inside) more h a = accepts_open (inside ++ more) path path front (front ++ says ∷ []) (accepts_inside path front inside more h.1 a)

-- conversely, what is accepted after inner records is accepted without them
pub accepts_after_inside : (path : List ℕ) (front inside more : List LineData) → AllByRecursion IsInside inside → Accepts (Within path front) (inside ++ more) → Accepts (Within path front) more
accepts_after_inside path front [] more h a = a
accepts_after_inside path front (Test name ∷ inside) more h a = absurd h.0
accepts_after_inside path front (Path other ∷ inside) more h a = absurd h.0
accepts_after_inside path front (End ∷ inside) more h a = absurd h.0
accepts_after_inside path front (says ∷ inside) more h a = accepts_after_inside path front inside more h.1 (accepts_open (inside ++ more) path path (front ++ says ∷ []) front a)

-- between sections, if the rest of a text is accepted, it is accepted after a lawful part too
pub accepts_part : (part : Part) (more : List LineData) → IsLawfulPart part → Accepts Between more → Accepts Between (records_of part ++ more)
accepts_part (Outside (Test name)) more h a = a
accepts_part (Outside Skip) more h a = a
accepts_part (Outside says) more h a = absurd h
accepts_part (Section path inside) more h a =
    subst (λ (x : List LineData). Accepts (Within path []) x) (sym (append_assoc inside (End ∷ []) more)) (accepts_inside path [] inside (End ∷ more) h a)

pub accepts_after_part : (part : Part) (more : List LineData) → IsLawfulPart part → Accepts Between (records_of part ++ more) → Accepts Between more
accepts_after_part (Outside (Test name)) more h a = a
accepts_after_part (Outside Skip) more h a = a
accepts_after_part (Outside says) more h a = absurd h
accepts_after_part (Section path inside) more h a =
    accepts_after_inside path [] inside (End ∷ more) h (subst (λ (x : List LineData). Accepts (Within path []) x) (append_assoc inside (End ∷ []) more) a)

pub accepts_parts : (parts : List Part) → AllByRecursion IsLawfulPart parts → Accepts Between (flat_map records_of parts)
accepts_parts [] h = tt
accepts_parts (part ∷ parts) h = accepts_part part (flat_map records_of parts) h.0 (accepts_parts parts h.1)

pub accepts_after_parts : (parts : List Part) (more : List LineData) → AllByRecursion IsLawfulPart parts → Accepts Between (flat_map records_of parts ++ more) → Accepts Between more
accepts_after_parts [] more h a = a
accepts_after_parts (part ∷ parts) more h a =
    accepts_after_parts parts more h.1 (accepts_after_part part (flat_map records_of parts ++ more) h.0 (subst (λ (x : List LineData). Accepts Between x) (append_assoc (records_of part) (flat_map records_of parts) more) a))
