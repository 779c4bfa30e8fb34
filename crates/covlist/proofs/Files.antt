-- The rows and the objects of chosen files, one after another.
use Rattle.std.proofs.Common.{◌≡◌, ℕ, Bool, true, false, cond, List, [], ◌∷◌, ◌++◌, map, refl, sym, ap, ◌∙◌, append_assoc, subst}
use Rattle.std.specs.List.{flat_map}
use Rattle.std.specs.Prelude.{codes, ⊤}
use Rattle.std.proofs.lemmas.List.{append-nil}
use Rattle.std.proofs.lemmas.List.Concat.{flat_map-append}
use Rattle.std.proofs.lemmas.List.Elements.{filter-append}
use Rattle.covtable.specs.Content.{SectionData}
use Rattle.covtable.specs.Files.{FileTotalsData, file_with_totals, files_with_totals}
use Rattle.covtable.specs.Totals.{AreTotals, files_in, own_sections}
use Rattle.covtable.proofs.TotalsDifferent.{are_totals}
use Rattle.covreport.specs.Choice.{ChoiceData, is_chosen}
use Rattle.covlist.specs.Chosen.{chosen_among}
use Rattle.covlist.specs.Json.{file_object, further_object, objects}

-- ---- the totals of files

-- of each file, no more points are hit than found
pub AreAllTotals : List FileTotalsData → Type 0
AreAllTotals [] = ⊤
AreAllTotals (file ∷ files) = AreTotals file.totals × AreAllTotals files

pub all_totals : (sections : List SectionData) → AreAllTotals (files_with_totals sections)
unfolding AreAllTotals
all_totals sections = each (files_in sections)
  where
    each : (names : List (List ℕ)) → AreAllTotals (map (file_with_totals sections) names)
    each [] = tt
    each (name ∷ names) = (are_totals (own_sections name sections), each names)

module _ (file : FileTotalsData) (left more : List FileTotalsData) (next : left ≡ file ∷ more) (all : AreAllTotals left) where
  pub first_totals : AreTotals file.totals
  unfolding AreAllTotals
  first_totals = (subst AreAllTotals next all).0

  pub other_totals : AreAllTotals more
  unfolding AreAllTotals
  other_totals = (subst AreAllTotals next all).1

-- ---- what is chosen of files

-- the first of the files is chosen, or isn't
chosen_first : (choice : ChoiceData) (file : FileTotalsData) (more : List FileTotalsData) (takes : Bool) → takes ≡ is_chosen choice file.path
    → chosen_among choice (file ∷ more) ≡ cond takes (file ∷ chosen_among choice more) (chosen_among choice more)
chosen_first choice file more takes test = ap (λ (b : Bool). cond b (file ∷ chosen_among choice more) (chosen_among choice more)) (sym test)

module _ (choice : ChoiceData) (part : FileTotalsData → List ℕ) where
  abbrev parts : List FileTotalsData → List ℕ
  parts files = flat_map part (chosen_among choice files)

  pub goes_on : (whole text new : List ℕ) (file : FileTotalsData) (left more : List FileTotalsData) → left ≡ file ∷ more
      → text ++ parts left ≡ whole → new ≡ text ++ parts (file ∷ []) → new ++ parts more ≡ whole
  goes_on whole text new file left more next so_far put =
      ap (λ (t : List ℕ). t ++ parts more) put
      ∙ append_assoc text (parts (file ∷ [])) (parts more)
      ∙ ap (λ (t : List ℕ). text ++ t) (sym first ∙ ap parts (sym next))
      ∙ so_far
    where
      first : parts (file ∷ more) ≡ parts (file ∷ []) ++ parts more
      first = ap (flat_map part) (filter-append (λ (f : FileTotalsData). is_chosen choice f.path) (file ∷ []) more)
          ∙ flat_map-append part (chosen_among choice (file ∷ [])) (chosen_among choice more)

  pub ends : (whole text : List ℕ) (left : List FileTotalsData) → left ≡ [] → text ++ parts left ≡ whole → text ≡ whole
  ends whole text left none so_far = sym (append-nil text) ∙ ap (λ (files : List FileTotalsData). text ++ parts files) (sym none) ∙ so_far

  module _ (file : FileTotalsData) (takes : Bool) (test : takes ≡ is_chosen choice file.path) where
    one : parts (file ∷ []) ≡ cond takes (part file) []
    one = ap (flat_map part) (chosen_first choice file [] takes test) ∙ read takes
      where
        read : (b : Bool) → flat_map part (cond b (file ∷ []) []) ≡ cond b (part file) []
        read false = refl
        read true = append-nil (part file)

    pub chosen_alone : takes ≡ true → part file ≡ parts (file ∷ [])
    chosen_alone is = sym (one ∙ ap (λ (b : Bool). cond b (part file) []) is)

    pub passed_over : takes ≡ false → (text : List ℕ) → text ≡ text ++ parts (file ∷ [])
    passed_over is text = sym (append-nil text) ∙ ap (λ (t : List ℕ). text ++ t) (sym (one ∙ ap (λ (b : Bool). cond b (part file) []) is))

-- ---- objects with commas between them

-- the objects of the files that are left, of which the first is the first of all or isn't
abbrev pub objects_left : Bool → List FileTotalsData → List ℕ
objects_left is_first files = cond is_first (objects files) (flat_map further_object files)

abbrev pub separator : Bool → List ℕ
separator is_first = cond is_first (codes "\n") (codes ",\n")

object_left : (is_first : Bool) (file : FileTotalsData) (files : List FileTotalsData) → objects_left is_first (file ∷ files) ≡ (separator is_first ++ file_object file) ++ objects_left false files
object_left true file files = refl
object_left false file files = refl

none_left : (is_first : Bool) → objects_left is_first [] ≡ []
none_left true = refl
none_left false = refl

module _ (choice : ChoiceData) (whole text : List ℕ) (is_first : Bool) (left : List FileTotalsData) (so_far : text ++ objects_left is_first (chosen_among choice left) ≡ whole) where
  module _ (file : FileTotalsData) (more : List FileTotalsData) (takes : Bool) (next : left ≡ file ∷ more) (test : takes ≡ is_chosen choice file.path) where
    chosen_next : (b : Bool) → takes ≡ b → chosen_among choice left ≡ cond b (file ∷ chosen_among choice more) (chosen_among choice more)
    chosen_next b is =
        ap (chosen_among choice) next ∙ chosen_first choice file more takes test
        ∙ ap (λ (c : Bool). cond c (file ∷ chosen_among choice more) (chosen_among choice more)) is

    pub object_put : takes ≡ true → (new : List ℕ) → new ≡ text ++ (separator is_first ++ file_object file) → new ++ objects_left false (chosen_among choice more) ≡ whole
    object_put is new put =
        ap (λ (t : List ℕ). t ++ objects_left false (chosen_among choice more)) put
        ∙ append_assoc text (separator is_first ++ file_object file) (objects_left false (chosen_among choice more))
        ∙ ap (λ (t : List ℕ). text ++ t) (sym (object_left is_first file (chosen_among choice more)) ∙ ap (objects_left is_first) (sym (chosen_next true is)))
        ∙ so_far

    pub object_passed : takes ≡ false → text ++ objects_left is_first (chosen_among choice more) ≡ whole
    object_passed is = ap (λ (files : List FileTotalsData). text ++ objects_left is_first files) (sym (chosen_next false is)) ∙ so_far

  pub objects_end : left ≡ [] → text ≡ whole
  objects_end none =
      sym (append-nil text)
      ∙ ap (λ (t : List ℕ). text ++ t) (sym (none_left is_first) ∙ ap (λ (files : List FileTotalsData). objects_left is_first (chosen_among choice files)) (sym none))
      ∙ so_far
