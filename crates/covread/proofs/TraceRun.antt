-- What the reader holds, compared with where it is in the text.
use Rattle.std.proofs.Common.{◌≡◌, ℕ, ◌+◌, List, [], ◌∷◌, ◌++◌, length, Option, Some, None, Result, Ok, Err, refl, sym, ap, subst, ◌∙◌, arith}
use Rattle.std.specs.Prelude.{count_by}
use Rattle.std.specs.List.{sum_by}
use Rattle.std.proofs.lemmas.List.{append-nil}
use Rattle.std.proofs.lemmas.List.Sums.{sum_by_push}
use Rattle.covdata.specs.Row.{ItemData, SectData}
use Rattle.covdata.specs.Records.{LineData, Test, Path, End, Skip}
use Rattle.covline.specs.Spells.{Spells}
use Rattle.covdata.specs.declared.fault.ReadFault.TheVariants as faults
use Rattle.covread.specs.declared.trace.placement_fault.PlacementFault.{PlacementFault}
use Rattle.covread.specs.declared.trace.placement_fault.PlacementFault.TheVariants as placement
use Rattle.covread.specs.Reads.{Part, Outside, Section, items_of, is_odd, odd_in, test_after, sects_from}
use Rattle.covread.specs.Outcome.{IsFirstFault}
use Rattle.covread.specs.TraceSteps.{SectionData, HeldData, empty, closed, step}
use Rattle.covread.proofs.TraceEnd.{same_held}
use Rattle.covread.proofs.TraceGrammar.{LineLaw, Place, Between, Within}
use Rattle.covread.proofs.TraceStands.{Stands, stands_at_first, stands_outside, stands_path, stands_inside, stands_end, stop_outside, stop_inside}
use Rattle.covread.proofs.TraceKept.{without_skips, without_skips-append, items_kept, odd_kept}

-- the name in the last test line of the parts, or the given name if they have no test line
abbrev pub test_follows : List ℕ → List Part → List ℕ
test_follows test [] = test
test_follows test (Outside says ∷ parts) = test_follows (test_after test says) parts
test_follows test (Section path inside ∷ parts) = test_follows test parts

abbrev pub section_of : Place → Option SectionData
section_of Between = None
section_of (Within path inside) = Some (record { file = path; lines = without_skips inside })

-- what a reader holds after these parts, at this place
abbrev pub held_of : List Part → Place → HeldData
held_of parts place = record { test = test_follows [] parts; section = section_of place; sects = sects_from [] parts; odd = sum_by odd_in parts }

-- what the reader holds is what follows from the lines so far
pub record Holds (lines : List (List ℕ)) (held : HeldData) : Type 0 where
  pub parts : List Part
  pub place : Place
  pub stands : Stands lines parts place
  pub is : held ≡ held_of parts place

pub holds_at_first : Holds [] empty
holds_at_first = record { parts = []; place = Between; stands = stands_at_first; is = refl }

-- ---- one more part

test_push : (test : List ℕ) (parts : List Part) (part : Part) → test_follows test (parts ++ part ∷ []) ≡ test_follows (test_follows test parts) (part ∷ [])
test_push test [] part = refl
test_push test (Outside says ∷ parts) part = test_push (test_after test says) parts part
test_push test (Section path inside ∷ parts) part = test_push test parts part

sects_push : (test : List ℕ) (parts : List Part) (part : Part) → sects_from test (parts ++ part ∷ []) ≡ sects_from test parts ++ sects_from (test_follows test parts) (part ∷ [])
sects_push test [] part = refl
sects_push test (Outside says ∷ parts) part = sects_push (test_after test says) parts part
sects_push test (Section path inside ∷ parts) part = ap (λ (x : List SectData). record { test = test; file = path; items = items_of inside } ∷ x) (sects_push test parts part)

ok_is : (x y : HeldData) → (let a : Result HeldData PlacementFault = Ok x in let b : Result HeldData PlacementFault = Ok y in a ≡ b) → x ≡ y
ok_is x y e = cc

no_error : (x : HeldData) (m : PlacementFault) → (let a : Result HeldData PlacementFault = Ok x in let b : Result HeldData PlacementFault = Err m in a ≡ b) → ⊥
no_error x m e = absurd cc

two_errors : (let a : Result HeldData PlacementFault = Err placement.Outside in let b : Result HeldData PlacementFault = Err placement.Inside in a ≡ b) → ⊥
two_errors e = absurd cc

-- ---- one more line

outside_held : (parts : List Part) (says : LineData) (test : List ℕ) → test ≡ test_after (test_follows [] parts) says
    → let h : HeldData = record { test = test; section = None; sects = sects_from [] parts; odd = sum_by odd_in parts } in
    h ≡ held_of (parts ++ Outside says ∷ []) Between
outside_held parts says test t =
    same_held test (test_follows [] (parts ++ Outside says ∷ [])) None None (sects_from [] parts) (sects_from [] (parts ++ Outside says ∷ [])) (sum_by odd_in parts) (sum_by odd_in (parts ++ Outside says ∷ []))
    (t ∙ sym (test_push [] parts (Outside says))) refl
    (sym (sects_push [] parts (Outside says) ∙ append-nil (sects_from [] parts)))
    (let k = sum_by_push odd_in parts (Outside says) in omega (arith, k))

inside_held : (parts : List Part) (path : List ℕ) (inside : List LineData) (says : LineData) (lines : List LineData) → lines ≡ without_skips inside ++ without_skips (says ∷ [])
    → let h : HeldData = record { test = test_follows [] parts; section = Some (record { file = path; lines = lines }); sects = sects_from [] parts; odd = sum_by odd_in parts } in
    h ≡ held_of parts (Within path (inside ++ says ∷ []))
inside_held parts path inside says lines e =
    ap (λ (x : List LineData). let h : HeldData = record { test = test_follows [] parts; section = Some (record { file = path; lines = x }); sects = sects_from [] parts; odd = sum_by odd_in parts } in h)
    (e ∙ sym (without_skips-append inside (says ∷ [])))

end_held : (parts : List Part) (path : List ℕ) (inside : List LineData)
    → closed (record { file = path; lines = without_skips inside }) (held_of parts (Within path inside)) ≡ held_of (parts ++ Section path inside ∷ []) Between
end_held parts path inside =
    let test = test_follows [] parts in
    let kept = without_skips inside in
    let odd = sum_by odd_in parts + count_by (is_odd kept) kept in
    let items : sects_from [] parts ++ record { test = test; file = path; items = items_of kept } ∷ [] ≡ sects_from [] parts ++ record { test = test; file = path; items = items_of inside } ∷ [] =
    ap (λ (x : List ItemData). sects_from [] parts ++ record { test = test; file = path; items = x } ∷ []) (items_kept inside) in
    same_held test (test_follows [] (parts ++ Section path inside ∷ [])) None None
    (sects_from [] parts ++ record { test = test; file = path; items = items_of kept } ∷ []) (sects_from [] (parts ++ Section path inside ∷ []))
    odd (sum_by odd_in (parts ++ Section path inside ∷ []))
    (sym (test_push [] parts (Section path inside))) refl (items ∙ sym (sects_push [] parts (Section path inside)))
    (let k = sum_by_push odd_in parts (Section path inside) in let e = odd_kept inside in omega (arith, k, e))

step_on : (lines : List (List ℕ)) (line : List ℕ) (parts : List Part) (place : Place) (says : LineData) (held : HeldData)
    → Stands lines parts place → Spells line says → step (held_of parts place) says ≡ Ok held → Holds (lines ++ line ∷ []) held
step_on lines line parts Between (Test name) held s spells e =
    record { parts = parts ++ Outside (Test name) ∷ []; place = Between; stands = stands_outside lines parts line (Test name) s tt spells; is = sym (ok_is _ held e) ∙ outside_held parts (Test name) name refl }
step_on lines line parts Between Skip held s spells e =
    record { parts = parts ++ Outside Skip ∷ []; place = Between; stands = stands_outside lines parts line Skip s tt spells; is = sym (ok_is _ held e) ∙ outside_held parts Skip (test_follows [] parts) refl }
step_on lines line parts Between (Path path) held s spells e =
    record { parts = parts; place = Within path []; stands = stands_path lines parts line path s spells; is = sym (ok_is _ held e) }
step_on lines line parts Between says held s spells e = absurd cc
step_on lines line parts (Within path inside) (Test name) held s spells e = absurd cc
step_on lines line parts (Within path inside) (Path other) held s spells e = absurd cc
step_on lines line parts (Within path inside) End held s spells e =
    record { parts = parts ++ Section path inside ∷ []; place = Between; stands = stands_end lines parts line path inside s spells; is = sym (ok_is _ held e) ∙ end_held parts path inside }
step_on lines line parts (Within path inside) Skip held s spells e =
    record {
      parts = parts;
      place = Within path (inside ++ Skip ∷ []);
      stands = stands_inside lines parts line path inside Skip s tt spells;
      is = sym (ok_is _ held e) ∙ inside_held parts path inside Skip (without_skips inside) (sym (append-nil (without_skips inside)));
    }
step_on lines line parts (Within path inside) says held s spells e =
    record {
      parts = parts;
      place = Within path (inside ++ says ∷ []);
      stands = stands_inside lines parts line path inside says s tt spells;
      is = sym (ok_is _ held e) ∙ inside_held parts path inside says (without_skips inside ++ says ∷ []) refl;
    }

pub holds_more : (lines : List (List ℕ)) (line : List ℕ) (before after : HeldData) (says : LineData) → Holds lines before → Spells line says → step before says ≡ Ok after
    → Holds (lines ++ line ∷ []) after
holds_more lines line before after says h spells e =
    step_on lines line h.parts h.place says after h.stands spells (subst (λ (x : HeldData). step x says ≡ Ok after) h.is e)

-- ---- a misplaced line

outside_stop : LineLaw → (lines : List (List ℕ)) (line : List ℕ) (rest all : List (List ℕ)) (parts : List Part) (place : Place) (says : LineData)
    → Stands lines parts place → all ≡ lines ++ line ∷ rest → Spells line says → step (held_of parts place) says ≡ Err placement.Outside → IsFirstFault all (faults.Outside (length lines + 1))
outside_stop line_law lines line rest all parts Between (Test name) s e spells f = absurd cc
outside_stop line_law lines line rest all parts Between (Path path) s e spells f = absurd cc
outside_stop line_law lines line rest all parts Between Skip s e spells f = absurd cc
outside_stop line_law lines line rest all parts Between says s e spells f = stop_outside line_law lines parts line rest all says s e spells tt
outside_stop line_law lines line rest all parts (Within path inside) End s e spells f = absurd (no_error _ _ f)
outside_stop line_law lines line rest all parts (Within path inside) says s e spells f = absurd cc

inside_stop : LineLaw → (lines : List (List ℕ)) (line : List ℕ) (rest all : List (List ℕ)) (parts : List Part) (place : Place) (says : LineData)
    → Stands lines parts place → all ≡ lines ++ line ∷ rest → Spells line says → step (held_of parts place) says ≡ Err placement.Inside → IsFirstFault all (faults.Inside (length lines + 1))
inside_stop line_law lines line rest all parts (Within path inside) (Test name) s e spells f = stop_inside line_law lines parts path inside line rest all (Test name) s e spells tt
inside_stop line_law lines line rest all parts (Within path inside) (Path other) s e spells f = stop_inside line_law lines parts path inside line rest all (Path other) s e spells tt
inside_stop line_law lines line rest all parts (Within path inside) End s e spells f = absurd (no_error _ _ f)
inside_stop line_law lines line rest all parts (Within path inside) says s e spells f = absurd cc
inside_stop line_law lines line rest all parts Between (Test name) s e spells f = absurd (no_error _ _ f)
inside_stop line_law lines line rest all parts Between (Path path) s e spells f = absurd (no_error _ _ f)
inside_stop line_law lines line rest all parts Between Skip s e spells f = absurd (no_error _ _ f)
inside_stop line_law lines line rest all parts Between says s e spells f = absurd (two_errors f)

pub holds_outside : LineLaw → (lines : List (List ℕ)) (line : List ℕ) (rest all : List (List ℕ)) (before : HeldData) (says : LineData) → Holds lines before → all ≡ lines ++ line ∷ rest
    → Spells line says → step before says ≡ Err placement.Outside → IsFirstFault all (faults.Outside (length lines + 1))
holds_outside line_law lines line rest all before says h e spells f =
    outside_stop line_law lines line rest all h.parts h.place says h.stands e spells (subst (λ (x : HeldData). step x says ≡ Err placement.Outside) h.is f)

pub holds_inside : LineLaw → (lines : List (List ℕ)) (line : List ℕ) (rest all : List (List ℕ)) (before : HeldData) (says : LineData) → Holds lines before → all ≡ lines ++ line ∷ rest
    → Spells line says → step before says ≡ Err placement.Inside → IsFirstFault all (faults.Inside (length lines + 1))
holds_inside line_law lines line rest all before says h e spells f =
    inside_stop line_law lines line rest all h.parts h.place says h.stands e spells (subst (λ (x : HeldData). step x says ≡ Err placement.Inside) h.is f)
