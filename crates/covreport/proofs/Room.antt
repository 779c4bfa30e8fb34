-- Room for the functions of any one section is enough for each, and is needed only if something is printed.
use Rattle.std.proofs.Common.{◌≡◌, ◌≢◌, ℕ, ◌+◌, ◌<◌, ◌≤◌, max, Bool, true, false, cond, List, [], ◌∷◌, ◌++◌, length, filter, refl, sym, ap, ◌∙◌, arith}
use Rattle.std.specs.List.{flat_map}
use Rattle.covreport.specs.Choice.{ChoiceData, is_chosen}
use Rattle.covreport.specs.Report.{report_text, section_text}
use Rattle.covreport.specs.Room.{most_functions}
use Rattle.covtable.specs.Content.{SectionData}

module _ (choice : ChoiceData) where
  most_by : (takes : Bool) (s : SectionData) (sections : List SectionData) → is_chosen choice s.key.file ≡ takes → most_functions choice (s ∷ sections) ≡ cond takes (max (length s.functions) (most_functions choice sections)) (most_functions choice sections)
  most_by takes s sections is = rw is refl

  pub most-cons : (s : SectionData) (more : List SectionData) → most_functions choice (s ∷ more) ≡ max (most_functions choice (s ∷ [])) (most_functions choice more)
  most-cons s more = by (is_chosen choice s.key.file) refl
    where
      by : (takes : Bool) → is_chosen choice s.key.file ≡ takes → most_functions choice (s ∷ more) ≡ max (most_functions choice (s ∷ [])) (most_functions choice more)
      by true is = omega (arith, most_by true s more is, most_by true s [] is)
      by false is = omega (arith, most_by false s more is, most_by false s [] is)

  pub room_first : (s : SectionData) (left more : List SectionData) (room : ℕ) → left ≡ s ∷ more → most_functions choice left ≤ room → most_functions choice (s ∷ []) ≤ room
  room_first s left more room next fits = omega (arith, ap (most_functions choice) next, most-cons s more, fits)

  pub room_rest : (s : SectionData) (left more : List SectionData) (room : ℕ) → left ≡ s ∷ more → most_functions choice left ≤ room → most_functions choice more ≤ room
  room_rest s left more room next fits = omega (arith, ap (most_functions choice) next, most-cons s more, fits)

  -- a section whose file is chosen has as many functions as there is room for, at most
  pub room_for_one : (s : SectionData) (file : List ℕ) (takes : Bool) (room : ℕ) → file ≡ s.key.file → takes ≡ is_chosen choice file → takes ≡ true → most_functions choice (s ∷ []) ≤ room → length s.functions ≤ room
  room_for_one s file takes room is test chosen fits = omega (arith, most_by true s [] (sym (ap (is_chosen choice) is) ∙ sym test ∙ chosen), fits)

  -- as many functions of one section are printed as it has, or none
  pub printed_of_one : (s : SectionData) (file : List ℕ) (takes : Bool) → file ≡ s.key.file → takes ≡ is_chosen choice file → cond takes (length s.functions) 0 ≡ most_functions choice (s ∷ [])
  printed_of_one s file takes is test = by takes refl
    where
      by : (b : Bool) → takes ≡ b → cond takes (length s.functions) 0 ≡ most_functions choice (s ∷ [])
      by true e = rw e (omega (arith, most_by true s [] (sym (ap (is_chosen choice) is) ∙ sym test ∙ e)))
      by false e = rw e (sym (most_by false s [] (sym (ap (is_chosen choice) is) ∙ sym test ∙ e)))

  -- the most functions so far, with those of what is left, are those of all
  pub most_goes_on : (all : ℕ) (s : SectionData) (left more : List SectionData) (most one now : ℕ) → left ≡ s ∷ more → max most (most_functions choice left) ≡ all → one ≡ most_functions choice (s ∷ []) → now ≡ max one most
      → max now (most_functions choice more) ≡ all
  most_goes_on all s left more most one now next so_far is new = omega (arith, ap (most_functions choice) next, most-cons s more, so_far, is, new)

  pub most_ends : (all : ℕ) (left : List SectionData) (most : ℕ) → left ≡ [] → max most (most_functions choice left) ≡ all → most ≡ all
  most_ends all left most none so_far = omega (arith, ap (most_functions choice) none, so_far)

  section_there : (s : SectionData) (x : List ℕ) → section_text s ++ x ≡ [] → ⊥
  section_there s x e = cc

  -- if a section of a chosen file has functions, something is printed
  pub room_needed : (sections : List SectionData) → 0 < most_functions choice sections → report_text choice sections ≢ []
  room_needed [] some none = absurd (omega (arith, some))
  room_needed (s ∷ sections) some none = by (is_chosen choice s.key.file) refl (room_needed sections)
    where
      by : (takes : Bool) → is_chosen choice s.key.file ≡ takes → (0 < most_functions choice sections → report_text choice sections ≢ []) → ⊥
      by true is more =
          let here : report_text choice (s ∷ sections) ≡ section_text s ++ report_text choice sections = ap (λ (b : Bool). flat_map section_text (cond b (s ∷ filter (λ (s : SectionData). is_chosen choice s.key.file) sections) (filter (λ (s : SectionData). is_chosen choice s.key.file) sections))) is in
          section_there s (report_text choice sections) (sym here ∙ none)
      by false is more =
          let here : report_text choice (s ∷ sections) ≡ report_text choice sections = ap (λ (b : Bool). flat_map section_text (cond b (s ∷ filter (λ (s : SectionData). is_chosen choice s.key.file) sections) (filter (λ (s : SectionData). is_chosen choice s.key.file) sections))) is in
          more (omega (arith, some, most_by false s sections is)) (sym here ∙ none)
