-- Pieces that are read one after another are read as `ReadsInPieces` has it.
use Rattle.std.proofs.Common.{◌≡◌, ◌⊎◌, ℕ, ◌+◌, List, [], ◌∷◌, ◌++◌, Result, Ok, Err, refl, sym, ap, subst, ◌∙◌, append_assoc, arith, inl, inr}
use Rattle.std.specs.List.{concat}
use Rattle.std.proofs.lemmas.List.{append-nil}
use Rattle.covdata.specs.Row.{SectData, SubmissionData}
use Rattle.covdata.specs.declared.fault.ReadFault.{ReadFault}
use Rattle.covdata.specs.declared.fault.ReadFault.TheVariants.{TooLong, Line, Outside, Inside, Misplaced}
use Rattle.covpieces.specs.Sections.{EndsSection}
use Rattle.covpieces.specs.Pieces.{EndSections, IsCut, CarriedData, nothing_carried, front_text, moved, joined, no_sections, with_first, ReadsInPieces, all_of, HaveBeenRead, OneByOne}
use Rattle.covpieces.proofs.InPieces.{Outcomes, Next, joined_nothing}

-- the fault of a piece that isn't too long isn't told as such
moved_is_long : (c : CarriedData) (fault : ReadFault) → moved c fault ≡ TooLong → fault ≡ TooLong
moved_is_long c (Line at fault) e = absurd cc
moved_is_long c (Outside at) e = absurd cc
moved_is_long c (Inside at) e = absurd cc
moved_is_long c (Misplaced at) e = absurd cc
moved_is_long c other e = e

abbrev err_of : ReadFault → Result SubmissionData ReadFault
err_of fault = Err fault

err_is : (f g : ReadFault) → (let x : Result SubmissionData ReadFault = Err f in let y : Result SubmissionData ReadFault = Err g in x ≡ y) → f ≡ g
err_is f g e = cc

ok_isnt_err : (s : SubmissionData) (f : ReadFault) → (let x : Result SubmissionData ReadFault = Ok s in let y : Result SubmissionData ReadFault = Err f in x ≡ y) → ⊥
ok_isnt_err s f e = cc

joined_assoc : (a b c : SubmissionData) → joined a (joined b c) ≡ joined (joined a b) c
joined_assoc a b c =
    let sects : joined a (joined b c) ≡ record { sects = (a.sects ++ b.sects) ++ c.sects; odd = a.odd + (b.odd + c.odd) } =
    ap (λ (x : List SectData). record { sects = x; odd = a.odd + (b.odd + c.odd) }) (sym (append_assoc a.sects b.sects c.sects)) in
    let odd : record { sects = (a.sects ++ b.sects) ++ c.sects; odd = a.odd + (b.odd + c.odd) } ≡ joined (joined a b) c =
    ap (λ (n : ℕ). record { sects = (a.sects ++ b.sects) ++ c.sects; odd = n }) (omega arith) in
    sects ∙ odd

nothing_joined : (s : SubmissionData) → joined no_sections s ≡ s
nothing_joined s = ap (λ (n : ℕ). record { sects = s.sects; odd = n }) (omega arith)

-- what the pieces after some read ones say, with these
abbrev with_all : List SubmissionData → Result SubmissionData ReadFault → Result SubmissionData ReadFault
with_all submissions (Ok rest) = Ok (joined (all_of submissions) rest)
with_all submissions (Err fault) = Err fault

module _ (IsOutcome : Outcomes) (next : Next) where
  pub have_more : (c : CarriedData) (pieces : List (List ℕ)) (subs : List SubmissionData) (last : CarriedData) (piece : List ℕ) (s : SubmissionData)
      → HaveBeenRead IsOutcome next c pieces subs last → EndsSection piece → IsOutcome (front_text last ++ piece) (Ok s)
      → HaveBeenRead IsOutcome next c (pieces ++ piece ∷ []) (subs ++ s ∷ []) (next last piece s.sects)
  have_more c [] [] last piece s have ends outcome =
      (ends, subst (λ (x : CarriedData). IsOutcome (front_text x ++ piece) (Ok s)) have outcome, ap (λ (x : CarriedData). next x piece s.sects) have)
  have_more c [] (sub ∷ subs) last piece s have ends outcome = absurd have
  have_more c (first ∷ pieces) [] last piece s have ends outcome = absurd have
  have_more c (first ∷ pieces) (sub ∷ subs) last piece s have ends outcome =
      (have.0, have.1, have_more (next c first sub.sects) pieces subs last piece s have.2 ends outcome)

  -- the pieces that were read, and more
  reads_on : (c : CarriedData) (pieces : List (List ℕ)) (subs : List SubmissionData) (last : CarriedData) (more : List (List ℕ)) (r : Result SubmissionData ReadFault)
      → HaveBeenRead IsOutcome next c pieces subs last → ReadsInPieces IsOutcome next last more r → ReadsInPieces IsOutcome next c (pieces ++ more) (with_all subs r)
  reads_on c [] [] last more (Ok t) have reads =
      subst (λ (x : SubmissionData). ReadsInPieces IsOutcome next c more (Ok x)) (sym (nothing_joined t)) (subst (λ (x : CarriedData). ReadsInPieces IsOutcome next x more (Ok t)) have reads)
  reads_on c [] [] last more (Err f) have reads = subst (λ (x : CarriedData). ReadsInPieces IsOutcome next x more (Err f)) have reads
  reads_on c [] (sub ∷ subs) last more r have reads = absurd have
  reads_on c (piece ∷ pieces) [] last more r have reads = absurd have
  reads_on c (piece ∷ pieces) (sub ∷ subs) last more (Ok t) have reads =
      (sub, joined (all_of subs) t, have.1, reads_on (next c piece sub.sects) pieces subs last more (Ok t) have.2 reads, sym (joined_assoc sub (all_of subs) t))
  reads_on c (piece ∷ pieces) (sub ∷ subs) last more (Err f) have reads =
      inr (sub, have.1, reads_on (next c piece sub.sects) pieces subs last more (Err f) have.2 reads)

  ends_before : (c : CarriedData) (pieces : List (List ℕ)) (subs : List SubmissionData) (last : CarriedData) (piece : List ℕ) (more : List (List ℕ))
      → HaveBeenRead IsOutcome next c pieces subs last → EndSections (piece ∷ more) → EndSections (pieces ++ piece ∷ more)
  ends_before c [] [] last piece more have ends = ends
  ends_before c [] (sub ∷ subs) last piece more have ends = absurd have
  ends_before c (first ∷ pieces) [] last piece more have ends = absurd have
  ends_before c (first ∷ []) (sub ∷ subs) last piece more have ends =
      (have.0, ends_before (next c first sub.sects) [] subs last piece more have.2 ends)
  ends_before c (first ∷ second ∷ pieces) (sub ∷ subs) last piece more have ends =
      (have.0, ends_before (next c first sub.sects) (second ∷ pieces) subs last piece more have.2 ends)

concat-push : (pieces more : List (List ℕ)) → concat (pieces ++ more) ≡ concat pieces ++ concat more
concat-push [] more = refl
concat-push (piece ∷ pieces) more = ap (λ (t : List ℕ). piece ++ t) (concat-push pieces more) ∙ sym (append_assoc piece (concat pieces) (concat more))

module _ (IsOutcome IsWhole : Outcomes) (next : Next)
    (whole : (text : List ℕ) (pieces : List (List ℕ)) (r : Result SubmissionData ReadFault) → IsCut text pieces → ReadsInPieces IsOutcome next nothing_carried pieces r → (r ≡ Err TooLong) ⊎ IsWhole text r) where
  not_long : (c : CarriedData) (fault : ReadFault) (P : Type 0) → (err_of (moved c fault) ≡ Err TooLong) ⊎ P → (fault ≡ TooLong) ⊎ P
  not_long c fault P (inl long) = inl (moved_is_long c fault (err_is (moved c fault) TooLong long))
  not_long c fault P (inr is) = inr is

  last_piece : (pieces : List (List ℕ)) (subs : List SubmissionData) (c : CarriedData) (piece : List ℕ) (outcome : Result SubmissionData ReadFault)
      → HaveBeenRead IsOutcome next nothing_carried pieces subs c → IsOutcome (front_text c ++ piece) outcome
      → (outcome ≡ Err TooLong) ⊎ IsWhole (concat pieces ++ piece) (with_first (all_of subs) c outcome)
  last_piece pieces subs c piece (Ok s) have outcome =
      let reads = reads_on IsOutcome next nothing_carried pieces subs c (piece ∷ []) (Ok s) have (s, no_sections, outcome, refl, sym (joined_nothing s)) in
      let cut : IsCut (concat pieces ++ piece) (pieces ++ piece ∷ []) = record {
        together = sym (concat-push pieces (piece ∷ []) ∙ ap (λ (t : List ℕ). concat pieces ++ t) (append-nil piece));
        ends = ends_before IsOutcome next nothing_carried pieces subs c piece [] have tt;
      } in
      elim (whole (concat pieces ++ piece) (pieces ++ piece ∷ []) (Ok (joined (all_of subs) s)) cut reads) [
        | inl long ↦ absurd (ok_isnt_err (joined (all_of subs) s) TooLong long)
        | inr is ↦ inr is
      ]
  last_piece pieces subs c piece (Err fault) have outcome =
      let reads = reads_on IsOutcome next nothing_carried pieces subs c (piece ∷ []) (Err (moved c fault)) have (inl (fault, outcome, refl)) in
      let cut : IsCut (concat pieces ++ piece) (pieces ++ piece ∷ []) = record {
        together = sym (concat-push pieces (piece ∷ []) ∙ ap (λ (t : List ℕ). concat pieces ++ t) (append-nil piece));
        ends = ends_before IsOutcome next nothing_carried pieces subs c piece [] have tt;
      } in
      elim (not_long c fault (IsWhole (concat pieces ++ piece) (Err (moved c fault))) (whole (concat pieces ++ piece) (pieces ++ piece ∷ []) (Err (moved c fault)) cut reads)) [
        | inl long ↦ inl (ap err_of long)
        | inr is ↦ inr is
      ]

  faulty_piece : (pieces : List (List ℕ)) (subs : List SubmissionData) (c : CarriedData) (piece rest : List ℕ) (fault : ReadFault)
      → HaveBeenRead IsOutcome next nothing_carried pieces subs c → EndsSection piece → IsOutcome (front_text c ++ piece) (Err fault)
      → (fault ≡ TooLong) ⊎ IsWhole (concat pieces ++ piece ++ rest) (Err (moved c fault))
  faulty_piece pieces subs c piece rest fault have ends outcome =
      let reads = reads_on IsOutcome next nothing_carried pieces subs c (piece ∷ rest ∷ []) (Err (moved c fault)) have (inl (fault, outcome, refl)) in
      let cut : IsCut (concat pieces ++ piece ++ rest) (pieces ++ piece ∷ rest ∷ []) = record {
        together = sym (concat-push pieces (piece ∷ rest ∷ []) ∙ ap (λ (t : List ℕ). concat pieces ++ (piece ++ t)) (append-nil rest) ∙ sym (append_assoc (concat pieces) piece rest));
        ends = ends_before IsOutcome next nothing_carried pieces subs c piece (rest ∷ []) have (ends, tt);
      } in
      not_long c fault (IsWhole (concat pieces ++ piece ++ rest) (Err (moved c fault))) (whole (concat pieces ++ piece ++ rest) (pieces ++ piece ∷ rest ∷ []) (Err (moved c fault)) cut reads)

  pub one_by_one : OneByOne IsOutcome IsWhole next
  one_by_one = record {
    more = λ pieces subs c piece s have ends outcome. have_more IsOutcome next nothing_carried pieces subs c piece s have ends outcome;
    last = last_piece;
    fault = faulty_piece;
  }
