-- Clashes: checksums that differ, the first clash, and tables whose checksums agree.
use Rattle.std.proofs.Common.{◌≡◌, ℕ, Bool, true, false, ◌&&◌, not, eqb, List, [], ◌∷◌, ◌++◌, refl, sym, ap, ◌∙◌, subst, inl, inr, ⊎_elim, append_assoc}
use Rattle.std.specs.Prelude.{Option, Some, None, Contains}
use Rattle.std.specs.Str.{bytes_eq}
use Rattle.std.specs.List.{find}
use Rattle.std.proofs.lemmas.Bool.{cases_Bool, cond-true, cond-false, false≢true, and_right, not_from_true}
use Rattle.std.proofs.lemmas.Cmp.{nat_eq_equiv, nat_list_eq_equiv}
use Rattle.std.proofs.lemmas.List.{append-nil}
use Rattle.std.proofs.lemmas.List.Concat.{flat_map-append}
use Rattle.std.proofs.lemmas.List.Elements.{Contains-push_cases, Contains-append_left, Contains-append_right}
use Rattle.std.proofs.lemmas.Option.{same_Some, none-some}
use Rattle.std.proofs.lemmas.Slice.Eq.{bytes_eq-Decides}
use Rattle.covdata.specs.Row.{Row, SubmissionData, rows_of}
use Rattle.covtable.specs.Clash.{Checksum, ClashData, Agree, IsFirstClash, differs, or_later, clash_with, first_clash, checksum_of_row, checksums_in}
use Rattle.covtable.specs.Table.{Table, all_rows, clash_at}
use Rattle.covtable.proofs.Members.{In, In-from, Contains-from}

-- ---- checksums that differ

differs-symm : (a b : Checksum) → differs a b ≡ differs b a
differs-symm a b =
    let file = nat_list_eq_equiv.symm a.file b.file in
    let line = nat_eq_equiv.symm a.line b.line in
    let checksum = nat_list_eq_equiv.symm a.checksum b.checksum in
    cc

differs-itself : (a : Checksum) → differs a a ≡ false
differs-itself a =
    and_right (bytes_eq a.file a.file && eqb a.line a.line) (not (bytes_eq a.checksum a.checksum)) (not_from_true (bytes_eq a.checksum a.checksum) (nat_list_eq_equiv.refl a.checksum))

In-found : {X : Type 0} (p : X → Bool) (xs : List X) (x : X) → find p xs ≡ Some x → In x xs × (p x ≡ true)
In-found p [] x e = absurd (none-some x e)
In-found {X} p (y ∷ ys) x e =
    ⊎_elim
    (λ (h : p y ≡ true). let is : y ≡ x = same_Some y x (sym (cond-true (p y) (Some y) (find p ys) h) ∙ e) in (inl is, subst (λ (z : X). p z ≡ true) is h))
    (λ (h : p y ≡ false). let there = In-found p ys x (sym (cond-false (p y) (Some y) (find p ys) h) ∙ e) in (inr there.0, there.1))
    (cases_Bool (p y))

not_found : {X : Type 0} (p : X → Bool) (xs : List X) (x : X) → find p xs ≡ None → In x xs → p x ≡ false
not_found p [] x e i = absurd i
not_found {X} p (y ∷ ys) x e i =
    ⊎_elim
    (λ (h : p y ≡ true). absurd (none-some y (sym e ∙ cond-true (p y) (Some y) (find p ys) h)))
    (λ (h : p y ≡ false). ⊎_elim (λ (is : y ≡ x). subst (λ (z : X). p z ≡ false) is h) (λ (there : In x ys). not_found p ys x (sym (cond-false (p y) (Some y) (find p ys) h) ∙ e) there) i)
    (cases_Bool (p y))

find_none : {X : Type 0} (p : X → Bool) (xs : List X) → ((x : X) → In x xs → p x ≡ false) → find p xs ≡ None
find_none p [] all = refl
find_none p (y ∷ ys) all = cond-false (p y) (Some y) (find p ys) (all y (inl refl)) ∙ find_none p ys (λ x i. all x (inr i))

-- if held checksums agree, and none of them differs from this one, they all agree together with it
agree_more : (held : List Checksum) (x : Checksum) → Agree held → find (differs x) held ≡ None → Agree (held ++ x ∷ [])
agree_more held x agree none a b i j =
    let own : (c : Checksum) → Contains held c → differs x c ≡ false = λ c k. not_found (differs x) held c none (In-from held c k) in
    ⊎_elim
    (λ (k : Contains held a). ⊎_elim (λ (l : Contains held b). agree a b k l) (λ (is : x ≡ b). subst (λ (c : Checksum). differs a c ≡ false) is (differs-symm a x ∙ own a k)) (Contains-push_cases held x b j))
    (λ (is : x ≡ a). subst (λ (c : Checksum). differs c b ≡ false) is (⊎_elim (λ (l : Contains held b). own b l) (λ (same : x ≡ b). subst (λ (c : Checksum). differs x c ≡ false) same (differs-itself x)) (Contains-push_cases held x b j)))
    (Contains-push_cases held x a i)

-- ---- the first clash

reports_at : (held : List Checksum) (x : Checksum) (xs : List Checksum) (clash : ClashData) (other : Option Checksum) → find (differs x) held ≡ other → Agree held
    → (Agree (held ++ x ∷ []) → first_clash (held ++ x ∷ []) xs ≡ Some clash → IsFirstClash (held ++ x ∷ []) xs clash)
    → or_later x other (first_clash (held ++ x ∷ []) xs) ≡ Some clash → IsFirstClash held (x ∷ xs) clash
reports_at held x xs clash (Some other) found agree later e =
    let is = In-found (differs x) held other found in
    let all : held ≡ held ++ [] = sym (append-nil held) in
    record {
      before = [];
      first = x;
      after = xs;
      other = other;
      place = refl;
      among = subst (λ (ys : List Checksum). Contains ys other) all (Contains-from held other is.0);
      differ = is.1;
      none_before = subst Agree all agree;
      told = same_Some clash (clash_with x other) (sym e);
    }
reports_at held x xs clash None found agree later e =
    let l = later (agree_more held x agree found) e in
    let all : (held ++ x ∷ []) ++ l.before ≡ held ++ x ∷ l.before = append_assoc held (x ∷ []) l.before in
    record {
      before = x ∷ l.before;
      first = l.first;
      after = l.after;
      other = l.other;
      place = ap (λ (ys : List Checksum). x ∷ ys) l.place;
      among = subst (λ (ys : List Checksum). Contains ys l.other) all l.among;
      differ = l.differ;
      none_before = subst Agree all l.none_before;
      told = l.told;
    }

pub first_told : (held given : List Checksum) (clash : ClashData) → Agree held → first_clash held given ≡ Some clash → IsFirstClash held given clash
first_told held [] clash agree e = absurd (none-some clash e)
first_told held (x ∷ xs) clash agree e =
    reports_at held x xs clash (find (differs x) held) refl agree (λ more rest. first_told (held ++ x ∷ []) xs clash more rest) e

-- ---- a reported clash is the first

two_true : (x y z : Bool) → (x && y && z) ≡ true → (x ≡ true) × (y ≡ true)
two_true true true z e = (refl, refl)
two_true true false z e = absurd (false≢true e)
two_true false y z e = absurd (false≢true e)

pub last_true : (x y z : Bool) → x ≡ true → y ≡ true → (x && y && not z) ≡ false → z ≡ true
last_true true true true first second e = refl
last_true true true false first second e = absurd (false≢true (sym e))
last_true true false z first second e = absurd (false≢true second)
last_true false y z first second e = absurd (false≢true first)

-- if one checksum differs from two that agree, these are equal
same_checksum : (given a b : Checksum) → differs given a ≡ true → differs given b ≡ true → differs a b ≡ false → a.checksum ≡ b.checksum
same_checksum given a b to_a to_b agree =
    let at_a = two_true (bytes_eq given.file a.file) (eqb given.line a.line) (not (bytes_eq given.checksum a.checksum)) to_a in
    let at_b = two_true (bytes_eq given.file b.file) (eqb given.line b.line) (not (bytes_eq given.checksum b.checksum)) to_b in
    let file : bytes_eq a.file b.file ≡ true = sym (nat_list_eq_equiv.congr given.file a.file b.file at_a.0) ∙ at_b.0 in
    let line : eqb a.line b.line ≡ true = sym (nat_eq_equiv.congr given.line a.line b.line at_a.1) ∙ at_b.1 in
    (bytes_eq-Decides a.checksum b.checksum).0 (last_true (bytes_eq a.file b.file) (eqb a.line b.line) (bytes_eq a.checksum b.checksum) file line agree)

clash_from : Checksum → List ℕ → ClashData
clash_from given held = record { file = given.file; line = given.line; held = held; given = given.checksum }

same_clash : (given a b : Checksum) → a.checksum ≡ b.checksum → clash_with given a ≡ clash_with given b
unfolding clash_from
same_clash given a b same = ap (λ (held : List ℕ). clash_from given held) same

reports_here : (held : List Checksum) (first other : Checksum) (found : Option Checksum) (later : Option ClashData) → find (differs first) held ≡ found
    → In other held → differs first other ≡ true → Agree held → or_later first found later ≡ Some (clash_with first other)
reports_here held first other (Some found) later is i differ agree =
    let f = In-found (differs first) held found is in
    ap (λ (clash : ClashData). Some clash) (same_clash first found other (same_checksum first found other f.1 differ (agree found other (Contains-from held found f.0) (Contains-from held other i))))
reports_here held first other None later is i differ agree = absurd (false≢true (sym (not_found (differs first) held other is i) ∙ differ))

reports_after : (held before : List Checksum) (first : Checksum) (after : List Checksum) (other : Checksum) → Contains (held ++ before) other → differs first other ≡ true
    → Agree (held ++ before) → first_clash held (before ++ first ∷ after) ≡ Some (clash_with first other)
reports_after held [] first after other among differ agree =
    let all : held ++ [] ≡ held = append-nil held in
    reports_here held first other (find (differs first) held) (first_clash (held ++ first ∷ []) after) refl (In-from held other (subst (λ (ys : List Checksum). Contains ys other) all among)) differ (subst Agree all agree)
reports_after held (b ∷ bs) first after other among differ agree =
    let all : held ++ b ∷ bs ≡ (held ++ b ∷ []) ++ bs = sym (append_assoc held (b ∷ []) bs) in
    let here : Contains (held ++ b ∷ bs) b = Contains-append_right held (b ∷ bs) b (Contains-from (b ∷ bs) b (inl refl)) in
    let none : find (differs b) held ≡ None = find_none (differs b) held (λ x i. agree b x here (Contains-append_left held (b ∷ bs) x (Contains-from held x i))) in
    ap (λ (found : Option Checksum). or_later b found (first_clash (held ++ b ∷ []) (bs ++ first ∷ after))) none
    ∙ reports_after (held ++ b ∷ []) bs first after other (subst (λ (ys : List Checksum). Contains ys other) all among) differ (subst Agree all agree)

pub told_first : (held given : List Checksum) (clash : ClashData) → IsFirstClash held given clash → first_clash held given ≡ Some clash
told_first held given clash is =
    ap (λ (xs : List Checksum). first_clash held xs) is.place
    ∙ reports_after held is.before is.first is.after is.other is.among is.differ is.none_before
    ∙ ap (λ (told : ClashData). Some told) (sym is.told)

none_at : (held : List Checksum) (x : Checksum) (xs : List Checksum) (other : Option Checksum) → find (differs x) held ≡ other → Agree held
    → (Agree (held ++ x ∷ []) → first_clash (held ++ x ∷ []) xs ≡ None → Agree ((held ++ x ∷ []) ++ xs))
    → or_later x other (first_clash (held ++ x ∷ []) xs) ≡ None → Agree (held ++ x ∷ xs)
none_at held x xs (Some other) found agree later e = absurd (none-some (clash_with x other) (sym e))
none_at held x xs None found agree later e = subst Agree (append_assoc held (x ∷ []) xs) (later (agree_more held x agree found) e)

pub none_told : (held given : List Checksum) → Agree held → first_clash held given ≡ None → Agree (held ++ given)
none_told held [] agree e = subst Agree (sym (append-nil held)) agree
none_told held (x ∷ xs) agree e =
    none_at held x xs (find (differs x) held) refl agree (λ more rest. none_told (held ++ x ∷ []) xs more rest) e

not_both : (held given : List Checksum) (clash : ClashData) → IsFirstClash held given clash → Agree (held ++ given) → ⊥
not_both held given clash l agree =
    let first : Contains (held ++ given) l.first =
    subst (λ (xs : List Checksum). Contains (held ++ xs) l.first) (sym l.place)
    (Contains-append_right held (l.before ++ l.first ∷ l.after) l.first (Contains-append_right l.before (l.first ∷ l.after) l.first (Contains-from (l.first ∷ l.after) l.first (inl refl)))) in
    let other : Contains (held ++ given) l.other =
    subst (λ (xs : List Checksum). Contains (held ++ xs) l.other) (sym l.place)
    (subst (λ (xs : List Checksum). Contains xs l.other) (append_assoc held l.before (l.first ∷ l.after)) (Contains-append_left (held ++ l.before) (l.first ∷ l.after) l.other l.among)) in
    false≢true (sym (agree l.first l.other first other) ∙ l.differ)

none_when : (held given : List Checksum) (told : Option ClashData) → first_clash held given ≡ told → Agree held → Agree (held ++ given) → told ≡ None
none_when held given None is agree all = refl
none_when held given (Some clash) is agree all = absurd (not_both held given clash (first_told held given clash agree is) all)

pub agree_none : (held given : List Checksum) → Agree held → Agree (held ++ given) → first_clash held given ≡ None
agree_none held given agree all = none_when held given (first_clash held given) refl agree all

-- ---- tables

pub rows_accepted : (table : Table) (rows : List Row) → all_rows (table ++ rows ∷ []) ≡ all_rows table ++ rows
rows_accepted table rows = flat_map-append (λ (xs : List Row). xs) table (rows ∷ []) ∙ ap (λ (xs : List Row). all_rows table ++ xs) (append-nil rows)

pub checksums-accepted : (table : Table) (rows : List Row) → checksums_in (all_rows (table ++ rows ∷ [])) ≡ checksums_in (all_rows table) ++ checksums_in rows
checksums-accepted table rows =
    ap checksums_in (rows_accepted table rows)
    ∙ flat_map-append checksum_of_row (all_rows table) rows

pub agree_submitted : (table : Table) (s : SubmissionData) → clash_at table s ≡ None → Agree (checksums_in (all_rows table)) → Agree (checksums_in (all_rows (table ++ rows_of s ∷ [])))
agree_submitted table s is agree =
    subst Agree (sym (checksums-accepted table (rows_of s))) (none_told (checksums_in (all_rows table)) (checksums_in (rows_of s)) agree is)

pub agree_empty : Agree []
agree_empty a b i j = absurd (In-from [] a i)
