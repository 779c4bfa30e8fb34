-- What one more line changes in what the lines above give.
use Rattle.std.proofs.Common.{◌≡◌, ℕ, Bool, true, false, List, [], ◌∷◌, ◌++◌, Option, Some, None, refl, sym, ap, ◌∙◌, append_assoc, inl, inr}
use Rattle.std.specs.Option.{option_or}
use Rattle.std.specs.List.{list_any}
use Rattle.std.proofs.lemmas.Bool.{cases_Bool}
use Rattle.std.proofs.lemmas.List.{append-nil}
use Rattle.covdata.specs.Row.{ItemData, SectData}
use Rattle.covread.specs.Gcov.{GcovLine, Path}
use Rattle.covread.specs.GcovItems.{is_path, after_last, last_number, items_given, items_until, section_at, sects_from, is_empty}

-- ---- the lines after the last one

pub any-yes : (so : GcovLine → Bool) (xs : List GcovLine) (says : GcovLine) → so says ≡ true → list_any so (xs ++ says ∷ []) ≡ true
any-yes so [] says holds = rw holds refl
any-yes so (x ∷ xs) says holds = elim (cases_Bool (so x)) [ inl t ↦ rw t refl | inr f ↦ rw (f, any-yes so xs says holds) refl ]

pub any-no : (so : GcovLine → Bool) (xs : List GcovLine) (says : GcovLine) → so says ≡ false → list_any so (xs ++ says ∷ []) ≡ list_any so xs
any-no so [] says fails = rw fails refl
any-no so (x ∷ xs) says fails = rw (any-no so xs says fails) refl

pub after_last-yes : (so : GcovLine → Bool) (xs : List GcovLine) (says : GcovLine) → so says ≡ true → after_last so (xs ++ says ∷ []) ≡ []
after_last-yes so [] says holds = rw holds refl
after_last-yes so (x ∷ xs) says holds = rw (any-yes so xs says holds) (after_last-yes so xs says holds)

pub after_last-no : (so : GcovLine → Bool) (xs : List GcovLine) (says : GcovLine) → so says ≡ false → after_last so (xs ++ says ∷ []) ≡ after_last so xs ++ says ∷ []
after_last-no so [] says fails = rw fails refl
after_last-no so (x ∷ xs) says fails =
    elim (cases_Bool (list_any so xs)) [
      | inl t ↦ rw (any-no so xs says fails, t) (after_last-no so xs says fails)
      | inr f ↦ elim (cases_Bool (so x)) [
        | inl t ↦ rw (any-no so xs says fails, f, t) refl
        | inr g ↦ rw (any-no so xs says fails, f, g) refl
      ]
    ]

-- ---- what the last line gives

or_none : (a : Option ℕ) → option_or None a ≡ option_or a None
or_none None = refl
or_none (Some x) = refl

or_assoc : (a b c : Option ℕ) → option_or (option_or a b) c ≡ option_or a (option_or b c)
or_assoc None b c = refl
or_assoc (Some x) b c = refl

pub last_number-more : (gives : GcovLine → Option ℕ) (xs : List GcovLine) (says : GcovLine) → last_number gives (xs ++ says ∷ []) ≡ option_or (gives says) (last_number gives xs)
last_number-more gives [] says = or_none (gives says)
last_number-more gives (x ∷ xs) says = rw (last_number-more gives xs says) (or_assoc (gives says) (last_number gives xs) (gives x))

-- ---- the items up to the next path

pub until-path : (above xs : List GcovLine) (path : List ℕ) → items_until above (xs ++ Path path ∷ []) ≡ items_until above xs
until-path above [] path = refl
until-path above (x ∷ xs) path = rw (until-path (above ++ x ∷ []) xs path) refl

moved : (above xs : List GcovLine) (x says : GcovLine) → items_given ((above ++ x ∷ []) ++ xs) says ≡ items_given (above ++ x ∷ xs) says
moved above xs x says = ap (λ (ls : List GcovLine). items_given ls says) (append_assoc above (x ∷ []) xs)

until-more : (above xs : List GcovLine) (says : GcovLine) → is_path says ≡ false → list_any is_path xs ≡ false
    → items_until above (xs ++ says ∷ []) ≡ items_until above xs ++ items_given (above ++ xs) says
until-more above [] says fails none =
    rw (fails, append-nil above) (append-nil (items_given above says))
until-more above (Path p ∷ xs) says fails none = absurd cc
until-more above (x ∷ xs) says fails none =
    ap (λ (is : List ItemData). items_given above x ++ is) (until-more (above ++ x ∷ []) xs says fails none ∙ ap (λ (is : List ItemData). items_until (above ++ x ∷ []) xs ++ is) (moved above xs x says))
    ∙ sym (append_assoc (items_given above x) (items_until (above ++ x ∷ []) xs) (items_given (above ++ x ∷ xs) says))

until-other : (above xs ys : List GcovLine) → list_any is_path xs ≡ true → items_until above (xs ++ ys) ≡ items_until above xs
until-other above [] ys some = absurd cc
until-other above (Path p ∷ xs) ys some = refl
until-other above (x ∷ xs) ys some = ap (λ (is : List ItemData). items_given above x ++ is) (until-other (above ++ x ∷ []) xs ys some)

-- ---- the sections

-- the sections, with more items in the last one
abbrev pub extended : List SectData → List ItemData → List SectData
extended [] items = []
extended (s ∷ []) items = record { test = s.test; file = s.file; items = s.items ++ items } ∷ []
extended (s ∷ t ∷ ss) items = s ∷ extended (t ∷ ss) items

pub extended-last : (ss : List SectData) (s : SectData) (items : List ItemData) → extended (ss ++ s ∷ []) items ≡ ss ++ record { test = s.test; file = s.file; items = s.items ++ items } ∷ []
extended-last [] s items = refl
extended-last (t ∷ []) s items = refl
extended-last (t ∷ u ∷ ss) s items = ap (λ (rest : List SectData). t ∷ rest) (extended-last (u ∷ ss) s items)

extended-front : (s : SectData) (ss : List SectData) (items : List ItemData) → is_empty ss ≡ false → extended (s ∷ ss) items ≡ s ∷ extended ss items
extended-front s [] items some = absurd cc
extended-front s (t ∷ ss) items some = refl

sects-none : (test : List ℕ) (above xs : List GcovLine) → list_any is_path xs ≡ false → sects_from test above xs ≡ []
sects-none test above [] none = refl
sects-none test above (Path p ∷ xs) none = absurd cc
sects-none test above (x ∷ xs) none = sects-none test (above ++ x ∷ []) xs none

sects-some : (test : List ℕ) (above xs : List GcovLine) → list_any is_path xs ≡ true → is_empty (sects_from test above xs) ≡ false
sects-some test above [] some = absurd cc
sects-some test above (Path p ∷ xs) some = refl
sects-some test above (x ∷ xs) some = sects-some test (above ++ x ∷ []) xs some

pub sects-path : (test : List ℕ) (above xs : List GcovLine) (path : List ℕ)
    → sects_from test above (xs ++ Path path ∷ []) ≡ sects_from test above xs ++ record { test = test; file = path; items = [] } ∷ []
sects-path test above [] path = refl
sects-path test above (x ∷ xs) path =
    rw (until-path (above ++ x ∷ []) xs path, sects-path test (above ++ x ∷ []) xs path)
    (sym (append_assoc (section_at test (items_until (above ++ x ∷ []) xs) x) (sects_from test (above ++ x ∷ []) xs) (record { test = test; file = path; items = [] } ∷ [])))

section-none : (test : List ℕ) (items : List ItemData) (says : GcovLine) → is_path says ≡ false → section_at test items says ≡ []
section-none test items (Path p) fails = absurd cc
section-none test items says fails = refl

abbrev sect_of : List ℕ → List ℕ → List ItemData → SectData
sect_of test path items = record { test = test; file = path; items = items }

pub sects-more : (test : List ℕ) (above xs : List GcovLine) (says : GcovLine) → is_path says ≡ false
    → sects_from test above (xs ++ says ∷ []) ≡ extended (sects_from test above xs) (items_given (above ++ xs) says)
sects-more test above [] says fails = rw (section-none test [] says fails) refl
sects-more test above (Path p ∷ xs) says fails =
    let next = above ++ Path p ∷ [] in
    let rest : sects_from test next (xs ++ says ∷ []) ≡ extended (sects_from test next xs) (items_given (above ++ Path p ∷ xs) says)
    = sects-more test next xs says fails ∙ ap (extended (sects_from test next xs)) (moved above xs (Path p) says) in
    elim (cases_Bool (list_any is_path xs)) [
      | inl some ↦
          ap (λ (is : List ItemData). sect_of test p is ∷ sects_from test next (xs ++ says ∷ [])) (until-other next xs (says ∷ []) some)
          ∙ ap (λ (ss : List SectData). sect_of test p (items_until next xs) ∷ ss) rest
          ∙ sym (extended-front (sect_of test p (items_until next xs)) (sects_from test next xs) (items_given (above ++ Path p ∷ xs) says) (sects-some test next xs some))
      | inr none ↦
          let empty : sects_from test next xs ≡ [] = sects-none test next xs none in
          ap (λ (is : List ItemData). sect_of test p is ∷ sects_from test next (xs ++ says ∷ [])) (until-more next xs says fails none ∙ ap (λ (is : List ItemData). items_until next xs ++ is) (moved above xs (Path p) says))
          ∙ ap (λ (ss : List SectData). sect_of test p (items_until next xs ++ items_given (above ++ Path p ∷ xs) says) ∷ ss) (rest ∙ ap (λ (ss : List SectData). extended ss (items_given (above ++ Path p ∷ xs) says)) empty)
          ∙ sym (ap (λ (ss : List SectData). extended (sect_of test p (items_until next xs) ∷ ss) (items_given (above ++ Path p ∷ xs) says)) empty)
    ]
sects-more test above (x ∷ xs) says fails =
    sects-more test (above ++ x ∷ []) xs says fails ∙ ap (extended (sects_from test (above ++ x ∷ []) xs)) (moved above xs x says)
