-- A section is closed.
use Rattle.std.proofs.Common.{◌≡◌, ℕ, zero, suc, ◌+◌, ◌-◌, ◌≤◌, List, [], ◌∷◌, ◌++◌, length, take, drop, refl, sym, ap, ◌∙◌, subst, arith, append_assoc}
use Rattle.std.specs.Prelude.{OnErr, Result, Ok, Err, Option, Some, IfSome, slice_get}
use Rattle.std.specs.List.{AllByRecursion}
use Rattle.std.proofs.lemmas.List.Sums.{sum_by-cons}
use Rattle.std.proofs.lemmas.List.{drop_all, length-append, length-drop, length-map, length-take-le}
use Rattle.covdata.specs.Row.{ItemData, SectData, items_in}
use Rattle.covpacked.specs.declared.packed_sects.ClosedSect.{ClosedSect}
use Rattle.covpacked.specs.declared.packed_sects.TextPlace.{TextPlace}
use Rattle.covpacked.specs.Layout.{BeginWith}
use Rattle.covpacked.specs.PackedView.{ArePacked, HasTexts, IsTextAt, PackedData, closed_items, items_of, packed_data, sects_of}
use Rattle.covpacked.specs.Words.{item_of, text_at}
use Rattle.covpacked.proofs.Layouts.{text_same}
use Rattle.covpacked.proofs.Packeds.{all_pushed, begins_with_itself, grown_data, grown_ok, more_items, sect_closed, text_new}

-- a text stays where it is while the texts grow
pub text_stays : (texts after text : List ℕ) (place : TextPlace) → BeginWith after texts → IsTextAt texts text place → IsTextAt after text place
text_stays texts after text place grows is = subst (λ (ts : List ℕ). IsTextAt ts text place) (sym grows.appended) (record {
  is = text_same texts grows.more place.begin place.bytes is.fits ∙ is.is;
  fits = let l = length-append texts grows.more in let f = is.fits in omega (arith, l, f);
})

-- the text that was appended
pub text_appended : (texts after text : List ℕ) (place : TextPlace) → after ≡ texts ++ text → place.begin ≡ length texts → place.bytes ≡ length text → IsTextAt after text place
text_appended texts after text place a begin bytes = subst (λ (ts : List ℕ). IsTextAt ts text place) (sym a) (record {
  is = ap (λ (n : ℕ). text_at (texts ++ text) n place.bytes) begin ∙ ap (text_at (texts ++ text) (length texts)) bytes ∙ text_new texts text;
  fits = let l = length-append texts text in omega (arith, l, begin, bytes);
})

pub begins_further : (last middle first : List ℕ) → BeginWith last middle → BeginWith middle first → BeginWith last first
begins_further last middle first l m = record {
  more = m.more ++ l.more;
  appended = l.appended ∙ ap (λ (ns : List ℕ). ns ++ l.more) m.appended ∙ append_assoc first m.more l.more;
}

module _ (numbers texts words : List ℕ) (sects : List ClosedSect) (closed : ℕ) (ok : ArePacked numbers texts words sects closed) (after : List ℕ) (grows : BeginWith after texts) where
  -- the texts grew, and nothing else
  pub named_ok : ArePacked numbers after words sects closed
  named_ok = grown_ok numbers texts words sects closed ok numbers after (begins_with_itself numbers) grows

  pub named_data : packed_data numbers after words sects closed ≡ packed_data numbers texts words sects closed
  named_data = grown_data numbers texts words sects closed ok numbers after (begins_with_itself numbers) grows

  module _ (s : ClosedSect) (test file : List ℕ) (is_test : IsTextAt after test s.test) (is_file : IsTextAt after file s.file) (count : s.items ≡ length words - closed) (sects-after : List ClosedSect) (pushed : sects-after ≡ sects ++ s ∷ []) where
    all_closed : (first : List ClosedSect) → closed_items (first ++ s ∷ []) ≡ closed_items first + s.items
    all_closed [] = omega arith
    all_closed (one ∷ first) = let e = all_closed first in omega (arith, e)

    pub closed_ok : ArePacked numbers after words sects-after (length words)
    closed_ok = subst (λ (some : List ClosedSect). ArePacked numbers after words some (length words)) (sym pushed) (record {
      all = let e = all_closed sects in let all = ok.all in let few = ok.few in omega (arith, e, all, few, count);
      few = omega arith;
      lie = named_ok.lie;
      item_texts = named_ok.item_texts;
      names = all_pushed (HasTexts after) sects s named_ok.names (record { test = is_test.fits; file = is_file.fits });
    })

    abbrev items : List ItemData
    items = items_of numbers after words

    abbrev named : List ℕ → List ℕ → List ItemData → List SectData
    named t f some = sects_of after items sects ++ record { test = t; file = f; items = some } ∷ []

    pub closed_sects : sects_of after items sects-after ≡ (packed_data numbers texts words sects closed).sects ++ record { test = test; file = file; items = (packed_data numbers texts words sects closed).items } ∷ []
    closed_sects =
        ap (sects_of after items) pushed
        ∙ sect_closed after items sects s (let l = length-map words (item_of numbers after) in let all = ok.all in let few = ok.few in omega (arith, l, all, few, count))
        ∙ ap (λ (t : List ℕ). named t (text_at after s.file.begin s.file.bytes) (drop (closed_items sects) items)) is_test.is
        ∙ ap (λ (f : List ℕ). named test f (drop (closed_items sects) items)) is_file.is
        ∙ ap (λ (n : ℕ). named test file (drop n items)) (sym ok.all)
        ∙ ap (λ (d : PackedData). d.sects ++ record { test = test; file = file; items = d.items } ∷ []) named_data

    pub closed_items_none : drop (length words) items ≡ []
    closed_items_none = let l = length-map words (item_of numbers after) in drop_all (length words) items (omega (arith, l))

pub on_err_any : {X E P : Type 0} (r : Result X E) → P → OnErr r P
on_err_any (Ok x) p = tt
on_err_any (Err e) p = p

-- what holds of all elements holds of one that is found
pub all_found : {X : Type 0} (P : X → Type 0) (xs : List X) (i : ℕ) (x : X) → AllByRecursion P xs → Some x ≡ slice_get xs i → P x
all_found P [] i x all e = absurd cc
all_found P (y ∷ xs) zero x all e = subst (λ (o : Option _). IfSome o P) (sym e) all.0
all_found P (y ∷ xs) (suc i) x all e = all_found P xs i x all.1 e

-- ---- how many items the closed sections have

pub closed_count : (texts : List ℕ) (items : List ItemData) (sects : List ClosedSect) → closed_items sects ≤ length items → items_in (sects_of texts items sects) ≡ closed_items sects
closed_count texts items [] le = refl
closed_count texts items (s ∷ sects) le =
    let m = more_items s sects in
    let l = length-drop s.items items in
    sum_by-cons (λ (sect : SectData). length sect.items) (record { test = text_at texts s.test.begin s.test.bytes; file = text_at texts s.file.begin s.file.bytes; items = take s.items items }) (sects_of texts (drop s.items items) sects)
    ∙ ap (λ (n : ℕ). n + items_in (sects_of texts (drop s.items items) sects)) (length-take-le s.items items (omega (arith, le, m)))
    ∙ ap (λ (n : ℕ). s.items + n) (closed_count texts (drop s.items items) sects (omega (arith, le, m, l)))
