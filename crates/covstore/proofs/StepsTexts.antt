-- The checksums' texts after one text is inserted, and the held checksums after one more test holds a line's checksum.
use Rattle.covstore.proofs.Words.{◌≡◌, ℕ, Bool, true, false, cond, Option, Some, None, List, refl, sym, ap, ◌∙◌, subst, inl, inr, ⊎_elim, ◌⊎◌, OnOk, Ordering, Less, Equal, Greater, is_eq, nat_cmp, false≢true, AreAmong, HaveTexts, KeepsTexts, StayTexts, put, value_of, lines_order}
use Rattle.std.specs.Prelude.{Result, Ok, Err}
use Rattle.std.specs.Option.{is_some}
use Rattle.std.specs.Result.{is_err}
use Rattle.covstore.proofs.Puts.{value_of-put, value_of-put_any, value_of-put_other}

-- ---- what is there

some_if : {V : Type 0} (here : Bool) (value : V) (rest : Option V) → is_some rest ≡ true → is_some (cond here (Some value) rest) ≡ true
some_if true value rest e = refl
some_if false value rest e = e

-- a line with a value still has one after another value is put in
pub some_after : {V : Type 0} (line other : ℕ) (value : V) (pairs : List (ℕ × V)) → is_some (value_of nat_cmp other pairs) ≡ true → is_some (value_of nat_cmp other (put nat_cmp line value pairs)) ≡ true
some_after line other value pairs e =
    ap is_some (value_of-put_any lines_order line other value pairs) ∙ some_if (is_eq (nat_cmp line other)) value (value_of nat_cmp other pairs) e

module _ (line : ℕ) (text : List ℕ) (holders : List (ℕ × ℕ)) (texts more : List (ℕ × List ℕ)) (is_put : more ≡ put nat_cmp line text texts) where
  -- the text is there
  pub inserted_is : value_of nat_cmp line more ≡ Some text
  inserted_is = ap (value_of nat_cmp line) is_put ∙ value_of-put lines_order line text texts

  pub have_inserted : HaveTexts holders texts → HaveTexts holders more
  have_inserted have other e = ap (λ (pairs : List (ℕ × List ℕ)). is_some (value_of nat_cmp other pairs)) is_put ∙ some_after line other text texts (have other e)

  other_text : (none : value_of nat_cmp line holders ≡ None) (other : ℕ) → is_some (value_of nat_cmp other holders) ≡ true → value_of nat_cmp other more ≡ value_of nat_cmp other texts
  other_text none other e =
      ap (value_of nat_cmp other) is_put
      ∙ value_of-put_other lines_order line other text texts (λ same. false≢true (sym (ap is_some none) ∙ ap (λ (l : ℕ). is_some (value_of nat_cmp l holders)) same ∙ e))

  -- if no checksum of the line is held, the texts of lines with a committed checksum stay
  pub stay_inserted : (committed : List (ℕ × ℕ)) → AreAmong committed holders → value_of nat_cmp line holders ≡ None → StayTexts committed texts more
  stay_inserted committed among none other e = other_text none other (among other e)

  -- if one test then holds the line's checksum, all held checksums stay, with their texts
  pub keeps_first : (others : List (ℕ × ℕ)) → value_of nat_cmp line holders ≡ None → others ≡ put nat_cmp line 1 holders → KeepsTexts holders texts others more
  keeps_first others none puts = record {
    committed = λ other e. ap (λ (pairs : List (ℕ × ℕ)). is_some (value_of nat_cmp other pairs)) puts ∙ some_after line other 1 holders e;
    texts_stay = other_text none;
  }

module _ (line tests : ℕ) (holders others : List (ℕ × ℕ)) (puts : others ≡ put nat_cmp line tests holders) where
  -- afterwards, a checksum of the line is held
  pub held_is : is_some (value_of nat_cmp line others) ≡ true
  held_is = ap is_some (ap (value_of nat_cmp line) puts ∙ value_of-put lines_order line tests holders)

  lookup_at : (other : ℕ) → is_some (value_of nat_cmp other others) ≡ true → (nat_cmp line other ≡ Equal) ⊎ (is_some (value_of nat_cmp other holders) ≡ true)
  lookup_at other e = by (nat_cmp line other) refl (sym (ap is_some (ap (value_of nat_cmp other) puts ∙ value_of-put_any lines_order line other tests holders)) ∙ e)
    where
      by : (order : Ordering) → nat_cmp line other ≡ order → is_some (cond (is_eq order) (Some tests) (value_of nat_cmp other holders)) ≡ true
          → (nat_cmp line other ≡ Equal) ⊎ (is_some (value_of nat_cmp other holders) ≡ true)
      by Less is h = inr h
      by Equal is h = inl is
      by Greater is h = inr h

  pub have_held : (texts : List (ℕ × List ℕ)) → is_some (value_of nat_cmp line texts) ≡ true → HaveTexts holders texts → HaveTexts others texts
  have_held texts there have other e =
      ⊎_elim (λ (same : nat_cmp line other ≡ Equal). subst (λ (l : ℕ). is_some (value_of nat_cmp l texts) ≡ true) (lines_order.exact line other same) there) (λ h. have other h) (lookup_at other e)

  -- lines with a held checksum still have one
  pub among_held : (committed : List (ℕ × ℕ)) → AreAmong committed holders → AreAmong committed others
  among_held committed among other e = ap (λ (pairs : List (ℕ × ℕ)). is_some (value_of nat_cmp other pairs)) puts ∙ some_after line other tests holders (among other e)

  -- after one more test holds the line's checksum, all held checksums are still held, with their texts
  pub keeps_committed : (texts : List (ℕ × List ℕ)) → KeepsTexts holders texts others texts
  keeps_committed texts = record {
    committed = λ other e. ap (λ (pairs : List (ℕ × ℕ)). is_some (value_of nat_cmp other pairs)) puts ∙ some_after line other tests holders e;
    texts_stay = λ other e. refl;
  }

-- two facts of a success
pub on_ok_both : {T E P Q R : Type 0} (r : Result T E) → (P → Q → R) → OnOk r P → OnOk r Q → OnOk r R
on_ok_both (Ok x) f p q = f p q
on_ok_both (Err e) f p q = tt

-- if the result isn't an error, what `OnOk` says is true
pub ok_unless : {T E P : Type 0} (r : Result T E) {b : Bool} → b ≡ is_err r → b ≡ false → OnOk r P → P
ok_unless (Ok x) is without h = h
ok_unless (Err e) is without h = absurd (false≢true (sym without ∙ is))
