-- A step of a match keeps its answer and leaves fewer steps.
use Rattle.std.proofs.Common.{◌≡◌, ℕ, suc, ◌+◌, ◌*◌, ◌<◌, ◌≤◌, Bool, true, false, ◌||◌, ◌∷◌, length, refl, ap, ◌∙◌, arith, Option, Some, None}
use Rattle.std.proofs.lemmas.Nat.{mul-le}
use Rattle.covreport.specs.Pattern.{AnyRun, OneByte, ByteSet, takes, fits, parts_of}
use Rattle.covreport.specs.PatternSteps.{fits_at, fits_following, steps_from, GoesOnFrom, Proceeds}
use Rattle.covreport.specs.declared.pattern.steps.Position.{Position}
use Rattle.covreport.proofs.Heads.{IsRead}
use Rattle.covreport.proofs.Stars.{fits_run, fits_after, star_over_byte, star_star}

-- ---- one byte taken

taken_fits : (set : ByteSet) (b : ℕ) (old new : Position) → parts_of old.pattern.now ≡ OneByte set ∷ parts_of new.pattern.now → old.path.now ≡ b ∷ new.path.now → takes set b ≡ true → fits_at new ≡ fits_at old
taken_fits set b old new parts path is = rw (parts, path, is) refl

taken_goes_on : (set : ByteSet) (b : ℕ) (old new : Position) (star : Option Position) → IsRead old.pattern.now (OneByte set) new.pattern.now → old.path.now ≡ b ∷ new.path.now → GoesOnFrom star old → GoesOnFrom star new
taken_goes_on set b old new None read path goes = tt
taken_goes_on set b old new (Some star) read path goes = record {
  pattern = omega (arith, read.less, goes.pattern);
  path = omega (arith, goes.path, ap length path);
  fits_too = λ fit.
      let fit_old : fits (AnyRun ∷ OneByte set ∷ parts_of new.pattern.now) (b ∷ new.path.now) ≡ true = rw (read.parts, path) at (goes.fits_too fit) in
      star_over_byte set (parts_of new.pattern.now) b new.path.now fit_old;
}

taken_fewer : (set : ByteSet) (b : ℕ) (old new : Position) (star : Option Position) → IsRead old.pattern.now (OneByte set) new.pattern.now → old.path.now ≡ b ∷ new.path.now → steps_from new star < steps_from old star
taken_fewer set b old new None read path =
    let longer : length old.path.now ≡ suc (length new.path.now) = ap length path in
    let most : (length new.pattern.now + 1) * (length new.path.now + 1) ≤ length old.pattern.now * (length new.path.now + 1) = mul-le _ _ _ _ read.less (omega arith) in
    rw longer (omega (arith, most))
taken_fewer set b old new (Some star) read path = omega (arith, read.less)

pub byte_taken : (set : ByteSet) (b : ℕ) (old new : Position) (star : Option Position) → IsRead old.pattern.now (OneByte set) new.pattern.now → old.path.now ≡ b ∷ new.path.now → takes set b ≡ true → GoesOnFrom star old →
    Proceeds (record { here = old; star = star }) (record { here = new; star = star })
byte_taken set b old new star read path is goes = record {
  answer = ap (λ (f : Bool). f || fits_following star) (taken_fits set b old new read.parts path is);
  goes_on = taken_goes_on set b old new star read path goes;
  fewer = taken_fewer set b old new star read path;
}

-- ---- a star

absorbs : (x y : Bool) → (y ≡ true → x ≡ true) → x ≡ (x || y)
absorbs true y under = refl
absorbs false true under = under refl
absorbs false false under = refl

-- if there is a match in which the star before takes more, there is a match with the new star
covered : (old new : Position) (star : Option Position) → IsRead old.pattern.now AnyRun new.pattern.now → old.path.now ≡ new.path.now → GoesOnFrom star old →
    fits_following star ≡ true → fits (AnyRun ∷ parts_of new.pattern.now) new.path.now ≡ true
covered old new None read path goes fit = absurd cc
covered old new (Some star) read path goes fit =
    let before : fits (AnyRun ∷ AnyRun ∷ parts_of new.pattern.now) new.path.now ≡ true = rw (read.parts, path) at (goes.fits_too (fits_after (parts_of star.pattern.now) star.path.now fit)) in
    star_star (parts_of new.pattern.now) new.path.now before

starred_fewer : (old new : Position) (star : Option Position) → IsRead old.pattern.now AnyRun new.pattern.now → old.path.now ≡ new.path.now → GoesOnFrom star old → steps_from new (Some new) < steps_from old star
starred_fewer old new None read path goes =
    let same : length old.path.now ≡ length new.path.now = ap length path in
    let most : (length new.pattern.now + 1) * (length new.path.now + 1) ≤ length old.pattern.now * (length new.path.now + 1) = mul-le _ _ _ _ read.less (omega arith) in
    rw same (omega (arith, most))
starred_fewer old new (Some star) read path goes =
    let same : length old.path.now ≡ length new.path.now = ap length path in
    let most : (length new.pattern.now + 1) * length new.path.now ≤ (length star.pattern.now + 1) * length star.path.now = mul-le _ _ _ _ (omega (arith, read.less, goes.pattern)) (omega (arith, goes.path)) in
    omega (arith, most, read.less)

pub star_seen : (old new : Position) (star : Option Position) → IsRead old.pattern.now AnyRun new.pattern.now → old.path.now ≡ new.path.now → GoesOnFrom star old →
    Proceeds (record { here = old; star = star }) (record { here = new; star = Some new })
star_seen old new star read path goes = record {
  answer =
      fits_run (parts_of new.pattern.now) new.path.now
      ∙ absorbs (fits (AnyRun ∷ parts_of new.pattern.now) new.path.now) (fits_following star) (covered old new star read path goes)
      ∙ ap (λ (f : Bool). f || fits_following star) (rw (read.parts, path) refl);
  goes_on = record { pattern = omega arith; path = omega arith; fits_too = λ fit. fit };
  fewer = starred_fewer old new star read path goes;
}
