-- How far a match has come: what its answer will be, at most how many steps are left, and what a step keeps.
use Rattle.std.specs.Prelude.{◌≡◌, ◌<◌, ◌≤◌, ◌+◌, ◌*◌, ℕ, Bool, true, false, ◌||◌, List, [], ◌∷◌, length, Option, None, Some}
use Rattle.covreport.specs.Pattern.{Part, AnyRun, parts_of, fits}
use Rattle.covreport.specs.declared.pattern.steps.Position.{Position}
use Rattle.covreport.specs.declared.pattern.steps.Matcher.{Matcher}

-- what is left of the pattern fits what is left of the path
abbrev pub fits_at : Position → Bool
fits_at place = fits (parts_of place.pattern.now) place.path.now

-- the parts fit some end of the path that is shorter than the whole path
abbrev pub fits_later : List Part → List ℕ → Bool
fits_later parts [] = false
fits_later parts (b ∷ path) = fits (AnyRun ∷ parts) path

-- there is a last star, and the parts after it fit what is left of the path if the star's run ends later than where it was last
-- taken to end
abbrev pub fits_following : Option Position → Bool
fits_following None = false
fits_following (Some star) = fits_later (parts_of star.pattern.now) star.path.now

-- what the match will answer
abbrev pub answer_of : Matcher → Bool
answer_of matcher = fits_at matcher.here || fits_following matcher.star

-- the most steps that a match takes from this place, with this last star
abbrev pub steps_from : Position → Option Position → ℕ
steps_from here None = (length here.pattern.now + 1) * (length here.path.now + 1)
steps_from here (Some star) = length here.pattern.now + 1 + (length star.pattern.now + 1) * length star.path.now

abbrev pub steps_left : Matcher → ℕ
steps_left matcher = steps_from matcher.here matcher.star

-- `here` comes from `star`: no more of the pattern and of the path is left here than was left after the star. If the parts that
-- were left after the star fit some end of the path that was left there, the parts that are left here fit some end of the path
-- that is left here
pub record ComesFrom (star here : Position) : Type 0 where
  pub pattern : length here.pattern.now ≤ length star.pattern.now
  pub path : length here.path.now ≤ length star.path.now
  pub fits_too : fits (AnyRun ∷ parts_of star.pattern.now) star.path.now ≡ true → fits (AnyRun ∷ parts_of here.pattern.now) here.path.now ≡ true

abbrev pub GoesOnFrom : Option Position → Position → Type 0
GoesOnFrom None here = Unit {0}
GoesOnFrom (Some star) here = ComesFrom star here

abbrev pub GoesOn : Matcher → Type 0
GoesOn matcher = GoesOnFrom matcher.star matcher.here

-- a step keeps the answer and leaves fewer steps
pub record Proceeds (old new : Matcher) : Type 0 where
  pub answer : answer_of new ≡ answer_of old
  pub goes_on : GoesOn new
  pub fewer : steps_left new < steps_left old
