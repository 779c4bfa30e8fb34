-- The places of logs, one log after another.
use Rattle.std.proofs.Common.{◌≡◌, ℕ, ◌+◌, ◌<◌, List, length, get_or, drop, map, sym, ap, ◌∙◌, subst}
use Rattle.std.specs.List.{AllByRecursion}
use Rattle.covbook.specs.Gather.{LogData, Rise, places_of, places_in}
use Rattle.covbook.specs.GatherSteps.{below}
use Rattle.covbook.proofs.Claims.{rest_is}
use Rattle.covbook.proofs.PlaceCounts.{all_at, all_unmapped, below_append}

-- how many places of the logs from index `i` on are below a number: those of the log at `i`, plus those of all later logs
pub rest_below : {X : Type 0} (f : X → LogData) (xs : List X) (i : ℕ) (x : X) (place : ℕ) → i < length xs → x ≡ get_or xs i x
    → below place (places_in (map f (drop i xs))) ≡ below place (places_of (f x)) + below place (places_in (map f (drop (i + 1) xs)))
rest_below {X} f xs i x place within is =
    ap (λ (ys : List X). below place (places_in (map f ys))) (rest_is xs i x within is) ∙ below_append place (places_of (f x)) (places_in (map f (drop (i + 1) xs)))

pub rise_at : {X : Type 0} (f : X → LogData) (xs : List X) (i : ℕ) (x : X) → i < length xs → x ≡ get_or xs i x → AllByRecursion (λ (log : LogData). Rise (places_of log)) (map f xs) → Rise (places_of (f x))
rise_at {X} f xs i x within is rise =
    subst (λ (y : X). Rise (places_of (f y))) (sym is) (all_at (λ (y : X). Rise (places_of (f y))) xs i x (all_unmapped (λ (log : LogData). Rise (places_of log)) f xs rise) within)
