-- How the code counts the different lines and branches of which there are items.
use Rattle.std.specs.Prelude.{◌≡◌, ◌+◌, ◌<◌, Bool, true, false, cond, List, [], ◌∷◌, length, map, Option, None, Some, filter}
use Rattle.std.specs.Ordering.{eq_by_cmp, is_le}
use Rattle.std.specs.declared.cmp.Ordering.{Ordering}
use Rattle.std.specs.declared.cmp.Ordering.TheVariants.{Less}
use Rattle.std.specs.List.{flat_map, list_any}
use Rattle.covdata.specs.declared.point.BranchPoint.{BranchPoint}
use Rattle.covdata.specs.declared.tally.Tally.{Tally}
use Rattle.covdata.specs.Points.{is_hit}
use Rattle.covdata.specs.Row.{ItemData, LineItem, FuncItem, BranchItem}
use Rattle.covread.specs.declared.trace.points.Ascent.{Ascent}
use Rattle.covread.specs.declared.trace.points.Hit.{Hit}
use Rattle.covread.specs.declared.trace.points.Points.{Points}
use Rattle.covread.specs.declared.trace.points.Points.TheVariants.{Ascending, Scattered}
use Rattle.covread.specs.Reads.{distinct}

-- the branch of a branch's item
abbrev pub branch_key : ItemData → List BranchPoint
branch_key (BranchItem line block branch taken) = record { line = line; block = block; branch = branch } ∷ []
branch_key (LineItem line count checksum) = []
branch_key (FuncItem name line count) = []

-- the points of the items that are hit
abbrev pub hit_points : {P : Type 0} → (ItemData → List P) → List ItemData → List P
hit_points points items = flat_map points (filter is_hit items)

-- the points that an item counts, each with whether the item is hit
abbrev pub hits_of_item : {P : Type 0} → (ItemData → List P) → ItemData → List (Hit P)
hits_of_item points item = map (λ p. record { point = p; is_hit = is_hit item }) (points item)

-- the same for each of these items, in their order
abbrev pub hits_said : {P : Type 0} → (ItemData → List P) → List ItemData → List (Hit P)
hits_said points items = flat_map (hits_of_item points) items

-- all points
abbrev pub points_in : {P : Type 0} → List (Hit P) → List P
points_in hits = map (λ h. h.point) hits

-- the points that are hit
abbrev pub hits_in : {P : Type 0} → List (Hit P) → List P
hits_in hits = points_in (filter (λ h. h.is_hit) hits)

-- the point isn't below the last one
abbrev pub goes_on : {P : Type 0} → (P → P → Ordering) → Option (Hit P) → P → Bool
goes_on R None p = true
goes_on R (Some last) p = is_le (R last.point p)

module _ {P : Type 0} (R : P → P → Ordering) where
  -- the tally has how many different points were seen, and how many different ones were hit
  pub record IsTally (own : Tally) (seen : List (Hit P)) : Type 0 where
    pub found : own.found ≡ distinct (eq_by_cmp R) (points_in seen)
    pub hit : own.hit ≡ distinct (eq_by_cmp R) (hits_in seen)

  -- the last point is the greatest one that was seen, and `below` has the totals of all other points that were seen
  pub record Reaches (below : Tally) (last : Hit P) (seen : List (Hit P)) : Type 0 where
    pub few : below.found < length seen
    pub found : below.found + 1 ≡ distinct (eq_by_cmp R) (points_in seen)
    pub hit : below.hit + cond last.is_hit 1 0 ≡ distinct (eq_by_cmp R) (hits_in seen)
    pub fresh : (q : P) → R last.point q ≡ Less → list_any (eq_by_cmp R q) (points_in seen) ≡ false
    pub unhit : (q : P) → R last.point q ≡ Less → list_any (eq_by_cmp R q) (hits_in seen) ≡ false
    pub there : list_any (eq_by_cmp R last.point) (points_in seen) ≡ true
    pub is_hit : list_any (eq_by_cmp R last.point) (hits_in seen) ≡ last.is_hit

  -- before the first point
  pub record IsNone (below : Tally) (seen : List (Hit P)) : Type 0 where
    pub found : below.found ≡ 0
    pub hit : below.hit ≡ 0
    pub none : seen ≡ []

  abbrev pub AscendsTo : Option (Hit P) → Tally → List (Hit P) → Type 0
  AscendsTo None below seen = IsNone below seen
  AscendsTo (Some last) below seen = Reaches below last seen

  abbrev pub IsAscent : Ascent P → List (Hit P) → Type 0
  IsAscent a seen = AscendsTo a.last a.below seen

  abbrev pub Counts : Points P → List (Hit P) → Type 0
  Counts (Ascending a) seen = IsAscent a seen
  Counts Scattered seen = Unit {0}

-- the totals are those of the items
pub record AreTotals {P : Type 0} (R : P → P → Ordering) (points : ItemData → List P) (own : Tally) (items : List ItemData) : Type 0 where
  pub found : own.found ≡ distinct (eq_by_cmp R) (flat_map points items)
  pub hit : own.hit ≡ distinct (eq_by_cmp R) (hit_points points items)
