-- A run of keys, each with an addend, along the slots of one page.
use Rattle.std.specs.Prelude.{◌≡◌, ℕ, ◌<◌, ◌≤◌, Option, Some, List, [], ◌∷◌, ◌++◌, length, map, take, slice_get, slice_set}
use Rattle.std.specs.declared.cmp.Ordering.{Ordering}
use Rattle.std.specs.declared.cmp.Ordering.TheVariants.{Less, Equal}
use Rattle.std.specs.List.{AllByRecursion}
use Rattle.covmap.specs.Run.{reports_one}
use Rattle.covmap.specs.Slots.{IsAscending, filled, order_at, value_in}

-- ---- the items of a run, and slots

-- an item of a run, and the number of the slot of its key
pub record Placed (Q M : Type 0) : Type 0 where
  pub slot : ℕ
  pub item : Q × M

-- the slot of this number has the item's key
abbrev pub IsHere : {K V Q M : Type 0} → (K → K → Ordering) → (Q → K) → List (K × Option V) → ℕ → Q × M → Type 0
IsHere cmp named page slot item = order_at (λ key. cmp key (named item.0)) (slice_get page slot) ≡ Equal

-- the slot of this number has the first key of the run
abbrev pub FirstHere : {K V Q M : Type 0} → (K → K → Ordering) → (Q → K) → List (K × Option V) → ℕ → List (Q × M) → Type 0
FirstHere cmp named page slot [] = Unit {0}
FirstHere cmp named page slot (item ∷ run) = IsHere cmp named page slot item

-- the column after an addend is added in a slot
abbrev pub value_summed : {V Q M : Type 0} → (M → Option V → V) → ℕ → Q × M → List (Option V) → List (Option V)
value_summed sum slot item column = slice_set column slot (Some (sum item.1 (value_in (slice_get column slot))))

-- the column after the addends of items are added, each in its slot
abbrev pub column_summed : {V Q M : Type 0} → (M → Option V → V) → List (Placed Q M) → List (Option V) → List (Option V)
column_summed sum [] column = column
column_summed sum (here ∷ placed) column = column_summed sum placed (value_summed sum here.slot here.item column)

-- the addends are added in order, and each fits the value that its key's slot has by then. From the first key without a slot on,
-- nothing is required
abbrev pub FitHere : {K V Q M : Type 0} → (K → K → Ordering) → (Q → K) → (M → Option V → Type 0) → (M → Option V → V) → List (K × Option V) → List (Q × M) → List (Option V) → Type 0
FitHere cmp named fits sum page [] column = Unit {0}
FitHere cmp named fits sum page (item ∷ run) column =
    (slot : ℕ) → IsHere cmp named page slot item → fits item.1 (value_in (slice_get column slot)) × FitHere cmp named fits sum page run (value_summed sum slot item column)

-- ---- along a page

-- what the items report, in order, when each addend is added in its item's slot of a column
abbrev pub reports_here : {V Q M N : Type 0} → (M → Option V → V) → (M → Option V → V → Option N) → List (Placed Q M) → List (Option V) → List (Q × N)
reports_here sum reports [] column = []
reports_here sum reports (here ∷ placed) column =
    reports_one here.item.0 (reports here.item.1 (value_in (slice_get column here.slot)) (sum here.item.1 (value_in (slice_get column here.slot))))
    ++ reports_here sum reports placed (value_summed sum here.slot here.item column)

-- the first `count` items of a run have slots on the page. `new` is the column `old` with the addends of these items added, and
-- `after` is `before` with their reports appended
pub record IsAlong {K V Q M N : Type 0} (cmp : K → K → Ordering) (named : Q → K) (sum : M → Option V → V) (reports : M → Option V → V → Option N) (page : List (K × Option V)) (run : List (Q × M)) (count : ℕ)
    (old new : List (Option V)) (before after : List (Q × N)) : Type 0 where
  pub placed : List (Placed Q M)
  pub here : AllByRecursion (λ place. IsHere cmp named page place.slot place.item) placed
  pub items : map (λ place. place.item) placed ≡ take count run
  pub column : new ≡ column_summed sum placed old
  pub notes : after ≡ before ++ reports_here sum reports placed old

-- ---- a page of new slots

-- the keys of the slots come before the first key of a run
abbrev pub AreBefore : {K V Q M : Type 0} → (K → K → Ordering) → (Q → K) → List (K × Option V) → List (Q × M) → Type 0
AreBefore cmp named slots [] = Unit {0}
AreBefore cmp named slots (item ∷ run) = AllByRecursion (λ slot. cmp slot.0 (named item.0) ≡ Less) slots

-- a page of empty slots, which begins with the first key of a run
pub record IsNewPage {K V Q M : Type 0} (cmp : K → K → Ordering) (named : Q → K) (run : List (Q × M)) (page : List (K × Option V)) : Type 0 where
  pub ascending : IsAscending cmp page
  pub some : 0 < length page
  pub fits : length page ≤ 256
  pub none : filled page ≡ []
  pub first : FirstHere cmp named page 0 run

-- `new` is `old` with one more page at the end: a page of empty slots, which begins with the first key of the run
pub record IsGrown {K V Q M : Type 0} (cmp : K → K → Ordering) (named : Q → K) (run : List (Q × M)) (old new : List (List (K × Option V))) : Type 0 where
  pub page : List (K × Option V)
  pub is_new : IsNewPage cmp named run page
  pub is : new ≡ old ++ page ∷ []
