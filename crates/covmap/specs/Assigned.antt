-- Pairs of a key and a value, ascending by the keys: the pairs after a key gets a value, or loses the value that it has.
use Rattle.std.specs.Prelude.{if◌then◌else◌, Option, Some, None, List, [], ◌∷◌, slice_set}
use Rattle.std.specs.declared.cmp.Ordering.{Ordering}
use Rattle.std.specs.Ordering.{is_eq}
use Rattle.covmap.specs.Staged.{column_of, with_page}
use Rattle.covmap.specs.Puts.{put}
use Rattle.covmap.specs.Slots.{At, page_at}

-- the pairs without the pair of this key
abbrev pub without : {K V : Type 0} → (K → K → Ordering) → K → List (K × V) → List (K × V)
without cmp key [] = []
without cmp key (pair ∷ pairs) = if is_eq (cmp pair.0 key) then without cmp key pairs else pair ∷ without cmp key pairs

-- the pairs after the key gets this value. `None` removes the key's value, if it has one
abbrev pub assigned : {K V : Type 0} → (K → K → Ordering) → K → Option V → List (K × V) → List (K × V)
assigned cmp key None pairs = without cmp key pairs
assigned cmp key (Some value) pairs = put cmp key value pairs

-- the pages after the slot at a place gets this value. `None` empties the slot
abbrev pub with_slot : {K V : Type 0} → At → Option V → List (List (K × Option V)) → List (List (K × Option V))
with_slot at value pages = with_page at.0 (slice_set (column_of (page_at pages at.0)) at.1 value) pages
