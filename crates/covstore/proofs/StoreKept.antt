-- What stays true of the store when its maps change in a way that keeps the state.
use Rattle.covstore.proofs.Words.{◌≡◌, ℕ, List, [], ◌∷◌, refl, sym, ◌∙◌, insert_entry, Ordering, Less, Equal, Greater, AllByRecursion, match_ordering, Totals, KeepsState, IsStore, FileData, all_rows}

pub store_kept : (members : ℕ) (committed : Totals) (before after : List (List ℕ × FileData)) → KeepsState before after → IsStore members committed before → IsStore members committed after
store_kept members committed before after keeps is = record {
  own = is.own;
  state = keeps.states (all_rows is.own) is.state;
  agree = is.agree;
  counted = is.counted;
  few = is.few;
  small = is.small;
  totals = is.totals ∙ sym keeps.totals;
}

-- ---- an entry is inserted

All-inserted_at : {K V : Type 0} (P : K × V → Type 0) (key : K) (value : V) (pair : K × V) (pairs rest : List (K × V)) (order : Ordering) → AllByRecursion P rest → P (key, value) → (order ≡ Equal → P (pair.0, value)) → P pair
    → AllByRecursion P pairs → AllByRecursion P (match_ordering order ((key, value) ∷ pair ∷ pairs) ((pair.0, value) ∷ pairs) (pair ∷ rest))
All-inserted_at P key value pair pairs rest Less others new same old all = (new, (old, all))
All-inserted_at P key value pair pairs rest Equal others new same old all = (same refl, all)
All-inserted_at P key value pair pairs rest Greater others new same old all = (old, others)

pub All-inserted : {K V : Type 0} (cmp : K → K → Ordering) (P : K × V → Type 0) (key : K) (value : V) (pairs : List (K × V)) → P (key, value) → ((other : K) → cmp key other ≡ Equal → P (other, value)) → AllByRecursion P pairs
    → AllByRecursion P (insert_entry cmp pairs key value)
All-inserted cmp P key value [] new same all = (new, tt)
All-inserted cmp P key value (pair ∷ pairs) new same all =
    All-inserted_at P key value pair pairs (insert_entry cmp pairs key value) (cmp key pair.0) (All-inserted cmp P key value pairs new same all.1) new (same pair.0) all.0 all.1
