-- Rows that are staged in a store, one section after another.
use Rattle.covstore.proofs.Words.{◌≡◌, None, List, [], ◌∷◌, ◌++◌, refl, sym, ap, ◌∙◌, subst, append_assoc, arith, flat_map, length-append, flat_map-append, Row, SectData, rows_of_sect, Agree, Checksum, checksum_of_row, checksums_in, clash_of, first_clash, AddsRows, ClashesWith, HasRoomForRows, SameCommitted, StoreData, IsStateOf}
use Rattle.std.proofs.lemmas.List.{append-nil}
use Rattle.covtable.specs.Refuse.{RefuseData, ClashRefuse, MemoryRefuse}
use Rattle.covstore.proofs.AddsLists.{clash_before, clash_after}

-- ---- rows, and then others

pub clash_of_more : (rows xs ys : List Row) → clash_of rows xs ≡ None → clash_of rows (xs ++ ys) ≡ clash_of (rows ++ xs) ys
clash_of_more rows xs ys none =
    ap (first_clash (checksums_in rows)) (flat_map-append checksum_of_row xs ys)
    ∙ clash_after (checksums_in rows) (checksums_in xs) (checksums_in ys) none
    ∙ ap (λ (held : List Checksum). first_clash held (checksums_in ys)) (sym (flat_map-append checksum_of_row rows xs))

pub no_rows_added : (store : StoreData) → AddsRows [] store store
no_rows_added store = record {
  adds = λ rows state agree. (
    refl,
    subst (λ (rs : List Row). IsStateOf rs store.staged) (sym (append-nil rows)) state,
    subst (λ (rs : List Row). Agree (checksums_in rs)) (sym (append-nil rows)) agree,
  );
  totals = λ same. same;
}

pub rows_added_more : (xs ys : List Row) (before now later : StoreData) → AddsRows xs before now → AddsRows ys now later → AddsRows (xs ++ ys) before later
rows_added_more xs ys before now later first second = record {
  adds = λ rows state agree.
      let one = first.adds rows state agree in
      let other = second.adds (rows ++ xs) one.1 one.2 in (
        clash_of_more rows xs ys one.0 ∙ other.0,
        subst (λ (rs : List Row). IsStateOf rs later.staged) (append_assoc rows xs ys) other.1,
        subst (λ (rs : List Row). Agree (checksums_in rs)) (append_assoc rows xs ys) other.2,
      );
  totals = λ same. second.totals (first.totals same);
}

-- if the first rows are staged, a clash of the rows after them is the clash of all, whatever rows follow
pub clashes_later : (xs ys zs : List Row) (before now : StoreData) (refusal : RefuseData) → AddsRows xs before now → ClashesWith ys now refusal → ClashesWith (xs ++ (ys ++ zs)) before refusal
clashes_later xs ys zs before now MemoryRefuse first later = tt
clashes_later xs ys zs before now (ClashRefuse clash) first later = λ rows state agree.
    let one = first.adds rows state agree in
    clash_of_more rows xs (ys ++ zs) one.0
    ∙ ap (first_clash (checksums_in (rows ++ xs))) (flat_map-append checksum_of_row ys zs)
    ∙ clash_before (checksums_in (rows ++ xs)) (checksums_in ys) (checksums_in zs) clash (later (rows ++ xs) one.1 one.2)

-- ---- what is committed

pub same_committed : (store : StoreData) → SameCommitted store store
same_committed store = record { sections = refl; members = refl; committed = record { states = λ rows state. state; totals = refl } }

pub held_by_both : (before now later : StoreData) → SameCommitted before now → SameCommitted now later → SameCommitted before later
held_by_both before now later first second = record {
  sections = second.sections ∙ first.sections;
  members = second.members ∙ first.members;
  committed = record { states = λ rows state. second.committed.states rows (first.committed.states rows state); totals = second.committed.totals ∙ first.committed.totals };
}

-- ---- room for rows

pub room_first : (xs ys : List Row) (store : StoreData) → HasRoomForRows (xs ++ ys) store → HasRoomForRows xs store
room_first xs ys store room = record {
  rows = room.rows;
  state = room.state;
  agree = room.agree;
  few = omega (arith, length-append xs ys, room.few);
  totals = room.totals;
}

pub room_then : (xs ys : List Row) (before now : StoreData) → HasRoomForRows (xs ++ ys) before → AddsRows xs before now → HasRoomForRows ys now
room_then xs ys before now room added =
    let one = added.adds room.rows room.state room.agree in
    record {
      rows = room.rows ++ xs;
      state = one.1;
      agree = one.2;
      few = omega (arith, length-append xs ys, length-append room.rows xs, room.few);
      totals = added.totals room.totals;
    }

-- ---- the sections of a submission

-- the sections taken so far are staged, and there is room for those that are left
pub record HasTakenSects (taken left : List SectData) (before now : StoreData) : Type 0 where
  pub committed : SameCommitted before now
  pub adds : AddsRows (flat_map rows_of_sect taken) before now
  pub room : HasRoomForRows (flat_map rows_of_sect left) now

pub no_sects : (left : List SectData) (store : StoreData) → HasRoomForRows (flat_map rows_of_sect left) store → HasTakenSects [] left store store
no_sects left store room = record { committed = same_committed store; adds = no_rows_added store; room = room }

module _ (taken : List SectData) (sect : SectData) (left : List SectData) (before now : StoreData) (so_far : HasTakenSects taken (sect ∷ left) before now) where
  pub next_room : HasRoomForRows (rows_of_sect sect) now
  next_room = room_first (rows_of_sect sect) (flat_map rows_of_sect left) now so_far.room

  pub one_sect : (later : StoreData) → SameCommitted now later → AddsRows (rows_of_sect sect) now later → HasTakenSects (taken ++ sect ∷ []) left before later
  one_sect later committed added =
      let rows : flat_map rows_of_sect (taken ++ sect ∷ []) ≡ flat_map rows_of_sect taken ++ rows_of_sect sect =
      flat_map-append rows_of_sect taken (sect ∷ []) ∙ ap (λ (rs : List Row). flat_map rows_of_sect taken ++ rs) (append-nil (rows_of_sect sect)) in
      record {
        committed = held_by_both before now later so_far.committed committed;
        adds = subst (λ (rs : List Row). AddsRows rs before later) (sym rows) (rows_added_more (flat_map rows_of_sect taken) (rows_of_sect sect) before now later so_far.adds added);
        room = room_then (rows_of_sect sect) (flat_map rows_of_sect left) now later so_far.room added;
      }

  pub sect_clashes : (refusal : RefuseData) → ClashesWith (rows_of_sect sect) now refusal → ClashesWith (flat_map rows_of_sect (taken ++ sect ∷ left)) before refusal
  sect_clashes refusal clash =
      subst (λ (rs : List Row). ClashesWith rs before refusal) (sym (flat_map-append rows_of_sect taken (sect ∷ left)))
      (clashes_later (flat_map rows_of_sect taken) (rows_of_sect sect) (flat_map rows_of_sect left) before now refusal so_far.adds clash)
