-- The items of a section in files that were prepared for them: the committed files stay, and the items are added to the staged
-- ones.
use Rattle.covstore.proofs.Words.{◌≡◌, ℕ, Some, List, refl, sym, ap, ◌∙◌, subst, slice_cmp, nat_cmp, ItemData, Row, Totals, FitTogether, IsAmong, IsExchange, exchanged, AddsItems, HasRoomIn, AddsTo, ClashesAmong, HasRoomForRows, KeepsState, SameCommitted, StoreData, IsStore, put, value_of, FileData, file_totals, totals_in, all_rows}
use Rattle.covtable.specs.Refuse.{RefuseData, ClashRefuse, MemoryRefuse}
use Rattle.covstore.specs.StoreSection.{HasRoomAmong, RefusedIn, rows_of_items}
use Rattle.covstore.proofs.AddsSection.{room_in, section_adds, section_fits, section_totals}
use Rattle.covstore.proofs.ExchangedFiles.{file_among}
use Rattle.covstore.proofs.StateSections.{sections_are}
use Rattle.covstore.proofs.Stores.{store_of}

-- ---- what is committed

pub held_kept : (members : ℕ) (totals : Totals) (files files_after staged staged_after : List (List ℕ × FileData)) (after later : Totals) (before : StoreData) → IsStore members totals files → KeepsState files files_after
    → store_of members files staged after ≡ before → SameCommitted before (store_of members files_after staged_after later)
held_kept members totals files files_after staged staged_after after later before is keeps view =
    subst (λ (old : StoreData). SameCommitted old (store_of members files_after staged_after later)) view (record {
      sections = sections_are (all_rows is.own) files_after (keeps.states (all_rows is.own) is.state) is.agree ∙ sym (sections_are (all_rows is.own) files is.state is.agree);
      members = refl;
      committed = keeps;
    })

-- ---- the files were prepared, and the file is one of them

module _ (name test : List ℕ) (items : List ItemData) (files ready : List (List ℕ × FileData)) (keeps : KeepsState files ready) (room : HasRoomAmong (rows_of_items name test items) files)
    (file : FileData) (there : value_of (slice_cmp nat_cmp) name ready ≡ Some file) where
  pub file_room : HasRoomIn items file
  file_room = room_in items name test file ready there room.rows (keeps.states room.rows room.state) room.agree room.few

  pub refused : (refusal : RefuseData) → RefusedIn items name test file refusal → ClashesAmong (rows_of_items name test items) files refusal
  refused MemoryRefuse is = tt
  refused (ClashRefuse clash) is = λ rows state agree. is rows ready (record { state = keeps.states rows state; agree = agree; there = there })

  module _ (after : FileData) (adds : AddsItems items test file after) (later : List (List ℕ × FileData)) (is : later ≡ put (slice_cmp nat_cmp) name after ready) where
    pub rows_added : AddsTo (rows_of_items name test items) files later
    rows_added rows state agree =
        subst (AddsTo (rows_of_items name test items) ready) (sym is) (section_adds items name test file ready there after adds) rows (keeps.states rows state) agree

    pub totals_exchanged : (was now : Totals) → was ≡ file_totals file → now ≡ file_totals after → IsExchange was now (totals_in files) (totals_in later)
    totals_exchanged was now was_is now_is = record {
      part = subst (λ (t : Totals). IsAmong t (totals_in files)) (sym was_is) (subst (IsAmong (file_totals file)) keeps.totals (file_among name file ready there));
      fits =
          subst (λ (t : Totals). FitTogether t (totals_in files)) (sym now_is)
          (subst (FitTogether (file_totals after)) keeps.totals
          (section_fits items name test file ready there after adds room.rows (keeps.states room.rows room.state) room.agree room.few));
      gives =
          ap (λ (t : Totals). exchanged t was now) (sym keeps.totals) ∙ ap (λ (t : Totals). exchanged (totals_in ready) t now) was_is ∙ ap (exchanged (totals_in ready) (file_totals file)) now_is
          ∙ section_totals items name test file ready there after adds room.rows (keeps.states room.rows room.state) (totals_in ready) refl ∙ ap totals_in (sym is);
    }

-- ---- the store around the files

pub room_among : (added : List Row) (store : StoreData) → HasRoomForRows added store → HasRoomAmong added store.staged
room_among added store room = record { rows = room.rows; state = room.state; agree = room.agree; few = room.few }

pub exchange_in : (added : List Row) (members : ℕ) (committed staged : List (List ℕ × FileData)) (whole : Totals) (store : StoreData) → store_of members committed staged whole ≡ store → HasRoomForRows added store
    → (later was now : Totals) → IsExchange was now (totals_in staged) later → IsExchange was now whole later
exchange_in added members committed staged whole store view room later was now is =
    let same : whole ≡ totals_in staged = subst (λ (s : StoreData). s.after ≡ totals_in s.staged) (sym view) room.totals in
    subst (λ (t : Totals). IsExchange was now t later) (sym same) is
