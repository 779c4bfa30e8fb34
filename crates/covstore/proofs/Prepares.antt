-- What `prepare` gives is right for any table that the store represents: the plan, its totals, or the clash.
use Rattle.covstore.proofs.Words.{◌≡◌, ◌+◌, ◌*◌, ◌<◌, ◌≤◌, ◌^◌, None, [], ◌∷◌, ◌++◌, length, sym, ap, ◌∙◌, subst, arith, AllByRecursion, length-append, SubmissionData, rows_of, Totals, Agree, checksums_in, clash_of, content_at, content_of, AddsRows, ClashesWith, HasRoomForRows, IsPlanOf, PlanData, SameCommitted, StandsFor, StoreData, IsStateOf, sections_of, totals_in, Table, all_rows, clash_at, AreTotals, totals_of}
use Rattle.covtable.specs.Shown.{max_members}
use Rattle.covdata.specs.Lawful.{IsLawful, max_items}
use Rattle.covtable.specs.Refuse.{IsRefusedAt, RefuseData, ClashRefuse, MemoryRefuse}
use Rattle.covstore.specs.StoreKept.{IsKept}
use Rattle.covtable.proofs.Contents.{clash_by_content, content-append}
use Rattle.covstore.proofs.StateSame.{same_clash, same_state}
use Rattle.covstore.proofs.AddsPlace.{state_agrees}
use Rattle.covstore.proofs.StateSections.{sections_are}
use Rattle.covstore.proofs.StateTotals.{totals_are}
use Rattle.covstore.proofs.Stores.{few_rows}
use Rattle.covtable.proofs.Clashes.{rows_accepted}
use Rattle.covtable.proofs.TotalsDifferent.{are_totals}

-- ---- how many rows there are

pub rows_in_table : (table : Table) → AllByRecursion (λ rows. length rows ≤ max_items) table → length (all_rows table) ≤ length table * max_items
rows_in_table [] small = omega arith
rows_in_table (rows ∷ table) small = omega (arith, length-append rows (all_rows table), small.0, rows_in_table table small.1)

module _ (before : StoreData) (committed : Totals) (kept : IsKept before committed) (few : before.members < max_members) (s : SubmissionData) (lawful : IsLawful s) where
  abbrev own : Table
  own = kept.is.own

  few_in_all : length (all_rows own) + length (rows_of s) ≤ 2 ^ 47
  few_in_all = omega (arith, rows_in_table kept.is.own kept.is.small, kept.is.counted, few, few_rows s lawful)

  module _ (settled : StoreData) (same_sections : settled.sections ≡ before.sections) (same_members : settled.members ≡ before.members) (same_kept : settled.committed ≡ before.committed)
      (staged : settled.staged ≡ before.committed) (after : settled.after ≡ totals_in before.committed) where
    its_state : IsStateOf (all_rows own) settled.staged
    its_state = subst (IsStateOf (all_rows kept.is.own)) (sym staged) kept.is.state

    pub room_for_submission : HasRoomForRows (rows_of s) settled
    room_for_submission = record {
      rows = all_rows own;
      state = its_state;
      agree = state_agrees (all_rows own) settled.staged its_state;
      few = few_in_all;
      totals = after ∙ ap totals_in (sym staged);
    }

    module _ (later : StoreData) (same : SameCommitted settled later) where
      same_rows : (table : Table) → StandsFor before table → content_of (all_rows own) ≡ content_of (all_rows table)
      same_rows table stands = sym (sections_are (all_rows kept.is.own) before.committed kept.is.state kept.is.agree) ∙ sym kept.seen ∙ stands.content

      own_agrees : Agree (checksums_in (all_rows own))
      own_agrees = kept.is.agree

      module _ (added : AddsRows (rows_of s) settled later) where
        ready : (clash_of (all_rows own) (rows_of s) ≡ None) × IsStateOf (all_rows own ++ rows_of s) later.staged × Agree (checksums_in (all_rows own ++ rows_of s))
        ready = added.adds (all_rows own) its_state own_agrees

        still_committed : IsStateOf (all_rows own) later.committed
        still_committed = same.committed.states (all_rows kept.is.own) (subst (IsStateOf (all_rows kept.is.own)) (sym same_kept) kept.is.state)

        later_totals : later.after ≡ totals_in later.staged
        later_totals = added.totals (after ∙ ap totals_in (sym staged))

        seen_totals : later.after ≡ totals_of (sections_of later.staged)
        seen_totals = later_totals ∙ sym (totals_are (all_rows own ++ rows_of s) later.staged ready.1 ready.2)

        pub later_bounds : AreTotals later.after
        later_bounds = subst AreTotals (sym seen_totals) (are_totals (sections_of later.staged))

        pub is_planned : (plan : PlanData) → plan.after ≡ later.after → IsPlanOf later s plan
        is_planned plan planned = record {
          lawful = lawful;
          adds = λ rows state agree.
              let more = same_state (all_rows own) rows later.committed still_committed state (rows_of s) later.staged ready.1 in
              (sym (same_clash (all_rows own) rows later.committed still_committed state (rows_of s)) ∙ ready.0, more, state_agrees (rows ++ rows_of s) later.staged more);
          planned = planned;
          totals = later_totals;
          few = omega (arith, few, same.members, same_members);
        }

        pub planned_totals : (table : Table) → StandsFor before table → later.after ≡ totals_of (content_at (table ++ rows_of s ∷ []))
        planned_totals table stands =
            seen_totals
            ∙ ap totals_of (sections_are (all_rows own ++ rows_of s) later.staged ready.1 ready.2
            ∙ content-append (all_rows own) (all_rows table) (rows_of s) (same_rows table stands)
            ∙ ap content_of (sym (rows_accepted table (rows_of s))))

        pub planned_agrees : (table : Table) → StandsFor before table → clash_at table s ≡ None
        planned_agrees table stands = sym (clash_by_content (all_rows own) (all_rows table) (rows_of s) own_agrees stands.agree (same_rows table stands)) ∙ ready.0

      pub refused_too : (refusal : RefuseData) → ClashesWith (rows_of s) settled refusal → (table : Table) → StandsFor before table → IsRefusedAt table s refusal
      refused_too MemoryRefuse clash table stands = tt
      refused_too (ClashRefuse clash) told table stands =
          sym (clash_by_content (all_rows own) (all_rows table) (rows_of s) own_agrees stands.agree (same_rows table stands)) ∙ told (all_rows own) its_state own_agrees
