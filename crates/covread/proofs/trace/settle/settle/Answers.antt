use Rattle.std.proofs.Common.{ℕ, List, length, map, ap, ◌∙◌, arith}
use Rattle.std.proofs.lemmas.List.Sums.{count_by-le-length}
use Rattle.covpacked.specs.OpenItems.{left}
use Rattle.covread.specs.Reads.{start_in, is_odd}
use Rattle.covread.specs.TraceSection.{mark}
use Rattle.covread.specs.TraceTally.{stated_record}
use Rattle.covread.proofs.TraceFunctions.{found_is}
use Rattle.covread.proofs.TraceSection.{have_places, settled_items, settled_odd, settled_hit, has_totals, are_few}
use Rattle.covread.proofs.TraceSettle.{odd_split}
use Rattle.covread.proofs.trace.settle.settle.Goals as goal

pub settle_counts-requires : goal.settle_counts-requires
settle_counts-requires g c =
    let h = c.requires.1 in
    have_places c.requires.0 _ _ h.items_are (ap (map mark) c.as_slice.ensures.value ∙ h.waiting)

pub odd_totals-requires-clause-totals : goal.odd_totals-requires-clause-totals
odd_totals-requires-clause-totals g c =
    let inside = c.requires.0 in
    let h = c.requires.1 in
    let starts = λ (name : List ℕ). start_in name inside in
    let marks = ap (map mark) c.as_slice.ensures.value ∙ h.waiting in
    let settled = c.in_ok-hit.ensures.counts starts h.functions in
    let items = settled_items inside _ _ _ _ _ c.remove.new.self.items marks h.items_are settled (c.remove.ensures.items ∙ ap (λ (places : List ℕ). left 0 places c.settle_counts.new.sects.items) c.as_slice-2.ensures.value) in
    let found = c.len-found.ensures.len ∙ found_is c.settle_counts.new.functions _ inside (c.in_ok-hit.ensures.functions starts h.functions) c.len-found.ensures.ordered in
    let hit = settled_hit inside _ _ _ _ _ marks settled in
    (inside, has_totals inside _ _ _ (ap (map stated_record) c.as_slice-3.ensures.value ∙ h.totals) found hit h.branches h.lines (c.items.ensures ∙ items))

pub odd_totals-requires-clause-few : goal.odd_totals-requires-clause-few
odd_totals-requires-clause-few g c =
    let inside = c.requires.0 in
    let h = c.requires.1 in
    let starts = λ (name : List ℕ). start_in name inside in
    let marks = ap (map mark) c.as_slice.ensures.value ∙ h.waiting in
    let settled = c.in_ok-hit.ensures.counts starts h.functions in
    let items = settled_items inside _ _ _ _ _ c.remove.new.self.items marks h.items_are settled (c.remove.ensures.items ∙ ap (λ (places : List ℕ). left 0 places c.settle_counts.new.sects.items) c.as_slice-2.ensures.value) in
    are_few inside _ c.requires.2 (c.items.ensures ∙ items)

pub overflow_add-result : goal.overflow_add-result
overflow_add-result g c =
    let inside = c.requires.0 in
    let h = c.requires.1 in
    let starts = λ (name : List ℕ). start_in name inside in
    let marks = ap (map mark) c.as_slice.ensures.value ∙ h.waiting in
    let settled = c.in_ok-hit.ensures.counts starts h.functions in
    let items = settled_items inside _ _ _ _ _ c.remove.new.self.items marks h.items_are settled (c.remove.ensures.items ∙ ap (λ (places : List ℕ). left 0 places c.settle_counts.new.sects.items) c.as_slice-2.ensures.value) in
    let found = c.len-found.ensures.len ∙ found_is c.settle_counts.new.functions _ inside (c.in_ok-hit.ensures.functions starts h.functions) c.len-found.ensures.ordered in
    let hit = settled_hit inside _ _ _ _ _ marks settled in
    let has = has_totals inside _ _ _ (ap (map stated_record) c.as_slice-3.ensures.value ∙ h.totals) found hit h.branches h.lines (c.items.ensures ∙ items) in
    let alone = settled_odd inside _ _ _ _ _ marks settled in
    omega (arith, c.requires.2, alone, c.in_ok-others.ensures inside has, c.len.ensures, c.as_slice-2.ensures.len, ap length c.as_slice-2.ensures.value, odd_split inside inside, count_by-le-length (is_odd inside) inside)

pub returns-clause-items : goal.returns-clause-items
returns-clause-items g c = λ inside h.
    let starts = λ (name : List ℕ). start_in name inside in
    let marks = ap (map mark) c.as_slice.ensures.value ∙ h.waiting in
    let settled = c.in_ok-hit.ensures.counts starts h.functions in
    settled_items inside _ _ _ _ _ c.remove.new.self.items marks h.items_are settled (c.remove.ensures.items ∙ ap (λ (places : List ℕ). left 0 places c.settle_counts.new.sects.items) c.as_slice-2.ensures.value)

pub returns-clause-odd : goal.returns-clause-odd
returns-clause-odd g c = λ inside h.
    let starts = λ (name : List ℕ). start_in name inside in
    let marks = ap (map mark) c.as_slice.ensures.value ∙ h.waiting in
    let settled = c.in_ok-hit.ensures.counts starts h.functions in
    let items = settled_items inside _ _ _ _ _ c.remove.new.self.items marks h.items_are settled (c.remove.ensures.items ∙ ap (λ (places : List ℕ). left 0 places c.settle_counts.new.sects.items) c.as_slice-2.ensures.value) in
    let found = c.len-found.ensures.len ∙ found_is c.settle_counts.new.functions _ inside (c.in_ok-hit.ensures.functions starts h.functions) c.len-found.ensures.ordered in
    let hit = settled_hit inside _ _ _ _ _ marks settled in
    let has = has_totals inside _ _ _ (ap (map stated_record) c.as_slice-3.ensures.value ∙ h.totals) found hit h.branches h.lines (c.items.ensures ∙ items) in
    let alone = settled_odd inside _ _ _ _ _ marks settled in
    omega (arith, alone, c.in_ok-others.ensures inside has, c.len.ensures, c.as_slice-2.ensures.len, ap length c.as_slice-2.ensures.value, odd_split inside inside)
