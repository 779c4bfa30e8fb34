use Rattle.std.proofs.Common.{◌≡◌, ℕ, ltb, map, sym, ap, ◌∙◌, subst, rules}
use Rattle.std.proofs.lemmas.List.Sorted.{IsPartitionPoint-from_clause, IsPartitionedBy-ltb}
use Rattle.covbook.specs.declared.entry.Receipt.{Receipt}
use Rattle.covbook.specs.Op.{ReceiptData}
use Rattle.covbook.specs.EntryView.{receipt_data}
use Rattle.covbook.specs.Gather.{Rise, places_of}
use Rattle.covbook.specs.GatherSteps.{below}
use Rattle.covbook.specs.LogView.{log_data}
use Rattle.covbook.proofs.PlaceCounts.{below_point, rise_by, map_twice}
use Rattle.covbook.proofs.places.log_below.Goals as goal

pub returns : goal.returns
returns g c =
    let receipts = c.get-receipts.result.now in
    let place : Receipt g.row.A.Denot → ℕ = λ r. r.place in
    let same : map place receipts ≡ places_of (log_data c.args.log.now) =
    sym (map_twice (λ (r : ReceiptData). r.place) (receipt_data {A = g.row.A.Denot}) receipts) ∙ ap (map (λ (r : ReceiptData). r.place)) c.get-receipts.ensures in
    let rises : Rise (map place receipts) = subst Rise (sym same) c.requires in
    let point = IsPartitionPoint-from_clause (λ r. ltb (place r) c.args.place) receipts c.partition_point.result c.partition_point.ensures.partitioned
    (IsPartitionedBy-ltb place receipts c.args.place (rise_by place receipts rises)) (λ a r q k. search rules) in
    sym (below_point place c.args.place receipts c.partition_point.result c.partition_point.ensures.bound point.0 point.1) ∙ ap (below c.args.place) same
