use Rattle.std.specs.Prelude.{◌≡◌, map}
use Rattle.covworkers.proofs.Dealt.{IsDealing}
use Rattle.covworkers.proofs.shares.deal.Given as goal

-- the inputs so far are dealt out, and the snapshot stays
abbrev pub invariant-loop-index : goal.invariant-loop-index
invariant-loop-index g l =
    IsDealing l.fn.inputs.items l.jobs l.index-iterator.count l.index-iterator.iter.rest.items (map (λ share. share.items) l.shares.items)
    × (l.dealt_from.value ≡ l.fn.inputs)
