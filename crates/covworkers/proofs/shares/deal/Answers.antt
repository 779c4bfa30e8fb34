use Rattle.std.proofs.Common.{rules, ◌≡◌, ◌++◌, [], ◌∷◌, ℕ, ◌+◌, ◌%◌, List, Vec, Global, map, length, slice_set, slice_index_or, sym, subst, arith}
use Rattle.std.proofs.lemmas.List.{length-map, nil_from_length}
use Rattle.std.proofs.lemmas.Nat.{mod_below}
use Rattle.covworkers.specs.declared.shares.Placed.{Placed}
use Rattle.covworkers.proofs.Dealt.{IsDealing, none_yet, next_dealt, all_dealt, shares_long}
use Rattle.covworkers.proofs.shares.deal.Goals as goal

pub loop-index-init : goal.loop-index-init
loop-index-init g c = (
  none_yet c.args.inputs.items c.args.jobs c.into_iter-index-iterator.result.count c.into_iter-index-iterator.result.iter.rest.items
      (map {A = Vec (Placed g.row.T.Denot) Global} {B = List (Placed g.row.T.Denot)} (λ share. share.items) c.in_ok-shares.shares.items) (search rules) (search rules) c.in_ok-shares.ensures,
  c.of-dealt_from.ensures,
)

-- there is a share for each job
pub give-requires : goal.give-requires
give-requires g c =
    let shares = c.loop-index.shares.items in
    let many : length (map {A = Vec (Placed g.row.T.Denot) Global} {B = List (Placed g.row.T.Denot)} (λ share. share.items) shares) ≡ c.args.jobs = shares_long c.args.inputs.items c.args.jobs c.loop-index.index-iterator.count c.loop-index.index-iterator.iter.rest.items _ c.loop-index.invariant.0 in
    omega (arith, many, length-map {A = Vec (Placed g.row.T.Denot) Global} {B = List (Placed g.row.T.Denot)} shares (λ share. share.items), mod_below c.in-Some.index c.args.jobs c.requires, c.loop-index.shares.ok.0)

pub loop-index-preserved : goal.loop-index-preserved
loop-index-preserved g c =
    let shares = map {A = Vec (Placed g.row.T.Denot) Global} {B = List (Placed g.row.T.Denot)} (λ share. share.items) in
    let count = c.loop-index.index-iterator.count in
    let at : c.in-Some.index ≡ count = search rules in
    let more : c.next.new.self.count ≡ count + 1 = search rules in
    let left : c.loop-index.index-iterator.iter.rest.items ≡ c.in-Some.input ∷ c.next.new.self.iter.rest.items = search rules in
    let given : shares c.give.new.shares.items ≡ slice_set (shares c.loop-index.shares.items) (count % c.args.jobs) (slice_index_or (shares c.loop-index.shares.items) (count % c.args.jobs) [] ++ record { index = count; input = c.in-Some.input } ∷ []) =
    subst (λ (n : ℕ). shares c.give.new.shares.items ≡ slice_set (shares c.loop-index.shares.items) (n % c.args.jobs) (slice_index_or (shares c.loop-index.shares.items) (n % c.args.jobs) [] ++ record { index = n; input = c.in-Some.input } ∷ [])) at c.in_ok-give.ensures in (
      subst (λ (n : ℕ). IsDealing c.args.inputs.items c.args.jobs n c.next.new.self.iter.rest.items (shares c.give.new.shares.items)) (sym more)
          (next_dealt c.args.inputs.items c.args.jobs count c.in-Some.input c.next.new.self.iter.rest.items (shares c.loop-index.shares.items) (shares c.give.new.shares.items) c.requires
          (subst (λ (rest : List g.row.T.Denot). IsDealing c.args.inputs.items c.args.jobs count rest (shares c.loop-index.shares.items)) left c.loop-index.invariant.0) given),
      c.loop-index.invariant.1,
    )

-- no input is left
pub returns-clause-shares : goal.returns-clause-shares
returns-clause-shares g c =
    let rest = c.loop-index.index-iterator.iter.rest in
    let none : rest.items ≡ [] = nil_from_length rest.items (omega (arith, c.in-None.ensures.steps.0.0, rest.ok.0)) in
    all_dealt c.args.inputs.items c.args.jobs c.loop-index.index-iterator.count rest.items _ c.loop-index.invariant.0 none
