use Rattle.covstore.proofs.Words.{◌≡◌, ℕ, length, refl, sym, ap, ◌∙◌, subst, Vec, BTreeMap, Some, File, file_committed, StoreData}
use Rattle.covstore.specs.declared.store.Store.TheInside.{Inside}
use Rattle.covstore.proofs.Settled.{IsSettling, all_settled, none_left, popped_as, settling_found, settling_unfound}
use Rattle.covstore.proofs.store.Store.rollback.Goals as goal
use Rattle.covstore.proofs.store.Store.rollback.Goals.{in-Some-get_mut, in_default-get_mut}

pub loop-touched-preserved : goal.loop-touched-preserved
loop-touched-preserved g c =
    let first = c.self.inside in
    let now = c.loop-touched.self-inside in
    let was = c.loop-touched.invariant in
    let last = c.in-Some.touched in
    let front = c.pop.new.self.items in
    let file = last.file.items in
    elim c.match-get_mut.branch [
      | in-Some-get_mut w ↦
          let test = w.as_slice.result.now in
          let popped = popped_as now.touched.items front last file test c.in-Some.ensures.items refl w.as_slice.ensures.value in
          let after = w.rollback.new.self in
          let settling = settling_found file_committed now.touched.items front file test popped first.files.entries now.files.entries (c.get_mut.follows.lender after).entries was.0
          w.get_mut-in-Some-get_mut.result.now after c.get_mut.ensures.ordered (c.get_mut.follows.holds after).0 (sym w.in-Some-get_mut.ensures.value ∙ ap Some (sym w.get_mut-in-Some-get_mut.ensures.value)) w.rollback.ensures.committed w.rollback.ensures.settled in
          subst (λ (i : Inside g.row.A.Denot). IsSettling file_committed i.touched.items first.files.entries i.files.entries × (i.members ≡ first.members) × (i.totals ≡ first.totals))
          (sym w.self-inside-is) (settling, was.1, was.2)
      | in_default-get_mut w ↦
          let popped = popped_as now.touched.items front last file last.test.items c.in-Some.ensures.items refl refl in
          let same = ap (λ (m : BTreeMap (Vec ℕ g.row.A.Denot) (File g.row.A.Denot)). m.entries) c.get_mut.follows.holds-at-none in
          let settling = settling_unfound file_committed now.touched.items front file last.test.items popped first.files.entries now.files.entries c.get_mut.follows.lender-at-none.entries was.0
          (sym w.in_default-get_mut.ensures.value) same in
          subst (λ (i : Inside g.row.A.Denot). IsSettling file_committed i.touched.items first.files.entries i.files.entries × (i.members ≡ first.members) × (i.totals ≡ first.totals))
          (sym w.self-inside-is) (settling, was.1, was.2)
    ]

pub returns-clause-staged : goal.returns-clause-staged
returns-clause-staged g c =
    let now = c.loop-touched.self-inside in
    let none : length now.touched.items ≡ 0 = sym now.touched.ok.0 ∙ c.in_default.ensures.cases.0 in
    all_settled now.files.entries (none_left now.touched.items now.files.entries none c.loop-touched.invariant.0.settled)
    ∙ c.loop-touched.invariant.0.stays ∙ ap (λ (store : StoreData). store.committed) c.self.view_is
