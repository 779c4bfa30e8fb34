use Rattle.covstore.proofs.Words.{◌≡◌, ℕ, [], length, refl, sym, ap, ◌∙◌, subst, Vec, BTreeMap, Some, nil_from_length, File, file_staged, AreSettledBut}
use Rattle.covstore.proofs.Settled.{IsSettling, all_settled, file_name, none_left, popped_as, settling_found, settling_unfound}
use Rattle.covstore.proofs.store.commit_staged.Goals as goal
use Rattle.covstore.proofs.store.commit_staged.Goals.{in-Some-get_mut, in_default-get_mut}

pub loop-last-preserved : goal.loop-last-preserved
loop-last-preserved g c =
    let first = c.args.files.now.entries in
    let touched = c.loop-last.touched.items in
    let now = c.loop-last.files.entries in
    let was = c.loop-last.invariant in
    let last = c.in-Some.last in
    let front = c.pop.new.self.items in
    let file = last.file.items in
    elim c.match-get_mut.branch [
      | in-Some-get_mut w ↦
          let test = w.as_slice.result.now in
          let popped = popped_as touched front last file test c.in-Some.ensures.items refl w.as_slice.ensures.value in
          let after = w.commit.new.self in
          subst (λ (m : BTreeMap (Vec ℕ g.row.A.Denot) (File g.row.A.Denot)). IsSettling file_staged front first m.entries) (sym w.files-is)
          (settling_found file_staged touched front file test popped first now (c.get_mut.follows.lender after).entries was
          w.get_mut-in-Some-get_mut.result.now after c.get_mut.ensures.ordered (c.get_mut.follows.holds after).0 (sym w.in-Some-get_mut.ensures.value ∙ ap Some (sym w.get_mut-in-Some-get_mut.ensures.value)) w.commit.ensures.staged w.commit.ensures.settled)
      | in_default-get_mut w ↦
          let popped = popped_as touched front last file last.test.items c.in-Some.ensures.items refl refl in
          let same = ap (λ (m : BTreeMap (Vec ℕ g.row.A.Denot) (File g.row.A.Denot)). m.entries) c.get_mut.follows.holds-at-none in
          subst (λ (m : BTreeMap (Vec ℕ g.row.A.Denot) (File g.row.A.Denot)). IsSettling file_staged front first m.entries) (sym w.files-is)
          (settling_unfound file_staged touched front file last.test.items popped first now c.get_mut.follows.lender-at-none.entries was
          (sym w.in_default-get_mut.ensures.value) same)
    ]

-- after the loop, nothing is staged in any file
settled : (g : _) (c : goal.In_default g) → AreSettledBut file_name [] c.loop-last.files.entries
settled g c =
    let now = c.loop-last.touched in
    let none : length now.items ≡ 0 = sym now.ok.0 ∙ c.in_default.ensures.cases.0 in
    none_left now.items c.loop-last.files.entries none c.loop-last.invariant.settled

pub returns-clause-committed : goal.returns-clause-committed
returns-clause-committed g c = sym (all_settled c.loop-last.files.entries (settled g c)) ∙ c.loop-last.invariant.stays

pub returns-clause-staged : goal.returns-clause-staged
returns-clause-staged g c = c.loop-last.invariant.stays

pub returns-clause-none : goal.returns-clause-none
returns-clause-none g c = nil_from_length c.pop.new.self.items (sym c.pop.new.self.ok.0 ∙ c.in_default.ensures.cases.1)

pub returns-clause-settled : goal.returns-clause-settled
returns-clause-settled g c = settled g c
