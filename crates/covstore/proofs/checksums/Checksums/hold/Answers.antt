use Rattle.covstore.proofs.Words.{◌≡◌, false, None, ℕ, ◌+◌, sym, ap, ◌∙◌, subst, nat_cmp, false≢true, on_ok_weaker, ChecksumsData, KeepsTexts, put, value_of, MapData}
use Rattle.std.specs.Option.{is_some}
use Rattle.covstore.proofs.StepsTexts.{held_is, inserted_is, keeps_first, keeps_committed, on_ok_both}
use Rattle.covstore.proofs.checksums.Checksums.hold.Goals as goal

pub returns-in_default-clause-text : goal.returns-in_default-clause-text
returns-in_default-clause-text g c =
    let line = c.args.line in
    let holders = c.lookup_staged.new.self.staged in
    let texts = c.self.inside.texts.staged in
    let none : value_of nat_cmp line c.self.inside.holders.staged ≡ None = sym c.lookup_staged.ensures.value ∙ c.in_default.is in
    let some : is_some (value_of nat_cmp line c.args.self.now.staged) ≡ false = ap (λ (before : ChecksumsData). is_some (value_of nat_cmp line before.staged)) (sym c.self.view_is) ∙ ap is_some none in
    on_ok_both c.hold_first.result
    (λ (staged : c.hold_first.new.self.staged ≡ put nat_cmp line 1 holders) (kept : c.hold_first.new.self.texts ≡ put nat_cmp line c.args.text.now texts).
    record {
      is_held = held_is line 1 holders c.hold_first.new.self.staged staged;
      is_kept = inserted_is line c.args.text.now holders texts c.hold_first.new.self.texts kept;
      agrees = λ held. absurd (false≢true (sym some ∙ held));
    })
    c.hold_first.ensures.ok c.hold_first.ensures.text

pub returns-in_default-clause-others : goal.returns-in_default-clause-others
returns-in_default-clause-others g c =
    let line = c.args.line in
    let inside = c.self.inside in
    let texts = inside.texts.staged in
    let none : value_of nat_cmp line inside.holders.staged ≡ None = sym c.lookup_staged.ensures.value ∙ c.in_default.is in
    on_ok_both c.hold_first.result
    (λ (staged : c.hold_first.new.self.staged ≡ put nat_cmp line 1 c.lookup_staged.new.self.staged) (kept : c.hold_first.new.self.texts ≡ put nat_cmp line c.args.text.now texts).
    let puts = staged ∙ ap (λ (points : MapData ℕ ℕ). put nat_cmp line 1 points.staged) c.lookup_staged.ensures.same in
    subst (λ (before : ChecksumsData). KeepsTexts before.staged before.texts c.hold_first.new.self.staged c.hold_first.new.self.texts) c.self.view_is
    (keeps_first line c.args.text.now inside.holders.staged texts c.hold_first.new.self.texts kept c.hold_first.new.self.staged none puts))
    c.hold_first.ensures.ok c.hold_first.ensures.text

pub returns-clause-text : goal.returns-clause-text
returns-clause-text g c =
    let tests = c.get.result + 1 in
    on_ok_weaker c.set_holders.result
    (λ (staged : c.set_holders.new.self.staged ≡ put nat_cmp c.args.line tests c.lookup_staged.new.self.staged).
    record {
      is_held = held_is c.args.line tests c.lookup_staged.new.self.staged c.set_holders.new.self.staged staged;
      is_kept = ap (value_of nat_cmp c.args.line) c.set_holders.ensures.texts ∙ c.in_ok-refuse_clash.ensures.ok;
      agrees = λ some. sym (ap (λ (before : ChecksumsData). value_of nat_cmp c.args.line before.texts) c.self.view_is) ∙ c.in_ok-refuse_clash.ensures.ok;
    })
    c.set_holders.ensures.ok

pub returns-clause-others : goal.returns-clause-others
returns-clause-others g c =
    let inside = c.self.inside in
    let tests = c.get.result + 1 in
    on_ok_weaker c.set_holders.result
    (λ (staged : c.set_holders.new.self.staged ≡ put nat_cmp c.args.line tests c.lookup_staged.new.self.staged).
    let puts = staged ∙ ap (λ (points : MapData ℕ ℕ). put nat_cmp c.args.line tests points.staged) c.lookup_staged.ensures.same in
    subst (λ (before : ChecksumsData). KeepsTexts before.staged before.texts c.set_holders.new.self.staged c.set_holders.new.self.texts) c.self.view_is
    (subst (KeepsTexts inside.holders.staged inside.texts.staged c.set_holders.new.self.staged) (sym c.set_holders.ensures.texts)
    (keeps_committed c.args.line tests inside.holders.staged c.set_holders.new.self.staged puts inside.texts.staged)))
    c.set_holders.ensures.ok
