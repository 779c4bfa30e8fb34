use Rattle.covstore.proofs.Words.{List, ℕ, sym, ap, ◌∙◌, subst, nat_cmp, AreAmong, ChecksumsData, HaveTexts, value_of}
use Rattle.std.specs.Option.{is_some}
use Rattle.covstore.proofs.StepsTexts.{among_held, have_held, ok_unless}
use Rattle.covstore.proofs.checksums.Checksums.set_holders.Goals as goal

pub invariant_of-self-else-is_err : goal.invariant_of-self-else-is_err
invariant_of-self-else-is_err g c =
    let texts = c.self.inside.texts in
    let holders = c.self.inside.holders in
    let committed = c.stage.ensures.committed in
    let staged = ok_unless c.stage.result c.is_err.ensures.value c.if-is_err.false c.stage.ensures.ok in
    let there = ap (λ (before : ChecksumsData). is_some (value_of nat_cmp c.args.line before.texts)) c.self.view_is ∙ c.requires in
    let have = c.self.invariant in
    record {
      committed = subst (λ (points : List (ℕ × ℕ)). HaveTexts points texts.committed) (sym committed) have.committed;
      staged = have_held c.args.line c.of.result holders.staged c.stage.new.self.staged staged texts.staged there have.staged;
      committed_staged = subst (λ (points : List (ℕ × ℕ)). HaveTexts points texts.staged) (sym committed) have.committed_staged;
      among = subst (λ (points : List (ℕ × ℕ)). AreAmong points c.stage.new.self.staged) (sym committed) (among_held c.args.line c.of.result holders.staged c.stage.new.self.staged staged holders.committed have.among);
    }
