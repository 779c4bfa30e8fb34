use Rattle.covstore.proofs.Words.{◌≡◌, ◌∙◌, None, ap, sym, subst, nat_cmp, value_of, ChecksumsData, StayTexts}
use Rattle.std.specs.Option.{is_some}
use Rattle.covstore.proofs.StepsTexts.{have_inserted, inserted_is, ok_unless, stay_inserted}
use Rattle.covstore.proofs.checksums.Checksums.hold_first.Goals as goal

pub invariant_of-self-else-is_err : goal.invariant_of-self-else-is_err
invariant_of-self-else-is_err g c =
    let holders = c.self.inside.holders in
    let texts = c.self.inside.texts.staged in
    let more = c.set.new.self.staged in
    let puts = ok_unless c.set.result c.is_err.ensures.value c.if-is_err.false c.set.ensures.ok in
    let have = c.self.invariant in
    record {
      committed = λ line e. c.set.ensures.committed line (have.committed line e);
      staged = have_inserted c.args.line c.in_ok-kept.kept holders.staged texts more puts have.staged;
      committed_staged = have_inserted c.args.line c.in_ok-kept.kept holders.committed texts more puts have.committed_staged;
      among = have.among;
    }

pub set_holders-requires : goal.set_holders-requires
set_holders-requires g c =
    let puts = ok_unless c.set.result c.is_err.ensures.value c.if-is_err.false c.set.ensures.ok in
    ap is_some (inserted_is c.args.line c.in_ok-kept.kept c.self.inside.holders.staged c.self.inside.texts.staged c.set.new.self.staged puts)

pub returns-clause-stay : goal.returns-clause-stay
returns-clause-stay g c =
    let holders = c.self.inside.holders in
    let texts = c.self.inside.texts.staged in
    let puts = ok_unless c.set.result c.is_err.ensures.value c.if-is_err.false c.set.ensures.ok in
    let none : value_of nat_cmp c.args.line holders.staged ≡ None = ap (λ (before : ChecksumsData). value_of nat_cmp c.args.line before.staged) c.self.view_is ∙ c.requires in
    subst (λ (before : ChecksumsData). StayTexts before.committed before.texts c.set_holders.new.self.texts) c.self.view_is
    (subst (StayTexts holders.committed texts) (sym c.set_holders.ensures.texts)
    (stay_inserted c.args.line c.in_ok-kept.kept holders.staged texts c.set.new.self.staged puts holders.committed c.self.invariant.among none))
