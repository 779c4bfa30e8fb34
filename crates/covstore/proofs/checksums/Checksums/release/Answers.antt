use Rattle.covstore.proofs.Words.{◌≡◌, ◌∙◌, List, true, ap, sym, ℕ, nat_cmp, HaveTexts, MapData, value_of}
use Rattle.std.specs.Option.{is_some}
use Rattle.covmap.specs.Assigned.{assigned}
use Rattle.covstore.proofs.FewerHolders.{some_before}
use Rattle.covstore.proofs.checksums.Checksums.release.Goals as goal

pub invariant_of-self : goal.invariant_of-self
invariant_of-self g c =
    let holders = c.self.inside.holders.committed in
    let fewer = c.replace.new.self.committed in
    let value = c.one_less.result in
    let moved : fewer ≡ assigned nat_cmp c.args.line value holders = c.replace.ensures.committed ∙ ap (λ (points : MapData ℕ ℕ). assigned nat_cmp c.args.line value points.committed) c.lookup.ensures.same in
    let there : is_some (value_of nat_cmp c.args.line holders) ≡ true = ap is_some (sym c.lookup.ensures.value ∙ c.in-Some.is) in
    let staged = c.replace.ensures.staged in
    let before = some_before c.args.line value holders fewer moved there in
    let have : HaveTexts fewer c.self.inside.texts.staged = λ line e. c.self.invariant.committed_staged line (before line e) in
    record {
      committed = λ line e. c.self.invariant.committed line (before line e);
      staged = λ line e. have line (ap (λ (points : List (ℕ × ℕ)). is_some (value_of nat_cmp line points)) (sym staged) ∙ e);
      committed_staged = have;
      among = λ line e. ap (λ (points : List (ℕ × ℕ)). is_some (value_of nat_cmp line points)) staged ∙ e;
    }
