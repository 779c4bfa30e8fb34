use Rattle.std.proofs.Common.{◌∙◌, ◌++◌, map, sym, ap}
use Rattle.std.proofs.lemmas.List.{append-nil}
use Rattle.clap.specs.Words.{found_of}
use Rattle.clap.proofs.WalkLemmas.{raw_values-rows}
use Rattle.covcommand.proofs.Numbers.{values_are, no_values}
use Rattle.covcommand.proofs.parsing.push_values.Goals as goal

pub returns-in_ok-push_copies : goal.returns-in_ok-push_copies
returns-in_ok-push_copies c =
    let all = c.get_strs.ensures ∙ raw_values-rows (found_of c.args.found.now) c.args.id.now in
    let are = values_are (λ s. map (λ v. v.now) s.now) c.get_strs.result c.in-Some.words _ c.in-Some.is all in
    c.in_ok-push_copies.ensures ∙ ap (λ ts. c.args.names.now ++ ts) (sym are)

pub returns-in_default : goal.returns-in_default
returns-in_default c =
    let all = c.get_strs.ensures ∙ raw_values-rows (found_of c.args.found.now) c.args.id.now in
    let are = no_values (λ s. map (λ v. v.now) s.now) c.get_strs.result _ c.in_default.is all in
    sym (ap (λ ts. c.args.names.now ++ ts) are ∙ append-nil c.args.names.now)
