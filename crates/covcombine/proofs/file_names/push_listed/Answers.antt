use Rattle.std.proofs.Common.{ap, subst, option_map}
use Rattle.std.proofs.lemmas.Result.{err_from_is_err_and}
use Rattle.covcombine.proofs.Cuts.{IsCut, cut_fault, cut_on, cuts_left, fewer, rest_less}
use Rattle.covcombine.proofs.file_names.push_listed.Goals as goal

pub returns-in_err-push_name-clause-fault : goal.returns-in_err-push_name-clause-fault
returns-in_err-push_name-clause-fault c =
    let told = err_from_is_err_and c.from_residual.result c.from_residual.ensures.1 in
    let so_far = subst (λ r. IsCut c.args.end c.args.text.now c.loop-rest.number (option_map (λ t. t.now) r) c.args.names.now c.loop-rest.names) c.in-Some.is c.loop-rest.invariant in
    rw (told.1, told.2)
    (cut_fault c.args.end c.args.text.now c.loop-rest.number c.in-Some.text.now c.args.names.now c.loop-rest.names so_far c.cut.result.0.now _ c.cut.ensures
    c.args.list.now _ c.in_err-push_name.ensures.fault)

pub loop-rest-smaller : goal.loop-rest-smaller
loop-rest-smaller c =
    let so_far = subst (λ r. IsCut c.args.end c.args.text.now c.loop-rest.number (option_map (λ t. t.now) r) c.args.names.now c.loop-rest.names) c.in-Some.is c.loop-rest.invariant in
    fewer _ _ _
    (rest_less c.args.end c.args.text.now c.loop-rest.number c.in-Some.text.now c.args.names.now c.loop-rest.names so_far c.cut.result.0.now _ c.cut.ensures)
    (ap (λ r. cuts_left (option_map (λ t. t.now) r)) c.in-Some.is)

pub loop-rest-preserved : goal.loop-rest-preserved
loop-rest-preserved c =
    let so_far = subst (λ r. IsCut c.args.end c.args.text.now c.loop-rest.number (option_map (λ t. t.now) r) c.args.names.now c.loop-rest.names) c.in-Some.is c.loop-rest.invariant in
    cut_on c.args.end c.args.text.now c.loop-rest.number c.in-Some.text.now c.args.names.now c.loop-rest.names so_far c.cut.result.0.now _ c.cut.ensures
    c.push_name.new.names c.in_ok-push_name.ensures.names c.in_ok-push_name.ensures.texts
