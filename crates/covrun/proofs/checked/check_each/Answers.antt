use Rattle.std.proofs.Common.{rules, ◌≡◌, ◌++◌, ◌<◌, ◌^◌, [], refl, List, length, map, ap, length-append, arith}
use Rattle.std.proofs.lemmas.Result.{err_from_is_err_and}
use Rattle.std.specs.String.{string_bytes}
use Rattle.covworld.specs.Folder.{folder_data}
use Rattle.covrun.proofs.Checks.{cut_round, few_left, told_few, told_last_round, told_round_as, told_start, told_to_end}
use Rattle.covrun.proofs.checked.check_each.Goals as goal

pub loop-left-init : goal.loop-left-init
loop-left-init g c = ([], refl, told_start (folder_data g.F.Folder g.F.File.Source c.args.folder.now) c.args.options.now.format c.args.options.now.strictness _)

pub check_round-requires-clause-output : goal.check_round-requires-clause-output
check_round-requires-clause-output g c κs within =
    omega (arith, c.requires.output, (told_few (folder_data g.F.Folder g.F.File.Source c.args.folder.now) c.args.options.now.format c.args.options.now.strictness _ _ _ _ c.loop-left.invariant.2).0)

pub check_round-requires-clause-faults : goal.check_round-requires-clause-faults
check_round-requires-clause-faults g c κs within =
    let short : length c.args.files.now < 2 ^ 62 = search rules in
    few_left string_bytes c.args.files.now c.loop-left.left.now c.next_round.result.0.now c.next_round.result.1.now c.loop-left.invariant.0 c.next_round.ensures.all c.loop-left.invariant.1
    _ _ (told_few (folder_data g.F.Folder g.F.File.Source c.args.folder.now) c.args.options.now.format c.args.options.now.strictness _ _ _ _ c.loop-left.invariant.2).1 short c.requires.faults

pub returns-in_err-verdict : goal.returns-in_err-verdict
returns-in_err-verdict g c =
    let told = err_from_is_err_and c.from_residual.result c.from_residual.ensures.1 in
    let cut = cut_round string_bytes c.args.files.now c.loop-left.left.now c.next_round.result.0.now c.next_round.result.1.now c.loop-left.invariant.0 c.next_round.ensures.all c.loop-left.invariant.1 in
    rw (told.1, told.2)
    (told_last_round (folder_data g.F.Folder g.F.File.Source c.args.folder.now) c.args.options.now.format c.args.options.now.strictness (map string_bytes c.args.files.now) c.loop-left.invariant.0
    (map string_bytes c.next_round.result.0.now) (map string_bytes c.next_round.result.1.now) cut
    c.loop-left.worst _ _ _ _ c.loop-left.invariant.2 c.in_err-verdict.ensures)

pub loop-left-smaller : goal.loop-left-smaller
loop-left-smaller g c =
    let all : length (c.next_round.result.0.now ++ c.next_round.result.1.now) ≡ length c.loop-left.left.now = ap (λ (fs : List _). length fs) c.next_round.ensures.all in
    omega (arith, all, c.next_round.ensures.some, length-append c.next_round.result.0.now c.next_round.result.1.now)

pub loop-left-preserved : goal.loop-left-preserved
loop-left-preserved g c = (
  c.loop-left.invariant.0 ++ map string_bytes c.next_round.result.0.now,
  cut_round string_bytes c.args.files.now c.loop-left.left.now c.next_round.result.0.now c.next_round.result.1.now c.loop-left.invariant.0 c.next_round.ensures.all c.loop-left.invariant.1,
  told_round_as (folder_data g.F.Folder g.F.File.Source c.args.folder.now) c.args.options.now.format c.args.options.now.strictness c.loop-left.invariant.0 (map string_bytes c.next_round.result.0.now) _ _ _ c.or-worst.ensures _ _ _ c.loop-left.invariant.2 c.in_ok-verdict.ensures,
)

pub returns : goal.returns
returns g c =
    let none : length c.loop-left.left.now ≡ 0 = search rules in
    told_to_end (folder_data g.F.Folder g.F.File.Source c.args.folder.now) string_bytes c.args.options.now.format c.args.options.now.strictness c.args.files.now c.loop-left.left.now c.loop-left.invariant.0 c.loop-left.worst _ _ none c.loop-left.invariant.1 c.loop-left.invariant.2
