use Rattle.std.proofs.Common.{◌≡◌, ◌+◌, ◌-◌, length, take, drop, arith}
use Rattle.std.proofs.lemmas.List.{take_rest, length-take}
use Rattle.covline.specs.Lines.{IsFirstCut}
use Rattle.covline.proofs.Cut.{first_cut_at, first_cut_whole, lines_after}
use Rattle.covline.proofs.text_lines.first_line.Goals as goal

pub returns-in-Some : goal.returns-in-Some
returns-in-Some c =
    let text = c.args.text.now in
    let cut : IsFirstCut text _ _ = first_cut_at text _ _ c.in-Some.end c.in-Some.ensures c.without_returns.ensures (take_rest text (c.in-Some.end + 1)) in
    record { lines = lines_after text _ _ cut; cut = cut }

pub returns-in-None : goal.returns-in-None
returns-in-None c =
    let text = c.args.text.now in
    let rest = take (length text - length text) (drop (length text) text) in
    let empty : length rest ≡ 0 = omega (arith, length-take (length text - length text) (drop (length text) text)) in
    let cut : IsFirstCut text _ _ = first_cut_whole text _ rest c.requires c.in-None.ensures c.without_returns-in-None.ensures empty in
    record { lines = lines_after text _ _ cut; cut = cut }
