use Rattle.std.proofs.Common.{◌≡◌, ℕ, ◌+◌, Bool, true, false, cond, map, drop, refl, sym, ap, ◌∙◌, arith}
use Rattle.std.proofs.lemmas.List.{length-map}
use mir.Val.{bool_byte}
use Rattle.covrows.specs.Counted.{count_last, is_last_of, is_selected, takes}
use Rattle.covrows.specs.Data.{row_data}
use Rattle.covrows.proofs.Walks.{count_few, one_left, rest_whole}
use Rattle.covrows.proofs.counts.count.Goals as goal

byte_is : (b : Bool) → bool_byte b ≡ cond b 1 0
byte_is true = refl
byte_is false = refl

-- what the row adds, and what the rows after it add
rise : (g : _) (c : goal.After-from-count g) → count_last (takes (is_selected c.args.selection.now) c.args.kind c.args.hit) (map row_data (drop c.loop-at.at c.args.rows.now)) ≡ c.from-count.result + count_last (takes (is_selected c.args.selection.now) c.args.kind c.args.hit) (map row_data (drop (c.loop-at.at + 1) c.args.rows.now))
rise g c =
    let p = takes (is_selected c.args.selection.now) c.args.kind c.args.hit in
    let rest = map row_data (drop (c.loop-at.at + 1) c.args.rows.now) in
    ap (λ rows. count_last p (map row_data rows)) (one_left row_data c.args.rows.now c.loop-at.at c.index-rows-at.result c.loop-at-test.true c.index-rows-at.is)
    ∙ ap (λ (n : ℕ). n + count_last p rest) (sym (c.from-count.ensures ∙ ap bool_byte (c.is_last.ensures ∙ ap (λ rows. is_last_of p (row_data c.index-rows-at.result) (map row_data rows)) (rest_whole c.args.rows.now (c.loop-at.at + 1)))
    ∙ byte_is (is_last_of p (row_data c.index-rows-at.result) rest)))

pub overflow_add-count : goal.overflow_add-count
overflow_add-count g c =
    let rows = map row_data c.args.rows.now in
    omega (arith, c.loop-at.invariant, rise g c, count_few (takes (is_selected c.args.selection.now) c.args.kind c.args.hit) rows, length-map c.args.rows.now row_data, c.requires)

pub loop-at-preserved : goal.loop-at-preserved
loop-at-preserved g c = omega (arith, c.loop-at.invariant, rise g c)
