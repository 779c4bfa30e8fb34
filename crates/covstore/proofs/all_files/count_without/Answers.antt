use Rattle.covstore.proofs.Words.{ℕ, ◌+◌, ◌<◌, ◌^◌, Bool, true, false, cond, Vec, List, [], ◌∷◌, length, refl, sym, ap, ◌∙◌, subst, arith, length-map, File, file_committed, files_committed, FileData, has_points_of}
use Rattle.std.specs.Prelude.{◌≡◌}
use Rattle.std.specs.Int.{from_bool}
use Rattle.covstore.proofs.DropsLoop.{IsCounted, all_sections, all_totals, next_fits, next_section_fits, next_whole, none_counted, one_counted}
use Rattle.covstore.proofs.Settled.{file_name}
use Rattle.covstore.proofs.all_files.count_without.Goals as goal

-- a truth value as a number
as_number : (b : Bool) → from_bool b ≡ cond {A = ℕ} b 1 0
as_number true = refl
as_number false = refl

pub loop-file-init : goal.loop-file-init
loop-file-init g c =
    let all = files_committed file_name c.args.files.now.entries in
    let given = c.into_iter-file-iterator.ensures.into_iter_gives ∙ c.iter-file-items.ensures.rest in (
      tt,
      tt,
      subst (λ (pairs : List (Vec ℕ g.row.A.Denot × File g.row.A.Denot)). IsCounted c.args.test.now all (files_committed file_name pairs) 0 c.none-totals.result) (sym given)
          (subst (IsCounted c.args.test.now all all 0) (sym c.none-totals.ensures) (none_counted c.args.test.now all c.requires.whole)),
    )

pub overflow_add-sections : goal.overflow_add-sections
overflow_add-sections g c =
    let all = files_committed file_name c.args.files.now.entries in
    let few : length all < 2 ^ 63 =
    omega (arith, length-map {B = List ℕ × FileData} c.args.files.now.entries (λ pair. (file_name pair.0, file_committed pair.1)), c.iter-file-items.ensures.fits) in
    let fits = next_section_fits c.args.test.now all (c.in-Some.field-0-0.now.items, file_committed c.get.result.now) (files_committed file_name c.next.new.self) c.loop-file.sections c.loop-file.totals (subst (λ (pairs : List (Vec ℕ g.row.A.Denot × File g.row.A.Denot)). IsCounted c.args.test.now (files_committed file_name c.args.files.now.entries) (files_committed file_name pairs) c.loop-file.sections c.loop-file.totals)
    (c.in-Some.ensures.steps ∙ ap (λ (file : File g.row.A.Denot). (c.in-Some.field-0-0.now, file) ∷ c.next.new.self) (sym c.get.ensures)) c.loop-file.invariant.2) few in
    let own = c.from-sections.ensures ∙ as_number c.without_test-has_points.result.0 ∙ ap (λ (b : Bool). cond {A = ℕ} b 1 0) c.without_test-has_points.ensures.has_points in
    omega (arith, fits, own)

pub without_test-has_points-requires : goal.without_test-has_points-requires
without_test-has_points-requires g c =
    next_whole c.args.test.now (files_committed file_name c.args.files.now.entries) (c.in-Some.field-0-0.now.items, file_committed c.get.result.now) (files_committed file_name c.next.new.self) c.loop-file.sections c.loop-file.totals (subst (λ (pairs : List (Vec ℕ g.row.A.Denot × File g.row.A.Denot)). IsCounted c.args.test.now (files_committed file_name c.args.files.now.entries) (files_committed file_name pairs) c.loop-file.sections c.loop-file.totals)
    (c.in-Some.ensures.steps ∙ ap (λ (file : File g.row.A.Denot). (c.in-Some.field-0-0.now, file) ∷ c.next.new.self) (sym c.get.ensures)) c.loop-file.invariant.2)

pub plus-totals-requires : goal.plus-totals-requires
plus-totals-requires g c =
    next_fits c.args.test.now (files_committed file_name c.args.files.now.entries) (c.in-Some.field-0-0.now.items, file_committed c.get.result.now) (files_committed file_name c.next.new.self) c.loop-file.sections c.loop-file.totals
    (subst (λ (pairs : List (Vec ℕ g.row.A.Denot × File g.row.A.Denot)). IsCounted c.args.test.now (files_committed file_name c.args.files.now.entries) (files_committed file_name pairs) c.loop-file.sections c.loop-file.totals)
    (c.in-Some.ensures.steps ∙ ap (λ (file : File g.row.A.Denot). (c.in-Some.field-0-0.now, file) ∷ c.next.new.self) (sym c.get.ensures)) c.loop-file.invariant.2) c.without_test-has_points.result.1 c.without_test-has_points.ensures.totals c.requires.fits.0 c.requires.fits.1 c.requires.fits.2

pub loop-file-preserved : goal.loop-file-preserved
loop-file-preserved g c =
    let all = files_committed file_name c.args.files.now.entries in
    let left = files_committed file_name c.next.new.self in
    let own = c.from-sections.ensures ∙ as_number c.without_test-has_points.result.0 ∙ ap (λ (b : Bool). cond {A = ℕ} b 1 0) c.without_test-has_points.ensures.has_points in
    let later = one_counted c.args.test.now all (c.in-Some.field-0-0.now.items, file_committed c.get.result.now) left c.loop-file.sections c.loop-file.totals
    (subst (λ (pairs : List (Vec ℕ g.row.A.Denot × File g.row.A.Denot)). IsCounted c.args.test.now (files_committed file_name c.args.files.now.entries) (files_committed file_name pairs) c.loop-file.sections c.loop-file.totals)
    (c.in-Some.ensures.steps ∙ ap (λ (file : File g.row.A.Denot). (c.in-Some.field-0-0.now, file) ∷ c.next.new.self) (sym c.get.ensures)) c.loop-file.invariant.2) c.without_test-has_points.result.1 c.without_test-has_points.ensures.totals in (
      tt,
      tt,
      subst (λ (n : ℕ). IsCounted c.args.test.now all left (c.loop-file.sections + n) c.plus-totals.result) (sym own)
          (subst (IsCounted c.args.test.now all left (c.loop-file.sections + cond (has_points_of c.args.test.now (file_committed c.get.result.now)) 1 0)) (sym c.plus-totals.ensures) later),
    )

-- no file is left
none_left : (g : _) (c : goal.In-None g) → IsCounted c.args.test.now (files_committed file_name c.args.files.now.entries) [] c.loop-file.sections c.loop-file.totals
none_left g c =
    subst (λ (pairs : List (Vec ℕ g.row.A.Denot × File g.row.A.Denot)). IsCounted c.args.test.now (files_committed file_name c.args.files.now.entries) (files_committed file_name pairs) c.loop-file.sections c.loop-file.totals)
    c.in-None.ensures.steps.0 c.loop-file.invariant.2

pub returns-clause-sections : goal.returns-clause-sections
returns-clause-sections g c = all_sections c.args.test.now (files_committed file_name c.args.files.now.entries) c.loop-file.sections c.loop-file.totals (none_left g c)

pub returns-clause-totals : goal.returns-clause-totals
returns-clause-totals g c = all_totals c.args.test.now (files_committed file_name c.args.files.now.entries) c.loop-file.sections c.loop-file.totals (none_left g c)
