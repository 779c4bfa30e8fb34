use Rattle.covstore.proofs.Words.{ℕ, ◌+◌, ◌<◌, ◌^◌, Bool, true, false, cond, Vec, List, ◌∷◌, length, refl, sym, ap, ◌∙◌, subst, arith, length-map, File, file_committed, files_committed, FileData}
use Rattle.std.specs.Prelude.{◌≡◌}
use Rattle.std.specs.Int.{from_bool}
use Rattle.covstore.proofs.DropsSections.{AreCounted, all_counted, none_counted, one_counted, one_section_fits}
use Rattle.covstore.proofs.Settled.{file_name}
use Rattle.covstore.proofs.all_files.count_sections.Goals as goal

-- a truth value as a number
as_number : (b : Bool) → from_bool b ≡ cond {A = ℕ} b 1 0
as_number true = refl
as_number false = refl

pub loop-file-init : goal.loop-file-init
loop-file-init g c =
    let all = files_committed file_name c.args.files.now.entries in
    let given = c.into_iter-file-iterator.ensures.into_iter_gives ∙ c.iter-file-items.ensures.rest in (
      tt,
      tt,
      subst (λ (pairs : List (Vec ℕ g.row.A.Denot × File g.row.A.Denot)). AreCounted c.args.test.now all (files_committed file_name pairs) 0) (sym given) (none_counted c.args.test.now all),
    )

pub overflow_add-sections : goal.overflow_add-sections
overflow_add-sections g c =
    let all = files_committed file_name c.args.files.now.entries in
    let few : length all < 2 ^ 63 =
    omega (arith, length-map {B = List ℕ × FileData} c.args.files.now.entries (λ pair. (file_name pair.0, file_committed pair.1)), c.iter-file-items.ensures.fits) in
    let before = subst (λ (pairs : List (Vec ℕ g.row.A.Denot × File g.row.A.Denot)). AreCounted c.args.test.now all (files_committed file_name pairs) c.loop-file.sections)
    (c.in-Some.ensures.steps ∙ ap (λ (file : File g.row.A.Denot). (c.in-Some.field-0-0.now, file) ∷ c.next.new.self) (sym c.get.ensures)) c.loop-file.invariant.2 in
    let fits = one_section_fits c.args.test.now all (c.in-Some.field-0-0.now.items, file_committed c.get.result.now) (files_committed file_name c.next.new.self) c.loop-file.sections before few in
    let own = c.from-sections.ensures ∙ as_number c.has_test.result ∙ ap (λ (b : Bool). cond {A = ℕ} b 1 0) c.has_test.ensures in
    omega (arith, fits, own)

pub loop-file-preserved : goal.loop-file-preserved
loop-file-preserved g c =
    let all = files_committed file_name c.args.files.now.entries in
    let left = files_committed file_name c.next.new.self in
    let before = subst (λ (pairs : List (Vec ℕ g.row.A.Denot × File g.row.A.Denot)). AreCounted c.args.test.now all (files_committed file_name pairs) c.loop-file.sections)
    (c.in-Some.ensures.steps ∙ ap (λ (file : File g.row.A.Denot). (c.in-Some.field-0-0.now, file) ∷ c.next.new.self) (sym c.get.ensures)) c.loop-file.invariant.2 in
    let own = c.from-sections.ensures ∙ as_number c.has_test.result ∙ ap (λ (b : Bool). cond {A = ℕ} b 1 0) c.has_test.ensures in (
      tt,
      tt,
      subst (λ (n : ℕ). AreCounted c.args.test.now all left (c.loop-file.sections + n)) (sym own)
          (one_counted c.args.test.now all (c.in-Some.field-0-0.now.items, file_committed c.get.result.now) left c.loop-file.sections before),
    )

pub returns : goal.returns
returns g c =
    let all = files_committed file_name c.args.files.now.entries in
    all_counted c.args.test.now all c.loop-file.sections
    (subst (λ (pairs : List (Vec ℕ g.row.A.Denot × File g.row.A.Denot)). AreCounted c.args.test.now all (files_committed file_name pairs) c.loop-file.sections) c.in-None.ensures.steps.0 c.loop-file.invariant.2)
