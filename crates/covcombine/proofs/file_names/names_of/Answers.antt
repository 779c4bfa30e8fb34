use Rattle.std.proofs.Common.{Some, ◌∙◌, refl, sym, ap, subst, string_bytes, option_map}
use Rattle.std.proofs.lemmas.Result.{err_from_is_err_and}
use Rattle.covcombine.specs.FileNames.{IsListRead, place_of}
use Rattle.covworld.specs.Folder.{folder_data}
use Rattle.covworld.specs.Streams.{source}
use Rattle.covcombine.proofs.Listing.{names_alone, names_listed, names_stop}
use Rattle.covcombine.proofs.file_names.names_of.Goals.{in-Some+in_ok-text+in_ok-push_listed, in_default}
use Rattle.covcombine.proofs.file_names.names_of.Goals as goal

pub returns-in_err-push_listed-clause-fault : goal.returns-in_err-push_listed-clause-fault
returns-in_err-push_listed-clause-fault g c =
    let told = err_from_is_err_and c.from_residual-in_err-push_listed.result c.from_residual-in_err-push_listed.ensures.1 in
    let folder = folder_data g.F.Folder g.F.File.Source c.args.folder.now in
    let before = source (g.I.Source.left c.args.input.now) (g.I.Source.reads c.args.input.now) (g.I.Source.failed_reads c.args.input.now) in
    let input = c.list_text.new.input in
    let after = source (g.I.Source.left input) (g.I.Source.reads input) (g.I.Source.failed_reads input) in
    let read = subst (λ t. IsListRead folder (place_of c.as_str-list.result.now) t before after) (sym c.get-in-Some.ensures) c.in_ok-text.ensures.text in
    rw (told.1, told.2)
    (names_stop folder c.args.options.now before after c.as_str-list.result.now c.get-in-Some.result.now c.end_byte.result
    (ap (λ l. option_map string_bytes l) c.in-Some.is ∙ ap (λ n. Some n) (sym c.as_str-list.ensures.value)) c.end_byte.ensures read _ c.in_err-push_listed.ensures.fault)

pub returns-clause-names : goal.returns-clause-names
returns-clause-names g c =
    let folder = folder_data g.F.Folder g.F.File.Source c.args.folder.now in
    let before = source (g.I.Source.left c.args.input.now) (g.I.Source.reads c.args.input.now) (g.I.Source.failed_reads c.args.input.now) in
    let first = c.in_ok-names.ensures ∙ c.get.ensures in
    elim c.match-options.branch [
      | in-Some+in_ok-text+in_ok-push_listed w ↦
          (let input = w.list_text.new.input in
          let after = source (g.I.Source.left input) (g.I.Source.reads input) (g.I.Source.failed_reads input) in
          let read = subst (λ t. IsListRead folder (place_of w.as_str-list.result.now) t before after) (sym w.get-in-Some.ensures) w.in_ok-text.ensures.text in
          rw (w.input-is, w.names-is)
          (names_listed folder c.args.options.now before after w.as_str-list.result.now w.get-in-Some.result.now w.end_byte.result
          (ap (λ l. option_map string_bytes l) w.in-Some.is ∙ ap (λ n. Some n) (sym w.as_str-list.ensures.value)) w.end_byte.ensures read
          c.in_ok-names.names w.push_listed.new.names first w.in_ok-push_listed.ensures.texts w.in_ok-push_listed.ensures.names))
      | in_default w ↦
          rw (w.input-is, w.names-is)
          (names_alone folder c.args.options.now before before c.in_ok-names.names (ap (λ l. option_map string_bytes l) w.in_default.is) refl first)
    ]
