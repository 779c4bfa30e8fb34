use Rattle.std.proofs.Common.{inl, inr, None, option_map, refl, sym, ap, ◌∙◌}
use Rattle.std.specs.String.{string_bytes}
use Rattle.covworld.specs.Folder.{folder_data}
use Rattle.covworld.specs.OutputFiles.{file_of}
use Rattle.covrun.specs.View.{task_data, work_data, failure_data}
use Rattle.covrun.proofs.Endings.{asks_list, asks_text, stops_early, told_check, told_combine, told_pages, told_session, told_work}
use Rattle.covrun.proofs.program.run_command.Goals as goal

pub do_work-requires-clause-text : goal.do_work-requires-clause-text
do_work-requires-clause-text g c κs within =
    asks_text c.args.asked.command c.args.asked.strictness c.args.asked.size (work_data c.in-Ok-Collect.work) (ap task_data (sym c.in-Ok-Collect.field-0-is) ∙ c.in-Ok-Collect.ensures.task)

pub returns-in-Ok-Session : goal.returns-in-Ok-Session
returns-in-Ok-Session g c =
    inr (
      c.in-Ok-Session.ensures.taken,
      told_session (folder_data g.F.Folder g.F.File.Source c.args.folder.now) _ (file_of (option_map string_bytes c.args.asked.output)) _ _ _
          (ap task_data (sym c.in-Ok-Session.field-0-is) ∙ c.in-Ok-Session.ensures.task) c.serve.ensures,
    )

pub returns-in-Ok-Collect : goal.returns-in-Ok-Collect
returns-in-Ok-Collect g c =
    inr (
      c.in-Ok-Collect.ensures.taken,
      told_work (folder_data g.F.Folder g.F.File.Source c.args.folder.now) (work_data c.in-Ok-Collect.work) _ _ _ _ _ _
          (ap task_data (sym c.in-Ok-Collect.field-0-is) ∙ c.in-Ok-Collect.ensures.task) c.name_of.ensures c.do_work.ensures,
    )

pub returns-in-Ok-Check : goal.returns-in-Ok-Check
returns-in-Ok-Check g c =
    rw (← c.world.view_is) (inr (
      c.in-Ok-Check.ensures.taken,
      told_check (folder_data g.F.Folder g.F.File.Source c.args.folder.now) _ _ _ _ _ _ (file_of (option_map string_bytes c.args.asked.output)) _ _ _ c.get.ensures
          (ap task_data (sym c.in-Ok-Check.field-0-is) ∙ c.in-Ok-Check.ensures.task) (refl, refl) c.check_files.ensures,
    ))

pub returns-in-Ok-Combine : goal.returns-in-Ok-Combine
returns-in-Ok-Combine g c =
    inr (
      c.in-Ok-Combine.ensures.taken,
      told_combine (folder_data g.F.Folder g.F.File.Source c.args.folder.now) _ _ _ _ _ _ _ _
          (ap task_data (sym c.in-Ok-Combine.field-0-is) ∙ c.in-Ok-Combine.ensures.task) c.name_of-in-Ok-Combine.ensures c.combine.ensures,
    )

pub do_pages-requires-clause-list : goal.do_pages-requires-clause-list
do_pages-requires-clause-list g c κs within =
    asks_list c.args.asked.command c.args.asked.strictness c.args.asked.size (work_data c.in-Ok-Show.work) c.in-Ok-Show.pages (ap task_data (sym c.in-Ok-Show.field-0-is) ∙ c.in-Ok-Show.ensures.task)

pub returns-in-Ok-Show : goal.returns-in-Ok-Show
returns-in-Ok-Show g c =
    inr (
      c.in-Ok-Show.ensures.taken,
      told_pages (folder_data g.F.Folder g.F.File.Source c.args.folder.now) (work_data c.in-Ok-Show.work) c.in-Ok-Show.pages _ _ _ _ _
          (ap task_data (sym c.in-Ok-Show.field-0-is) ∙ c.in-Ok-Show.ensures.task) c.do_pages.ensures,
    )

pub returns : goal.returns
returns g c =
    inl (
      failure_data c.failure_of_work.result,
      stops_early c.args.asked.command _ _ c.failure_of_work.ensures c.in-Err.ensures.refused,
      c.report_failure.ensures None,
    )
