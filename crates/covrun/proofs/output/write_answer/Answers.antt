use Rattle.std.proofs.Common.{inl, inr, Some, refl, sym, ap, subst, ◌∙◌}
use Rattle.covsession.specs.declared.session.fault.SessionFault.TheVariants as session_faults
use Rattle.covrun.specs.Ending.{Stopped, with_shortfalls}
use Rattle.covworld.specs.OutputFiles.{CountsFault, output_files}
use Rattle.covworld.specs.World.{WorldData}
use Rattle.covrun.specs.declared.ending.Failure.TheVariants as failures
use Rattle.covworld.specs.declared.output_folder.OutputFault.{OutputFault}
use Rattle.covrun.proofs.Endings.{answer_unwritten, answer_written, failure_reported}
use Rattle.covrun.proofs.output.write_answer.Goals as goal

-- memory runs out before the file is begun
pub returns-in_default : goal.returns-in_default
returns-in_default g c =
    rw (← c.world.view_is) (
      Stopped session_faults.Memory,
      inl refl,
      failure_reported (Some c.args.name.now) (failures.Stopped session_faults.Memory) _ _ _ (refl, refl) c.say_failure.ensures,
    )

pub returns-in-Ok-write_file : goal.returns-in-Ok-write_file
returns-in-Ok-write_file g c =
    let begun = ap (λ (w : WorldData). w.files.begun) c.world.view_is ∙ c.requires.begun in
    rw (← c.world.view_is) (
      with_shortfalls c.args.answer.shortfalls c.args.answer.text,
      inr refl,
      (
        refl,
        answer_written c.args.name.now c.args.answer.shortfalls _ c.args.answer.text _ _ _ c.get.ensures c.say_shortfalls.ensures.status
            (c.in-Ok-write_file.ensures.finished, c.in-Ok-write_file.ensures.named, c.write_file.ensures.none ∙ sym begun, c.in-Ok-write_file.ensures.good)
            c.say_shortfalls.ensures.none c.say_shortfalls.ensures.withheld c.say_shortfalls.ensures.said,
      ),
    )

pub returns-in-Err-Failed : goal.returns-in-Err-Failed
returns-in-Err-Failed g c =
    let begun = ap (λ (w : WorldData). w.files.begun) c.world.view_is ∙ c.requires.begun in
    let counted = subst (λ (fault : OutputFault). CountsFault fault (g.P.OutputFolder.failed c.world.inside.files) (g.P.OutputFolder.failed c.write_file.new.files)) c.in-Err-Failed.field-0-is c.in-Err-Failed.ensures.counted in
    rw (← c.world.view_is) (
      with_shortfalls c.args.answer.shortfalls c.args.answer.text,
      inr refl,
      (
        refl,
        answer_unwritten c.args.name.now c.args.answer.shortfalls c.args.answer.text _ _ _ _ (c.get-in-Err-Failed.ensures ∙ c.in-Ok.ensures) c.complain.ensures.status
            (c.in-Err-Failed.ensures.same, c.in-Err-Failed.ensures.unnamed, c.write_file.ensures.none ∙ sym begun, counted) c.complain.ensures.withheld c.complain.ensures.said,
      ),
    )

-- memory runs out when the file is begun or finished
pub returns : goal.returns
returns g c =
    let begun = ap (λ (w : WorldData). w.files.begun) c.world.view_is ∙ c.requires.begun in
    let counted = subst (λ (fault : OutputFault). CountsFault fault (g.P.OutputFolder.failed c.world.inside.files) (g.P.OutputFolder.failed c.write_file.new.files)) c.in-Err-Memory.field-0-is c.in-Err-Memory.ensures.counted in
    rw (← c.world.view_is) (
      Stopped session_faults.Memory,
      inl refl,
      failure_reported (Some c.args.name.now) (failures.Stopped session_faults.Memory) _ _ _
          (refl, λ k. output_files (c.in-Err-Memory.ensures.same k) (c.in-Err-Memory.ensures.unnamed k) ((c.write_file.ensures.none ∙ sym begun) k) (counted k)) c.say_failure-in-Err-Memory.ensures,
    )
