use Rattle.std.proofs.Common.{◌∙◌, ℕ, Option, arith, subst, codes}
use Rattle.std.specs.contracts.prelude.U32FromStr.TheImpl.{ghosts}
use Rattle.clap.specs.Words.{ReadsOne, found_of}
use Rattle.clap.specs.Lexer.{without_minus}
use Rattle.clap.proofs.CallerReads.{signed_reads}
use Rattle.clap.proofs.WalkLemmas.{one_text-rows}
use Rattle.covcommand.proofs.Numbers.{is_some_number, in_bounds}
use Rattle.covcommand.proofs.parsing.jobs_of.Goals as goal

pub unwrap-requires : goal.unwrap-requires
unwrap-requires c =
    let text = c.requires.0 in
    let read = c.get_one.ensures.value (without_minus text) (one_text-rows (found_of c.args.found.now) (codes "jobs") ∙ c.requires.1) in
    let got = signed_reads _ ghosts.from_str_gives 32 1 64 text c.get_one.result read (λ u x h. h.0) (omega arith) c.requires.2 in
    is_some_number _ got.0 got.1

pub returns-clause-number : goal.returns-clause-number
returns-clause-number c =
    let text = c.requires.0 in
    let read = c.get_one.ensures.value (without_minus text) (one_text-rows (found_of c.args.found.now) (codes "jobs") ∙ c.requires.1) in
    let parsed = subst (λ (r : Option ℕ). ReadsOne ghosts.from_str_gives (without_minus text) r) c.unwrap.ensures read in
    (without_minus text, c.requires.1, parsed.0.1)

pub returns-clause-bounds : goal.returns-clause-bounds
returns-clause-bounds c =
    let text = c.requires.0 in
    let read = c.get_one.ensures.value (without_minus text) (one_text-rows (found_of c.args.found.now) (codes "jobs") ∙ c.requires.1) in
    let got = signed_reads _ ghosts.from_str_gives 32 1 64 text c.get_one.result read (λ u x h. h.0) (omega arith) c.requires.2 in
    in_bounds c.get_one.result c.unwrap.result got.0 c.unwrap.ensures got.1 got.2 got.3
