-- The fault that is made of clap's error, and the subcommand that clap's getters give.
use Rattle.std.proofs.Common.{◌≡◌, ◌≢◌, ◌∙◌, ◌⊎◌, inl, inr, Option, Some, None, Result, Ok, Err, OnErr, refl, sym, ap₂, subst, option_map}
use Rattle.std.specs.Prelude.{Box}
use Rattle.clap.specs.Kinds.{IsAmong, Kinds}
use Rattle.std.specs.Box.{box_value}
use Rattle.clap.specs.Words.{subcommand_name_of, subcommand_rows_of}
use Rattle.clap.specs.Simple.{subcommand_rows}
use Rattle.clap.specs.declared.parser.matches.ArgMatches.TheViews.{out-ArgMatches, out-SubCommand}
use Rattle.clap.specs.declared.parser.matches.SubCommand.{SubCommand}
use Rattle.clap.specs.declared.parser.matches.ArgMatches.{ArgMatches}
use Rattle.clap.specs.declared.error.kind.ErrorKind.{ErrorKind}
use Rattle.clap.specs.declared.error.kind.ErrorKind.TheVariants as kind
use Rattle.covcommand.specs.Fault.{IsFaultAmong, Tells}
use Rattle.covcommand.specs.declared.fault.CommandFault.{CommandFault}
use Rattle.covcommand.specs.declared.fault.CommandFault.TheVariants.{Help, Line, Memory, Version}

-- what is something isn't nothing
pub is_some : {A : Type 0} {a : A} {found : Option A} → Some a ≡ found → found ≢ None
is_some {a = a} is none = some_is_something a (is ∙ none)
  where
    some_is_something : {B : Type 0} (b : B) → Some b ≡ None → ⊥
    some_is_something b e = cc

-- what holds at all holds for an error
pub at_err : {A E : Type 0} (result : Result A E) {P : Type 0} → P → OnErr result P
at_err (Ok value) holds = tt
at_err (Err fault) holds = holds

help_is_no_memory : kind.OutOfMemory ≡ kind.DisplayHelp → ⊥
help_is_no_memory e = cc

version_is_no_memory : kind.OutOfMemory ≡ kind.DisplayVersion → ⊥
version_is_no_memory e = cc

-- if clap ran out of memory, the fault is `Memory`
pub told_memory : (k : ErrorKind) (f : CommandFault) → Tells k f → k ≡ kind.OutOfMemory → f ≡ Memory
told_memory k (Help text) told is = absurd (help_is_no_memory (sym is ∙ told))
told_memory k (Line text) told is = absurd (told.2 is)
told_memory k Memory told is = refl
told_memory k (Version text) told is = absurd (version_is_no_memory (sym is ∙ told))

-- if clap ran out of memory, or its error is of one of its kinds for the words, the fault fits these kinds
pub told_of : (k : ErrorKind) (kinds : Kinds) (f : CommandFault) → Tells k f → (k ≡ kind.OutOfMemory) ⊎ IsAmong k kinds → IsFaultAmong kinds f
told_of k kinds (Help text) told (inl is) = absurd (help_is_no_memory (sym is ∙ told))
told_of k kinds (Help text) told (inr among) = subst (λ (x : ErrorKind). IsAmong x kinds) told among
told_of k kinds (Line text) told (inl is) = absurd (told.2 is)
told_of k kinds (Line text) told (inr among) = (k, among, told.0, told.1)
told_of k kinds Memory told has = tt
told_of k kinds (Version text) told (inl is) = absurd (version_is_no_memory (sym is ∙ told))
told_of k kinds (Version text) told (inr among) = subst (λ (x : ErrorKind). IsAmong x kinds) told among

-- if this is the name of the subcommand, and these are its rows, the subcommand is this name with these rows
pub both_halves : {X Y : Type 0} (met : Option (X × Y)) (name : X) (rows : Y) → Some name ≡ option_map (λ p. p.0) met
    → Some rows ≡ option_map (λ p. p.1) met → met ≡ Some (name, rows)
both_halves None name rows n r = absurd cc
both_halves (Some p) name rows n r =
    let same_name : p.0 ≡ name = cc in
    let same_rows : p.1 ≡ rows = cc in
    ap₂ (λ x y. Some (x, y)) same_name same_rows

-- if there are no rows, there is no subcommand
pub no_half : {X Y : Type 0} (met : Option (X × Y)) → None ≡ option_map (λ p. p.1) met → met ≡ None
no_half None r = refl
no_half (Some p) r = absurd cc

-- the name that clap gives of a subcommand alone is the name that it gives together with the rows
pub same_name : (m : ArgMatches) → subcommand_name_of m ≡ option_map (λ p. p.0) (subcommand_rows_of m)
same_name m = go (out-ArgMatches m).subcommand
  where
    go : {Z : Type 0} (o : Option (Box SubCommand Z))
        → option_map (λ b. (out-SubCommand (box_value b)).name.now) o ≡ option_map (λ p. p.0) (subcommand_rows o)
    go None = refl
    go (Some b) = refl
