-- Definitions for private steps: an argument and a command as they are described to clap.
use Rattle.std.specs.Prelude.{◌≡◌, false}
use Rattle.clap.specs.Walk.{Rule, rule_of}
use Rattle.clap.specs.Simple.{App, app_of}
use Rattle.clap.specs.declared.builder.arg.Arg.{Arg}
use Rattle.clap.specs.declared.builder.command.Command.{Command}
use Rattle.clap.specs.declared.builder.command.Command.TheViews.{out-Command}

-- the argument is described by this rule and isn't global: it is for its own command, and not for subcommands of this
abbrev pub IsRule : Rule → Arg → Type 0
IsRule rule a = (rule_of a ≡ rule) × (a.global ≡ false)

-- the command is described by `app`, and none of its arguments is global
abbrev pub HasNoGlobals : App → Command → Type 0
HasNoGlobals app c = (app_of c ≡ app) × ((out-Command c).has_globals ≡ false)
