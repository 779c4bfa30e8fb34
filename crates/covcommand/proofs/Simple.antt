-- The program's command is simple, as clap's definitions of matches and faults require.
use Rattle.std.proofs.Common.{◌≡◌, true, refl}
use Rattle.clap.proofs.OnLiterals.{clap_on_literals}
use Rattle.clap.specs.Simple.{is_simple}
use Rattle.clap.specs.Faults.{is_simple_and_free}
use Rattle.covcommand.specs.CommandLine.{covcollect}

pub simple : is_simple covcollect ≡ true
unfolding clap_on_literals
simple = refl

pub simple_and_free : is_simple_and_free covcollect ≡ true
unfolding clap_on_literals
simple_and_free = refl
