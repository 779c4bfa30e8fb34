-- The name of a file of std that is begun.
use Rattle.std.specs.Prelude.{ℕ, List}
use Rattle.std.specs.String.{string_bytes}
use Rattle.covworld.specs.declared.begun.Begun.{Begun}
use Rattle.covworld.specs.declared.begun.Begun.TheVariants.{InPlace, Beside}

-- the name that the file was begun for
abbrev pub begun_name : Begun → List ℕ
begun_name (InPlace placed) = string_bytes placed.name
begun_name (Beside target) = string_bytes target.name
