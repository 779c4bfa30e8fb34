-- The totals of the files that aren't chosen.
use Rattle.std.specs.Prelude.{ℕ, Bool, cond, List, [], ◌∷◌}
use Rattle.covtable.specs.declared.totals.Totals.{Totals}
use Rattle.covtable.specs.Files.{FileTotalsData}
use Rattle.covtable.specs.TotalsExchanged.{no_totals, together}

-- the sum of the totals of those files that aren't chosen
unfoldable pub others : (chosen : List ℕ → Bool) → List FileTotalsData → Totals
others chosen [] = no_totals
others chosen (file ∷ files) = cond (chosen file.path) (others chosen files) (together file.totals (others chosen files))
