-- What a reader makes of a test's name and of the text's end, between two sections and in one.
use Rattle.std.proofs.Common.{refl, ◌≡◌, true, false, ℕ, List, Option, Some, None, Ok, Err, option_map}
use Rattle.std.specs.Option.{is_some}
use Rattle.covdata.specs.Records.{LineData, Test, Skip}
use Rattle.covdata.specs.declared.fault.ReadFault.TheVariants as faults
use Rattle.covread.specs.declared.trace.placement_fault.PlacementFault.TheVariants as placement
use Rattle.covread.specs.declared.trace.reader.OpenSection.{OpenSection}
use Rattle.covread.specs.TraceSteps.{HeldData, section_data, step_at, IsLawfulAt, ends_at, submission_held}
use Rattle.covdata.specs.Lawful.{IsLawful}

module _ {A : Type 0} (inside : List LineData) (held : HeldData) where
  -- a test's name
  pub test_within : (name : List ℕ) (section : Option (OpenSection A)) → true ≡ is_some section
      → step_at (option_map (section_data inside) section) held (Test name) ≡ Err placement.Inside
  test_within name None e = absurd cc
  test_within name (Some s) e = refl

  pub test_between : (name : List ℕ) (section : Option (OpenSection A)) → false ≡ is_some section
      → step_at (option_map (section_data inside) section) held (Test name)
      ≡ Ok (record { test = name; section = option_map (section_data inside) section; sects = held.sects; odd = held.odd })
  test_between name None e = refl
  test_between name (Some s) e = absurd cc

  -- the text's end
  pub ends_within : (section : Option (OpenSection A)) → true ≡ is_some section → Err faults.OpenEnd ≡ ends_at (option_map (section_data inside) section) held
  ends_within None e = absurd cc
  ends_within (Some s) e = refl

  pub ends_between : (section : Option (OpenSection A)) → false ≡ is_some section
      → Ok (submission_held held) ≡ ends_at (option_map (section_data inside) section) held
  ends_between None e = refl
  ends_between (Some s) e = absurd cc

  pub lawful_between : (section : Option (OpenSection A)) → false ≡ is_some section → IsLawfulAt (option_map (section_data inside) section) held → IsLawful (submission_held held)
  lawful_between None e is = is
  lawful_between (Some s) e is = absurd cc

  -- a skipped line changes nothing
  pub skipped : (section : Option (OpenSection A)) → step_at (option_map (section_data inside) section) held Skip ≡ Ok held
  skipped None = refl
  skipped (Some s) = refl
