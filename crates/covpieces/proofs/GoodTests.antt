-- The lines of fronts are lines: they have no line feed and don't end in a carriage return.
use Rattle.std.proofs.Common.{ℕ, List, [], ◌∷◌, ◌++◌, codes, lit<}
use Rattle.std.specs.Prelude.{All}
use Rattle.std.proofs.lemmas.List.Elements.{All-from_recursion, All-head, All-tail}
use Rattle.covdata.specs.Lawful.{IsGoodTest, IsLawfulSect}
use Rattle.covdata.specs.Row.{SectData}
use Rattle.covdata.proofs.GoodTexts.{IsPlain, IsGoodTest-append, IsGoodTest-plain}
use Rattle.covpieces.specs.Pieces.{group_line, last_test}

-- the line of a test's name
pub IsGoodTest-key : (test : List ℕ) → IsGoodTest test → IsGoodTest (codes "TN:" ++ test)
IsGoodTest-key test good =
    IsGoodTest-append (codes "TN:") test (IsGoodTest-plain (codes "TN:") (All-from_recursion IsPlain (codes "TN:") (lit< tt, (lit< tt, (lit< tt, tt))))) good

pub IsGoodTest-group : IsGoodTest group_line
IsGoodTest-group =
    IsGoodTest-plain group_line (All-from_recursion IsPlain group_line (lit< tt, (lit< tt, (lit< tt, (lit< tt, (lit< tt, (lit< tt, (lit< tt, tt))))))))

-- the test's name after lawful sections
pub good_after : (test : List ℕ) (sects : List SectData) → IsGoodTest test → All IsLawfulSect sects → IsGoodTest (last_test test sects)
good_after test [] good lawful = good
good_after test (sect ∷ sects) good lawful = good_after sect.test sects (All-head IsLawfulSect sect sects lawful).test (All-tail IsLawfulSect sect sects lawful)

pub IsGoodTest-none : IsGoodTest []
IsGoodTest-none = IsGoodTest-plain [] (All-from_recursion IsPlain [] tt)
