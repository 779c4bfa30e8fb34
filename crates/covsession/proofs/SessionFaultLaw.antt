-- Which faults a session never answers: a test's name comes from one line and is good, and out of memory is no fault of a
-- text.
use Rattle.std.proofs.Common.{◌≡◌, ◌≢◌, ℕ, ◌+◌, Bool, true, false, List, [], ◌∷◌, ◌++◌, map, length, Option, Some, None, Err, sym, subst, inl, inr}
use Rattle.std.specs.Prelude.{codes, if◌then◌else◌}
use Rattle.std.specs.List.{AllByRecursion}
use Rattle.std.proofs.lemmas.List.Elements.{recursion_from_All, All-nil}
use Rattle.covdata.specs.Delimiters.{line_feed, carriage_return}
use Rattle.covline.specs.Lines.{line_of, pieces_of}
use Rattle.covdata.specs.Lawful.{IsGoodTest}
use Rattle.covline.specs.LineLaws.{GoodLines, GoodRest}
use Rattle.covdata.specs.declared.fault.ReadFault.{ReadFault}
use Rattle.covdata.specs.declared.fault.ReadFault.TheVariants as faults
use Rattle.covread.specs.declared.gcov.line.OwnFault.{OwnFault}
use Rattle.covread.specs.declared.gcov.line.OwnFault.TheVariants as own
use Rattle.covread.specs.Gcov.{GcovLine, Path, SourceLine, FuncCount, BranchCount, BlockNumber, Nothing}
use Rattle.covread.specs.GcovItems.{place_fault, waiting, is_empty, has_path, has_line}
use Rattle.covread.specs.GcovOutcome.{own_fault, IsFaultAt}
use Rattle.covsession.specs.Command.{Command, Format, Tracefile, Annotated, Announces, IsReadAs, IsCommand, AreCommands, Refuse}

-- ---- the faults of a text whose test is good

abbrev CanTell : ReadFault → Type 0
CanTell faults.BadTest = ⊥
CanTell faults.Memory = ⊥
CanTell fault = Unit {0}

own_told : (at : ℕ) (why : OwnFault) → CanTell (own_fault at why)
own_told at own.Instances = tt
own_told at own.Percent = tt
own_told at own.BadMark = tt
own_told at own.NumberTooLarge = tt

abbrev CanTellSome : Option ReadFault → Type 0
CanTellSome None = Unit {0}
CanTellSome (Some fault) = CanTell fault

unless_told : (b : Bool) (fault : ReadFault) → CanTell fault → CanTellSome (if b then None else Some fault)
unless_told true fault told = tt
unless_told false fault told = told

place_told : (at : ℕ) (above : List GcovLine) (says : GcovLine) → CanTellSome (place_fault at above says)
place_told at above (Path []) = tt
place_told at above (Path (b ∷ bs)) = unless_told (is_empty (waiting above)) faults.LostFunction tt
place_told at above (SourceLine line count) = unless_told (has_path above) (faults.NoSource at) tt
place_told at above (BranchCount branch taken) = unless_told (has_line above) (faults.Misplaced at) tt
place_told at above (FuncCount name count) = tt
place_told at above (BlockNumber block) = tt
place_told at above Nothing = tt

fault_told : (at : ℕ) (above : List GcovLine) (line : List ℕ) (fault : ReadFault) → IsFaultAt at above line fault → CanTell fault
fault_told at above line fault (inl (why, says, is)) = subst CanTell (sym is) (own_told at why)
fault_told at above line fault (inr (says, said, is)) = subst CanTellSome is (place_told at above says)

-- the test of a format is good
abbrev HasGoodTest : Format → Type 0
HasGoodTest Tracefile = Unit {0}
HasGoodTest (Annotated test) = IsGoodTest test

trace_told : (text : List ℕ) (fault : ReadFault) → IsReadAs Tracefile text (Err fault) → CanTell fault
trace_told text faults.TooLong h = tt
trace_told text (faults.Line at fault) h = tt
trace_told text (faults.Outside at) h = tt
trace_told text (faults.Inside at) h = tt
trace_told text faults.OpenEnd h = tt
trace_told text (faults.BadMark at) h = tt
trace_told text (faults.NoSource at) h = tt
trace_told text (faults.Percent at) h = tt
trace_told text (faults.Instances at) h = tt
trace_told text (faults.Misplaced at) h = tt
trace_told text faults.LostFunction h = tt
trace_told text faults.BadTest (inl (long, is)) = subst CanTell (sym is) tt
trace_told text faults.BadTest (inr (few, none)) = none
trace_told text faults.Memory (inl (long, is)) = subst CanTell (sym is) tt
trace_told text faults.Memory (inr (few, none)) = none

told : (format : Format) (text : List ℕ) (fault : ReadFault) → HasGoodTest format → IsReadAs format text (Err fault) → CanTell fault
told Tracefile text fault good h = trace_told text fault h
told (Annotated test) text fault good (inl (long, is)) = subst CanTell (sym is) tt
told (Annotated test) text fault good (inr (inl (few, bad, is))) = absurd (bad good)
told (Annotated test) text fault good (inr (inr (inl (few, name, first)))) = fault_told (length first.before + 1) first.above first.line fault first.faulty
told (Annotated test) text fault good (inr (inr (inr (few, name, lost, is)))) = subst CanTell (sym is) tt

-- ---- the test that a line names

no_end : (front : List ℕ) → [] ≢ front ++ carriage_return ∷ []
no_end [] = λ e. absurd cc
no_end (b ∷ front) = λ e. absurd cc

empty_good : IsGoodTest []
empty_good = record { one_line = All-nil (λ b. b ≢ line_feed); no_return = no_end }

named_good : GoodRest → (format : Format) (line : List ℕ) → Announces format line → IsGoodTest line → HasGoodTest format
named_good good_rest Tracefile line h good = tt
named_good good_rest (Annotated test) line (inl (is, none)) good = subst IsGoodTest (sym none) empty_good
named_good good_rest (Annotated test) line (inr is) good = good_rest (codes "gcov ") test (subst IsGoodTest is good)

-- ---- the commands of an input

abbrev AreGood : List (List ℕ) → Type 0
AreGood pieces = AllByRecursion (λ piece. IsGoodTest (line_of piece)) pieces

good_pieces : (pieces : List (List ℕ)) → AllByRecursion IsGoodTest (map line_of pieces) → AreGood pieces
good_pieces [] all = tt
good_pieces (piece ∷ pieces) all = (all.0, good_pieces pieces all.1)

good_after : (these rest : List (List ℕ)) → AreGood (these ++ rest) → AreGood rest
good_after [] rest all = all
good_after (piece ∷ these) rest all = good_after these rest all.1

abbrev pub IsNeverRefused : Command → Type 0
IsNeverRefused command = (command ≢ Refuse faults.BadTest) × (command ≢ Refuse faults.Memory)

refused_told : (pieces these rest : List (List ℕ)) (fault : ReadFault) → GoodRest → AreGood pieces → pieces ≡ these ++ rest → IsCommand these (Refuse fault) → CanTell fault
refused_told pieces these rest fault good_rest good is (format, text, (first, body, last, cut, announces, none, dot, whole), read) =
    let P : List (List ℕ) → Type 0 = λ u. AreGood (u ++ rest) in
    let all : AreGood (first ∷ ((body ++ last ∷ []) ++ rest)) = subst P cut (subst AreGood is good) in
    told format text fault (named_good good_rest format (line_of first) announces all.0) read

never : (command : Command) → ((fault : ReadFault) → command ≡ Refuse fault → CanTell fault) → IsNeverRefused command
never command can = (λ is. can faults.BadTest is, λ is. can faults.Memory is)

pub never_refused : GoodRest → (pieces : List (List ℕ)) (commands : List Command) → AreGood pieces → AreCommands pieces commands → AllByRecursion IsNeverRefused commands
never_refused good_rest pieces [] good h = tt
never_refused good_rest pieces (command ∷ commands) good (these, rest, is, command_is, ends, more) =
    let P : Command → Type 0 = λ u. IsCommand these u in (
      never command (λ fault same. refused_told pieces these rest fault good_rest good is (subst P same command_is)),
      never_refused good_rest rest commands (good_after these rest (subst AreGood is good)) more,
    )

pub input_good : GoodLines → (input : List ℕ) → AreGood (pieces_of input)
input_good good_lines input = good_pieces (pieces_of input) (recursion_from_All IsGoodTest (map line_of (pieces_of input)) (good_lines input))
