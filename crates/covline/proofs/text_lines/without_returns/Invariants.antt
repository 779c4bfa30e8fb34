use Rattle.std.proofs.Common.{◌≡◌, length}
use Rattle.covline.specs.Lines.{strip}
use Rattle.covline.proofs.text_lines.without_returns.Given as goal

-- without the carriage returns at its end, what is left of the text equals the whole text without those at its end
abbrev pub invariant-loop-last : goal.invariant-loop-last
invariant-loop-last l = strip l.line ≡ strip l.text

abbrev pub decreases-loop-last : goal.decreases-loop-last
decreases-loop-last l = length l.line
