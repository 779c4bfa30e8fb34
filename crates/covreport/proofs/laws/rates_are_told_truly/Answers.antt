use Rattle.std.proofs.Common.{ℕ, ap, ◌∙◌}
use Rattle.covreport.specs.Summary.{tenths_of}
use Rattle.covreport.proofs.Rates.{near_told, told_all, told_none, all_told, none_told}
use Rattle.covreport.proofs.laws.rates_are_told_truly.Goals as goal

pub returns-clause-near : goal.returns-clause-near
returns-clause-near c = λ hit found some fewer. near_told hit found some fewer

pub returns-clause-all : goal.returns-clause-all
returns-clause-all c = λ hit found some fewer. (told_all hit found some fewer, λ e. ap (λ (n : ℕ). tenths_of n found) e ∙ all_told found some)

pub returns-clause-none : goal.returns-clause-none
returns-clause-none c = λ hit found some fewer. (told_none hit found some fewer, λ e. ap (λ (n : ℕ). tenths_of n found) e ∙ none_told found some)
