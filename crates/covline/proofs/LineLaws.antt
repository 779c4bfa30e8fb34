-- The laws that `specs/LineLaws.antt` states of the lines of a text. Each is a lemma that is proved elsewhere.
use Rattle.covline.specs.LineLaws.{JoinedAgain, GoodLines, GoodRest, FewLines, FewBytes, OnlyReturnsOff, OneAfterOther, MadeOfLines}
use Rattle.covdata.proofs.GoodTexts.{IsGoodTest-after}
use Rattle.covline.proofs.Cut.{concat-pieces, IsGoodTest-lines, length-lines, bytes-lines, strip-parts, lines-append, lines-joined}

pub joined_again : JoinedAgain
joined_again = concat-pieces

pub good_lines : GoodLines
good_lines = IsGoodTest-lines

pub good_rest : GoodRest
good_rest = IsGoodTest-after

pub few_lines : FewLines
few_lines = length-lines

pub few_bytes : FewBytes
few_bytes = bytes-lines

pub only_returns_off : OnlyReturnsOff
only_returns_off = strip-parts

pub one_after_other : OneAfterOther
one_after_other = lines-append

pub made_of_lines : MadeOfLines
made_of_lines = lines-joined
