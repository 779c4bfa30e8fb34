use Rattle.std.proofs.Common.{◌≡◌, sym, ap₂, ◌∙◌}
use lib.Pointwise.{bytes_decides}
use Rattle.covworld.specs.OutputFiles.{path_in}
use Rattle.covworld.proofs.Paths.{split_path}
use Rattle.covworld.proofs.unfinished_file.is_path_in.Goals as goal

pub returns-then-slash-eq47 : goal.returns-then-slash-eq47
returns-then-slash-eq47 c = λ is.
    let path = c.as_bytes.result.now in
    let folder = c.as_bytes-2.result.now in
    let name = c.as_bytes-then-slash-eq47.result.now in
    let last = c.in-Some-split_first.last.now in
    let whole : path ≡ path_in folder name =
    split_path folder name path c.in-Some.rest.now last c.in-Some-split_first.slash.now
    c.in-Some.ensures.cases.0 c.in-Some.ensures.cases.1 c.in-Some-split_first.ensures.cases.0 c.if-slash-eq47.true
    ((bytes_decides last name).0 (sym c.eq.ensures ∙ is)) in
    sym c.as_bytes.ensures.value ∙ whole ∙ ap₂ path_in c.as_bytes-2.ensures.value c.as_bytes-then-slash-eq47.ensures.value
