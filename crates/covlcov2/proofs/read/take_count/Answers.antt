use Rattle.std.specs.Prelude.{option_map}
use Rattle.covlcov2.proofs.Fast.{count_taken}
use Rattle.covlcov2.proofs.read.take_count.Goals as goal

pub returns : goal.returns
returns g c = λ text spells above inside is.
    count_taken c.take_line_count.result c.args.reader.now c.take_line_count.new.reader text c.args.at above inside c.args.line c.args.count (option_map (λ c. c.now) c.args.checksum) is spells
    (c.take_line_count.ensures text spells inside is.is_open)
