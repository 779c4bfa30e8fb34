use Rattle.std.proofs.Common.{inl, refl}
use Rattle.covread.specs.Outcome.{max_bytes}
use Rattle.covpieces.specs.Pieces.{front_text}
use Rattle.covpieces.proofs.LongPieces.{longer, too_long}
use Rattle.covpieces.proofs.laws.a_block_without_sections_is_in_no_piece.Goals as goal

pub returns-clause-longer : goal.returns-clause-longer
returns-clause-longer c = longer

pub returns-clause-trace : goal.returns-clause-trace
returns-clause-trace c carried block more piece rest none full same ends = inl (too_long max_bytes (front_text carried) block more piece rest none full same ends, refl)

pub returns-clause-lcov2 : goal.returns-clause-lcov2
returns-clause-lcov2 c carried block more piece rest none full same ends = inl (too_long max_bytes (front_text carried) block more piece rest none full same ends, refl)
