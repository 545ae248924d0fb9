use Rattle.std.proofs.Common.{refl}
use Rattle.worked_rows.proofs.Written.{sequence_row, square_graded, square_lexicographic, zeros_row, constant_row, powers_row, corners_row}
use Rattle.worked_rows.proofs.Sequence.{sequence_remainder, sequence_continues, sequence_cells}
use Rattle.worked_rows.proofs.patterns.worked_patterns.Goals as goal

pub returns : goal.returns
returns c = record {
  sequence_row = sequence_row;
  sequence_score = refl;
  sequence_remainder = sequence_remainder;
  sequence_continues = sequence_continues;
  sequence_cells = sequence_cells;
  square_graded = square_graded;
  square_lexicographic = square_lexicographic;
  square_score = refl;
  zeros_row = zeros_row;
  constant_row = constant_row;
  powers_row = powers_row;
  powers_score = refl;
  corners_row = corners_row;
}
