use Rattle.lines.proofs.Pieces.{piece_at}
use Rattle.lines.proofs.numbers.piece_of.Goals as goal

pub returns : goal.returns
returns c = rw c.from-i.ensures (piece_at c.args.number c.requires)
