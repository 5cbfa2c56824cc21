use Rattle.std.proofs.Common.{◌≡◌, vec_len}
use Rattle.handover.proofs.net_file.row_of.Given as goal

abbrev pub invariant-loop-part : goal.invariant-loop-part
invariant-loop-part l = vec_len l.row ≡ l.places
