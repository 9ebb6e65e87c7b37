-- How many octets stand before the first of a kind.
use Rattle.std.proofs.lemmas.List.{take_rest}
use Rattle.std.proofs.lemmas.List.Folds.{length-prefix_len}
use Rattle.std.proofs.lemmas.List.Sums.{prefix_len-le-length}

pub ruleset counts = (length-prefix_len, prefix_len-le-length, take_rest)
