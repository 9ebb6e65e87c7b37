use Rattle.std.proofs.Common.{refl, inl, inr, []}
use Rattle.io_edge.proofs.Known.{appends_none}
use Rattle.porcupine_server.specs.Endings.{last_entries}
use Rattle.porcupine_server.proofs.ending.finish.Goals as goal

pub returns-in_default-clause-finished : goal.returns-in_default-clause-finished
returns-in_default-clause-finished g c = inr (inr c.status.ensures, ([], last_entries c.args.ending, [], refl, inl refl, appends_none _))
