use Rattle.std.proofs.Common.{List, ℕ, subst}
use Rattle.serve_word.specs.Plans.{ReadsOctets}
use Rattle.serve_word.proofs.Fitting.{file_read}
use Rattle.serve_word.proofs.plan_parts.read_parts.Goals as goal

pub returns-in-Ok-clause-reads : goal.returns-in-Ok-clause-reads
returns-in-Ok-clause-reads g c = file_read (g.Y.Yard.files c.args.yard.now c.args.file.now) c.in-Ok.octets.items c.read_octets.result c.in-Ok.ensures.octets
    (subst (λ (l : List ℕ). ReadsOctets l c.read_octets.result) c.deref.ensures.value c.read_octets.ensures.reads)
