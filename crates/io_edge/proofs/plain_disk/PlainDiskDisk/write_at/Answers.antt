use Rattle.std.proofs.Common.{inr, refl, arith}
use Rattle.io_edge.proofs.Torn.{torn_by}
use Rattle.io_edge.proofs.plain_disk.PlainDiskDisk.write_at.Goals as goal

pub returns-clause-images : goal.returns-clause-images
returns-clause-images c =
    let old = c.args.self.now.octets.items in
    let torn = torn_by c.args.at c.args.octets.now old c.overwrite.new.held.items c.requires.0 c.overwrite.ensures.written in
    record {
      later = omega arith;
      since = λ t d le is. inr (record { base = old; was = refl; torn = rw is torn });
      now = λ d is. record { base = old; was = refl; torn = rw is torn };
    }
