use Rattle.std.proofs.Common.{arith}
use Rattle.record_form.proofs.Records.{payload_answered, read_fits}
use Rattle.record_form.proofs.reading.read_record.Goals as goal

pub returns-clause-reads : goal.returns-clause-reads
returns-clause-reads c = payload_answered c.args.payload.now c.in-Some.kind c.in-Some.octets.now c.entry_in.result (λ i. omega (arith, c.type_inv.payload i)) c.in-Some.ensures c.entry_in.ensures

pub returns-clause-again : goal.returns-clause-again
returns-clause-again c =
    read_fits c.args.payload.now c.entry_in.result
    (payload_answered c.args.payload.now c.in-Some.kind c.in-Some.octets.now c.entry_in.result (λ i. omega (arith, c.type_inv.payload i)) c.in-Some.ensures c.entry_in.ensures)
