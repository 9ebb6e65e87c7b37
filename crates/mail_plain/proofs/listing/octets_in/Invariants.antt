use Rattle.std.proofs.Common.{◌≡◌, drop}
use Rattle.mail_model.specs.Listing.{octets_in}
use Rattle.mail_plain.specs.SeenRecords.{records_seen}
use Rattle.mail_plain.proofs.listing.octets_in.Given as goal

-- the records that are left hold what all of them hold
abbrev pub invariant-loop-written : goal.invariant-loop-written
invariant-loop-written l = octets_in l.id (records_seen (drop l.written-index l.records)) ≡ octets_in l.id (records_seen l.records)
