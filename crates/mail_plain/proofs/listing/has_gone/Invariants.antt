use Rattle.std.proofs.Common.{◌≡◌, drop}
use Rattle.mail_model.specs.Listing.{has_gone}
use Rattle.mail_plain.specs.SeenRecords.{records_seen}
use Rattle.mail_plain.proofs.listing.has_gone.Given as goal

-- the records that are left say what all of them say
abbrev pub invariant-loop-written : goal.invariant-loop-written
invariant-loop-written l = has_gone l.user l.id (records_seen (drop l.written-index l.records)) ≡ has_gone l.user l.id (records_seen l.records)
