use Rattle.std.proofs.Common.{◌≡◌, ◌++◌, drop}
use Rattle.mail_model.specs.Listing.{items_in, listing_of}
use Rattle.mail_plain.specs.SeenRecords.{records_seen}
use Rattle.mail_plain.proofs.listing.messages.Given as goal

-- the messages so far, and those of the records that are left
abbrev pub invariant-loop-written : goal.invariant-loop-written
invariant-loop-written l = l.items.items ++ items_in l.user (records_seen l.records) (records_seen (drop l.written-index l.records)) ≡ listing_of l.user (records_seen l.records)
