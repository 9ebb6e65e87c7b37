-- Writing that stops after some of the entries.
use Rattle.std.proofs.Common.{◌≡◌, ◌<◌, ◌++◌, ◌∷◌, ℕ, zero, suc, arith, List, [], slice_get, Some, length, take, drop, Option, Err, refl, sym, ap, ◌∙◌, subst}
use Rattle.std.specs.Io.KnownBytes.{Appends}
use Rattle.std.proofs.Common.{length-append}
use Rattle.mail_model.specs.Transcript as transcript
use Rattle.std.proofs.lemmas.List.{append-nil, take-append-drop, map-append}
use Rattle.io_edge.proofs.Known.{appends_more}
use Rattle.mail_model.specs.Lines.{ended}
use Rattle.mail_model.specs.Transcript.{entry_line, written_of}
use Rattle.drive_tape.specs.declared.entry.Entry.{Entry}
use Rattle.drive_tape.specs.declared.entry.WriteStop.{WriteStop}
use Rattle.drive_tape.specs.Entries.{transcript_entry, transcript_entries, WritesEntries}

split_at : (k : ℕ) (entries : List Entry) → transcript_entries entries ≡ transcript_entries (take k entries) ++ transcript_entries (drop k entries)
split_at k entries = sym (ap transcript_entries (take-append-drop k entries)) ∙ map-append transcript_entry (take k entries) (drop k entries)

-- the k-th of the entries stands first after those before it
drop_at : (k : ℕ) (entries : List Entry) (entry : Entry) → slice_get entries k ≡ Some entry → drop k entries ≡ entry ∷ drop (suc k) entries
drop_at zero [] entry at_k = grind (arith, at_k)
drop_at zero (x ∷ xs) entry at_k = grind (arith, at_k)
drop_at (suc k) [] entry at_k = grind (arith, at_k)
drop_at (suc k) (x ∷ xs) entry at_k = drop_at k xs entry at_k

-- the line of an entry is not empty
pub some_line : (entry : transcript.Entry) → 0 < length (ended (entry_line entry))
some_line entry = omega (arith, length-append (entry_line entry) (10 ∷ []))

-- nothing was written of the next entry
pub stops_before : (old new : Option (List ℕ)) (k : ℕ) (entries : List Entry) (why : WriteStop) (entry : Entry) → slice_get entries k ≡ Some entry
    → Appends old new (written_of (transcript_entries (take k entries))) → WritesEntries old new (Err why) (transcript_entries entries)
stops_before old new k entries why entry at_k gave = (
  transcript_entries (take k entries),
  transcript_entries (drop k entries),
  [],
  split_at k entries,
  record { entry = transcript_entry entry; more = transcript_entries (drop (suc k) entries); rest = ended (entry_line (transcript_entry entry)); are = ap transcript_entries (drop_at k entries entry at_k); some = some_line (transcript_entry entry); whole = refl },
  subst (Appends old new) (sym (append-nil (written_of (transcript_entries (take k entries))))) gave,
)

-- a part of the next entry was written
pub stops_within : (old mid new : Option (List ℕ)) (k : ℕ) (entries : List Entry) (why : WriteStop) (entry : Entry) (line front missing : List ℕ)
    → slice_get entries k ≡ Some entry
    → Appends old mid (written_of (transcript_entries (take k entries))) → line ≡ ended (entry_line (transcript_entry entry)) → 0 < length missing → line ≡ front ++ missing → Appends mid new front
    → WritesEntries old new (Err why) (transcript_entries entries)
stops_within old mid new k entries why entry line front missing at_k gave is some parts more = (
  transcript_entries (take k entries),
  transcript_entries (drop k entries),
  front,
  split_at k entries,
  record { entry = transcript_entry entry; more = transcript_entries (drop (suc k) entries); rest = missing; are = ap transcript_entries (drop_at k entries entry at_k); some = some; whole = sym is ∙ parts },
  appends_more _ _ _ _ _ gave more,
)
