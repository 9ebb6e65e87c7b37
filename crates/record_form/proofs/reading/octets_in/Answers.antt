use Rattle.std.proofs.Common.{◌≡◌, ℕ, List, Option, Some, option_map, ap, rules}
use Rattle.mail_model.specs.Identity.{Id}
use Rattle.mail_model.specs.Record.{Record}
use Rattle.mail_model.specs.Record.Record.{Octets}
use Rattle.record_form.specs.declared.entry.DiskEntry.{DiskEntry}
use Rattle.record_form.specs.Entries.{IsEntryOf}
use Rattle.record_form.proofs.reading.octets_in.Goals as goal

found : (read : Option (Id × List ℕ)) (entry : DiskEntry) (id : Id) (rest : List ℕ) → IsEntryOf entry (Octets id rest) → read ≡ Some (id, rest)
    → (one : Record) × (option_map (λ found. Octets found.0 found.1) read ≡ Some one) × IsEntryOf entry one
found read entry id rest told is = (Octets id rest, ap (option_map (λ found. Octets found.0 found.1)) is, told)

pub returns : goal.returns
returns c = found _ _ _ _ c.octets_entry.ensures (search rules)
