-- The keys that are due, by the entries of the code's map.
use Rattle.std.specs.Prelude.{ℕ, List, map}
use Rattle.std.specs.List.{filter}
use Rattle.mail_model.specs.Identity as plain
use Rattle.object_model.specs.Sets.{has}
use Rattle.object_model.specs.UpdateLog.{Logged}
use Rattle.mail_base.specs.declared.key.Key.{Key}
use Rattle.mail_base.specs.KeyMaps.{entries_seen}

-- those of the entries in which the node remains, in order
abbrev pub due_of : ℕ → List (Key × Logged) → List plain.Key
due_of to entries = map (λ entry. entry.0) (filter (λ entry. has entry.1.remaining to) (entries_seen entries))
