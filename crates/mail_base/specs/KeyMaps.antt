-- A map under the code's keys, seen as a finite map under the keys that they stand for.
use Rattle.std.specs.Prelude.{List, map}
use Rattle.std.specs.FinMap as fin
use Rattle.mail_model.specs.Identity as plain
use Rattle.object_model.specs.Keys.{key_cmp}
use Rattle.mail_base.specs.declared.key.Key.{Key}
use Rattle.mail_base.specs.Seen.{key_seen}

-- the entries with the keys that theirs stand for
abbrev pub entries_seen : {X : Type 0} → List (Key × X) → List (plain.Key × X)
entries_seen entries = map (λ entry. (key_seen entry.0, entry.1)) entries

abbrev pub map_seen : {X : Type 0} → List (Key × X) → fin.FinMap key_cmp X
map_seen entries = fin.from_entries (entries_seen entries)
