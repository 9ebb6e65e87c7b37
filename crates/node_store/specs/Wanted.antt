-- Whether octets are wanted, as a store sees it.
use Rattle.std.specs.Prelude.{ℕ, Bool, not, ◌&&◌, is_some, List, Option}
use Rattle.std.specs.List.{list_any}
use Rattle.std.specs.FinMap as fin
use Rattle.mail_model.specs.Identity.{Id}
use Rattle.mail_model.specs.Identity.Key.{Message}
use Rattle.object_model.specs.Said.{is_gone_held}
use Rattle.disk_journal.specs.declared.place.Place.{Place}
use Rattle.object_table.specs.Tables.{Table}

-- whether some user's copy is not gone
abbrev pub any_stays : Id → Table → List (List ℕ) → Bool
any_stays id table users = list_any (λ user. not (is_gone_held (fin.get table (Message user id)))) users

-- and no octets are noted yet
abbrev pub wants_octets : Id → List (List ℕ) → Table → Option Place → Bool
wants_octets id users table place = any_stays id table users && not (is_some place)
