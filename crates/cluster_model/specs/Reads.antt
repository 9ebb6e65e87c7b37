-- What a call that reads comes to: the listing of a mailbox, or a part of a message.
use Rattle.std.specs.Prelude.{◌≡◌, ℕ, Bool, true, false, ◌&&◌, List, length, take, drop, AllPairs, Option, Some, None, is_some, ◌↔◌}
use Rattle.std.specs.Ordering.{nat_cmp, on, then_cmp, is_lt}
use Rattle.std.specs.declared.cmp.Ordering.{Ordering}
use Rattle.mail_model.specs.Identity.{Id, Stamp, State}
use Rattle.mail_model.specs.Identity.Key.{Message}
use Rattle.mail_model.specs.Identity.Value.{Here}
use Rattle.mail_model.specs.Record.{Record}
use Rattle.mail_model.specs.Listing.{is_here, octets_in}
use Rattle.object_model.specs.Keys.{id_cmp}
use Rattle.object_model.specs.Lists.{Among}
use Rattle.object_model.specs.Said.{said}
use Rattle.object_model.specs.Letters.{Number}

-- a user's copy of a message in a listing: its stamp and its targets by what the disk says, and how many octets the message has
pub record ListedCopy : Type 0 where
  pub id : Id
  pub stamp : Stamp
  pub targets : ℕ
  pub size : ℕ

-- what it comes to
pub data Found : Type 0 where
  -- the login is known by its ticket; its manager, the nodes that were asked, and the copies that they listed
  Listed : (login : Number) (manager asked : ℕ) (items : List ListedCopy) → Found
  -- the stamp of the secret that the proof does not match
  WrongSecret : (stamp : Stamp) → Found
  -- the login that has the maildrop
  InUse : (by : Number) → Found
  -- this manager has no profile of the user
  NoProfile : (manager : ℕ) → Found
  -- octets of a message, which has so many in all
  PartOf : (octets : List ℕ) (whole : ℕ) → Found
  -- the copy is gone, or was never here
  NotThere : Found

-- copies by their stamps, and those of one stamp by their ids
abbrev pub copy_cmp : ListedCopy → ListedCopy → Ordering
copy_cmp = then_cmp (on (λ c. c.stamp.count) nat_cmp) (then_cmp (on (λ c. c.stamp.boot) nat_cmp) (then_cmp (on (λ c. c.stamp.node) nat_cmp) (on (λ c. c.id) id_cmp)))

abbrev pub IsListedBefore : ListedCopy → ListedCopy → Type 0
IsListedBefore copy other = is_lt (copy_cmp copy other) ≡ true

-- The disk says that the user's copy is here, with this stamp and these targets, and it has the octets of the message, which are so many.
pub record IsListedCopy (user : List ℕ) (disk : List Record) (copy : ListedCopy) : Type 0 where
  pub says : said (Message user copy.id) disk ≡ Some (record { value = Here; stamp = copy.stamp; targets = copy.targets })
  pub octets : List ℕ
  pub held : octets_in copy.id disk ≡ Some octets
  pub size : copy.size ≡ length octets

-- The listing of a user's mailbox: exactly these copies, in rising order. So each id stands once.
pub record IsListing (user : List ℕ) (disk : List Record) (items : List ListedCopy) : Type 0 where
  pub exact : (copy : ListedCopy) → Among copy items ↔ IsListedCopy user disk copy
  pub rising : AllPairs IsListedBefore items

-- Octets of a message from one on, and at most so many. Where the disk does not tell what it holds, only is known how many the message has.
pub record IsPart (tells : Bool) (id : Id) (from most : ℕ) (disk : List Record) (octets : List ℕ) (whole : ℕ) : Type 0 where
  pub all : List ℕ
  pub held : octets_in id disk ≡ Some all
  pub part : tells ≡ true → octets ≡ take most (drop from all)
  pub count : whole ≡ length all

-- whether a copy is here
abbrev pub is_here_held : Option State → Bool
is_here_held None = false
is_here_held (Some state) = is_here state.value

-- whether the user's copy is here with its octets
abbrev pub has_copy : List ℕ → Id → List Record → Bool
has_copy user id disk = is_here_held (said (Message user id) disk) && is_some (octets_in id disk)
