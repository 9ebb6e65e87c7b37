-- Disks of three nodes, one by one, and which messages they hold.
use Rattle.std.proofs.Common.{◌≡◌, ◌⊎◌, inl, inr, ℕ, zero, suc, Bool, true, false, List, [], ◌∷◌, if◌then◌else◌, Option, Some, None, refl, sym, ap, subst}
use Rattle.std.proofs.lemmas.Option.{none-some}
use Rattle.mail_model.specs.Identity.{Id, State, Stamp}
use Rattle.mail_model.specs.Identity.Key.{Message}
use Rattle.mail_model.specs.Record.{Record}
use Rattle.mail_model.specs.Record.Record.{Boot, Promise, Octets, Stated, Retired}
use Rattle.mail_model.specs.Listing.{is_same_id, octets_in}
use Rattle.mail_model.proofs.GoneListing.{same_id_is}
use Rattle.object_model.specs.Lists.{Among}
use Rattle.object_model.specs.Said.{said}
use Rattle.standing_model.specs.Standing.{OnDisk, HoldsCopy}

-- what is so on some disk of three is so of the records of node 1, 2 or 3
pub by_node : (a b c : List Record) (is_so : List Record → Type 0) (claim : Type 0) (n : ℕ) → OnDisk (a ∷ b ∷ c ∷ []) n is_so
    → (is_so a → claim) → (is_so b → claim) → (is_so c → claim) → claim
by_node a b c is_so claim zero (records, at, so) at_a at_b at_c = absurd (none-some records at)
by_node a b c is_so claim (suc zero) (records, at, so) at_a at_b at_c = let same : a ≡ records = cc at in at_a (subst is_so (sym same) so)
by_node a b c is_so claim (suc (suc zero)) (records, at, so) at_a at_b at_c = let same : b ≡ records = cc at in at_b (subst is_so (sym same) so)
by_node a b c is_so claim (suc (suc (suc zero))) (records, at, so) at_a at_b at_c = let same : c ≡ records = cc at in at_c (subst is_so (sym same) so)
by_node a b c is_so claim (suc (suc (suc (suc n)))) (records, at, so) at_a at_b at_c = absurd (none-some records at)

-- the ids whose octets are among records
abbrev pub filed_ids : List Record → List Id
filed_ids [] = []
filed_ids (Boot boot ∷ records) = filed_ids records
filed_ids (Promise epoch ∷ records) = filed_ids records
filed_ids (Octets id octets ∷ records) = id ∷ filed_ids records
filed_ids (Stated key state ∷ records) = filed_ids records
filed_ids (Retired key state ∷ records) = filed_ids records

-- octets that are held are of one of these
pub held_is_filed : (id : Id) (octets : List ℕ) (records : List Record) → octets_in id records ≡ Some octets → Among id (filed_ids records)
held_is_filed id octets [] held = absurd (none-some octets held)
held_is_filed id octets (Boot boot ∷ records) held = held_is_filed id octets records held
held_is_filed id octets (Promise epoch ∷ records) held = held_is_filed id octets records held
held_is_filed id octets (Octets other first ∷ records) held = by (held_is_filed id octets records) (is_same_id other id) refl held
  where
    by : ((octets_in id records ≡ Some octets) → Among id (filed_ids records)) → (b : Bool) → is_same_id other id ≡ b → (if b then Some first else octets_in id records) ≡ Some octets
        → (other ≡ id) ⊎ Among id (filed_ids records)
    by later true same is = inl (same_id_is other id same)
    by later false differs is = inr (later is)
held_is_filed id octets (Stated key state ∷ records) held = held_is_filed id octets records held
held_is_filed id octets (Retired key state ∷ records) held = held_is_filed id octets records held

-- the stamp of what is said
abbrev stamp_of : Option State → Option Stamp
stamp_of None = None
stamp_of (Some state) = Some state.stamp

-- a copy that records hold has the stamp that they say
pub held_stamp : (user : List ℕ) (id : Id) (stamp : Stamp) (records : List Record) → HoldsCopy user id stamp records → stamp_of (said (Message user id) records) ≡ Some stamp
held_stamp user id stamp records holds = ap stamp_of holds.says
