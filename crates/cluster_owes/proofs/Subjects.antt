-- What a call that reads was answered is of its own subject, and stands on disks.
use Rattle.std.proofs.Common.{◌≡◌, ◌≢◌, ℕ, Bool, true, List, [], ◌∷◌, map, AllPairs, refl, sym, ap, ◌∙◌, subst, eqb-true}
use Rattle.std.specs.Prelude.{⊤, nat_eq}
use Rattle.std.proofs.lemmas.Bool.{and_parts}
use Rattle.mail_model.specs.Identity.{Id, State}
use Rattle.mail_model.specs.Identity.Key.{Message}
use Rattle.mail_model.specs.PopReplies.{Item}
use Rattle.mail_model.specs.Record.Record.{Stated}
use Rattle.mail_model.specs.Maildrop.{Given}
use Rattle.object_model.specs.Lists.{Among}
use Rattle.object_model.specs.Letters.{Number}
use Rattle.session_model.specs.Calls.{Call}
use Rattle.session_model.specs.Calls.Call.{Deliver, Login, Fetch, Strike}
use Rattle.cluster_model.specs.Reads.{ListedCopy, Found}
use Rattle.cluster_model.specs.Reads.Found.{Listed, WrongSecret, InUse, NoProfile, PartOf, NotThere}
use Rattle.cluster_model.specs.Cluster.{Slot}
use Rattle.cluster_model.proofs.Filing.{among_map}
use Rattle.login_model.specs.Readings.{Subject}
use Rattle.login_model.specs.Readings.Subject.{OfUser, OfPart}
use Rattle.joint_world.specs.World.{World, mail_world_of}
use Rattle.joint_world.specs.Subjects.{IsAbout, IsCopySomewhere, IsPartSomewhere, ShowsFound}
use Rattle.joint_world.proofs.Views.{mail_at}
use Rattle.cluster_owes.specs.Seen.{is_whole, item_listed, found_told}
use Rattle.cluster_owes.proofs.Known.{IsOnDisk, IsOwned, greatest, AnswerStands}

-- What the ticket of a call may read: a login its user's mailbox, and a fetch its message. Of another call it reads nothing, so this is so of each subject.
abbrev pub MayRead : Call → Subject → Type 0
MayRead (Login user given) subject = OfUser user ≡ subject
MayRead (Fetch user id) subject = OfPart user id 0 greatest ≡ subject
MayRead (Deliver mail) subject = ⊤
MayRead (Strike user ids) subject = ⊤

abbrev pub IsOfCall : Bool → World → Number → Call → Type 0
IsOfCall tells w number call = (subject : Subject) → MayRead call subject → IsAbout tells w number subject

-- a part that is the whole message
pub whole_part : (user : List ℕ) (id : Id) (from most : ℕ) → is_whole from most ≡ true → OfPart user id from most ≡ OfPart user id 0 greatest
whole_part user id from most whole =
    ap (λ f. OfPart user id f most) (eqb-true from 0 (and_parts (nat_eq from 0) (nat_eq most greatest) whole).0)
    ∙ ap (λ m. OfPart user id 0 m) (eqb-true most greatest (and_parts (nat_eq from 0) (nat_eq most greatest) whole).1)

-- what stands on a disk of the world stands there for messages
module _ (tells : Bool) (w : World) where
  abbrev slots : List Slot
  slots = (mail_world_of w).slots

  copy_owned : (user : List ℕ) (copy : ListedCopy) → IsCopySomewhere w user copy → IsOwned slots user copy.id
  copy_owned user copy is = record {
    n = is.node;
    slot = _;
    here = mail_at w is.node is.slot is.here;
    stamp = is.has.state.stamp;
    targets = is.has.state.targets;
    inside = subst (λ (s : State). Among (Stated (Message user copy.id) s) is.slot.disk) (λ i. record { value = is.has.here i; stamp = is.has.state.stamp; targets = is.has.state.targets }) is.has.says;
  }

  copy_on_disk : (user : List ℕ) (copy : ListedCopy) (is : IsCopySomewhere w user copy) → IsOnDisk slots copy.id is.has.octets
  copy_on_disk user copy is = record { n = is.node; slot = _; here = mail_at w is.node is.slot is.here; inside = is.has.holds }

  part_on_disk : (id : Id) (from most : ℕ) (octets : List ℕ) (whole : ℕ) (is : IsPartSomewhere tells w id from most octets whole) → IsOnDisk slots id is.part.all
  part_on_disk id from most octets whole is = record { n = is.node; slot = _; here = mail_at w is.node is.slot is.here; inside = is.part.holds }

  same_ids : (items : List ListedCopy) → map (λ (c : ListedCopy). c.id) items ≡ map (λ (item : Item). item.id) (map item_listed items)
  same_ids [] = refl
  same_ids (c ∷ items) = ap (λ (l : List Id). c.id ∷ l) (same_ids items)

  -- a listing of the user's copies
  listed : (user : List ℕ) (given : Given) (login : Number) (manager asked : ℕ) (items : List ListedCopy) → ((copy : ListedCopy) → Among copy items → IsCopySomewhere w user copy)
      → AllPairs (λ (a b : Id). a ≢ b) (map (λ (c : ListedCopy). c.id) items) → AnswerStands tells slots (Login user given) (found_told (Listed login manager asked items))
  listed user given login manager asked items copies once = (
    tt,
    (
      subst (AllPairs (λ (a b : Id). a ≢ b)) (same_ids items) once,
      λ item m.
          let r = among_map item_listed item items m in
          let is = copies r.0 r.1 in (
            (is.has.octets, subst (λ (i : Item). IsOnDisk slots i.id is.has.octets) r.2 (copy_on_disk user r.0 is), sym (ap (λ (i : Item). i.size) r.2) ∙ is.has.count),
            subst (λ (i : Item). IsOwned slots user i.id) r.2 (copy_owned user r.0 is),
          ),
    ),
  )

  -- nothing is found of a mailbox and of a part of a message at once
  abbrev nowhere : Subject
  nowhere = OfPart [] (record { node = 0; boot = 0; seq = 0 }) 0 0

  reads_nothing : (number : Number) (found : Found) → ShowsFound tells w number (OfUser []) found → ShowsFound tells w number nowhere found → ⊥
  reads_nothing number (Listed login manager asked items) a b = b
  reads_nothing number (WrongSecret stamp) a b = b
  reads_nothing number (InUse other) a b = b
  reads_nothing number (NoProfile manager) a b = b
  reads_nothing number (PartOf octets whole) a b = a
  reads_nothing number NotThere a b = a

  pub found_stands : (number : Number) (made : Call) (found : Found) → ((subject : Subject) → MayRead made subject → ShowsFound tells w number subject found) → AnswerStands tells slots made (found_told found)
  found_stands number (Login user given) found shows = by found (shows (OfUser user) refl)
    where
      by : (found : Found) → ShowsFound tells w number (OfUser user) found → AnswerStands tells slots (Login user given) (found_told found)
      by (Listed login manager asked items) s = listed user given login manager asked items s.1 s.2
      by (WrongSecret stamp) s = (tt, tt)
      by (InUse other) s = (tt, tt)
      by (NoProfile manager) s = (tt, tt)
      by (PartOf octets whole) s = absurd s
      by NotThere s = absurd s
  found_stands number (Fetch user id) found shows = by found (shows (OfPart user id 0 greatest) refl)
    where
      by : (found : Found) → ShowsFound tells w number (OfPart user id 0 greatest) found → AnswerStands tells slots (Fetch user id) (found_told found)
      by (PartOf octets whole) s = (tt, λ told. (s.part.all, part_on_disk id 0 greatest octets whole s, s.part.part told))
      by NotThere s = (tt, tt)
      by (Listed login manager asked items) s = absurd s
      by (WrongSecret stamp) s = absurd s
      by (InUse other) s = absurd s
      by (NoProfile manager) s = absurd s
  found_stands number (Deliver mail) found shows = absurd (reads_nothing number found (shows (OfUser []) tt) (shows nowhere tt))
  found_stands number (Strike user ids) found shows = absurd (reads_nothing number found (shows (OfUser []) tt) (shows nowhere tt))
