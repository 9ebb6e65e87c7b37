-- A letter that is taken out keeps all parts: each speaks of all letters in flight.
use Rattle.std.proofs.Common.{inl, inr, ⊎_elim, ℕ, List}
use Rattle.mail_model.specs.Identity.{EpochId}
use Rattle.object_model.specs.Letters.{Membership, Letter}
use Rattle.object_model.specs.Lists.{Among}
use Rattle.maps_model.specs.Cluster.{Slot}
use Rattle.maps_model.specs.Words.{Known, AllName, WasIn, JoinStands}
use Rattle.maps_model.specs.Parts.{Apart, OneEach, Joins, Spoken, Reported, RowsAgree}

module _ (slots : List Slot) (flying left : List Letter) (fewer : (letter : Letter) → Among letter left → Among letter flying) where
  known : (g : Membership) → Known slots left g → Known slots flying g
  known g (inl h) = inl h
  known g (inr h) = inr (record { letter = h.letter; inside = fewer h.letter h.inside; is = h.is })

  all : (epoch : EpochId) (n boot : ℕ) → AllName slots flying epoch n boot → AllName slots left epoch n boot
  all epoch n boot h = λ g k same. h g (known g k) same

  pub apart_taken : Apart flying → Apart left
  apart_taken p = record { each = λ letter m. p.each letter (fewer letter m) }

  pub one_taken : OneEach slots flying → OneEach slots left
  one_taken p = record {
    one = λ a b x y e. p.one a b (known a x) (known b y) e;
    over = λ g k. p.over g (known g k);
    counted = λ g k. p.counted g (known g k);
    managers = λ g k. p.managers g (known g k);
  }

  was : (n boot : ℕ) (epoch : EpochId) → WasIn slots flying n boot epoch → WasIn slots left n boot epoch
  was n boot epoch (inl none) = inl none
  was n boot epoch (inr h) = inr (h.0, h.1, all epoch n boot h.2)

  stands : (n boot : ℕ) (epoch from : EpochId) → JoinStands slots flying n boot epoch from → JoinStands slots left n boot epoch from
  stands n boot epoch from h = (h.0, was n boot from h.1)

  pub joins_taken : Joins slots flying → Joins slots left
  joins_taken p = record {
    named = λ g k n boot from comes. stands n boot g.epoch from (p.named g (known g k) n boot from comes);
    joined = λ n node disk at group opened join m. stands join.member.node join.member.boot group.epoch join.member.was (p.joined n node disk at group opened join m);
    joining = λ letter m epoch promise boot from claims e. stands letter.from boot epoch from (p.joining letter (fewer letter m) epoch promise boot from claims e);
  }

  pub spoken_taken : Spoken slots flying → Spoken slots left
  spoken_taken p = record {
    report_over = λ letter m user boot row h. p.report_over letter (fewer letter m) user boot row h;
    ack_over = λ letter m user version h. p.ack_over letter (fewer letter m) user version h;
    reported = λ letter m user boot row h. let r = p.reported letter (fewer letter m) user boot row h in (r.0, all letter.epoch letter.from boot r.1);
    acked = λ letter m user version h. let r = p.acked letter (fewer letter m) user version h in (r.0, r.1, all letter.epoch letter.to r.0 r.2);
    rows = λ n node disk at m boot user row e. ⊎_elim (λ entered. inl entered) (λ k. inr (record { membership = k.membership; installed = k.installed; was = k.was; over = k.over; own_comes = k.own_comes; comes = k.comes; managed = λ old o same. k.managed old (known old o) same; counted = k.counted; allowed = k.allowed })) (p.rows n node disk at m boot user row e);
  }

  pub reported_taken : Reported slots flying → Reported slots left
  reported_taken p = record {
    to = λ letter m user boot row h g k same. p.to letter (fewer letter m) user boot row h g (known g k) same;
    fits = λ n node disk at letter m from user boot row h same. p.fits n node disk at letter (fewer letter m) from user boot row h same;
  }

  pub told_taken : RowsAgree slots flying → RowsAgree slots left
  told_taken p = record {
    each = λ n node disk at g h user manager managed other its atm row epoch counts.
        let a = p.each n node disk at g h user manager managed other its atm row epoch counts in record {
          fits = a.fits;
          acked = λ letter m to same told ack. a.acked letter (fewer letter m) to same told ack;
          unmarked = λ none. ⊎_elim
              (λ u. inl (record { missing = u.missing; empty = u.empty; silent = λ letter m from same boot told r. u.silent letter (fewer letter m) from same boot told r }))
              (λ l. inr l)
              (a.unmarked none);
        };
  }
