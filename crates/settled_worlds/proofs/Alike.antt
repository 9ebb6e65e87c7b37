-- What stands, which fragments are named and whether members agree is read off the disks of members alone.
use Rattle.std.proofs.Common.{◌≡◌, ℕ, List, Option, sym, ◌∙◌}
use Rattle.mail_model.specs.Identity.{Id, Stamp}
use Rattle.mail_model.specs.Record.{Record}
use Rattle.object_model.specs.Lists.{Among}
use Rattle.standing_model.specs.Standing.{disk_at, OnDisk, CopyStands, IsStampOf, AreStanding, NamesFragments, MembersAgree}

-- both have the same records of each of these nodes
abbrev pub AreAlike : List ℕ → List (List Record) → List (List Record) → Type 0
AreAlike members a b = (n : ℕ) → Among n members → disk_at a n ≡ disk_at b n

pub alike_back : (members : List ℕ) (a b : List (List Record)) → AreAlike members a b → AreAlike members b a
alike_back members a b same n m = sym (same n m)

on_alike : (a b : List (List Record)) (n : ℕ) (P : List Record → Type 0) → disk_at a n ≡ disk_at b n → OnDisk a n P → OnDisk b n P
on_alike a b n P same (records, at, is) = (records, sym same ∙ at, is)

module _ (members : List ℕ) (a b : List (List Record)) (same : AreAlike members a b) where
  stands_there : (user : List ℕ) (id : Id) → CopyStands a members user id → CopyStands b members user id
  stands_there user id s = record {
    n = s.n;
    member = s.member;
    stamp = s.stamp;
    here = on_alike a b s.n _ (same s.n s.member) s.here;
    not_gone = λ m inside gone. s.not_gone m inside (on_alike b a m _ (sym (same m inside)) gone);
  }

  stamp_there : (user : List ℕ) (id : Id) (stamp : Stamp) → IsStampOf a members user id stamp → IsStampOf b members user id stamp
  stamp_there user id stamp s = record {
    n = s.n;
    member = s.member;
    says = on_alike a b s.n _ (same s.n s.member) s.says;
    latest = λ m other inside holds. s.latest m other inside (on_alike b a m _ (sym (same m inside)) holds);
  }

  fragments_there : (user : List ℕ) (told : Option (ℕ × List ℕ)) → NamesFragments a members user told → NamesFragments b members user told
  fragments_there user told names = record {
    manager = names.manager;
    nodes = names.nodes;
    tells = names.tells;
    member = names.member;
    rising = names.rising;
    exact = λ n. (
      λ named. let (inside, held) = (names.exact n).0 named in (inside, on_alike a b n _ (same n inside) held),
      λ (inside, held). (names.exact n).1 (inside, on_alike b a n _ (sym (same n inside)) held),
    );
  }

  agree_there : MembersAgree a members → MembersAgree b members
  agree_there agree one other is_one is_other key state says target =
      on_alike a b other _ (same other is_other) (agree one other is_one is_other key state (on_alike b a one _ (sym (same one is_one)) says) target)

module _ (members : List ℕ) (a b : List (List Record)) (same : AreAlike members a b) where
  pub standing_alike : (user : List ℕ) (ids : List Id) → AreStanding a members user ids → AreStanding b members user ids
  standing_alike user ids s = record {
    exact = λ id. (
      λ stands. (s.exact id).0 (stands_there members b a (alike_back members a b same) user id stands),
      λ inside. stands_there members a b same user id ((s.exact id).1 inside),
    );
    once = s.once;
    rising = λ i j x before within first second p q. s.rising i j x before within first second
        (stamp_there members b a (alike_back members a b same) user _ first p) (stamp_there members b a (alike_back members a b same) user _ second q);
  }

  pub names_alike : (user : List ℕ) (told : Option (ℕ × List ℕ)) → NamesFragments a members user told → NamesFragments b members user told
  names_alike user told names = fragments_there members a b same user told names

  pub agree_alike : MembersAgree a members → MembersAgree b members
  agree_alike agree = agree_there members a b same agree
