-- Rounds of letters clear marks, and bring nodes into an epoch.
use Rattle.std.proofs.Common.{◌≡◌, inl, inr, ⊎_elim, ℕ, Bool, true, false, List, [], ◌∷◌, Some, refl, sym, ap, ◌∙◌, arith, nat_lt, if◌then◌else◌}
use Rattle.std.proofs.lemmas.Bool.{ltb-false}
use Rattle.object_model.specs.Letters.{Membership, Letter}
use Rattle.maps_model.specs.Cluster.{Joined, Node, Disk, epoch_of}
use Rattle.maps_model.specs.Rules.{Reaction, own_row, ack_letter, promised, with_join, HearsReport, HearsAck}
use Rattle.maps_model.specs.Rules.HearsGroup.{Rises, Again, Old as OldGroup}
use Rattle.maps_model.specs.Rules.HearsJoin.{Late, Above, Joins}
use Rattle.maps_model.specs.Rules.HearsInstall.{Old as OldInstall, NotPromised, NotMember, Enters}
use Rattle.maps_model.specs.Rules.HearsReport.{Stale as StaleReport, Takes, Older}
use Rattle.maps_model.specs.Rules.HearsAck.{Stale as StaleAck, Clears, Other}
use Rattle.maps_model.specs.RoundLaws.{report_letter, RoundClears, NodesJoin, HasJoinOf, JoinsAdd, MembersEnter}
use Rattle.maps_model.proofs.Order.{before_itself, before_before, before_not_same, before_not_most}
use Rattle.maps_model.proofs.Reporting.{set_here}

module _ (own to : ℕ) (user : List ℕ) (g : Membership) (node : Node) (disk : Disk) (inst : node.installed ≡ Some g) (manager : Node) (its : Disk) (m_inst : manager.installed ≡ Some g) where
  abbrev report : Letter
  report = report_letter own to g node disk user

  acked : (heard : Reaction) → HearsReport manager its report user node.boot (own_row own node disk user) heard → heard.out ≡ ack_letter report user (own_row own node disk user) ∷ []
  acked heard (StaleReport none e) = absurd (none g m_inst refl)
  acked heard (Takes x i same newer e) = ap (λ (r : Reaction). r.out) e
  acked heard (Older x i same stood at lt e) = ap (λ (r : Reaction). r.out) e

  cleared : (did : Reaction) → HearsAck node disk (ack_letter report user (own_row own node disk user)) user (node.version user) did → did.node.marked user ≡ false
  cleared did (StaleAck none e) = absurd (none g inst refl)
  cleared did (Clears x i same version e) = ap (λ (r : Reaction). r.node.marked user) e ∙ set_here node.marked user false
  cleared did (Other x i same apart e) = absurd (apart refl)

pub round_clears : RoundClears
round_clears own to user g node disk inst manager its m_inst heard h = (acked own to user g node disk inst manager its m_inst heard h, cleared own to user g node disk inst manager its m_inst)

pub nodes_join : NodesJoin
nodes_join own from node disk epoch did before (Rises later e) =
    (ap (λ (r : Reaction). r.node.promise) e, ap (λ (r : Reaction). r.node.installed) e, ap (λ (r : Reaction). r.out) e)
nodes_join own from node disk epoch did before (Again same e) = absurd (before_not_same node.promise epoch before (sym same))
nodes_join own from node disk epoch did before (OldGroup lower e) = absurd (before_itself epoch (before_before epoch node.promise epoch lower before))

-- a join that is added is among the joins, or one of that node in a later boot is
added : (new : Joined) (olds : List Joined) → HasJoinOf (with_join new olds) new.member.node new.member.boot
added new [] = record { join = new; inside = inl refl; same = refl; not_below = omega arith }
added new (old ∷ olds) =
    by (nat_lt new.member.node old.member.node) (nat_lt old.member.node new.member.node) (nat_lt old.member.boot new.member.boot) (added new olds) refl refl refl
  where
    by : (a b c : Bool) → HasJoinOf (with_join new olds) new.member.node new.member.boot → nat_lt new.member.node old.member.node ≡ a → nat_lt old.member.node new.member.node ≡ b → nat_lt old.member.boot new.member.boot ≡ c
        → HasJoinOf (if a then new ∷ old ∷ olds else if b then old ∷ with_join new olds else if c then new ∷ olds else old ∷ olds) new.member.node new.member.boot
    by true b c rest e f g = record { join = new; inside = inl refl; same = refl; not_below = omega arith }
    by false true c rest e f g = record { join = rest.join; inside = inr rest.inside; same = rest.same; not_below = rest.not_below }
    by false false true rest e f g = record { join = new; inside = inl refl; same = refl; not_below = omega arith }
    by false false false rest e f g = record {
      join = old;
      inside = inl refl;
      same = omega (arith, ltb-false new.member.node old.member.node e, ltb-false old.member.node new.member.node f);
      not_below = ltb-false old.member.boot new.member.boot g;
    }

pub joins_add : JoinsAdd
joins_add node disk from epoch promise boot was claims did group opened same most (Late none e) = absurd (none group opened same)
joins_add node disk from epoch promise boot was claims did group opened same most (Above other at s above e) = absurd (before_not_most epoch promise above most)
joins_add node disk from epoch promise boot was claims did group opened same most (Joins other at s m e) =
    let new : Joined = record { member = record { node = from; boot = boot; was = was }; claims = claims } in
    (record other { joins = with_join new other.joins }, ap (λ (r : Reaction). r.node.group) e, s, added new other.joins)

pub members_enter : MembersEnter
members_enter own node disk g did promised before names (OldInstall why e) = absurd (⊎_elim
    (λ lower. before_not_same g.epoch node.promise lower promised)
    (λ most. before_not_most (epoch_of node) g.epoch before most)
    why)
members_enter own node disk g did promised before names (NotPromised above e) = absurd (before_not_same node.promise g.epoch above (sym promised))
members_enter own node disk g did promised before names (NotMember never e) = absurd (never names)
members_enter own node disk g did promised before names (Enters p b n marked rows entering e) = ap (λ (r : Reaction). r.node.installed) e
