-- Why a letter of membership or maps is refused, as the parts of a node answer it and as the machine has it.
use Rattle.std.proofs.Common.{◌≡◌, ◌⊎◌, inl, inr, ℕ, Bool, true, false, not, ◌&&◌, ◌||◌, cond, nat_eq, List, Option, Some, None, refl, sym, ap, ◌∙◌, subst, true≢false}
use Rattle.std.specs.Prelude.{option_map}
use Rattle.std.proofs.lemmas.Bool.{eqb-true, eq-eqb}
use Rattle.mail_model.specs.Identity.{EpochId}
use Rattle.object_model.specs.Keys.{is_same_epoch}
use Rattle.object_model.specs.Letters.{Claim, Member, Membership, Row, Body, Letter}
use Rattle.object_model.specs.Letters.Body.{Group, Join, Install, Report, ReportAck}
use Rattle.cluster_model.specs.Thrown as plain
use Rattle.cluster_model.specs.Thrown.{is_stale, has_epoch}
use Rattle.maps_model.specs.Epochs.{IsBefore, IsAtMost}
use Rattle.maps_model.specs.Cluster as maps
use Rattle.maps_model.specs.Cluster.{epoch_of, member_of, NamesNode, OpenGroup}
use Rattle.user_map.proofs.Managed.{epoch_is, is_epoch}
use Rattle.membership.specs.Rounds.{IsOpen}
use Rattle.membership.proofs.Heard.{not_before}
use Rattle.node_maps.specs.Hearing.{ThrowsGroup, ThrowsJoin, ThrowsInstall, ThrowsMaps, Throws, IsOfEpoch, IsOver}
use Rattle.node_maps.specs.declared.answer.Refusal.{Refusal}
use Rattle.node_maps.specs.declared.answer.Refusal.TheVariants as refusal
use Rattle.node_maps.proofs.Nodes.{before_true, before_false}
use Rattle.whole_model.specs.Rules.{IsMapsBody}
use Rattle.whole_world.specs.Thrown.{is_before, is_open_for, is_in_boot, refused_by}
use Rattle.whole_world.proofs.Before.{true_before}
use Rattle.whole_node.specs.Hearing.{why_refused}

group_refused : (own : ℕ) (node : maps.Node) (epoch : EpochId) (t : Option Refusal) → ThrowsGroup node epoch t → option_map why_refused t ≡ refused_by own node (Group epoch)
group_refused own node epoch None most = ap (λ (b : Bool). cond b (Some plain.Why.Old) None) (sym (before_false epoch node.promise most))
group_refused own node epoch (Some refusal.Old) below = ap (λ (b : Bool). cond b (Some plain.Why.Old) None) (sym (before_true epoch node.promise below))
group_refused own node epoch (Some refusal.Stale) never = absurd never
group_refused own node epoch (Some refusal.NotPromised) never = absurd never
group_refused own node epoch (Some refusal.NotMember) never = absurd never
group_refused own node epoch (Some refusal.Late) never = absurd never

open_for : (opened : Option OpenGroup) (epoch : EpochId) → IsOpen opened epoch → is_open_for opened epoch ≡ true
open_for opened epoch o = ap (λ (g : Option OpenGroup). is_open_for g epoch) o.is ∙ is_epoch o.group.epoch epoch o.same

for_open : (opened : Option OpenGroup) (epoch : EpochId) → is_open_for opened epoch ≡ true → IsOpen opened epoch
for_open None epoch e = absurd (true≢false (sym e))
for_open (Some group) epoch e = record { group = group; is = refl; same = epoch_is group.epoch epoch e }

not_open : (opened : Option OpenGroup) (epoch : EpochId) → (IsOpen opened epoch → ⊥) → is_open_for opened epoch ≡ false
not_open opened epoch never = by (is_open_for opened epoch) refl
  where
    by : (b : Bool) → is_open_for opened epoch ≡ b → is_open_for opened epoch ≡ false
    by true e = absurd (never (for_open opened epoch e))
    by false e = e

module _ (own : ℕ) (node : maps.Node) (epoch promise : EpochId) (boot : ℕ) (was : EpochId) (claims : List Claim) where
  join_refused : (t : Option Refusal) → ThrowsJoin node epoch t → option_map why_refused t ≡ refused_by own node (Join epoch promise boot was claims)
  join_refused None o = ap (λ (b : Bool). cond b None (Some plain.Why.Late)) (sym (open_for node.group epoch o))
  join_refused (Some refusal.Late) never = ap (λ (b : Bool). cond b None (Some plain.Why.Late)) (sym (not_open node.group epoch never))
  join_refused (Some refusal.Stale) never = absurd never
  join_refused (Some refusal.Old) never = absurd never
  join_refused (Some refusal.NotPromised) never = absurd never
  join_refused (Some refusal.NotMember) never = absurd never

-- the first reason that applies to an Install
abbrev first_reason : Bool → Bool → Bool → Bool → Option plain.Why
first_reason below later above named = cond (below || not later) (Some plain.Why.Old) (cond above (Some plain.Why.NotPromised) (cond named None (Some plain.Why.NotMember)))

module _ (own : ℕ) (node : maps.Node) (m : Membership) where
  abbrev named : Bool
  named = is_in_boot (member_of m.members own) node.boot

  abbrev reason : Option plain.Why
  reason = first_reason (is_before m.epoch node.promise) (is_before (epoch_of node) m.epoch) (is_before node.promise m.epoch) named

  -- the four tests, as what they come to
  tested : (a b c d : Bool) → is_before m.epoch node.promise ≡ a → is_before (epoch_of node) m.epoch ≡ b → is_before node.promise m.epoch ≡ c → named ≡ d → first_reason a b c d ≡ reason
  tested a b c d p q r s =
      ap (λ (x : Bool). first_reason x b c d) (sym p) ∙ ap (λ (x : Bool). first_reason (is_before m.epoch node.promise) x c d) (sym q)
      ∙ ap (λ (x : Bool). first_reason (is_before m.epoch node.promise) (is_before (epoch_of node) m.epoch) x d) (sym r)
      ∙ ap (λ (x : Bool). first_reason (is_before m.epoch node.promise) (is_before (epoch_of node) m.epoch) (is_before node.promise m.epoch) x) (sym s)

  named_in : NamesNode m own node.boot → named ≡ true
  named_in n = ap (λ (o : Option Member). is_in_boot o node.boot) n.is ∙ eq-eqb n.member.boot node.boot n.same

  in_named : (o : Option Member) → member_of m.members own ≡ o → is_in_boot o node.boot ≡ true → NamesNode m own node.boot
  in_named None is e = absurd (true≢false (sym e))
  in_named (Some member) is e = record { member = member; is = is; same = eqb-true member.boot node.boot e }

  unnamed : (NamesNode m own node.boot → ⊥) → named ≡ false
  unnamed never = by named refl
    where
      by : (b : Bool) → named ≡ b → named ≡ false
      by true e = absurd (never (in_named (member_of m.members own) refl e))
      by false e = e

  not_below : (IsOver node m → ⊥) → is_before m.epoch node.promise ≡ false
  not_below never = by (is_before m.epoch node.promise) refl
    where
      by : (b : Bool) → is_before m.epoch node.promise ≡ b → is_before m.epoch node.promise ≡ false
      by true e = absurd (never (inl (true_before m.epoch node.promise e)))
      by false e = e

  later_than : (IsOver node m → ⊥) → is_before (epoch_of node) m.epoch ≡ true
  later_than never = by (is_before (epoch_of node) m.epoch) refl
    where
      by : (b : Bool) → is_before (epoch_of node) m.epoch ≡ b → is_before (epoch_of node) m.epoch ≡ true
      by true e = e
      by false e = absurd (never (inr (not_before (epoch_of node) m.epoch e)))

  old_reason : (a : Bool) → (a || true) ≡ true
  old_reason true = refl
  old_reason false = refl

  is_old : IsOver node m → Some plain.Why.Old ≡ reason
  is_old (inl below) = tested true (is_before (epoch_of node) m.epoch) (is_before node.promise m.epoch) named (before_true m.epoch node.promise below) refl refl refl
  is_old (inr most) =
      ap (λ (t : Bool). cond t (Some plain.Why.Old) (cond (is_before node.promise m.epoch) (Some plain.Why.NotPromised) (cond named None (Some plain.Why.NotMember)))) (sym (old_reason (is_before m.epoch node.promise)))
      ∙ tested (is_before m.epoch node.promise) false (is_before node.promise m.epoch) named refl (before_false (epoch_of node) m.epoch most) refl refl

  install_refused : (t : Option Refusal) → ThrowsInstall own node m t → option_map why_refused t ≡ refused_by own node (Install m)
  install_refused None (due, names) = tested false true false true (before_false m.epoch node.promise (inr (sym due.0))) (before_true (epoch_of node) m.epoch due.1) (before_false node.promise m.epoch (inr due.0)) (named_in names)
  install_refused (Some refusal.Old) over = is_old over
  install_refused (Some refusal.NotPromised) (never, above) = tested false true true named (not_below never) (later_than never) (before_true node.promise m.epoch above) refl
  install_refused (Some refusal.NotMember) (due, never) = tested false true false false (before_false m.epoch node.promise (inr (sym due.0))) (before_true (epoch_of node) m.epoch due.1) (before_false node.promise m.epoch (inr due.0)) (unnamed never)
  install_refused (Some refusal.Stale) never = absurd never
  install_refused (Some refusal.Late) never = absurd never

-- a letter that carries an epoch and is not stale is of the epoch that is installed
of_epoch : (letter : Letter) (installed : Option Membership) → has_epoch letter.body ≡ true → is_stale letter installed ≡ false
    → (membership : Membership) × (installed ≡ Some membership) × (membership.epoch ≡ letter.epoch)
of_epoch letter None carries e = absurd (true≢false (sym carries ∙ e))
of_epoch letter (Some m) carries e = (m, refl, sym (epoch_is letter.epoch m.epoch (not_false (is_same_epoch letter.epoch m.epoch) (ap (λ (b : Bool). b && not (is_same_epoch letter.epoch m.epoch)) (sym carries) ∙ e))))
  where
    not_false : (b : Bool) → not b ≡ false → b ≡ true
    not_false true h = refl
    not_false false h = absurd (true≢false h)

maps_refused : (letter : Letter) (node : maps.Node) → has_epoch letter.body ≡ true → is_stale letter node.installed ≡ false → (t : Option Refusal) → ThrowsMaps node letter.epoch t → option_map why_refused t ≡ None
maps_refused letter node carries e None within = refl
maps_refused letter node carries e (Some refusal.Stale) never = absurd (never (of_epoch letter node.installed carries e))
maps_refused letter node carries e (Some refusal.Old) never = absurd never
maps_refused letter node carries e (Some refusal.NotPromised) never = absurd never
maps_refused letter node carries e (Some refusal.NotMember) never = absurd never
maps_refused letter node carries e (Some refusal.Late) never = absurd never

-- what the parts answer is what the machine refuses
pub refused_same : (own : ℕ) (node : maps.Node) (letter : Letter) (body : Body) → letter.body ≡ body → IsMapsBody body → is_stale letter node.installed ≡ false → (t : Option Refusal) → Throws own node letter body t
    → option_map why_refused t ≡ refused_by own node body
refused_same own node letter (Group epoch) is of fresh t throws = group_refused own node epoch t throws
refused_same own node letter (Join epoch promise boot was claims) is of fresh t throws = join_refused own node epoch promise boot was claims t throws
refused_same own node letter (Install m) is of fresh t throws = install_refused own node m t throws
refused_same own node letter (Report row) is of fresh t throws = maps_refused letter node (ap has_epoch is) fresh t throws
refused_same own node letter (ReportAck user version) is of fresh t throws = maps_refused letter node (ap has_epoch is) fresh t throws
refused_same own node letter other is of fresh t throws = absurd of

-- and it is never that the letter is of another epoch
pub never_stale : (own : ℕ) (node : maps.Node) (body : Body) → refused_by own node body ≡ Some plain.Why.Stale → ⊥
never_stale own node (Group epoch) e = by (is_before epoch node.promise) e
  where
    by : (b : Bool) → cond b (Some plain.Why.Old) None ≡ Some plain.Why.Stale → ⊥
    by true e = absurd (cc e)
    by false e = absurd (cc e)
never_stale own node (Join epoch promise boot was claims) e = by (is_open_for node.group epoch) e
  where
    by : (b : Bool) → cond b None (Some plain.Why.Late) ≡ Some plain.Why.Stale → ⊥
    by true e = absurd (cc e)
    by false e = absurd (cc e)
never_stale own node (Install m) e = by (is_before m.epoch node.promise || not (is_before (epoch_of node) m.epoch)) (is_before node.promise m.epoch) (is_in_boot (member_of m.members own) node.boot) e
  where
    by : (a b c : Bool) → cond a (Some plain.Why.Old) (cond b (Some plain.Why.NotPromised) (cond c None (Some plain.Why.NotMember))) ≡ Some plain.Why.Stale → ⊥
    by true b c e = absurd (cc e)
    by false true c e = absurd (cc e)
    by false false true e = absurd (cc e)
    by false false false e = absurd (cc e)
never_stale own node other e = absurd (cc e)
