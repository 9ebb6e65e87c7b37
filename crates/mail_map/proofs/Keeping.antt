-- That an install keeps the rows of the machine's rule.
use Rattle.std.proofs.Common.{◌≡◌, ℕ, Bool, true, false, true≢false, ◌&&◌, nat_eq, cond, List, Option, Some, None, refl, sym, ap, ◌∙◌, subst}
use Rattle.std.proofs.lemmas.Bool.{and_parts, eqb-true, eq-eqb}
use Rattle.mail_model.specs.Identity.{EpochId}
use Rattle.object_model.specs.Keys.{is_same_epoch}
use Rattle.object_model.specs.Letters.{Member, Membership}
use Rattle.maps_model.specs.Cluster.{Node, Disk, epoch_in, epoch_of, member_of, NamesNode, Comes, manager_of}
use Rattle.maps_model.specs.Rules.{IsRowKept, IsRowDue, RowAt}
use Rattle.maps_model.specs.Rules.RowAt.{Keeps, Drops}
use Rattle.maps_model.proofs.Telling.{one_boot}
use Rattle.user_map.proofs.Managed.{node_is, is_node, epoch_is, is_epoch}
use Rattle.user_map.specs.Managers.{is_managed_by}
use Rattle.mail_map.specs.Installs.{comes_from, comes, stays, kept_rows}
use Rattle.mail_map.specs.Laws.{map_in}

all_true : (a b c : Bool) → a ≡ true → b ≡ true → c ≡ true → ((a && b) && c) ≡ true
all_true a b c x y z = ap (λ t. (t && b) && c) x ∙ ap (λ t. t && c) y ∙ z

module _ (own : ℕ) (node : Node) (membership : Membership) (n boot : ℕ) (user : List ℕ) where
  came : (was : EpochId) (x : Option Member) → member_of membership.members n ≡ x → comes_from x boot was ≡ true → Comes membership n boot was
  came was None e t = absurd (true≢false (sym t))
  came was (Some member) e t =
      let parts = and_parts (nat_eq member.boot boot) (is_same_epoch member.was was) t in
      record { member = member; is = e; same = eqb-true member.boot boot parts.0; from = epoch_is member.was was parts.1 }

  comes_so : (was : EpochId) → Comes membership n boot was → comes membership.members n boot was ≡ true
  comes_so was c =
      ap (λ x. comes_from x boot was) c.is
      ∙ ap (λ t. t && is_same_epoch c.member.was was) (eq-eqb c.member.boot boot c.same)
      ∙ is_epoch c.member.was was c.from

  abbrev stays_by : Option Membership → Bool
  stays_by x = stays own (map_in x) membership.map (epoch_in x) membership.members n boot user

  pub if_stays : stays own (map_in node.installed) membership.map (epoch_of node) membership.members n boot user ≡ true → IsRowKept own node membership n boot user
  if_stays t = by node.installed refl t
    where
      by : (x : Option Membership) → node.installed ≡ x → stays_by x ≡ true → IsRowKept own node membership n boot user
      by None e t = absurd (true≢false (sym t))
      by (Some old) e t =
          let parts = and_parts (is_managed_by old.map own user && is_managed_by membership.map own user) (comes membership.members n boot old.epoch) t in
          let both = and_parts (is_managed_by old.map own user) (is_managed_by membership.map own user) parts.0 in
          record {
            old = old;
            installed = e;
            managed = node_is (manager_of old user) own both.0;
            manages = node_is (manager_of membership user) own both.1;
            comes = came old.epoch (member_of membership.members n) refl parts.1;
            allowed = tt;
          }

  pub only_if_stays : IsRowKept own node membership n boot user → stays own (map_in node.installed) membership.map (epoch_of node) membership.members n boot user ≡ true
  only_if_stays k =
      ap stays_by k.installed
      ∙ all_true (is_managed_by k.old.map own user) (is_managed_by membership.map own user) (comes membership.members n boot k.old.epoch)
      (is_node (manager_of k.old user) own k.managed) (is_node (manager_of membership user) own k.manages) (comes_so k.old.epoch k.comes)

  abbrev stays_now : Bool
  stays_now = stays own (map_in node.installed) membership.map (epoch_of node) membership.members n boot user

  pub row_at : (disk : Disk) → NamesNode membership own node.boot → (n ≡ own → boot ≡ node.boot → manager_of membership user ≡ Some own → IsRowDue node disk membership user → ⊥)
      → RowAt own node disk membership n boot user (kept_rows own (map_in node.installed) membership.map (epoch_of node) membership.members node.rows n boot user)
  row_at disk names untold = by stays_now refl
    where
      again : IsRowKept own node membership n boot user → n ≡ own → IsRowDue node disk membership user → ⊥
      again k mine due = untold mine (one_boot membership own boot node.boot
          (subst (λ x. NamesNode membership x boot) mine (record { member = k.comes.member; is = k.comes.is; same = k.comes.same })) names) k.manages due

      by : (t : Bool) → stays_now ≡ t → RowAt own node disk membership n boot user (kept_rows own (map_in node.installed) membership.map (epoch_of node) membership.members node.rows n boot user)
      by true e = let k = if_stays e in Keeps k (again k) (ap (λ t. cond t (node.rows n boot user) None) e)
      by false e = Drops (λ k. true≢false (sym (only_if_stays k) ∙ e)) untold (ap (λ t. cond t (node.rows n boot user) None) e)
