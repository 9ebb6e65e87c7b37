-- What a group is concluded to is one, and some.
use Rattle.std.proofs.Common.{◌≡◌, ◌⊎◌, inl, inr, ◌<◌, ℕ, Bool, true, false, List, [], ◌∷◌, length, map, flat_map, Option, Some, None, refl, sym, ap, ◌∙◌, subst, true≢false, arith}
use Rattle.object_model.specs.Letters.{MapRow, Member, Membership, Row}
use Rattle.maps_model.specs.Assign.{IsAssigned}
use Rattle.maps_model.specs.Cluster.{Joined, OpenGroup, Node, Disk, NamesNode, member_of}
use Rattle.maps_model.specs.Rules.{Entering, IsRowDue, IsSpared, MarkAt, RowAt, membership_of, conclude}
use Rattle.maps_model.specs.Rules.MarkAt.{TellsItself, Marks, Spares}
use Rattle.maps_model.specs.Rules.RowAt.{Tells, Keeps, Drops}
use Rattle.maps_model.proofs.OneMap.{one_map}
use Rattle.maps_model.proofs.CanEnter.{can_enter}
use Rattle.user_map.specs.Plain.{assigned}
use Rattle.user_map.proofs.Assigned.{some_map}
use Rattle.node_maps.specs.Laws.{OneConclusion, GroupsConclude}

module _ (own : ℕ) (node : Node) (disk : Disk) (membership : Membership) where
  undue : (user : List ℕ) → node.marked user ≡ false → (disk.holds user ≡ false) ⊎ IsSpared node membership user → IsRowDue node disk membership user → ⊥
  undue user was free (inl marked) = true≢false (sym marked ∙ was)
  undue user was (inl none) (inr (full, apart)) = true≢false (sym full ∙ none)
  undue user was (inr spared) (inr (full, apart)) = apart spared

  one_mark : (user : List ℕ) (a b : Bool) → MarkAt own node disk membership user a → MarkAt own node disk membership user b → a ≡ b
  one_mark user a b (TellsItself m x) (TellsItself n y) = x ∙ sym y
  one_mark user a b (TellsItself m x) (Marks n due y) = absurd (n m)
  one_mark user a b (TellsItself m x) (Spares n was free y) = absurd (n m)
  one_mark user a b (Marks m due x) (TellsItself n y) = absurd (m n)
  one_mark user a b (Marks m due x) (Marks n also y) = x ∙ sym y
  one_mark user a b (Marks m due x) (Spares n was free y) = absurd (undue user was free due)
  one_mark user a b (Spares m was free x) (TellsItself n y) = absurd (m n)
  one_mark user a b (Spares m was free x) (Marks n due y) = absurd (undue user was free due)
  one_mark user a b (Spares m was free x) (Spares n also free2 y) = x ∙ sym y

  one_row : (m boot : ℕ) (user : List ℕ) (a b : Option Row) → RowAt own node disk membership m boot user a → RowAt own node disk membership m boot user b → a ≡ b
  one_row m boot user a b (Tells p q r due x) (Tells s t u also y) = x ∙ sym y
  one_row m boot user a b (Tells p q r due x) (Keeps k apart y) = absurd (apart p due)
  one_row m boot user a b (Tells p q r due x) (Drops gone apart y) = absurd (apart p q r due)
  one_row m boot user a b (Keeps k apart x) (Tells s t u due y) = absurd (apart s due)
  one_row m boot user a b (Keeps k apart x) (Keeps l other y) = x ∙ sym y
  one_row m boot user a b (Keeps k apart x) (Drops gone other y) = absurd (gone k)
  one_row m boot user a b (Drops gone apart x) (Tells s t u due y) = absurd (apart s t u due)
  one_row m boot user a b (Drops gone apart x) (Keeps k other y) = absurd (gone k)
  one_row m boot user a b (Drops gone apart x) (Drops lost other y) = x ∙ sym y

pub one_conclusion : OneConclusion
one_conclusion own buckets node disk a b x y = x.is ∙ same ∙ sym y.is
  where
    group : x.group ≡ y.group
    group = let p = x.opened in let q = y.opened in cc

    rows : x.rows ≡ y.rows
    rows = one_map (flat_map (λ join. join.claims) x.group.joins) (map (λ join. join.member) x.group.joins) buckets x.group.epoch x.rows y.rows x.assigned
        (subst (λ (g : OpenGroup). IsAssigned (flat_map (λ join. join.claims) g.joins) (map (λ join. join.member) g.joins) buckets g.epoch y.rows) (sym group) y.assigned)

    entering : Entering own node disk (membership_of x.group x.rows) y.marked y.told
    entering = subst (λ (g : OpenGroup). Entering own node disk (membership_of g x.rows) y.marked y.told) (sym group)
        (subst (λ (r : List MapRow). Entering own node disk (membership_of y.group r) y.marked y.told) (sym rows) y.entering)

    same : conclude own node disk x.group x.rows x.marked x.told ≡ conclude own node disk y.group y.rows y.marked y.told
    same = λ i. conclude own node disk (group i) (rows i)
        (λ u. one_mark own node disk (membership_of x.group x.rows) u (x.marked u) (y.marked u) (x.entering.marks u) (entering.marks u) i)
        (λ n k u. one_row own node disk (membership_of x.group x.rows) n k u (x.told n k u) (y.told n k u) (x.entering.keeps n k u) (entering.keeps n k u) i)

joined_some : (joins : List Joined) (own boot : ℕ) (membership : Membership) → membership.members ≡ map (λ join. join.member) joins → NamesNode membership own boot → 0 < length (map (λ join. join.member) joins)
joined_some [] own boot membership is named = absurd (never named.member (sym (ap (λ (ms : List Member). member_of ms own) is) ∙ named.is))
  where
    never : (member : Member) → None ≡ Some member → ⊥
    never member e = cc
joined_some (join ∷ joins) own boot membership is named = omega arith

pub groups_conclude : GroupsConclude
groups_conclude own buckets node disk group some opened order =
    let map_rows = assigned (flat_map (λ join. join.claims) group.joins) (map (λ join. join.member) group.joins) buckets group.epoch in
    let join = order.joined group opened in
    let named : NamesNode (membership_of group map_rows) own node.boot = record { member = join.member; is = join.is; same = join.same } in
    let enters = can_enter own node disk (membership_of group map_rows) named in (
      conclude own node disk group map_rows enters.0 enters.1.0,
      record {
        some = some;
        group = group;
        opened = opened;
        rows = map_rows;
        assigned = some_map (flat_map (λ join. join.claims) group.joins) (map (λ join. join.member) group.joins) buckets group.epoch (joined_some group.joins own node.boot (membership_of group map_rows) refl named);
        marked = enters.0;
        told = enters.1.0;
        entering = enters.1.1;
        is = refl;
      },
    )
