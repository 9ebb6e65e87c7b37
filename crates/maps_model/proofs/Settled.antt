-- In a settled epoch managers name exactly the members that hold a message.
use Rattle.std.proofs.Common.{◌≡◌, inl, inr, ⊎_elim, ℕ, Bool, false, List, [], ◌∷◌, Option, Some, refl, sym, ap, ◌∙◌, subst, if◌then◌else◌}
use Rattle.object_model.specs.Letters.{Member, Membership, Row, Letter}
use Rattle.object_model.specs.Lists.{Among}
use Rattle.maps_model.specs.Cluster.{Node, Disk, Cluster, slot_at, slot_up, manager_of, is_full}
use Rattle.maps_model.specs.Words.{Known, Agrees}
use Rattle.maps_model.specs.Words.RowFor.{Stands}
use Rattle.maps_model.specs.Parts.{Sound}
use Rattle.maps_model.specs.Laws.{IsEpochSettled, named, holds_at, fragments, NamesFragments}

-- Where a node has no mark, the manager's row says full exactly where the node holds a message.
pub full_is : (flying : List Letter) (n : ℕ) (user : List ℕ) (a b : _) (row : Option Row) (version : ℕ) (full marked : Bool) → marked ≡ false → Agrees flying n user a b row version full marked → is_full row ≡ full
full_is flying n user a b row version full marked none agrees = ⊎_elim
    (λ u. ap is_full u.missing ∙ sym u.empty)
    (λ l. ap is_full l.is ∙ (agrees.fits l.found l.is).same l.latest)
    (agrees.unmarked none)

module _ (w : Cluster) (s : Sound w) (g : Membership) (settled : IsEpochSettled w.slots g) (user : List ℕ) (manager : ℕ) (managed : manager_of g user ≡ Some manager)
    (node : Node) (disk : Disk) (here : slot_at w.slots manager ≡ Some (slot_up node disk)) (installed : node.installed ≡ Some g) where
  one_member : (member : Member) → Among member g.members → is_full (node.rows member.node member.boot user) ≡ holds_at (slot_at w.slots member.node) user
  one_member member m =
      let q = settled member m in
      let a = s.told.each member.node q.node q.disk q.here g q.installed user manager managed node disk here (node.rows member.node q.node.boot user) g.epoch (Stands installed refl refl) in
      let full = full_is w.flying member.node user g.epoch g.epoch (node.rows member.node q.node.boot user) (q.node.version user) (q.disk.holds user) (q.node.marked user) (q.unmarked user) a in
      subst (λ b. is_full (node.rows member.node b user) ≡ holds_at (slot_at w.slots member.node) user) q.boot (full ∙ sym (ap (λ x. holds_at x user) q.here))

  same_from : (members : List Member) → ((member : Member) → Among member members → Among member g.members) → named node user members ≡ fragments w.slots user members
  same_from [] inside = refl
  same_from (member ∷ members) inside =
      let first = one_member member (inside member (inl refl)) in
      let rest = same_from members (λ x m. inside x (inr m)) in
      λ i. if first i then member.node ∷ rest i else rest i

  pub names_fragments : NamesFragments w.slots g user manager
  names_fragments = record { node = node; disk = disk; here = here; same = same_from g.members (λ x m. m) }

pub named_are : (w : Cluster) → Sound w → (g : Membership) → IsEpochSettled w.slots g → (member : Member) → Among member g.members → (user : List ℕ) (manager : ℕ) → manager_of g user ≡ Some manager
    → NamesFragments w.slots g user manager
named_are w s g settled member m user manager managed =
    let first = settled member m in
    let known : Known w.slots w.flying g = inl (record { n = member.node; node = first.node; disk = first.disk; here = first.here; is = first.installed }) in
    let managing = s.one.managers g known user manager managed in
    let q = settled managing.member managing.inside in
    names_fragments w s g settled user manager managed q.node q.disk (subst (λ n. slot_at w.slots n ≡ Some (slot_up q.node q.disk)) managing.is q.here) q.installed
