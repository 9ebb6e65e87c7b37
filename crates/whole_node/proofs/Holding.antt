-- A node that knows which messages are here knows of whom it holds one.
use Rattle.std.proofs.Common.{◌≡◌, ℕ, Bool, true, false, not, ◌||◌, List, [], ◌∷◌, Option, Some, None, refl, sym, ap, ◌∙◌, subst, true≢false}
use Rattle.std.specs.Ordering.{nat_cmp, eq_by_cmp, ordering_then}
use Rattle.std.specs.Cmp.{tied_itself, Equal-is}
use Rattle.std.specs.Cmp.Lexicographic.{nat_list_cmp_total, slice_cmp}
use Rattle.std.specs.declared.cmp.Ordering.TheVariants.{Equal}
use Rattle.std.proofs.lemmas.Map.Lookups.{exact_pairs, exact_unsigned, exact_bytes}
use Rattle.mail_model.specs.Identity.{Id, State}
use Rattle.mail_model.specs.Identity.Key.{Message}
use Rattle.mail_model.specs.Record.{Record}
use Rattle.mail_model.specs.Listing.{is_here}
use Rattle.mail_base.specs.Orders.{id_cmp, id_total}
use Rattle.object_model.specs.Said.{said}
use Rattle.cluster_model.specs.Reads.{is_here_held}
use Rattle.mailbox_fragment.specs.Here.{ids_of, is_here_in, is_none, has_id}
use Rattle.whole_model.specs.Whole.{holds_of}
use Rattle.whole_world.specs.Settled.{HasHere}
use Rattle.whole_world.proofs.Settling.{holds_here}
use Rattle.node_maps.specs.Nodes.{holds_in}
use Rattle.node_maps.specs.declared.maps.NodeMaps.{NodeMaps}
use Rattle.whole_node.specs.Nodes.{KnowsHere}

-- ids and users that tie are the same
pub same_id : (a b : Id) → eq_by_cmp id_cmp a b ≡ true → a ≡ b
same_id a b e = ap (λ (p : ℕ × (ℕ × ℕ)). record { node = p.0; boot = p.1.0; seq = p.1.1 })
    (exact_pairs nat_cmp (λ (x y : ℕ × ℕ). ordering_then (nat_cmp x.0 y.0) (nat_cmp x.1 y.1)) exact_unsigned (exact_pairs nat_cmp nat_cmp exact_unsigned exact_unsigned)
    (a.node, (a.boot, a.seq)) (b.node, (b.boot, b.seq)) ((Equal-is (id_cmp a b)).0 e))

pub own_id : (a : Id) → eq_by_cmp id_cmp a a ≡ true
own_id a = (Equal-is (id_cmp a a)).1 (tied_itself id_total a)

pub same_user : (a b : List ℕ) → eq_by_cmp (slice_cmp nat_cmp) a b ≡ true → a ≡ b
same_user a b e = exact_bytes a b ((Equal-is (slice_cmp nat_cmp a b)).0 e)

pub own_user : (a : List ℕ) → eq_by_cmp (slice_cmp nat_cmp) a a ≡ true
own_user a = (Equal-is (slice_cmp nat_cmp a a)).1 (tied_itself nat_list_cmp_total a)

-- a copy that is here
copy_here : (user : List ℕ) (id : Id) (records : List Record) (held : Option State) → said (Message user id) records ≡ held → is_here_held held ≡ true → HasHere records user
copy_here user id records None says here = absurd (true≢false (sym here))
copy_here user id records (Some state) says here = record { id = id; state = state; says = says; here = here }

pub holds_same : (records : List Record) (maps : NodeMaps) → KnowsHere records maps → (user : List ℕ) → holds_in maps user ≡ holds_of records user
holds_same records maps knows user = by (ids_of maps.fragments user) (holds_of records user) refl refl
  where
    some : (ids : List Id) → ids_of maps.fragments user ≡ ids → holds_of records user ≡ true → not (is_none ids) ≡ true
    some [] e h =
        let has = (holds_here records user).0 h in
        let here : is_here_in maps.fragments user has.id ≡ true = knows user has.id ∙ ap is_here_held has.says ∙ has.here in
        absurd (true≢false (sym here ∙ ap (λ (ids : List Id). has_id ids has.id) e))
    some (id ∷ ids) e h = refl

    none : (ids : List Id) → ids_of maps.fragments user ≡ ids → holds_of records user ≡ false → not (is_none ids) ≡ false
    none [] e h = refl
    none (id ∷ ids) e h =
        let first : has_id (id ∷ ids) id ≡ true = ap (λ (b : Bool). b || has_id ids id) (own_id id) in
        let here : is_here_held (said (Message user id) records) ≡ true = sym (knows user id) ∙ ap (λ (l : List Id). has_id l id) e ∙ first in
        absurd (true≢false (sym ((holds_here records user).1 (copy_here user id records (said (Message user id) records) refl here)) ∙ h))

    by : (ids : List Id) (b : Bool) → ids_of maps.fragments user ≡ ids → holds_of records user ≡ b → not (is_none (ids_of maps.fragments user)) ≡ holds_of records user
    by ids true e h = ap (λ (l : List Id). not (is_none l)) e ∙ some ids e h ∙ sym h
    by ids false e h = ap (λ (l : List Id). not (is_none l)) e ∙ none ids e h ∙ sym h
