-- The members of an epoch that was formed, as the nodes that were up.
use Rattle.std.proofs.Common.{◌≡◌, ◌≢◌, ⊎_elim, ℕ, zero, suc, nat_eq, nat_le, ◌≤◌, ◌<◌, Bool, true, false, true≢false, List, [], ◌∷◌, ◌++◌, length, Option, Some, None, refl, sym, ap, ap₂, ◌∙◌, subst, arith, append-nil}
use Rattle.std.specs.Prelude.{slice_get, if◌then◌else◌}
use Rattle.std.proofs.lemmas.Bool.{eqb-true}
use Rattle.std.proofs.lemmas.Bool.Decides.{nat_tests}
use Rattle.mail_model.specs.Identity.{EpochId}
use Rattle.mail_model.specs.Plan.{Plan}
use Rattle.object_model.specs.Letters.{Member}
use Rattle.object_model.specs.Sets.{has, with_node, one_node, nodes_in}
use Rattle.object_model.proofs.SetLaws.{has_left, has_right, has_none, has_with, one_has}
use Rattle.session_model.specs.Events.{NodeLife}
use Rattle.session_model.specs.Events.NodeLife.{Up, Down, Lost}
use Rattle.session_model.specs.Run.{is_no_node}
use Rattle.cluster_model.specs.Cluster.{set_of_members}
use Rattle.maps_model.specs.Cluster.{member_of}
use Rattle.cluster_world.specs.Lives.{is_up_life, nodes_up, of_node}
use Rattle.cluster_world.specs.Regroups.{HasFormed}
use Rattle.cluster_world.specs.Worlds.{state_of, plan_of, lives_of, life_of, seen_life}
use Rattle.cluster_world.specs.declared.life.Life.{Life}
use Rattle.cluster_world.specs.declared.world.World.{World}
use Rattle.drive_tape.proofs.Stepping.{is_a_node}

-- nodes of a plan whose lives agree are up alike
pub up_alike : (plan : Plan) (a b : ℕ → NodeLife) → ((n : ℕ) → is_no_node plan n ≡ false → a n ≡ b n) → nodes_up a plan.nodes ≡ nodes_up b plan.nodes
up_alike plan a b same = to plan.nodes (omega arith)
  where
    to : (k : ℕ) → k ≤ plan.nodes → nodes_up a k ≡ nodes_up b k
    to zero within = refl
    to (suc k) within = ap₂ (λ (l : List ℕ) (life : NodeLife). l ++ (if is_up_life life then suc k ∷ [] else [])) (to k (omega (arith, within))) (same (suc k) (is_a_node plan (suc k) (omega arith) within))

-- the set of all members has those that the list names
itself : (mask n : ℕ) → 1 ≤ n → n ≤ 64 → has (with_node mask n) n ≡ true
itself mask zero above within = absurd (omega (arith, above))
itself mask (suc k) above within = has_right mask (one_node (suc k)) (suc k) (one_has k (omega (arith, within)))

named_has : (members : List Member) (n : ℕ) → 1 ≤ n → n ≤ 64 → (member : Member) → member_of members n ≡ Some member → has (set_of_members members) n ≡ true
named_has [] n above within member e = absurd (let never : None ≡ Some member = e in cc)
named_has (x ∷ xs) n above within member e = by (λ h. named_has xs n above within member h) (nat_eq x.node n) refl e
  where
    by : (member_of xs n ≡ Some member → has (set_of_members xs) n ≡ true) → (b : Bool) → nat_eq x.node n ≡ b → (if b then Some x else member_of xs n) ≡ Some member → has (with_node (set_of_members xs) x.node) n ≡ true
    by rest true same f = subst (λ (k : ℕ). has (with_node (set_of_members xs) k) n ≡ true) (sym (eqb-true x.node n same)) (itself (set_of_members xs) n above within)
    by rest false other f = has_left (set_of_members xs) (one_node x.node) n (rest f)

has_named : (members : List Member) (n : ℕ) → has (set_of_members members) n ≡ true → (member : Member) × (member_of members n ≡ Some member)
has_named [] n h = absurd (true≢false (sym h ∙ has_none n))
has_named (x ∷ xs) n h = by (λ k. has_named xs n k) (nat_eq x.node n) refl
  where
    by : (has (set_of_members xs) n ≡ true → (member : Member) × (member_of xs n ≡ Some member)) → (b : Bool) → nat_eq x.node n ≡ b → (member : Member) × ((if b then Some x else member_of xs n) ≡ Some member)
    by rest true same = (x, refl)
    by rest false other = let apart : x.node ≢ n = grind (arith, nat_tests, other) in ⊎_elim
        (λ (old : has (set_of_members xs) n ≡ true). rest old)
        (λ (is : n ≡ x.node). absurd (apart (sym is)))
        (has_with (set_of_members xs) x.node n h)

-- a set of the nodes that are up
in_up : (mask : ℕ) (lives : ℕ → NodeLife) (k : ℕ) → ((n : ℕ) → 1 ≤ n → n ≤ k → has mask n ≡ is_up_life (lives n)) → nodes_in mask k ≡ nodes_up lives k
in_up mask lives zero all = refl
in_up mask lives (suc k) all =
    ap₂ (λ (l : List ℕ) (b : Bool). l ++ (if b then suc k ∷ [] else [])) (in_up mask lives k (λ n above within. all n above (omega (arith, within)))) (all (suc k) (omega arith) (omega arith))

-- past the nodes of a plan none is up
past : (lives : ℕ → NodeLife) (nodes k : ℕ) → nodes ≤ k → ((n : ℕ) → nodes < n → is_up_life (lives n) ≡ false) → nodes_up lives k ≡ nodes_up lives nodes
past lives nodes zero within none = let same : 0 ≡ nodes = omega (arith, within) in ap (nodes_up lives) same
past lives nodes (suc k) within none = by (λ less. past lives nodes k less none) (nat_le nodes k) refl
  where
    by : (nodes ≤ k → nodes_up lives k ≡ nodes_up lives nodes) → (b : Bool) → nat_le nodes k ≡ b → nodes_up lives (suc k) ≡ nodes_up lives nodes
    by rest true e =
        let less : nodes ≤ k = grind (arith, nat_tests, e) in
        ap (λ (b : Bool). nodes_up lives k ++ (if b then suc k ∷ [] else [])) (none (suc k) (omega (arith, less))) ∙ append-nil (nodes_up lives k) ∙ rest less
    by rest false e =
        let more : k < nodes = grind (arith, nat_tests, e) in
        let same : suc k ≡ nodes = omega (arith, within, more) in ap (nodes_up lives) same

none_past : (lives : List Life) (k : ℕ) → length lives ≤ k → slice_get lives k ≡ None
none_past [] k within = refl
none_past (x ∷ xs) zero within = absurd (omega (arith, within))
none_past (x ∷ xs) (suc k) within = none_past xs k (omega (arith, within))

lost_past : (lives : List Life) (n : ℕ) → length lives < n → is_up_life (seen_life (of_node lives n)) ≡ false
lost_past lives zero within = refl
lost_past lives (suc k) within = ap (λ (o : Option Life). is_up_life (seen_life o)) (none_past lives k (omega (arith, within)))

up_by : (life : NodeLife) → is_up_life life ≡ true → (boot : ℕ) × (life ≡ Up boot)
up_by (Up boot) e = (boot, refl)
up_by Down e = absurd (true≢false (sym e))
up_by Lost e = absurd (true≢false (sym e))

-- the members of an epoch that was formed
pub members_up : {D : Type 0} (epoch : EpochId) (members : ℕ) (old new : World D) → HasFormed epoch members (state_of old) (state_of new) → nodes_in members 16 ≡ nodes_up (life_of old) (plan_of old).nodes
members_up epoch members old new f =
    in_up members (life_of old) 16 (λ n above within. is_so n above (omega (arith, within)))
    ∙ past (life_of old) (plan_of old).nodes 16 old.nodes.few (λ n over. lost_past (lives_of old) n (omega (arith, over, old.nodes.all)))
  where
    is_so : (n : ℕ) → 1 ≤ n → n ≤ 64 → has members n ≡ is_up_life (life_of old n)
    is_so n above within = by (has members n) (is_up_life (life_of old n)) refl refl
      where
        by : (a b : Bool) → has members n ≡ a → is_up_life (life_of old n) ≡ b → has members n ≡ is_up_life (life_of old n)
        by true true e g = e ∙ sym g
        by false false e g = e ∙ sym g
        by true false e g =
            let named = has_named f.membership.members n (sym (ap (λ (mask : ℕ). has mask n) f.members_are) ∙ e) in
            absurd (true≢false (sym (ap is_up_life (f.only_up n named.0.boot (record { member = named.0; is = named.1; same = refl }))) ∙ g))
        by false true e g =
            let up = up_by (life_of old n) g in
            let named = (f.all_up n up.0 up.1).4 in
            absurd (true≢false (sym (ap (λ (mask : ℕ). has mask n) f.members_are ∙ named_has f.membership.members n above within named.member named.is) ∙ e))
