-- Acts that form no epoch, and which members acts show.
use Rattle.std.proofs.Common.{◌≡◌, ℕ, Bool, true, false, ◌&&◌, List, [], ◌∷◌, ◌++◌, flat_map, All, sym, ap, ◌∙◌, subst}
use Rattle.std.specs.List.{list_all}
use Rattle.std.proofs.lemmas.Bool.{and_parts}
use Rattle.std.proofs.lemmas.List.Elements.{All-nil, All-cons, All-head, All-tail}
use Rattle.mail_model.specs.Identity.{EpochId}
use Rattle.mail_model.specs.Plan.{Plan}
use Rattle.mail_model.specs.Tape.{ClusterOrder}
use Rattle.mail_model.specs.Tape.ClusterOrder.{Crash, Start, Lose, Post, Again, Drop, Flow, Push, Widen, Group, Conclude, Regroup, Report, Settle, Maps, Tick, Sum}
use Rattle.session_model.specs.Events.{ClusterEvent}
use Rattle.session_model.specs.Events.ClusterEvent.{HasFormed}
use Rattle.session_model.specs.Acts.{Act}
use Rattle.session_model.specs.Acts.Act.{Opens, Does, Faults, StillWaits, Leaves, Makes, Abandons}
use Rattle.fresh_sessions.specs.Acts.{FormsNone, ShowsMembers, nodes_to}
use Rattle.fresh_sessions.specs.Acts.ShowsMembers.{AtOpening, ByRegroup}
use Rattle.worked_settles.specs.Members.{MembersAreOne}
use Rattle.std.proofs.lemmas.List.Folds.{list_all-append}
use Rattle.std.proofs.lemmas.List.Concat.{flat_map-append}

-- whether an order forms no epoch
abbrev pub keeps_epoch : ClusterOrder → Bool
keeps_epoch (Conclude node) = false
keeps_epoch (Regroup node) = false
keeps_epoch order = true

abbrev pub is_quiet : Act → Bool
is_quiet (Makes order event) = keeps_epoch order
is_quiet act = true

quiet_order : (order : ClusterOrder) (event : ClusterEvent) → keeps_epoch order ≡ true → FormsNone (Makes order event)
quiet_order (Crash node) event is = tt
quiet_order (Start node) event is = tt
quiet_order (Lose node) event is = tt
quiet_order (Post letter) event is = tt
quiet_order (Again letter) event is = tt
quiet_order (Drop letter) event is = tt
quiet_order Flow event is = tt
quiet_order (Push node) event is = tt
quiet_order (Widen at user id to) event is = tt
quiet_order (Group node) event is = tt
quiet_order (Conclude node) event is = cc
quiet_order (Regroup node) event is = cc
quiet_order (Report node) event is = tt
quiet_order Settle event is = tt
quiet_order (Maps user) event is = tt
quiet_order (Tick seconds) event is = tt
quiet_order Sum event is = tt

quiet : (act : Act) → is_quiet act ≡ true → FormsNone act
quiet (Opens protocol node greeting) is = tt
quiet (Does k deed) is = tt
quiet (Faults node) is = tt
quiet (StillWaits k) is = tt
quiet (Leaves k user) is = tt
quiet (Makes order event) is = quiet_order order event is
quiet (Abandons k) is = tt

pub none_formed : (acts : List Act) → list_all is_quiet acts ≡ true → All FormsNone acts
none_formed [] is = All-nil FormsNone
none_formed (act ∷ acts) is =
    let parts = and_parts (is_quiet act) (list_all is_quiet acts) is in
    All-cons FormsNone act acts (quiet act parts.0) (none_formed acts parts.1)

-- none of them is a regroup
no_regroup : (front back : List Act) (node : ℕ) (event : ClusterEvent) → All FormsNone (front ++ Makes (Regroup node) event ∷ back) → ⊥
no_regroup [] back node event none = All-head FormsNone (Makes (Regroup node) event) back none
no_regroup (act ∷ front) back node event none = no_regroup front back node event (All-tail FormsNone act (front ++ Makes (Regroup node) event ∷ back) none)

-- where no epoch was formed all nodes are members
pub opening_members : (plan : Plan) (acts : List Act) (members : List ℕ) → All FormsNone acts → ShowsMembers plan acts members → members ≡ nodes_to plan.nodes
opening_members plan acts members none (AtOpening are formed) = are
opening_members plan acts members none (ByRegroup before behind node epoch are formed) = absurd (no_regroup before behind node (HasFormed epoch members) (subst (All FormsNone) are none))

-- the members that an event tells
abbrev told_members : Act → List ℕ
told_members (Makes order (HasFormed epoch members)) = members
told_members act = []

-- the last regroup is one
last_regroup : (front front_too back back_too : List Act) (node node_too : ℕ) (epoch epoch_too : EpochId) (members members_too : List ℕ)
    → front ++ Makes (Regroup node) (HasFormed epoch members) ∷ back ≡ front_too ++ Makes (Regroup node_too) (HasFormed epoch_too members_too) ∷ back_too
    → All FormsNone back → All FormsNone back_too → members ≡ members_too
last_regroup [] [] back back_too node node_too epoch epoch_too members members_too same none none_too =
    let first : Makes (Regroup node) (HasFormed epoch members) ≡ Makes (Regroup node_too) (HasFormed epoch_too members_too) = cc same in ap told_members first
last_regroup [] (act ∷ front_too) back back_too node node_too epoch epoch_too members members_too same none none_too =
    let rest : back ≡ front_too ++ Makes (Regroup node_too) (HasFormed epoch_too members_too) ∷ back_too = cc same in
    absurd (no_regroup front_too back_too node_too (HasFormed epoch_too members_too) (subst (All FormsNone) rest none))
last_regroup (act ∷ front) [] back back_too node node_too epoch epoch_too members members_too same none none_too =
    let rest : front ++ Makes (Regroup node) (HasFormed epoch members) ∷ back ≡ back_too = cc same in
    absurd (no_regroup front back node (HasFormed epoch members) (subst (All FormsNone) (sym rest) none_too))
last_regroup (act ∷ front) (other ∷ front_too) back back_too node node_too epoch epoch_too members members_too same none none_too =
    last_regroup front front_too back back_too node node_too epoch epoch_too members members_too (cc same) none none_too

pub members_are_one : MembersAreOne
members_are_one plan acts members others (AtOpening are none) shown = are ∙ sym (opening_members plan acts others none shown)
members_are_one plan acts members others (ByRegroup front back node epoch are none) (AtOpening are_too none_too) =
    absurd (no_regroup front back node (HasFormed epoch members) (subst (All FormsNone) are none_too))
members_are_one plan acts members others (ByRegroup front back node epoch are none) (ByRegroup front_too back_too node_too epoch_too are_too none_too) =
    last_regroup front front_too back back_too node node_too epoch epoch_too members others (sym are ∙ are_too) none none_too

-- where acts form none, those before a line form none
pub quiet_front : (acts front since : List (List Act)) (line : List Act) → acts ≡ front ++ line ∷ since → list_all is_quiet (flat_map (λ a. a) acts) ≡ true → All FormsNone (flat_map (λ a. a) front)
quiet_front acts front since line split is =
    let both : (list_all is_quiet (flat_map (λ a. a) front) && list_all is_quiet (flat_map (λ a. a) (line ∷ since))) ≡ true =
    sym (list_all-append is_quiet (flat_map (λ a. a) front) (flat_map (λ a. a) (line ∷ since)))
    ∙ ap (list_all is_quiet) (sym (flat_map-append (λ a. a) front (line ∷ since))) ∙ ap (λ (l : List (List Act)). list_all is_quiet (flat_map (λ a. a) l)) (sym split) ∙ is in
    none_formed (flat_map (λ a. a) front) (and_parts (list_all is_quiet (flat_map (λ a. a) front)) (list_all is_quiet (flat_map (λ a. a) (line ∷ since))) both).0
