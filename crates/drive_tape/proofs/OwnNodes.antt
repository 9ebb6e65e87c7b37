-- Sessions stay at their nodes, and each call began at the node of its session.
use Rattle.std.proofs.Common.{◌≡◌, ◌≢◌, ◌+◌, ◌-◌, ◌++◌, ◌∷◌, ⊎_elim, ℕ, zero, suc, List, [], Option, Some, None, refl, sym, ap, ◌∙◌, subst, arith}
use Rattle.std.specs.Prelude.{slice_get, slice_set}
use Rattle.object_model.specs.Lists.{Among}
use Rattle.mail_model.specs.Plan.{Plan}
use Rattle.mail_model.specs.Transcript.{Entry}
use Rattle.session_model.specs.Sessions.{Session, session_at}
use Rattle.session_model.specs.Acts.{Act, Acted, ActedAll, opened_session}
use Rattle.session_model.specs.Acts.Act.{Opens, Does, Faults, StillWaits, Leaves, Makes, Abandons}
use Rattle.session_model.specs.Turns as turns
use Rattle.session_model.specs.Turns.{Turn, IsAtNode}
use Rattle.cluster_world.specs.Outcomes.{Outcome}
use Rattle.cluster_world.specs.Outcomes.Outcome.{Began, Refused, Fell, Broke, Answers, StillPending, Unanswered, GaveUp, Abandoned, KeptUp, Left, Moved, Settling, Mapped}
use Rattle.drive_tape.specs.Points.{IsAtOwnNode, AreAtOwnNodes}
use Rattle.drive_tape.proofs.Talks.{at_place, some_same, set_here, within_get, did_node}
use Rattle.drive_tape.proofs.Places.{same_or_not, get_apart}

-- each session is where it was
abbrev pub NodesStay : List Session → List Session → Type 0
NodesStay old new = (k node : ℕ) → IsAtNode node (session_at old k) → IsAtNode node (session_at new k)

-- the node of the session at a place
pub own_node : (sessions : List Session) (place node : ℕ) (plain : Session) → slice_get sessions place ≡ Some plain → plain.node ≡ node → IsAtNode node (session_at sessions (place + 1))
own_node sessions place node plain here own = subst (IsAtNode node) (sym (at_place sessions (place + 1) place refl ∙ here)) own

stay_by : (old new : List Session) → ((i : ℕ) (s : Session) → slice_get old i ≡ Some s → (t : Session) × (slice_get new i ≡ Some t) × (t.node ≡ s.node)) → NodesStay old new
stay_by old new each zero node at = absurd at
stay_by old new each (suc i) node at = by (slice_get old i) refl (subst (IsAtNode node) (at_place old (suc i) i (omega arith)) at)
  where
    by : (o : Option Session) → slice_get old i ≡ o → IsAtNode node o → IsAtNode node (session_at new (suc i))
    by None is own = absurd own
    by (Some s) is own = let e = each i s is in subst (IsAtNode node) (sym (at_place new (suc i) i (omega arith) ∙ e.1)) (e.2 ∙ own)

get_front : (xs ys : List Session) (i : ℕ) (s : Session) → slice_get xs i ≡ Some s → slice_get (xs ++ ys) i ≡ Some s
get_front [] ys i s is = absurd (let never : ◌≡◌ {A = Option Session} None (Some s) = is in cc)
get_front (x ∷ xs) ys zero s is = is
get_front (x ∷ xs) ys (suc i) s is = get_front xs ys i s is

pub set_stays : (sessions : List Session) (place : ℕ) (plain after : Session) → slice_get sessions place ≡ Some plain → after.node ≡ plain.node → NodesStay sessions (slice_set sessions place after)
set_stays sessions place plain after here same = stay_by sessions (slice_set sessions place after) (λ i s is. ⊎_elim
    (λ (at : i ≡ place). (
      after,
      subst (λ (j : ℕ). slice_get (slice_set sessions place after) j ≡ Some after) (sym at) (set_here sessions place after (within_get sessions place plain here)),
      same ∙ ap (λ (x : Session). x.node) (some_same plain s (sym here ∙ subst (λ (j : ℕ). slice_get sessions j ≡ Some s) at is)),
    ))
    (λ (other : i ≢ place). (s, get_apart sessions place i after other ∙ is, refl))
    (same_or_not i place))

-- no act moves a session
pub acted_stays : (plan : Plan) (old new : List Session) (act : Act) (entries : List Entry) → Acted plan old act entries new → NodesStay old new
acted_stays plan old new (Opens protocol node greeting) entries acted =
    subst (NodesStay old) (sym acted.1) (stay_by old (old ++ opened_session protocol node ∷ []) (λ i s is. (s, get_front old (opened_session protocol node ∷ []) i s is, refl)))
acted_stays plan old new (Does zero deed) entries acted = absurd (let never : ◌≡◌ {A = Option Session} None (Some acted.0) = acted.3 in cc)
acted_stays plan old new (Does (suc i) deed) entries acted =
    let less : suc i - 1 ≡ i = omega arith in
    subst (NodesStay old) (sym (acted.6 ∙ ap (λ (j : ℕ). slice_set old j acted.1) less))
    (set_stays old i acted.0 acted.1 (sym (at_place old (suc i) i (omega arith)) ∙ acted.3) (did_node plan acted.0 deed acted.2 acted.1 acted.4))
acted_stays plan old new (Faults node) entries acted = subst (NodesStay old) (sym acted.1) (λ k at own. own)
acted_stays plan old new (StillWaits k) entries acted = subst (NodesStay old) (sym acted.1) (λ k at own. own)
acted_stays plan old new (Leaves k user) entries acted = subst (NodesStay old) (sym acted.1) (λ k at own. own)
acted_stays plan old new (Makes order event) entries acted = subst (NodesStay old) (sym acted.1) (λ k at own. own)
acted_stays plan old new (Abandons k) entries acted = subst (NodesStay old) (sym acted.1) (λ k at own. own)

pub all_stay : (plan : Plan) (old new : List Session) (acts : List Act) (outputs : List (List Entry)) → ActedAll plan old acts outputs new → NodesStay old new
all_stay plan old new [] [] is = subst (NodesStay old) (sym is) (λ k at own. own)
all_stay plan old new (act ∷ acts) (entries ∷ outputs) (mid, acted, more) = λ k at own. all_stay plan mid new acts outputs more k at (acted_stays plan old mid act entries acted k at own)
all_stay plan old new [] (entries ∷ outputs) goes = absurd goes
all_stay plan old new (act ∷ acts) [] goes = absurd goes

pub goes_stay : (plan : Plan) (turn last : Turn) (old new : List Session) (acts : List Act) (outputs : List (List Entry)) → turns.ActsGo plan turn old acts outputs last new → NodesStay old new
goes_stay plan turn last old new [] [] (same, is) = subst (NodesStay old) (sym is) (λ k at own. own)
goes_stay plan turn last old new (act ∷ acts) (entries ∷ outputs) (next, mid, is, acted, goes) =
    λ k at own. goes_stay plan next last mid new acts outputs goes k at (acted_stays plan old mid act entries acted k at own)
goes_stay plan turn last old new [] (entries ∷ outputs) goes = absurd goes
goes_stay plan turn last old new (act ∷ acts) [] goes = absurd goes

-- what was so of the calls stays so
own_stays : (old new : List Session) → NodesStay old new → (outcome : Outcome) → IsAtOwnNode old outcome → IsAtOwnNode new outcome
own_stays old new stay (Began k node asked ticket) own = stay k node own
own_stays old new stay (Fell k node asked) own = stay k node own
own_stays old new stay (Broke k node asked) own = stay k node own
own_stays old new stay (Refused k node asked) own = stay k node own
own_stays old new stay (Answers k asked ticket given) own = tt
own_stays old new stay (StillPending k ticket) own = tt
own_stays old new stay (Unanswered k asked ticket) own = tt
own_stays old new stay (GaveUp k asked ticket) own = tt
own_stays old new stay (Abandoned k asked ticket) own = tt
own_stays old new stay (KeptUp k ticket why) own = tt
own_stays old new stay (Left k node user) own = stay k node own
own_stays old new stay (Moved order steps sum up) own = tt
own_stays old new stay (Settling result steps) own = tt
own_stays old new stay (Mapped user told) own = tt

-- and of more of them
pub at_nodes_more : (old new : List Session) → NodesStay old new → (outcomes more : List Outcome) → AreAtOwnNodes old outcomes → AreAtOwnNodes new more → AreAtOwnNodes new (outcomes ++ more)
at_nodes_more old new stay [] more are later = later
at_nodes_more old new stay (outcome ∷ outcomes) more are later = (own_stays old new stay outcome are.0, at_nodes_more old new stay outcomes more are.1 later)

-- and of each of them
pub own_among : (sessions : List Session) (outcomes : List Outcome) (outcome : Outcome) → AreAtOwnNodes sessions outcomes → Among outcome outcomes → IsAtOwnNode sessions outcome
own_among sessions [] outcome all among = absurd among
own_among sessions (first ∷ outcomes) outcome all among = ⊎_elim (λ (same : first ≡ outcome). subst (IsAtOwnNode sessions) same all.0) (λ (rest : Among outcome outcomes). own_among sessions outcomes outcome all.1 rest) among
