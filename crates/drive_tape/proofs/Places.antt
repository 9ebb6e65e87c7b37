-- What is so of each session stays so as one of them changes, and as an act is made.
use Rattle.std.proofs.Common.{◌≡◌, ◌≢◌, ◌⊎◌, ◌++◌, ◌∷◌, inl, inr, ⊎_elim, ℕ, zero, suc, List, [], Option, Some, None, refl, sym, ap, ◌∙◌, subst}
use Rattle.std.specs.Prelude.{slice_get, slice_set}
use Rattle.std.proofs.lemmas.List.{append-nil}
use Rattle.std.proofs.lemmas.Grind.{flat_map-append}
use Rattle.mail_model.specs.Plan.{Plan}
use Rattle.session_model.specs.Calls as calls
use Rattle.session_model.specs.Talk.{TalkState, Standing}
use Rattle.session_model.specs.Talk.Standing.{Hearing, Waiting, EndedByQuit, EndedDown, EndedClosed}
use Rattle.session_model.specs.Sessions.{Session}
use Rattle.session_model.specs.Acts.{Act}
use Rattle.session_model.specs.Acts.Act.{Does, StillWaits, Leaves, Abandons}
use Rattle.session_model.specs.Events.{NodeLife}
use Rattle.session_model.specs.Events.NodeLife.{Up}
use Rattle.session_model.specs.Lives.{life_by, life_after, failed_by, failed_in}
use Rattle.node_store.specs.Disks.{View}
use Rattle.cluster_world.specs.Outcomes.{Awaited}
use Rattle.cluster_world.specs.declared.world.World.{World}
use Rattle.drive_tape.specs.declared.open_call.OpenCall.{OpenCall}
use Rattle.drive_tape.specs.Talks.{EachSession, TicketFits, StandsOnNode, nodes_of}
use Rattle.drive_tape.specs.Worlds.{AreLives, AreSameLives, HasCauses}
use Rattle.drive_tape.proofs.Stepping.{life_more}
use Rattle.drive_tape.proofs.Talks.{some_same}

pub same_or_not : (i n : ℕ) → (i ≡ n) ⊎ (i ≢ n)
same_or_not zero zero = inl refl
same_or_not zero (suc n) = inr (λ same. absurd (let never : zero ≡ suc n = same in cc))
same_or_not (suc i) zero = inr (λ same. absurd (let never : suc i ≡ zero = same in cc))
same_or_not (suc i) (suc n) = ⊎_elim (λ (same : i ≡ n). inl (ap suc same)) (λ (other : i ≢ n). inr (λ same. other (let both : suc i ≡ suc n = same in cc))) (same_or_not i n)

-- another place is as it was
pub get_apart : {X : Type 0} (xs : List X) (at i : ℕ) (x : X) → i ≢ at → slice_get (slice_set xs at x) i ≡ slice_get xs i
get_apart [] at i x other = refl
get_apart (y ∷ xs) zero zero x other = absurd (other refl)
get_apart (y ∷ xs) zero (suc i) x other = refl
get_apart (y ∷ xs) (suc at) zero x other = refl
get_apart (y ∷ xs) (suc at) (suc i) x other = get_apart xs at i x (λ same. other (ap suc same))

-- what is at a place that was set
pub set_at : {X : Type 0} (xs : List X) (at : ℕ) (x y : X) → slice_get (slice_set xs at x) at ≡ Some y → x ≡ y
set_at [] at x y is = absurd (let never : ◌≡◌ {A = Option _} None (Some y) = is in cc)
set_at (z ∷ xs) zero x y is = some_same x y is
set_at (z ∷ xs) (suc at) x y is = set_at xs at x y is

-- the others are as they were, and so is this one
pub each_set : (so : ℕ → Session → Type 0) (sessions : List Session) (place : ℕ) (after : Session) → ((i : ℕ) (s : Session) → slice_get sessions i ≡ Some s → i ≢ place → so i s) → so place after
    → EachSession so (slice_set sessions place after)
each_set so sessions place after others own i s is = ⊎_elim
    (λ (same : i ≡ place). subst (λ (j : ℕ). so j s) (sym same) (subst (so place) (set_at sessions place after s (subst (λ (j : ℕ). slice_get (slice_set sessions place after) j ≡ Some s) same is)) own))
    (λ (other : i ≢ place). others i s (sym (get_apart sessions place i after other) ∙ is) other)
    (same_or_not i place)

pub nodes_set : (sessions : List Session) (place : ℕ) (plain after : Session) → slice_get sessions place ≡ Some plain → after.node ≡ plain.node → nodes_of (slice_set sessions place after) ≡ nodes_of sessions
nodes_set [] place plain after here same = refl
nodes_set (s ∷ ss) zero plain after here same = ap (λ (n : ℕ). n ∷ nodes_of ss) (same ∙ ap (λ (x : Session). x.node) (sym (some_same s plain here)))
nodes_set (s ∷ ss) (suc place) plain after here same = ap (λ (l : List ℕ). s.node ∷ l) (nodes_set ss place plain after here same)

-- the node at a place
pub node_at : (sessions : List Session) (place : ℕ) (plain : Session) → slice_get sessions place ≡ Some plain → slice_get (nodes_of sessions) place ≡ Some plain.node
node_at [] place plain here = absurd (let never : ◌≡◌ {A = Option Session} None (Some plain) = here in cc)
node_at (s ∷ ss) zero plain here = ap (λ (x : Session). Some x.node) (some_same s plain here)
node_at (s ∷ ss) (suc place) plain here = node_at ss place plain here

abbrev pub NotWaiting : Standing → Type 0
NotWaiting standing = (state : TalkState) (call : calls.Call) → standing ≢ Waiting state call

-- a session that does not wait has no ticket
pub ticket_none : (kept : Option (Option OpenCall)) (s : Session) (k : ℕ) (awaited : List Awaited) (standing : Standing) → NotWaiting standing → TicketFits kept s k awaited standing → kept ≡ Some None
ticket_none kept s k awaited (Hearing state) not_so fits = fits
ticket_none kept s k awaited (Waiting state call) not_so fits = absurd (not_so state call refl)
ticket_none kept s k awaited EndedByQuit not_so fits = fits
ticket_none kept s k awaited EndedDown not_so fits = fits
ticket_none kept s k awaited EndedClosed not_so fits = fits

pub none_fits : (kept : Option (Option OpenCall)) (s : Session) (k : ℕ) (awaited : List Awaited) (standing : Standing) → NotWaiting standing → kept ≡ Some None → TicketFits kept s k awaited standing
none_fits kept s k awaited (Hearing state) not_so none = none
none_fits kept s k awaited (Waiting state call) not_so none = absurd (not_so state call refl)
none_fits kept s k awaited EndedByQuit not_so none = none
none_fits kept s k awaited EndedDown not_so none = none
none_fits kept s k awaited EndedClosed not_so none = none

-- an act in which no node changes
pub record IsPlainAct (act : Act) : Type 0 where
  pub lives : (n : ℕ) (life : NodeLife) → life_by act n life ≡ life
  pub failed : failed_by act ≡ []

pub does_plain : (k : ℕ) (deed : _) → IsPlainAct (Does k deed)
does_plain k deed = record { lives = λ n life. refl; failed = refl }

pub leaves_plain : (k : ℕ) (user : List ℕ) → IsPlainAct (Leaves k user)
leaves_plain k user = record { lives = λ n life. refl; failed = refl }

pub waits_plain : (k : ℕ) → IsPlainAct (StillWaits k)
waits_plain k = record { lives = λ n life. refl; failed = refl }

pub abandons_plain : (k : ℕ) → IsPlainAct (Abandons k)
abandons_plain k = record { lives = λ n life. refl; failed = refl }

-- a session that stands on its node still does
pub up_on : (plan : Plan) (been : List Act) (act : Act) (s : Session) → IsPlainAct act → StandsOnNode plan been s → StandsOnNode plan (been ++ act ∷ []) s
up_on plan been act s one stands on =
    let up = stands on in record { there = up.there; boot = up.boot; up = life_more been act s.node (Up 1) ∙ one.lives s.node (life_after been s.node) ∙ up.up }

pub failed_on : (been : List Act) (act : Act) → IsPlainAct act → failed_in (been ++ act ∷ []) ≡ failed_in been
failed_on been act one = flat_map-append failed_by been (act ∷ []) ∙ ap (λ (l : List ℕ). failed_in been ++ (l ++ [])) one.failed ∙ append-nil (failed_in been)

module _ {D : Type 0} where
  pub lives_on : (plan : Plan) (been : List Act) (act : Act) (old new : World D) → IsPlainAct act → AreSameLives old new → AreLives plan been old → AreLives plan (been ++ act ∷ []) new
  lives_on plan been act old new one same lives n there = same n ∙ lives n there ∙ sym (life_more been act n (Up 1) ∙ one.lives n (life_after been n))

  pub same_lives : (world : World D) → AreSameLives world world
  same_lives world n = refl

  pub causes_on : (on : View D) (start world : World D) (been : List Act) (act : Act) → IsPlainAct act → HasCauses on start (failed_in been) world → HasCauses on start (failed_in (been ++ act ∷ [])) world
  causes_on on start world been act one causes = subst (λ (l : List ℕ). HasCauses on start l world) (sym (failed_on been act one)) causes

-- the node that is kept for a place
pub node_is : (sessions : List Session) (kept : List ℕ) (place node : ℕ) (plain : Session) → kept ≡ nodes_of sessions → slice_get sessions place ≡ Some plain → slice_get kept place ≡ Some node → plain.node ≡ node
node_is sessions kept place node plain are here is = some_same plain.node node (sym (node_at sessions place plain here) ∙ ap (λ (l : List ℕ). slice_get l place) (sym are) ∙ is)
