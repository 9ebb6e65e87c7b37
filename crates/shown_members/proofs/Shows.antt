-- Steps that form no epoch keep a membership shown; a cluster that opens in its first epoch shows it; and what follows.
use Rattle.std.proofs.Common.{◌≡◌, inl, inr, ⊎_elim, ℕ, zero, suc, ◌<◌, ◌≤◌, Bool, List, [], ◌∷◌, Option, Some, None, refl, sym, ap, ◌∙◌, subst, arith}
use Rattle.std.specs.Prelude.{slice_get}
use Rattle.mail_model.specs.Plan.{Plan}
use Rattle.mail_model.specs.Record.{Record}
use Rattle.object_model.specs.Lists.{Among}
use Rattle.object_model.specs.Letters.{Member, Membership, MapRow, Letter}
use Rattle.object_model.specs.Letters.Body.{Install}
use Rattle.cluster_model.specs.Claims.{boot_of}
use Rattle.cluster_model.specs.Starts.{first_membership}
use Rattle.cluster_model.specs.World.{letters_of}
use Rattle.maps_model.specs.Cluster as maps
use Rattle.maps_model.specs.Words as words
use Rattle.maps_model.specs.Epochs.{IsBefore, IsAtMost}
use Rattle.maps_model.proofs.Order.{before_not_most}
use Rattle.whole_model.specs.Whole.{Node, Slot, slot_at, maps_slot}
use Rattle.whole_model.specs.Whole.Life.{Up}
use Rattle.whole_world.specs.World.{World, maps_world_of, IsUp}
use Rattle.whole_world.specs.Steps.{Step, StepOutcome}
use Rattle.whole_world.specs.Makes.{MakesStep, MadeStep, MakesAll}
use Rattle.whole_world.specs.Laws.{Stands}
use Rattle.whole_world.specs.Settled.{IsSettled}
use Rattle.whole_world.specs.First.{first_node, first_slot, first_slots, first_world}
use Rattle.whole_world.proofs.Along.{maps_here}
use Rattle.whole_world.proofs.Stepping.{makes_stand}
use Rattle.shown_members.specs.Shown.{ShowsStill, MovesNobody, FormsNoEpoch}
use Rattle.shown_members.proofs.Onward.{From, Onward, makes_onward}
use Rattle.shown_members.proofs.Onward.From.{Stays, Goes, Begins}

pub same_some : {X : Type 0} (o : Option X) (a b : X) → o ≡ Some a → o ≡ Some b → a ≡ b
same_some o a b p q = cc

none_some : {X : Type 0} (x : X) → None ≡ Some x → ⊥
none_some x e = cc

module _ (plan : Plan) (old : World) (stands : Stands plan old) (g : Membership) (shows : ShowsStill old g) where
  -- an Install in flight that names a node brings it to no other membership
  stays_put : (letter : Letter) → Among letter (letters_of old.flying) → (k : Membership) → letter.body ≡ Install k → (n : ℕ) (was : Node) (its : List Record) → IsUp old n was its
      → maps.NamesNode k n was.maps.boot → IsBefore (maps.epoch_of was.maps) k.epoch → k ≡ g
  stays_put letter m k body n was its up names before = ⊎_elim
      (λ same. same)
      (λ (still : MovesNobody old g k). let s = still n was its up names in absurd (before_not_most g.epoch k.epoch (subst (λ (o : Option Membership). IsBefore (maps.epoch_in o) k.epoch) s.0 before) s.1))
      (shows.installs letter m k body)

  -- no Install in flight names a boot that has not begun
  begun : (letter : Letter) → Among letter (letters_of old.flying) → (k : Membership) → letter.body ≡ Install k → (n boot : ℕ) → maps.NamesNode k n boot → (slot : Slot) → slot_at old.slots n ≡ Some slot → boot_of slot.disk < boot → ⊥
  begun letter m k body n boot names slot here later = above boot (boot_of slot.disk) (subst (λ (s : maps.Slot). boot ≤ s.disk.boot) slots join.0.begun) later
    where
      join : words.JoinStands (maps_world_of old).slots (maps_world_of old).flying n boot k.epoch names.member.was
      join = stands.sound.maps.joins.named k (inr (record { letter = letter; inside = m; is = body })) n boot names.member.was (record { member = names.member; is = names.is; same = names.same; from = refl })

      slots : join.0.slot ≡ maps_slot slot
      slots = same_some (maps.slot_at (maps_world_of old).slots n) join.0.slot (maps_slot slot) join.0.here (maps_here old.slots n slot here)

      above : (a b : ℕ) → a ≤ b → b < a → ⊥
      above a b p q = omega (arith, p, q)

  pub onward_shows : (step : Step) (new : World) → Onward old step new → ShowsStill new g
  onward_shows step new on = record {
    installed = λ n node disk up h e. installed n node (on.nodes n node disk up) h e;
    installs = λ letter m other body. ⊎_elim
        (λ same. inl same)
        (λ (still : MovesNobody old g other). inr (λ n node disk up names. moves letter (on.installs letter m other body) other body still n node (on.nodes n node disk up) names))
        (shows.installs letter (on.installs letter m other body) other body);
  }
    where
      installed : (n : ℕ) (node : Node) → From old step n node → (h : Membership) → node.maps.installed ≡ Some h → h ≡ g
      installed n node (Stays was its up boots same) h e = shows.installed n was its up h (sym same ∙ e)
      installed n node (Goes was its up boots letter m k body names before is) h e = same_some node.maps.installed h k e is ∙ stays_put letter m k body n was its up names before
      installed n node (Begins starts slot here later none) h e = absurd (none_some h (sym none ∙ e))

      moves : (letter : Letter) → Among letter (letters_of old.flying) → (other : Membership) → letter.body ≡ Install other → MovesNobody old g other → (n : ℕ) (node : Node) → From old step n node
          → maps.NamesNode other n node.maps.boot → (node.maps.installed ≡ Some g) × IsAtMost other.epoch g.epoch
      moves letter m other body still n node (Stays was its up boots same) names = let s = still n was its up (subst (maps.NamesNode other n) boots names) in (same ∙ s.0, s.1)
      moves letter m other body still n node (Goes was its up boots sent i k is names_it before installed_is) names =
          let s = still n was its up (subst (maps.NamesNode other n) boots names) in (installed_is ∙ ap Some (stays_put sent i k is n was its up names_it before), s.1)
      moves letter m other body still n node (Begins starts slot here later none) names = absurd (begun letter m other body n node.maps.boot names slot here later)

pub step_shows : (plan : Plan) (tells : Bool) (old new : World) (step : Step) (outcome : StepOutcome) (g : Membership) → MakesStep plan tells old step outcome new → FormsNoEpoch step outcome
    → Stands plan old → ShowsStill old g → ShowsStill new g
step_shows plan tells old new step outcome g made calm stands shows = onward_shows plan old stands g shows step new (makes_onward plan old stands tells step outcome new made calm)

pub steps_show : (plan : Plan) (tells : Bool) (old new : World) (steps : List MadeStep) (g : Membership) → MakesAll plan tells old steps new
    → ((made : MadeStep) → Among made steps → FormsNoEpoch made.step made.outcome) → Stands plan old → ShowsStill old g → ShowsStill new g
steps_show plan tells old new [] g is calm stands shows = subst (λ (w : World). ShowsStill w g) (sym is) shows
steps_show plan tells old new (made ∷ steps) g (mid, first, others) calm stands shows =
    steps_show plan tells mid new steps g others (λ one m. calm one (inr m)) (makes_stand plan old stands tells made.step made.outcome mid first)
    (step_shows plan tells old mid made.step made.outcome g first (calm made (inl refl)) stands shows)

-- each node of the first epoch has installed it, and no letter is in flight
pub first_shows : (nodes : ℕ) (rows : List MapRow) → ShowsStill (first_world nodes rows) (first_membership nodes rows)
first_shows nodes rows = record {
  installed = λ n node disk up h e. at n node disk up h e;
  installs = λ letter m. absurd m;
}
  where
    here : (m k : ℕ) (slot : Slot) → slice_get (first_slots nodes rows m) k ≡ Some slot → first_slot nodes rows ≡ slot
    here zero k slot e = absurd (none_some slot e)
    here (suc m) zero slot e = same_some (Some (first_slot nodes rows)) (first_slot nodes rows) slot refl e
    here (suc m) (suc k) slot e = here m k slot e

    ups : (a b : Node) → Up a ≡ Up b → a ≡ b
    ups a b e = cc

    at : (n : ℕ) (node : Node) (disk : List Record) → IsUp (first_world nodes rows) n node disk → (h : Membership) → node.maps.installed ≡ Some h → h ≡ first_membership nodes rows
    at zero node disk up h e = absurd (none_some _ up)
    at (suc k) node disk up h e =
        let same : first_node nodes rows ≡ node = ups (first_node nodes rows) node (ap (λ (s : Slot). s.life) (here nodes k _ up)) in
        same_some node.maps.installed h (first_membership nodes rows) e (ap (λ (x : Node). x.maps.installed) (sym same))

-- a member of a settled epoch has installed it
pub settled_shown : (w : World) (g : Membership) → ShowsStill w g → (h : Membership) (member : Member) → Among member h.members → IsSettled w h → h ≡ g
settled_shown w g shows h member m settled = let live = (settled member m).live in shows.installed member.node live.node live.disk live.up h live.installed
