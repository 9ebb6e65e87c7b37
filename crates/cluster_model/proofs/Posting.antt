-- A letter that is handed to its receiver is a list of moves, whatever comes of it.
use Rattle.std.proofs.Common.{◌≡◌, ⊎_elim, ℕ, Bool, true, false, not, List, [], ◌∷◌, ◌++◌, Option, Some, None, refl, sym, ap, ◌∙◌, subst, true≢false, if◌then◌else◌}
use Rattle.std.specs.Prelude.{is_some}
use Rattle.std.specs.FinMap as fin
use Rattle.std.proofs.lemmas.Bool.{and_parts}
use Rattle.mail_model.specs.Identity.{Id, EpochId}
use Rattle.mail_model.specs.Plan.{Plan}
use Rattle.mail_model.specs.Record.{Record}
use Rattle.mail_model.specs.Book.BookEntry.{WentDown}
use Rattle.object_model.specs.Lists.{Among}
use Rattle.object_model.specs.Letters.{Number, Body, Letter}
use Rattle.object_model.specs.Letters.Body.{File, Strike}
use Rattle.object_model.specs.Mishaps.MishapKind.{Down as DownKind, Stale as StaleKind, Disk}
use Rattle.cluster_model.specs.Cluster.{AskedOfNodes, Ticket, Node, Life, Slot, slot_at, with_slot, tickets_of}
use Rattle.cluster_model.specs.Cluster.Life.{Up, Down}
use Rattle.cluster_model.specs.Claims.{NodesWait, Covers, Asks}
use Rattle.cluster_model.specs.Moves.{IsReady, IsCallDone}
use Rattle.cluster_model.specs.Parts.{Sound}
use Rattle.cluster_model.specs.Rules.{Reaction, idle, ticket_at}
use Rattle.cluster_model.specs.Forms.{IsMapsBody, promise_records, FormsEpoch}
use Rattle.cluster_model.specs.Thrown.{is_stale, is_late, answers_ticket, thrown_by, with_stamps, stamps_in, count_through}
use Rattle.cluster_model.specs.Thrown.Why.{Stale, Late}
use Rattle.cluster_model.specs.Deeds.{slot_up, act_of, IsOfPlan, hear}
use Rattle.cluster_model.specs.Room.{Flight, has_room}
use Rattle.cluster_model.specs.World.{World, Leads, letters_of, cluster_of, missed, put, Flies, flies_on}
use Rattle.cluster_model.specs.Steps.{Said}
use Rattle.cluster_model.specs.Makes.{IsUp, after, NodeGoesDown, Posts}
use Rattle.cluster_model.specs.Makes.Posts.{NobodyUp, OfOtherEpoch, TooLate, IsHeard, FailsHearing, IsForMaps, FailsForMaps}
use Rattle.object_model.proofs.Lists.{same_some}
use Rattle.cluster_model.proofs.Slots.{at_same}
use Rattle.cluster_model.proofs.Hears.{hears}
use Rattle.cluster_model.proofs.Learning.{learns}
use Rattle.cluster_model.proofs.HearTold.{stands_at}
use Rattle.cluster_model.proofs.Leading.{led_on}
use Rattle.cluster_model.proofs.Stepping.{flew, slot_again, unheard_leads, quiet_leads, letter_lost, letter_idle, heard_leads, down_leads}
use Rattle.cluster_model.proofs.Forming.{none_covered, forms_acts, cut_forming}

-- a late letter answers a ticket that does not stand
late_is : (own : ℕ) (node : Node) (letter : Letter) → thrown_by own node letter ≡ Some Late → is_late own node letter ≡ true
late_is own node letter e = by (is_stale letter node.installed) (is_late own node letter) refl e
  where
    by : (s l : Bool) → is_late own node letter ≡ l → (if s then Some Stale else (if l then Some Late else None)) ≡ Some Late → is_late own node letter ≡ true
    by true l f g = cc
    by false true f g = f
    by false false f g = cc

no_ticket : (o : Option Ticket) → not (is_some o) ≡ true → o ≡ None
no_ticket None e = refl
no_ticket (Some t) e = cc

-- what asks is no answer
asks_no_answer : (body : Body) (asked : AskedOfNodes) → Asks body asked → answers_ticket body ≡ true → ⊥
asks_no_answer (File id stamp targets users octets) asked a e = true≢false (sym e)
asks_no_answer (Strike user marks) asked a e = true≢false (sym e)
asks_no_answer body asked a e = a

module _ (plan : Plan) (May : Id → List ℕ → Type 0) (old : World) (in_plan : (n : ℕ) (slot : Slot) → slot_at old.slots n ≡ Some slot → IsOfPlan n plan.nodes) (sound : Sound plan.confirm (cluster_of old))
    (number : ℕ) (flies : Flies old number) (node : Node) (disk : List Record) (up : IsUp old flies.letter.to node disk) where
  -- nobody waits on account of a late letter
  nobody_waits : thrown_by flies.letter.to node flies.letter ≡ Some Late → (n : Number) (m : ℕ) (asked : AskedOfNodes) → Covers flies.letter n m asked → NodesWait old.slots n m asked → ⊥
  nobody_waits thrown n m asked c wait = ⊎_elim
      (λ (from, to, asks). asks_no_answer flies.letter.body asked asks late.0)
      (λ (to, from, told). not_there to)
      c.1
    where
      late : (answers_ticket flies.letter.body ≡ true) × (not (is_some (ticket_at flies.letter.to node flies.letter.ticket)) ≡ true)
      late = and_parts (answers_ticket flies.letter.body) (not (is_some (ticket_at flies.letter.to node flies.letter.ticket))) (late_is flies.letter.to node flies.letter thrown)

      up_same : (a b : Node) → ◌≡◌ {A = Life} (Up a) (Up b) → a ≡ b
      up_same a b e = cc

      clash : (o : Option Ticket) (t : Ticket) → o ≡ None → o ≡ Some t → ⊥
      clash o t p q = cc

      not_there : flies.letter.to ≡ n.node → ⊥
      not_there at =
          let slot : wait.slot ≡ slot_up node disk = same_some (slot_at old.slots flies.letter.to) wait.slot (slot_up node disk) (subst (λ k. slot_at old.slots k ≡ Some wait.slot) (sym at) wait.here) up in
          let same : wait.waits.node ≡ node = up_same wait.waits.node node (sym wait.waits.up ∙ ap (λ (s : Slot). s.life) slot) in
          let stood : fin.get node.tickets n.seq ≡ Some wait.waits.stands.ticket = subst (λ (l : Life). fin.get (tickets_of l) n.seq ≡ Some wait.waits.stands.ticket) (ap (λ (s : Slot). s.life) slot) wait.waits.stands.here in
          clash (fin.get node.tickets n.seq) wait.waits.stands.ticket
          (sym (stands_at flies.letter.to node n (sym at) (wait.waits.boot ∙ ap (λ (x : Node). x.boot) same)) ∙ ap (ticket_at flies.letter.to node) (sym c.0)
          ∙ no_ticket (ticket_at flies.letter.to node flies.letter.ticket) late.1)
          stood

  ready : IsReady flies.letter.to (slot_up node disk) (Some flies.letter)
  ready = record {
    order = sound.order.each flies.letter.to (slot_up node disk) up;
    fits = sound.fit.slots_fit flies.letter.to (slot_up node disk) up;
    heard_fits = λ one e. sound.fit.letters_fit one (subst (λ (l : Letter). Among l (letters_of old.flying)) (same one e) (flew old number flies));
  }
    where
      same : (one : Letter) → Some flies.letter ≡ Some one → flies.letter ≡ one
      same one e = cc

  -- the node has learnt the stamps of the letter
  abbrev known : Node
  known = with_stamps flies.letter.body node

  abbrev learnt : World
  learnt = record old { slots = with_slot old.slots flies.letter.to (slot_up known disk) }

  learns_lead : Leads plan.confirm May (cluster_of old) (cluster_of learnt)
  learns_lead = quiet_leads plan.confirm May old (act_of flies.letter.to node disk (idle known disk) None None []) refl refl refl refl up (λ r. (learns flies.letter.to node disk (count_through node.count (stamps_in flies.letter.body)) r).is)

  now_up : IsUp learnt flies.letter.to known disk
  now_up = at_same old.slots flies.letter.to (slot_up node disk) (slot_up known disk) up

  abbrev flies_on_then : Flies learnt number
  flies_on_then = record { front = flies.front; letter = flies.letter; back = flies.back; is = flies.is }

  abbrev did : Reaction
  did = hear flies.letter.to plan.nodes node disk flies.letter

  done : IsCallDone (act_of flies.letter.to known disk did (Some flies.letter) None [])
  done = hears flies.letter.to plan.nodes node disk flies.letter (in_plan flies.letter.to (slot_up node disk) up) refl ready

  same_flying : (keep : Bool) → flies_on learnt number flies_on_then keep ≡ flies_on old number flies keep
  same_flying true = refl
  same_flying false = refl

  pub hearing_leads : (keep : Bool) → Leads plan.confirm May (cluster_of old) (cluster_of (after (record old { flying = flies_on old number flies keep }) flies.letter.to did))
  hearing_leads keep = led_on plan.confirm May (cluster_of old) (cluster_of learnt) _ learns_lead
      (subst (λ (s : List Slot). Leads plan.confirm May (cluster_of learnt) (cluster_of (put has_room did.out (record old { slots = s; flying = flies_on old number flies keep }))))
      (slot_again old.slots flies.letter.to (slot_up known disk) (slot_up did.node did.disk))
      (subst (λ (f : List Flight). Leads plan.confirm May (cluster_of learnt) (cluster_of (put has_room did.out (record old { slots = with_slot learnt.slots flies.letter.to (slot_up did.node did.disk); flying = f }))))
      (same_flying keep)
      (heard_leads plan.confirm May learnt number flies_on_then known disk did now_up done keep)))

  -- its disk fails as it hears, or memory runs out
  pub failing_leads : (down : World) → NodeGoesDown old flies.letter.to disk did.disk down → Leads plan.confirm May (cluster_of old) (cluster_of down)
  failing_leads down g = led_on plan.confirm May (cluster_of old) (cluster_of learnt) _ learns_lead
      (down_leads plan.confirm May learnt down flies.letter.to known disk did (Some flies.letter) None [] now_up (λ r. done)
      (λ one e. subst (λ (l : Letter). Among l (letters_of old.flying)) (same one e) (flew old number flies)) (λ user id m. absurd m) (λ content f. absurd (cc f))
      (record {
        front = g.front;
        pending = g.pending;
        one = g.one;
        cut = g.cut;
        is = g.is ∙ ap (λ (s : List Slot). record old { slots = s; book = old.book ++ WentDown flies.letter.to ∷ [] })
            (sym (slot_again old.slots flies.letter.to (slot_up known disk) (record { life = Down g.pending; disk = disk ++ g.front })));
      }))
    where
      same : (one : Letter) → Some flies.letter ≡ Some one → flies.letter ≡ one
      same one e = cc

  -- a letter of membership or maps is heard
  pub maps_lead : (keep : Bool) → IsMapsBody flies.letter.body → (did : Reaction) → FormsEpoch known disk did
      → Leads plan.confirm May (cluster_of old) (cluster_of (after (record old { flying = flies_on old number flies keep }) flies.letter.to did))
  maps_lead keep of did f = led_on plan.confirm May (cluster_of old) (cluster_of learnt) _ learns_lead
      (subst (λ (s : List Slot). Leads plan.confirm May (cluster_of learnt) (cluster_of (put has_room did.out (record old { slots = s; flying = flies_on old number flies keep }))))
      (slot_again old.slots flies.letter.to (slot_up known disk) (slot_up did.node did.disk))
      (subst (λ (l : List Flight). Leads plan.confirm May (cluster_of learnt) (cluster_of (put has_room did.out (record old { slots = with_slot learnt.slots flies.letter.to (slot_up did.node did.disk); flying = l }))))
      (same_flying keep)
      (led_on plan.confirm May (cluster_of learnt) (cluster_of left) _
      (letter_idle plan.confirm May learnt number flies_on_then keep (λ n m asked c wait. none_covered flies.letter of n m asked c))
      (unheard_leads plan.confirm May left flies.letter.to known disk did None [] now_up (λ r. forms_acts flies.letter.to known disk did f r) (λ user id m. absurd m) (λ content e. absurd (cc e))))))
    where
      left : World
      left = record learnt { flying = flies_on learnt number flies_on_then keep }

  -- its disk fails as it promises, and the letter is taken out or kept
  pub maps_fail : (keep : Bool) → IsMapsBody flies.letter.body → (promise : Option EpochId) (down : World) → NodeGoesDown old flies.letter.to disk (disk ++ promise_records promise) down
      → Leads plan.confirm May (cluster_of old) (cluster_of (record down { flying = flies_on old number flies keep }))
  maps_fail keep of promise down g = led_on plan.confirm May (cluster_of old) (cluster_of down) _
      (cut_forming plan.confirm May old flies.letter.to node disk up promise down g)
      (subst (λ (f : List Flight). Leads plan.confirm May (cluster_of down) (cluster_of (record down { flying = f }))) (on_same keep)
      (letter_idle plan.confirm May down number there keep (λ n m asked c wait. none_covered flies.letter of n m asked c)))
    where
      flying_same : down.flying ≡ old.flying
      flying_same = ap (λ (w : World). w.flying) g.is

      there : Flies down number
      there = record { front = flies.front; letter = flies.letter; back = flies.back; is = flying_same ∙ flies.is }

      on_same : (keep : Bool) → flies_on down number there keep ≡ flies_on old number flies keep
      on_same true = flying_same
      on_same false = refl

  pub late_leads : (keep : Bool) → thrown_by flies.letter.to node flies.letter ≡ Some Late → Leads plan.confirm May (cluster_of old) (cluster_of (record old { flying = flies_on old number flies keep }))
  late_leads keep thrown = letter_idle plan.confirm May old number flies keep (nobody_waits thrown)

pub posts_lead : (plan : Plan) (May : Id → List ℕ → Type 0) (old new : World) → ((n : ℕ) (slot : Slot) → slot_at old.slots n ≡ Some slot → IsOfPlan n plan.nodes) → Sound plan.confirm (cluster_of old)
    → (number : ℕ) (keep : Bool) (said : Said) → Posts plan old number keep said new → Leads plan.confirm May (cluster_of old) (cluster_of new)
posts_lead plan May old new in_plan sound number keep said (NobodyUp flies nobody is new_world) = subst (λ (w : World). Leads plan.confirm May (cluster_of old) (cluster_of w)) (sym new_world)
    (letter_lost plan.confirm May old DownKind number flies keep)
posts_lead plan May old new in_plan sound number keep said (OfOtherEpoch flies node disk up thrown is new_world) = subst (λ (w : World). Leads plan.confirm May (cluster_of old) (cluster_of w)) (sym new_world)
    (letter_lost plan.confirm May old StaleKind number flies keep)
posts_lead plan May old new in_plan sound number keep said (TooLate flies node disk up thrown is new_world) = subst (λ (w : World). Leads plan.confirm May (cluster_of old) (cluster_of w)) (sym new_world)
    (late_leads plan May old in_plan sound number flies node disk up keep thrown)
posts_lead plan May old new in_plan sound number keep said (IsHeard flies node disk up thrown is new_world) = subst (λ (w : World). Leads plan.confirm May (cluster_of old) (cluster_of w)) (sym new_world)
    (hearing_leads plan May old in_plan sound number flies node disk up keep)
posts_lead plan May old new in_plan sound number keep said (FailsHearing flies node disk up thrown is down g new_world) = subst (λ (w : World). Leads plan.confirm May (cluster_of old) (cluster_of w)) (sym new_world)
    (led_on plan.confirm May (cluster_of old) (cluster_of down) _
    (failing_leads plan May old in_plan sound number flies node disk up down g)
    (lost_then down g keep))
  where
    flying_same : (down : World) → NodeGoesDown old flies.letter.to disk (hear flies.letter.to plan.nodes node disk flies.letter).disk down → down.flying ≡ old.flying
    flying_same down g = ap (λ (w : World). w.flying) g.is

    lost_then : (down : World) (g : NodeGoesDown old flies.letter.to disk (hear flies.letter.to plan.nodes node disk flies.letter).disk down) (keep : Bool)
        → Leads plan.confirm May (cluster_of down) (cluster_of (record down { slots = missed Disk down.slots flies.letter; flying = flies_on old number flies keep }))
    lost_then down g keep = subst (λ (f : List Flight). Leads plan.confirm May (cluster_of down) (cluster_of (record down { slots = missed Disk down.slots flies.letter; flying = f }))) (on_same keep)
        (letter_lost plan.confirm May down Disk number there keep)
      where
        there : Flies down number
        there = record { front = flies.front; letter = flies.letter; back = flies.back; is = flying_same down g ∙ flies.is }

        on_same : (keep : Bool) → flies_on down number there keep ≡ flies_on old number flies keep
        on_same true = flying_same down g
        on_same false = refl
posts_lead plan May old new in_plan sound number keep said (IsForMaps flies node disk up of fresh is did f new_world) = subst (λ (w : World). Leads plan.confirm May (cluster_of old) (cluster_of w)) (sym new_world)
    (maps_lead plan May old in_plan sound number flies node disk up keep of did f)
posts_lead plan May old new in_plan sound number keep said (FailsForMaps flies node disk promise up of fresh is down g new_world) = subst (λ (w : World). Leads plan.confirm May (cluster_of old) (cluster_of w)) (sym new_world)
    (maps_fail plan May old in_plan sound number flies node disk up keep of promise down g)
