-- Each step of a world is a list of moves, and so lists of steps keep a world sound.
use Rattle.std.proofs.Common.{◌≡◌, ◌⊎◌, inl, ◌≢◌, inr, ⊎_elim, ℕ, Bool, false, List, [], ◌∷◌, ◌++◌, append-nil, Some, None, refl, sym, ap, ◌∙◌, subst, arith}
use Rattle.mail_model.specs.Identity.{Id, Key}
use Rattle.mail_model.specs.Identity.Key.{Message}
use Rattle.mail_model.specs.Plan.{Plan}
use Rattle.mail_model.specs.Record.{Record}
use Rattle.mail_model.specs.Book.{BookEntry}
use Rattle.mail_model.specs.Book.BookEntry.{WentDown, CameUp, WasLost}
use Rattle.object_model.specs.Letters.{Number}
use Rattle.object_model.specs.Mishaps.MishapKind.{Dropped}
use Rattle.cluster_model.specs.Cluster.{Node, Life, Slot, Cluster, slot_at, with_slot, pending_of}
use Rattle.cluster_model.specs.Cluster.Life.{Up, Down, Lost}
use Rattle.cluster_model.specs.Moves.{NodeAct, IsReady, IsAct, Move, MayEnter, MayMoves, after_move, after_moves}
use Rattle.cluster_model.specs.Moves.Move.{Acted, Taken, Entered}
use Rattle.cluster_model.specs.Parts.{IsHeldSomewhere, Sound}
use Rattle.cluster_model.specs.Rules.{push, widen, end_ticket}
use Rattle.cluster_model.specs.Starts.{StopsStart}
use Rattle.cluster_model.specs.Progress.{ask_of}
use Rattle.cluster_model.specs.Progress.Ask.{Done}
use Rattle.cluster_model.specs.Deeds.{slot_up, hear, drop_act, start_act, stop_act, IsOfPlan}
use Rattle.cluster_model.specs.Room.{keys_pushed}
use Rattle.cluster_model.specs.World.{World, Leads, letters_of, cluster_of}
use Rattle.cluster_model.specs.Steps.{Step, Said, StepOutcome}
use Rattle.cluster_model.specs.Steps.Step.{Begin, AskFor, GiveUp, Post, DropLetter, PushTo, Widen, Form, Crash, Start, Lose, Tick}
use Rattle.cluster_model.specs.Steps.StepOutcome.{Says, Refused, NoMemory}
use Rattle.cluster_model.specs.Makes.{IsUp, NodeGoesDown, BeginsCall, AnswersAsk, Pushes, Widens, StartsUp, NodeFalls, LosesNode, DoesStep, RunsShort, MadeStep, MakesStep, MakesAll}
use Rattle.cluster_model.specs.Makes.BeginsCall.{FailsAtOnce, Goes, FailsInIt}
use Rattle.cluster_model.specs.Makes.AnswersAsk.{Waits, Ends}
use Rattle.cluster_model.specs.Makes.Pushes.{Sends, FailsPushing}
use Rattle.cluster_model.specs.Makes.Widens.{Adds, FailsWidening}
use Rattle.cluster_model.specs.Makes.StartsUp.{Comes, FailsStarting}
use Rattle.cluster_model.specs.Makes.RunsShort.{Beginning, Hearing, Widening, Forming, Starting}
use Rattle.cluster_model.specs.WorldLaws.{InPlan, MayBring}
use Rattle.cluster_model.proofs.Slots.{at_same, read_after}
use Rattle.cluster_model.proofs.Kept.{all_kept}
use Rattle.cluster_model.proofs.Closing.{end_acts}
use Rattle.cluster_model.proofs.Pushes.{push_acts, widen_acts}
use Rattle.cluster_model.proofs.Lives.{drop_acts}
use Rattle.cluster_model.proofs.Starting.{start_acts, stop_acts}
use Rattle.cluster_model.proofs.Leading.{no_move, led_on}
use Rattle.cluster_model.proofs.Stepping.{slot_again, unheard_leads, quiet_leads, books_one, cut_nothing, letter_lost, down_leads}
use Rattle.cluster_model.proofs.Forming.{cut_forming, forms_lead}
use Rattle.cluster_model.proofs.Asking.{ends_lead}
use Rattle.cluster_model.proofs.Calling.{begins_lead, fails_lead}
use Rattle.cluster_model.proofs.Reading.{SeesOne, LeadsOn, begins_seen, answers_seen, gives_up_seen, posts_seen, drops_seen, sees_lead, fall_leads, goes_stays, goes_then}
use Rattle.cluster_model.proofs.Posting.{posts_lead, failing_leads}

in_plan : (nodes confirm : ℕ) (moves : List Move) (c : Cluster) → MayMoves confirm moves c → InPlan nodes c.slots → InPlan nodes (after_moves moves c).slots
in_plan nodes confirm [] c may p = p
in_plan nodes confirm (Acted act ∷ moves) c may p = in_plan nodes confirm moves (after_move (Acted act) c) may.1 (λ n slot at. ⊎_elim
    (λ new. subst (λ k. IsOfPlan k nodes) (sym new.0) (p act.node act.before may.0.0))
    (λ old. p n slot old)
    (read_after c.slots act.node n act.before act.after slot may.0.0 at))
in_plan nodes confirm (Taken letter left ∷ moves) c may p = in_plan nodes confirm moves (after_move (Taken letter left) c) may.1 p
in_plan nodes confirm (Entered entry ∷ moves) c may p = in_plan nodes confirm moves (after_move (Entered entry) c) may.1 p

module _ (confirm : ℕ) (May : Id → List ℕ → Type 0) (old : World) where
  abbrev To : World → Type 0
  To new = Leads confirm May (cluster_of old) (cluster_of new)

  -- an act that sends nothing, and then the book has what became of the node
  changes_life : (entry : BookEntry) → ((slots : List Slot) → MayEnter confirm entry slots) → (act : NodeAct) → act.out ≡ [] → act.heard ≡ None → act.files ≡ None → act.strikes ≡ [] → slot_at old.slots act.node ≡ Some act.before → (IsReady act.node act.before None → IsAct act)
      → To (record old { slots = with_slot old.slots act.node act.after; book = old.book ++ entry ∷ [] })
  changes_life entry may act a b c d here acts = led_on confirm May (cluster_of old) (cluster_of (record old { slots = with_slot old.slots act.node act.after })) _
      (quiet_leads confirm May old act a b c d here acts)
      (books_one confirm May (cluster_of (record old { slots = with_slot old.slots act.node act.after })) entry (may (with_slot old.slots act.node act.after)))

  answers_lead : (plan : Plan) → plan.confirm ≡ confirm → (number : Number) (said : Said) (new : World) → AnswersAsk plan old number said new → To new
  answers_lead plan same number said new (Waits node disk ticket up found got wanted e is new_world) = no_move confirm May (cluster_of old) (cluster_of new) (ap cluster_of new_world)
  answers_lead plan same number said new (Ends node disk ticket up found answer e is new_world) = subst To (sym new_world)
      (ends_lead confirm May old number node disk ticket answer up found (subst (λ f. ask_of f ticket ≡ Done answer) same e))

  pushes_lead : (own to : ℕ) (said : Said) (new : World) → Pushes old own to said new → To new
  pushes_lead own to said new (Sends node disk up is new_world) = subst To (sym new_world)
      (unheard_leads confirm May old own node disk (push own to (keys_pushed old.flying own to node disk) node disk) None [] up
      (λ ready. push_acts own node disk ready to (keys_pushed old.flying own to node disk)) (λ user id m. absurd m) (λ content e. absurd (cc e)))
  pushes_lead own to said new (FailsPushing node disk up is new_world) =
      down_leads confirm May old new own node disk (push own to (keys_pushed old.flying own to node disk) node disk) None None [] up
      (λ ready. push_acts own node disk ready to (keys_pushed old.flying own to node disk)) (λ letter e. absurd (cc e)) (λ user id m. absurd m) (λ content e. absurd (cc e))
      (record { front = []; pending = []; one = omega arith; cut = cut_nothing disk; is = new_world })

  widening_leads : (own to : ℕ) (key : Key) (node : Node) (disk : List Record) (new : World) → IsUp old own node disk → NodeGoesDown old own disk (widen own to key node disk).disk new → To new
  widening_leads own to key node disk new up g = down_leads confirm May old new own node disk (widen own to key node disk) None None [] up
      (λ ready. widen_acts own node disk ready to key) (λ letter e. absurd (cc e)) (λ user id m. absurd m) (λ content e. absurd (cc e)) g

  widens_lead : (own to : ℕ) (key : Key) (said : Said) (new : World) → Widens old own to key said new → To new
  widens_lead own to key said new (Adds node disk up is new_world) = subst To (sym new_world)
      (unheard_leads confirm May old own node disk (widen own to key node disk) None [] up (λ ready. widen_acts own node disk ready to key) (λ user id m. absurd m) (λ content e. absurd (cc e)))
  widens_lead own to key said new (FailsWidening node disk up is g) = widening_leads own to key node disk new up g

  stops_lead : (n : ℕ) (disk pending next records : List Record) (new : World) → slot_at old.slots n ≡ Some (record { life = Down pending; disk = disk }) → StopsStart disk pending next records
      → new ≡ record old { slots = with_slot old.slots n (record { life = Down next; disk = records }); book = old.book ++ WentDown n ∷ [] } → To new
  stops_lead n disk pending next records new here stops new_world = subst To (sym new_world)
      (changes_life (WentDown n) (λ slots. tt) (stop_act n disk pending next records) refl refl refl refl here (λ ready. stop_acts n disk pending next records stops ready))

  starts_lead : (plan : Plan) (n : ℕ) (said : Said) (new : World) → StartsUp plan old n said new → To new
  starts_lead plan n said new (Comes disk pending node records here starts below is new_world) = subst To (sym new_world)
      (changes_life (CameUp n node.boot) (λ slots. tt) (start_act n disk pending node records) refl refl refl refl here (λ ready. start_acts n disk pending records node starts ready))
  starts_lead plan n said new (FailsStarting disk pending next records here stops is new_world) = stops_lead n disk pending next records new here stops new_world

  falls_lead : (n : ℕ) (life : Life) (entry : BookEntry) (said : Said) (new : World) → ((slots : List Slot) → MayEnter confirm entry slots) → (life ≡ Down []) ⊎ (life ≡ Lost)
      → NodeFalls old n life entry said new → To new
  falls_lead n life entry said new may ends f = subst To (sym f.new_world)
      (changes_life entry may (drop_act n f.slot life) refl refl refl refl f.here (λ ready. drop_acts n f.slot life f.was ends ready))

-- a node is lost: what was pending is kept or lost first, and then it is dropped
module _ (confirm : ℕ) (May : Id → List ℕ → Type 0) (old : World) (n : ℕ) where
  abbrev lost_world : List Record → World
  lost_world disk = record old { slots = with_slot old.slots n (record { life = Lost; disk = disk }); book = old.book ++ WasLost n ∷ [] }

  drops_lead : (slot : Slot) → slot_at old.slots n ≡ Some slot → slot.life ≢ Lost → Leads confirm May (cluster_of old) (cluster_of (lost_world slot.disk))
  drops_lead slot here was = changes_life confirm May old (WasLost n) (λ slots. tt) (drop_act n slot Lost) refl refl refl refl here (λ ready. drop_acts n slot Lost was (inr refl) ready)

  module _ (disk pending : List Record) (here : slot_at old.slots n ≡ Some (record { life = Down pending; disk = disk })) where
    abbrev kept_slot : Slot
    kept_slot = record { life = Down []; disk = disk ++ pending }

    abbrev kept_world : World
    kept_world = record old { slots = with_slot old.slots n kept_slot }

    keeps_stop : StopsStart disk pending [] (disk ++ pending)
    keeps_stop = record { kept = pending; pending_is = inr refl; records = refl; next_is = inl refl }

    kept_lead : Leads confirm May (cluster_of old) (cluster_of (lost_world (disk ++ pending)))
    kept_lead = led_on confirm May (cluster_of old) (cluster_of kept_world) (cluster_of (lost_world (disk ++ pending)))
        (quiet_leads confirm May old (stop_act n disk pending [] (disk ++ pending)) refl refl refl refl here (λ ready. stop_acts n disk pending [] (disk ++ pending) keeps_stop ready))
        (subst (λ slots. Leads confirm May (cluster_of kept_world) (record { slots = slots; flying = letters_of old.flying; book = old.book ++ WasLost n ∷ [] }))
        (slot_again old.slots n kept_slot (record { life = Lost; disk = disk ++ pending }))
        (changes_life confirm May kept_world (WasLost n) (λ slots. tt) (drop_act n kept_slot Lost) refl refl refl refl
        (at_same old.slots n (record { life = Down pending; disk = disk }) kept_slot here) (λ ready. drop_acts n kept_slot Lost (λ e. cc e) (inr refl) ready)))

  keeping_leads : (slot : Slot) (life : Life) → slot.life ≡ life → slot_at old.slots n ≡ Some slot → slot.life ≢ Lost → Leads confirm May (cluster_of old) (cluster_of (lost_world (slot.disk ++ pending_of life)))
  keeping_leads slot (Up node) is here was = subst (λ disk. Leads confirm May (cluster_of old) (cluster_of (lost_world disk))) (sym (append-nil slot.disk)) (drops_lead slot here was)
  keeping_leads slot (Down pending) is here was = kept_lead slot.disk pending (here ∙ ap (λ l. Some (record { life = l; disk = slot.disk })) is)
  keeping_leads slot Lost is here was = absurd (was is)

  loses_lead : (said : Said) (new : World) → LosesNode old n said new → Leads confirm May (cluster_of old) (cluster_of new)
  loses_lead said new l = subst (λ w. Leads confirm May (cluster_of old) (cluster_of w)) (sym l.new_world) (⊎_elim
      (λ none. subst (λ disk. Leads confirm May (cluster_of old) (cluster_of (lost_world disk))) (sym (append-nil l.slot.disk) ∙ ap (λ k. l.slot.disk ++ k) (sym none)) (drops_lead l.slot l.here l.was))
      (λ all. subst (λ k. Leads confirm May (cluster_of old) (cluster_of (lost_world (l.slot.disk ++ k)))) (sym all) (keeping_leads l.slot l.slot.life refl l.here l.was))
      l.pending_is)

module _ (plan : Plan) (tells : Bool) (old new : World) (p : InPlan plan.nodes old.slots) (s : Sound plan.confirm (cluster_of old)) where
  abbrev Quietly : World → World → Type 0
  Quietly = LeadsOn plan.confirm (λ id o. ⊥)

  stays : (w : World) → Quietly w w
  stays = goes_stays plan.confirm (λ id o. ⊥)

  then : (a b c : World) → Quietly a b → Quietly b c → Quietly a c
  then = goes_then plan.confirm (λ id o. ⊥)

  each : (a b : World) → SeesOne a b → Quietly a b
  each = sees_lead plan.confirm (λ id o. ⊥)

  does_lead : (step : Step) (said : Said) → DoesStep plan tells old step said new → Leads plan.confirm (MayBring old step) (cluster_of old) (cluster_of new)
  does_lead (Begin node call) said (inr d) = begins_seen (LeadsOn plan.confirm (MayBring old (Begin node call))) (goes_stays plan.confirm (MayBring old (Begin node call))) (goes_then plan.confirm (MayBring old (Begin node call)))
      (sees_lead plan.confirm (MayBring old (Begin node call))) plan node call said old new (λ n e a b f. fall_leads plan.confirm (MayBring old (Begin node call)) n a b f) d
  does_lead (Begin node call) said (inl d) = begins_lead plan tells old node (numbered d) call said new d
    where
      numbered : BeginsCall plan tells old node call said new → IsOfPlan node plan.nodes
      numbered (FailsAtOnce own disk kind up of_kind fails is e) = p node (slot_up own disk) up
      numbered (Goes own disk octets up fails filed is e) = p node (slot_up own disk) up
      numbered (FailsInIt own disk octets up filed is g) = p node (slot_up own disk) up
  does_lead (AskFor ticket) said (inr d) = answers_seen Quietly stays then each ticket said old new d
  does_lead (AskFor ticket) said (inl d) = answers_lead plan.confirm (λ id o. ⊥) old plan refl ticket said new d
  does_lead (GiveUp ticket) said (inr d) = gives_up_seen Quietly stays then each ticket said old new d
  does_lead (GiveUp ticket) said (inl d) = subst (λ (w : World). Leads plan.confirm (λ id o. ⊥) (cluster_of old) (cluster_of w)) (sym d.new_world)
      (unheard_leads plan.confirm (λ id o. ⊥) old ticket.node d.node d.disk (end_ticket ticket.seq d.node d.disk) None [] d.up (λ ready. end_acts ticket.node d.node d.disk ready ticket.seq) (λ user id m. absurd m) (λ content e. absurd (cc e)))
  does_lead (Post letter keep) said (inr d) = posts_seen Quietly stays then each letter keep said old new (λ n e a b f. fall_leads plan.confirm (λ id o. ⊥) n a b f) d
  does_lead (Post letter keep) said (inl d) = posts_lead plan (λ id o. ⊥) old new p s letter keep said d.0
  does_lead (DropLetter letter) said (inr d) = drops_seen Quietly stays then each letter said old new d
  does_lead (DropLetter letter) said (inl d) = subst (λ (w : World). Leads plan.confirm (λ id o. ⊥) (cluster_of old) (cluster_of w)) (sym d.0.new_world) (letter_lost plan.confirm (λ id o. ⊥) old Dropped letter d.0.flies false)
  does_lead (PushTo from to) said d = pushes_lead plan.confirm (λ id o. ⊥) old from to said new d
  does_lead (Widen at user id to) said d = widens_lead plan.confirm (λ id o. ⊥) old at to (Message user id) said new d
  does_lead (Form node) said d = forms_lead plan.confirm (λ id o. ⊥) old node said new d
  does_lead (Crash node) said d = falls_lead plan.confirm (λ id o. ⊥) old node (Down []) (WentDown node) said new (λ slots. tt) (inl refl) d
  does_lead (Start node) said d = starts_lead plan.confirm (λ id o. ⊥) old plan node said new d
  does_lead (Lose node) said d = loses_lead plan.confirm (λ id o. ⊥) old node said new d
  does_lead (Tick seconds) said d = no_move plan.confirm (λ id o. ⊥) (cluster_of old) (cluster_of new) (ap cluster_of d.1)

  -- memory runs out in the midst of a step
  short_leads : (step : Step) (n : ℕ) → RunsShort plan old step n new → Leads plan.confirm (MayBring old step) (cluster_of old) (cluster_of new)
  short_leads step n (Beginning call node disk octets is up filed g) = subst (λ (st : Step). Leads plan.confirm (MayBring old st) (cluster_of old) (cluster_of new)) (sym is)
      (fails_lead plan tells old n (p n (slot_up node disk) up) call node disk octets new up filed g)
  short_leads step n (Hearing number keep flies node disk is at up g) = subst (λ (st : Step). Leads plan.confirm (MayBring old st) (cluster_of old) (cluster_of new)) (sym is)
      (failing_leads plan (λ id o. ⊥) old p s number flies node disk (subst (λ k. IsUp old k node disk) (sym at) up) new (subst (λ k. NodeGoesDown old k disk (hear k plan.nodes node disk flies.letter).disk new) (sym at) g))
  short_leads step n (Widening user id to node disk is up g) = subst (λ (st : Step). Leads plan.confirm (MayBring old st) (cluster_of old) (cluster_of new)) (sym is)
      (widening_leads plan.confirm (λ id o. ⊥) old n to (Message user id) node disk new up g)
  short_leads step n (Forming node disk promise up forms g) = cut_forming plan.confirm (MayBring old step) old n node disk up promise new g
  short_leads step n (Starting disk pending next records is here stops new_world) = subst (λ (st : Step). Leads plan.confirm (MayBring old st) (cluster_of old) (cluster_of new)) (sym is)
      (stops_lead plan.confirm (λ id o. ⊥) old n disk pending next records new here stops new_world)

  pub leads : (step : Step) (outcome : StepOutcome) → MakesStep plan tells old step outcome new → Leads plan.confirm (MayBring old step) (cluster_of old) (cluster_of new)
  leads step (Says said) m = does_lead step said m.1
  leads step (Refused fault) m = no_move plan.confirm (MayBring old step) (cluster_of old) (cluster_of new) (ap cluster_of m.1)
  leads step (NoMemory None) m = no_move plan.confirm (MayBring old step) (cluster_of old) (cluster_of new) (ap cluster_of m)
  leads step (NoMemory (Some n)) m = short_leads step n m

pub steps_sound : (plan : Plan) (tells : Bool) (old new : World) (steps : List MadeStep) → MakesAll plan tells old steps new → InPlan plan.nodes old.slots → Sound plan.confirm (cluster_of old)
    → InPlan plan.nodes new.slots × Sound plan.confirm (cluster_of new)
steps_sound plan tells old new [] is p s = (subst (λ (w : World). InPlan plan.nodes w.slots) (sym is) p, subst (λ (w : World). Sound plan.confirm (cluster_of w)) (sym is) s)
steps_sound plan tells old new (made ∷ steps) (mid, first, others) p s =
    let l = leads plan tells old mid p s made.step made.outcome first in
    steps_sound plan tells mid new steps others
    (subst (λ (c : Cluster). InPlan plan.nodes c.slots) (sym l.is) (in_plan plan.nodes plan.confirm l.moves (cluster_of old) l.may p))
    (subst (Sound plan.confirm) (sym l.is) (all_kept plan.confirm (cluster_of old) l.moves l.may s))

pub steps_bring : (plan : Plan) (tells : Bool) (old new : World) (step : Step) (outcome : StepOutcome) → MakesStep plan tells old step outcome new → InPlan plan.nodes old.slots → Sound plan.confirm (cluster_of old) → (id : Id) (octets : List ℕ)
    → IsHeldSomewhere new.slots (letters_of new.flying) id octets → IsHeldSomewhere old.slots (letters_of old.flying) id octets ⊎ MayBring old step id octets
steps_bring plan tells old new step outcome made p s = (leads plan tells old new p s step outcome made).brings s
