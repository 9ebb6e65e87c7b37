-- What a step of which no session hears does to tickets, clock and book.
use Rattle.std.proofs.Common.{◌≡◌, ◌⊎◌, inl, inr, ⊎_elim, ◌≤◌, ◌+◌, ℕ, Bool, false, List, [], ◌∷◌, ◌++◌, Option, Some, None, refl, sym, ap, ◌∙◌, subst, arith, le_refl}
use Rattle.std.specs.Ordering.{nat_cmp}
use Rattle.std.specs.FinMap as fin
use Rattle.mail_model.specs.Identity.{Id, Key}
use Rattle.mail_model.specs.Identity.Key.{Message}
use Rattle.mail_model.specs.Plan.{Plan}
use Rattle.mail_model.specs.Record.{Record}
use Rattle.mail_model.specs.Book.{BookEntry, acked_in, struck_in, dropped_in}
use Rattle.mail_model.specs.Book.BookEntry.{WentDown, CameUp, WasLost}
use Rattle.object_model.specs.Letters.{Number, Body, Letter}
use Rattle.object_model.specs.Mishaps.MishapKind.{Dropped, Stale as StaleKind, Down as DownKind, Disk}
use Rattle.cluster_model.specs.Cluster.{Ticket, Node, Life, Slot, slot_at, with_slot}
use Rattle.cluster_model.specs.Cluster.Life.{Up, Down, Lost}
use Rattle.cluster_model.specs.Claims.{boot_of, IsIdDrawn, DrawnIn}
use Rattle.cluster_model.specs.Parts.{Sound}
use Rattle.cluster_model.specs.Rules.{Reaction, push, widen, end_ticket}
use Rattle.cluster_model.specs.Forms.{FormsEpoch}
use Rattle.cluster_model.specs.Thrown.{with_stamps}
use Rattle.cluster_model.specs.Starts.{StartsNode}
use Rattle.cluster_model.specs.Deeds.{slot_up, hear}
use Rattle.cluster_model.specs.Room.{Flight, has_room, keys_pushed}
use Rattle.cluster_model.specs.World.{World, cluster_of, with_letter, flies_on}
use Rattle.cluster_model.specs.Steps.{NodeCall, Step, Said, StepOutcome}
use Rattle.cluster_model.specs.Steps.NodeCall.{Deliver, Login, Fetch, Strike, Leave}
use Rattle.cluster_model.specs.Steps.Step.{Begin, AskFor, GiveUp, Post, DropLetter, PushTo, Widen, Form, Crash, Start, Lose, Tick}
use Rattle.cluster_model.specs.Steps.StepOutcome.{Says, Refused, NoMemory}
use Rattle.cluster_model.specs.Makes.{IsUp, after, IsFiled, cut_world, BeginsCall, AnswersAsk, IsGivenUp, Posts, Pushes, Widens, FormsAt, StartsUp, NodeFalls, LosesNode, SendsReading, GoesOnReading, BeginsRead, PostsRead, RunsShort, DoesStep, MakesStep}
use Rattle.cluster_model.specs.Makes.BeginsCall.{FailsAtOnce, Goes, FailsInIt}
use Rattle.cluster_model.specs.Makes.BeginsRead.{HasNoManager, Draws, FailsReading, Leaves}
use Rattle.cluster_model.specs.Makes.AnswersAsk.{Waits, Ends}
use Rattle.cluster_model.specs.Makes.Posts.{NobodyUp, OfOtherEpoch, TooLate, IsHeard, FailsHearing, IsForMaps, FailsForMaps}
use Rattle.cluster_model.specs.Makes.Pushes.{Sends, FailsPushing}
use Rattle.cluster_model.specs.Makes.Widens.{Adds, FailsWidening}
use Rattle.cluster_model.specs.Makes.FormsAt.{Does, HasNone, FailsForming}
use Rattle.cluster_model.specs.Makes.StartsUp.{Comes, FailsStarting}
use Rattle.cluster_model.specs.Makes.RunsShort.{Beginning, Hearing, Widening, Forming, Starting}
use Rattle.cluster_model.proofs.Slots.{read_after}
use Rattle.cluster_model.proofs.Lives.{nothing_behind}
use Rattle.cluster_owes.specs.Outcomes.{IsIdleStep}
use Rattle.cluster_owes.proofs.Standing.{StandsAs, IsWithinCalls, SameCall, NodeGoes, NoneNew, TicketsGo, same_call, call_through, same_up, still_tickets, quiet_node, slot_quiet, slot_falls, goes_on, missed_goes, put_goes, put_keeps}
use Rattle.cluster_owes.proofs.NodeSteps.{hear_goes, widen_goes, end_goes}

-- the first id of the boot of a ticket
abbrev pub boot_id : Number → Id
boot_id number = record { node = number.node; boot = number.boot; seq = 0 }

-- Tickets come from those that stood, or are new; and numbers stay within what their nodes drew.
pub record TicketsStep (old new : List Slot) (New : Number → Ticket → Type 0) : Type 0 where
  pub calls : (number : Number) → IsIdDrawn old (boot_id number) → IsWithinCalls old number → IsWithinCalls new number
  pub came : (number : Number) (ticket : Ticket) → StandsAs new number ticket → ((before : Ticket) × StandsAs old number before × SameCall before ticket) ⊎ New number ticket

pub steps_so : (old new : List Slot) (New : Number → Ticket → Type 0) → TicketsGo old new New → TicketsStep old new New
steps_so old new New go = record { calls = λ number drawn within. go.calls number within; came = go.came }

-- what a step does besides: the clock stays, and the book has these entries more
pub record StepGoes (old new : World) (New : Number → Ticket → Type 0) (entries : List BookEntry) : Type 0 where
  pub seconds : new.seconds ≡ old.seconds
  pub book : new.book ≡ old.book ++ entries
  pub tickets : TicketsStep old.slots new.slots New

-- entries that no client asked for
pub record AreLives (entries : List BookEntry) : Type 0 where
  pub acked : acked_in entries ≡ []
  pub struck : struck_in entries ≡ []
  pub dropped : dropped_in entries ≡ []

-- a step of which no session hears
pub record OtherGoes (old new : World) : Type 0 where
  pub entries : List BookEntry
  pub lives : AreLives entries
  pub goes : StepGoes old new NoneNew entries

nothing : (xs : List BookEntry) → xs ≡ xs ++ []
nothing [] = refl
nothing (x ∷ xs) = ap (λ (l : List BookEntry). x ∷ l) (nothing xs)

no_lives : AreLives []
no_lives = record { acked = refl; struck = refl; dropped = refl }

-- what befalls slots and letters alone
pub slots_go : (old new : World) → new.seconds ≡ old.seconds → new.book ≡ old.book → TicketsGo old.slots new.slots NoneNew → OtherGoes old new
slots_go old new seconds book tickets = record {
  entries = [];
  lives = no_lives;
  goes = record { seconds = seconds; book = book ∙ nothing old.book; tickets = steps_so old.slots new.slots NoneNew tickets };
}

pub same_world : (old new : World) → new ≡ old → OtherGoes old new
same_world old new same = subst (λ (w : World). OtherGoes old w) (sym same) (slots_go old old refl refl (still_tickets old.slots old.slots refl))

-- a node does something that begins no call
pub node_goes : (w : World) (own : ℕ) (node : Node) (disk : List Record) (did : Reaction) → IsUp w own node disk → NodeGoes node did.node NoneNew → OtherGoes w (after w own did)
node_goes w own node disk did up goes =
    let written : World = record w { slots = with_slot w.slots own (slot_up did.node did.disk) } in
    let kept = put_keeps has_room did.out written in
    slots_go w (after w own did) kept.0 kept.1 (goes_on w.slots written.slots (after w own did).slots (slot_quiet w.slots own node did.node disk did.disk up goes) (put_goes has_room did.out written))

-- a life changes, and the book has it
life_goes : (old : World) (n : ℕ) (before after : Slot) (entry : BookEntry) → slot_at old.slots n ≡ Some before → ((node : Node) → after.life ≡ Up node → ⊥) → AreLives (entry ∷ [])
    → OtherGoes old (record old { slots = with_slot old.slots n after; book = old.book ++ entry ∷ [] })
life_goes old n before after entry here none lives = record {
  entries = entry ∷ [];
  lives = lives;
  goes = record { seconds = refl; book = refl; tickets = steps_so old.slots (with_slot old.slots n after) NoneNew (slot_falls old.slots n before after here none) };
}

went_down : (n : ℕ) → AreLives (WentDown n ∷ [])
went_down n = record { acked = refl; struck = refl; dropped = refl }

pub cut_goes : (old new : World) (n : ℕ) (node : Node) (disk front pending : List Record) → IsUp old n node disk → new ≡ cut_world old n disk front pending → OtherGoes old new
cut_goes old new n node disk front pending up is = subst (λ (w : World). OtherGoes old w) (sym is)
    (life_goes old n (slot_up node disk) (record { life = Down pending; disk = disk ++ front }) (WentDown n) up (λ other e. cc e) (went_down n))

-- one after another
both_go : (a b c : World) → OtherGoes a b → TicketsGo b.slots c.slots NoneNew → c.seconds ≡ b.seconds → c.book ≡ b.book → OtherGoes a c
both_go a b c p tickets seconds book = record {
  entries = p.entries;
  lives = p.lives;
  goes = record {
    seconds = seconds ∙ p.goes.seconds;
    book = book ∙ p.goes.book;
    tickets = record {
      calls = λ number drawn within. tickets.calls number (p.goes.tickets.calls number drawn within);
      came = λ number ticket s. ⊎_elim
          (λ (mid, stood, call). ⊎_elim
          (λ (before, was, same). inl (before, was, call_through before mid ticket same call))
          (λ none. absurd none)
          (p.goes.tickets.came number mid stood))
          (λ none. absurd none)
          (tickets.came number ticket s);
    };
  };
}

-- what a node does for membership and maps leaves its tickets alone
forms_quietly : (body : Body) (node : Node) (disk : List Record) (did : Reaction) → FormsEpoch (with_stamps body node) disk did → NodeGoes node did.node NoneNew
forms_quietly body node disk did f = subst (λ (x : Node). NodeGoes node x NoneNew) (sym f.node_is) (quiet_node node (record (with_stamps body node) { installed = f.installed }) refl refl refl)

forms_still : (node : Node) (disk : List Record) (did : Reaction) → FormsEpoch node disk did → NodeGoes node did.node NoneNew
forms_still node disk did f = subst (λ (x : Node). NodeGoes node x NoneNew) (sym f.node_is) (quiet_node node (record node { installed = f.installed }) refl refl refl)

posts_go : (plan : Plan) (old new : World) (number : ℕ) (keep : Bool) (said : Said) → Posts plan old number keep said new → OtherGoes old new
posts_go plan old new number keep said (NobodyUp flies nobody is new_world) = subst (λ (w : World). OtherGoes old w) (sym new_world) (slots_go old _ refl refl (missed_goes DownKind old.slots flies.letter))
posts_go plan old new number keep said (OfOtherEpoch flies node disk up thrown is new_world) = subst (λ (w : World). OtherGoes old w) (sym new_world) (slots_go old _ refl refl (missed_goes StaleKind old.slots flies.letter))
posts_go plan old new number keep said (TooLate flies node disk up thrown is new_world) = subst (λ (w : World). OtherGoes old w) (sym new_world) (slots_go old _ refl refl (still_tickets old.slots old.slots refl))
posts_go plan old new number keep said (IsHeard flies node disk up thrown is new_world) = subst (λ (w : World). OtherGoes old w) (sym new_world)
    (let g = node_goes (record old { flying = flies_on old number flies keep }) flies.letter.to node disk (hear flies.letter.to plan.nodes node disk flies.letter) up (hear_goes flies.letter.to plan.nodes node disk flies.letter) in
    record { entries = g.entries; lives = g.lives; goes = record { seconds = g.goes.seconds; book = g.goes.book; tickets = g.goes.tickets } })
posts_go plan old new number keep said (FailsHearing flies node disk up thrown is down g new_world) = subst (λ (w : World). OtherGoes old w) (sym new_world)
    (both_go old down _ (cut_goes old down flies.letter.to node disk g.front g.pending up g.is) (missed_goes Disk down.slots flies.letter) refl refl)
posts_go plan old new number keep said (IsForMaps flies node disk up of fresh is did forms new_world) = subst (λ (w : World). OtherGoes old w) (sym new_world)
    (let g = node_goes (record old { flying = flies_on old number flies keep }) flies.letter.to node disk did up (forms_quietly flies.letter.body node disk did forms) in
    record { entries = g.entries; lives = g.lives; goes = record { seconds = g.goes.seconds; book = g.goes.book; tickets = g.goes.tickets } })
posts_go plan old new number keep said (FailsForMaps flies node disk promise up of fresh is down g new_world) = subst (λ (w : World). OtherGoes old w) (sym new_world)
    (let k = cut_goes old down flies.letter.to node disk g.front g.pending up g.is in
    record { entries = k.entries; lives = k.lives; goes = record { seconds = k.goes.seconds; book = k.goes.book; tickets = k.goes.tickets } })

-- Calls that read go on: letters alone are put in flight.
pub record OnlyLetters (old new : World) : Type 0 where
  pub slots : new.slots ≡ old.slots
  pub seconds : new.seconds ≡ old.seconds
  pub book : new.book ≡ old.book

sends_letters : (old new : World) (letters : List Letter) → SendsReading old letters new → OnlyLetters old new
sends_letters old new [] is = record { slots = ap (λ (w : World). w.slots) is; seconds = ap (λ (w : World). w.seconds) is; book = ap (λ (w : World). w.book) is }
sends_letters old new (letter ∷ letters) sends = let rest = sends_letters (with_letter old letter) new letters sends.1 in record { slots = rest.slots; seconds = rest.seconds; book = rest.book }

pub goes_letters : (old new : World) → GoesOnReading old new → OnlyLetters old new
goes_letters old new goes = sends_letters old new goes.letters goes.sends

-- so it is after a world in which these stay
pub reading_goes : (old mid new : World) → OtherGoes old mid → GoesOnReading mid new → OtherGoes old new
reading_goes old mid new other goes = let only = goes_letters mid new goes in both_go old mid new other (still_tickets mid.slots new.slots only.slots) only.seconds only.book

-- where letters alone are taken out
taken_goes : (old new : World) (flying : List Flight) → GoesOnReading (record old { flying = flying }) new → OtherGoes old new
taken_goes old new flying goes = reading_goes old (record old { flying = flying }) new (slots_go old (record old { flying = flying }) refl refl (still_tickets old.slots old.slots refl)) goes

posts_read_go : (old new : World) (number : ℕ) (keep : Bool) (said : Said) → PostsRead old number keep said new → OtherGoes old new
posts_read_go old new number keep said (PostsRead.NobodyUp flies body nobody is goes) = taken_goes old new (flies_on old number flies keep) goes
posts_read_go old new number keep said (PostsRead.OfOtherEpoch flies node disk body up stale is goes) = taken_goes old new (flies_on old number flies keep) goes
posts_read_go old new number keep said (PostsRead.TooLate flies node disk body up fresh answers is new_world) =
    subst (λ (w : World). OtherGoes old w) (sym new_world) (slots_go old _ refl refl (still_tickets old.slots old.slots refl))
posts_read_go old new number keep said (PostsRead.IsHeard flies node disk body up fresh is goes) = reading_goes old heard new
    (slots_go old heard refl refl (slot_quiet old.slots flies.letter.to node (with_stamps flies.letter.body node) disk disk up (quiet_node node (with_stamps flies.letter.body node) refl refl refl))) goes
  where
    heard : World
    heard = record old { slots = with_slot old.slots flies.letter.to (slot_up (with_stamps flies.letter.body node) disk); flying = flies_on old number flies keep }
posts_read_go old new number keep said (PostsRead.FailsForReads flies node disk body up fresh is goes) =
    let down = cut_world old flies.letter.to disk [] [] in
    let k = cut_goes old down flies.letter.to node disk [] [] up refl in
    reading_goes old (record down { flying = flies_on old number flies keep }) new
    (record { entries = k.entries; lives = k.lives; goes = record { seconds = k.goes.seconds; book = k.goes.book; tickets = k.goes.tickets } }) goes

-- a node starts
module _ (old : World) (n : ℕ) (disk pending : List Record) (node : Node) (records : List Record) (here : slot_at old.slots n ≡ Some (record { life = Down pending; disk = disk }))
    (rises : boot_of disk ≤ boot_of (disk ++ pending)) (starts : StartsNode n disk pending node records) where
  boot_is : node.boot ≡ boot_of (disk ++ starts.kept) + 1
  boot_is = ap (λ (x : Node). x.boot) starts.is

  kept_rises : boot_of disk ≤ boot_of (disk ++ starts.kept)
  kept_rises = ⊎_elim
      (λ none. subst (λ k. boot_of disk ≤ boot_of (disk ++ k)) (sym none) (subst (λ l. boot_of disk ≤ boot_of l) (sym (nothing_behind disk)) (le_refl (boot_of disk))))
      (λ all. subst (λ k. boot_of disk ≤ boot_of (disk ++ k)) (sym all) rises)
      starts.pending_is

  no_tickets : (seq : ℕ) (ticket : Ticket) → fin.get node.tickets seq ≡ Some ticket → ⊥
  no_tickets seq ticket e = clash (fin.get (fin.empty {R = nat_cmp}) seq) ticket (fin.get-empty nat_cmp seq) (ap (λ (x : Node). fin.get x.tickets seq) (sym starts.is) ∙ e)
    where
      clash : (o : Option Ticket) (t : Ticket) → o ≡ None → o ≡ Some t → ⊥
      clash o t p q = cc

  up_is : (other : Node) (others : List Record) → slot_up other others ≡ slot_up node records → other ≡ node
  up_is other others e = same_up other node others records (ap Some e)

  started_tickets : TicketsStep old.slots (with_slot old.slots n (slot_up node records)) NoneNew
  started_tickets = record {
    calls = λ number drawn within other others up boot. ⊎_elim
        (λ (at, is).
        let found : slot_at old.slots n ≡ Some drawn.slot = ap (slot_at old.slots) (sym at) ∙ drawn.here in
        let slot : drawn.slot ≡ record { life = Down pending; disk = disk } = same_slot drawn.slot (record { life = Down pending; disk = disk }) (sym found ∙ here) in
        let low : number.boot ≤ boot_of disk = subst (λ (s : Slot). DrawnIn s.life s.disk (boot_id number)) slot drawn.drawn in
        let now = boot ∙ ap (λ (x : Node). x.boot) (up_is other others is) ∙ boot_is in
        absurd (omega (arith, low, now, kept_rises)))
        (λ before. within other others before boot)
        (read_after old.slots n number.node (record { life = Down pending; disk = disk }) (slot_up node records) (slot_up other others) here up);
    came = λ number ticket s. ⊎_elim
        (λ (at, is). absurd (no_tickets number.seq ticket (ap (λ (x : Node). fin.get x.tickets number.seq) (sym (up_is s.node s.disk is)) ∙ s.here)))
        (λ before. inl (ticket, record { node = s.node; disk = s.disk; up = before; boot = s.boot; here = s.here }, same_call ticket))
        (read_after old.slots n number.node (record { life = Down pending; disk = disk }) (slot_up node records) (slot_up s.node s.disk) here s.up);
  }
    where
      same_slot : (a b : Slot) → Some a ≡ Some b → a ≡ b
      same_slot a b e = cc

  pub comes_goes : OtherGoes old (record old { slots = with_slot old.slots n (slot_up node records); book = old.book ++ CameUp n node.boot ∷ [] })
  comes_goes = record {
    entries = CameUp n node.boot ∷ [];
    lives = record { acked = refl; struck = refl; dropped = refl };
    goes = record { seconds = refl; book = refl; tickets = started_tickets };
  }

module _ (plan : Plan) (tells : Bool) (old new : World) (sound : Sound plan.confirm (cluster_of old)) where
  stops_go : (n : ℕ) (disk pending next records : List Record) → slot_at old.slots n ≡ Some (record { life = Down pending; disk = disk })
      → new ≡ record old { slots = with_slot old.slots n (record { life = Down next; disk = records }); book = old.book ++ WentDown n ∷ [] } → OtherGoes old new
  stops_go n disk pending next records here is = subst (λ (w : World). OtherGoes old w) (sym is)
      (life_goes old n (record { life = Down pending; disk = disk }) (record { life = Down next; disk = records }) (WentDown n) here (λ node e. cc e) (went_down n))

  falls_go : (n : ℕ) (life : Life) (entry : BookEntry) (said : Said) → ((node : Node) → life ≡ Up node → ⊥) → AreLives (entry ∷ []) → NodeFalls old n life entry said new → OtherGoes old new
  falls_go n life entry said none lives f = subst (λ (w : World). OtherGoes old w) (sym f.new_world) (life_goes old n f.slot (record f.slot { life = life }) entry f.here none lives)

  loses_go : (n : ℕ) (said : Said) → LosesNode old n said new → OtherGoes old new
  loses_go n said l = subst (λ (w : World). OtherGoes old w) (sym l.new_world)
      (life_goes old n l.slot (record { life = Lost; disk = l.slot.disk ++ l.kept }) (WasLost n) l.here (λ node e. cc e) (record { acked = refl; struck = refl; dropped = refl }))

  leaves_go : (user : List ℕ) (login : Number) (manager node : ℕ) (said : Said) → BeginsCall plan tells old node (Leave user login manager) said new → OtherGoes old new
  leaves_go user login manager node said (FailsAtOnce own disk kind up of_kind fails is new_world) = absurd (cc of_kind)
  leaves_go user login manager node said (Goes own disk octets up fails filed is new_world) = absurd filed
  leaves_go user login manager node said (FailsInIt own disk octets up filed is g) = absurd filed

  leaves_read : (user : List ℕ) (login : Number) (manager node : ℕ) (said : Said) → BeginsRead plan old node (Leave user login manager) said new → OtherGoes old new
  leaves_read user login manager node said (HasNoManager own disk other proof up is_call goes is new_world) = absurd (cc is_call)
  leaves_read user login manager node said (Draws own disk up draws goes is on) = absurd draws
  leaves_read user login manager node said (FailsReading own disk other id from most holders up is_call reads is new_world) = absurd (cc is_call)
  leaves_read user login manager node said (Leaves own disk other number at up is_call is on) = reading_goes old old new (same_world old old refl) on

  asks_go : (ticket : Number) (said : Said) → IsIdleStep (AskFor ticket) (Says said) → AnswersAsk plan old ticket said new → OtherGoes old new
  asks_go ticket said other (Waits node disk stood up found got wanted e is new_world) = same_world old new new_world
  asks_go ticket said other (Ends node disk stood up found answer e is new_world) = absurd (subst (λ s. IsIdleStep (AskFor ticket) (Says s)) is other)

  gives_up_mail : (ticket : Number) (said : Said) → IsGivenUp old ticket said new → OtherGoes old new
  gives_up_mail ticket said d = subst (λ (w : World). OtherGoes old w) (sym d.new_world) (node_goes old ticket.node d.node d.disk (end_ticket ticket.seq d.node d.disk) d.up (end_goes ticket.seq d.node d.disk))

  pub gives_up_go : (ticket : Number) (said : Said) → DoesStep plan tells old (GiveUp ticket) said new → OtherGoes old new
  gives_up_go ticket said (inl mail) = gives_up_mail ticket said mail
  gives_up_go ticket said (inr read) = reading_goes old old new (same_world old old refl) read.goes_on

  drops_go : (letter : ℕ) (said : Said) → DoesStep plan tells old (DropLetter letter) said new → OtherGoes old new
  drops_go letter said (inl (d, body)) = subst (λ (w : World). OtherGoes old w) (sym d.new_world) (slots_go old _ refl refl (missed_goes Dropped old.slots d.flies.letter))
  drops_go letter said (inr d) = taken_goes old new (flies_on old letter d.flies false) d.goes_on

  pushes_go : (own to : ℕ) (said : Said) → Pushes old own to said new → OtherGoes old new
  pushes_go own to said (Sends node disk up is new_world) = subst (λ (w : World). OtherGoes old w) (sym new_world)
      (node_goes old own node disk (push own to (keys_pushed old.flying own to node disk) node disk) up (quiet_node node node refl refl refl))
  pushes_go own to said (FailsPushing node disk up is new_world) = cut_goes old new own node disk [] [] up new_world

  widens_go : (own to : ℕ) (key : Key) (said : Said) → Widens old own to key said new → OtherGoes old new
  widens_go own to key said (Adds node disk up is new_world) = subst (λ (w : World). OtherGoes old w) (sym new_world) (node_goes old own node disk (widen own to key node disk) up (widen_goes own to key node disk))
  widens_go own to key said (FailsWidening node disk up is g) = cut_goes old new own node disk g.front g.pending up g.is

  forms_go : (own : ℕ) (said : Said) → FormsAt old own said new → OtherGoes old new
  forms_go own said (Does node disk up is did forms new_world) = subst (λ (w : World). OtherGoes old w) (sym new_world) (node_goes old own node disk did up (forms_still node disk did forms))
  forms_go own said (HasNone is new_world) = same_world old new new_world
  forms_go own said (FailsForming node disk promise up is g) = cut_goes old new own node disk g.front g.pending up g.is

  starts_go : (n : ℕ) (said : Said) → StartsUp plan old n said new → OtherGoes old new
  starts_go n said (Comes disk pending node records here starts below is new_world) = subst (λ (w : World). OtherGoes old w) (sym new_world)
      (comes_goes old n disk pending node records here (sound.order.each n (record { life = Down pending; disk = disk }) here).rises starts)
  starts_go n said (FailsStarting disk pending next records here stops is new_world) = stops_go n disk pending next records here new_world

  does_go : (step : Step) (said : Said) → IsIdleStep step (Says said) → DoesStep plan tells old step said new → OtherGoes old new
  does_go (Begin node (Leave user login manager)) said other (inl d) = leaves_go user login manager node said d
  does_go (Begin node (Leave user login manager)) said other (inr d) = leaves_read user login manager node said d
  does_go (Begin node (Deliver mail)) said other d = absurd other
  does_go (Begin node (Login user proof)) said other d = absurd other
  does_go (Begin node (Fetch user id from most holders)) said other d = absurd other
  does_go (Begin node (Strike user items)) said other d = absurd other
  does_go (AskFor ticket) said other (inl d) = asks_go ticket said other d
  does_go (AskFor ticket) said other (inr d) = same_world old new d.new_world
  does_go (GiveUp ticket) said other d = gives_up_go ticket said d
  does_go (Post letter keep) said other (inl d) = posts_go plan old new letter keep said d.0
  does_go (Post letter keep) said other (inr d) = posts_read_go old new letter keep said d
  does_go (DropLetter letter) said other d = drops_go letter said d
  does_go (PushTo from to) said other d = pushes_go from to said d
  does_go (Widen at user id to) said other d = widens_go at to (Message user id) said d
  does_go (Form node) said other d = forms_go node said d
  does_go (Crash node) said other d = falls_go node (Down []) (WentDown node) said (λ n e. cc e) (went_down node) d
  does_go (Start node) said other d = starts_go node said d
  does_go (Lose node) said other d = loses_go node said d
  does_go (Tick seconds) said other d = absurd other

  begins_short : (n : ℕ) (call : NodeCall) (node : Node) (disk : List Record) (octets : List ℕ) → IsIdleStep (Begin n call) (NoMemory (Some n)) → IsFiled old n node call octets → OtherGoes old new
  begins_short n (Deliver mail) node disk octets other filed = absurd other
  begins_short n (Login user proof) node disk octets other filed = absurd other
  begins_short n (Fetch user id from most holders) node disk octets other filed = absurd other
  begins_short n (Strike user items) node disk octets other filed = absurd other
  begins_short n (Leave user login manager) node disk octets other filed = absurd filed

  short_goes : (step : Step) (n : ℕ) → IsIdleStep step (NoMemory (Some n)) → RunsShort plan old step n new → OtherGoes old new
  short_goes step n other (Beginning call node disk octets is up filed g) = begins_short n call node disk octets (subst (λ s. IsIdleStep s (NoMemory (Some n))) is other) filed
  short_goes step n other (Hearing number keep flies node disk is at up g) = cut_goes old new n node disk g.front g.pending up g.is
  short_goes step n other (Widening user id to node disk is up g) = cut_goes old new n node disk g.front g.pending up g.is
  short_goes step n other (Forming node disk promise up forms g) = cut_goes old new n node disk g.front g.pending up g.is
  short_goes step n other (Starting disk pending next records is here stops new_world) = stops_go n disk pending next records here new_world

  pub other_goes : (step : Step) (outcome : StepOutcome) → IsIdleStep step outcome → MakesStep plan tells old step outcome new → OtherGoes old new
  other_goes step (Says said) other made = does_go step said other made.1
  other_goes step (Refused fault) other made = same_world old new made.1
  other_goes step (NoMemory None) other made = same_world old new made
  other_goes step (NoMemory (Some n)) other made = short_goes step n other made
