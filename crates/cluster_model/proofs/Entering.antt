-- What a step adds to the book: confirmations only as a ticket ends, and then no disk is changed.
use Rattle.std.proofs.Common.{◌≡◌, ◌⊎◌, inl, inr, ⊎_elim, ℕ, ◌+◌, Bool, true, false, List, [], ◌∷◌, ◌++◌, append-nil, append_assoc, Some, None, refl, sym, ap, ◌∙◌, subst, if◌then◌else◌}
use Rattle.std.specs.Prelude.{⊤}
use Rattle.mail_model.specs.Identity.{Key}
use Rattle.mail_model.specs.Identity.Key.{Message}
use Rattle.mail_model.specs.Plan.{Plan}
use Rattle.mail_model.specs.Record.{Record}
use Rattle.mail_model.specs.Book.{BookEntry}
use Rattle.mail_model.specs.Book.BookEntry.{Acknowledged, Struck as StruckEntry, Dropped, WentDown, CameUp, WasLost}
use Rattle.object_model.specs.Letters.{Number, Letter}
use Rattle.object_model.specs.Mishaps.MishapKind.{Crowded}
use Rattle.object_model.specs.Lists.{Among}
use Rattle.object_model.proofs.Lists.{among_either, same_some}
use Rattle.cluster_model.specs.Cluster.{Slot, slot_at, with_slot}
use Rattle.cluster_model.specs.Rules.{Reaction, push, widen, end_ticket, refuse}
use Rattle.cluster_model.specs.Deeds.{slot_up, hear}
use Rattle.cluster_model.specs.Room.{Flight, has_room, keys_pushed}
use Rattle.cluster_model.specs.World.{World, missed, put, flies_on}
use Rattle.cluster_model.specs.Progress.{entries_with}
use Rattle.cluster_model.specs.Steps.{Struck, NodeCall, Step, Said, StepOutcome, mishaps_of_call, ids_drawn}
use Rattle.cluster_model.specs.Steps.NodeCall.{Deliver, Login, Fetch, Strike, Leave}
use Rattle.cluster_model.specs.Steps.Step.{Begin, AskFor, GiveUp, Post, DropLetter, PushTo, Widen, Form, Crash, Start, Lose, Tick}
use Rattle.cluster_model.specs.Steps.StepOutcome.{Says, Refused, NoMemory}
use Rattle.cluster_model.specs.Makes.{after, struck_entries, with_struck, cut_world, begun_by, BeginsCall, AnswersAsk, Posts, Pushes, Widens, FormsAt, StartsUp, RunsShort, DoesStep, MakesStep}
use Rattle.cluster_model.specs.Makes.BeginsCall.{FailsAtOnce, Goes, FailsInIt}
use Rattle.cluster_model.specs.Makes.AnswersAsk.{Waits, Ends}
use Rattle.cluster_model.specs.Makes.Posts.{NobodyUp, OfOtherEpoch, TooLate, IsHeard, FailsHearing, IsForMaps, FailsForMaps}
use Rattle.cluster_model.specs.Makes.Pushes.{Sends, FailsPushing}
use Rattle.cluster_model.specs.Makes.Widens.{Adds, FailsWidening}
use Rattle.cluster_model.specs.Makes.FormsAt.{Does, HasNone, FailsForming}
use Rattle.cluster_model.specs.Makes.StartsUp.{Comes, FailsStarting}
use Rattle.cluster_model.specs.Makes.RunsShort.{Beginning, Hearing, Widening, Forming, Starting}
use Rattle.cluster_model.proofs.Slots.{read_after}
use Rattle.cluster_model.proofs.Reading.{SeesOne, SeesFall, begins_seen, answers_seen, gives_up_seen, posts_seen, drops_seen}
use Rattle.cluster_model.proofs.Reading.SeesOne.{Turns, Refuses, Sends as SendsOne, Takes}

-- the entry says that something is confirmed
abbrev pub IsConfirmation : BookEntry → Type 0
IsConfirmation (Acknowledged copy) = ⊤
IsConfirmation (StruckEntry user id) = ⊥
IsConfirmation (Dropped user id confirmers) = ⊤
IsConfirmation (WentDown node) = ⊥
IsConfirmation (CameUp node boot) = ⊥
IsConfirmation (WasLost node) = ⊥

abbrev pub NoneConfirms : List BookEntry → Type 0
NoneConfirms entries = (entry : BookEntry) → Among entry entries → IsConfirmation entry → ⊥

-- no disk is changed
abbrev pub KeepsDisks : World → World → Type 0
KeepsDisks old new = (m : ℕ) (slot slot' : Slot) → slot_at old.slots m ≡ Some slot → slot_at new.slots m ≡ Some slot' → slot'.disk ≡ slot.disk

pub record Enters (old new : World) : Type 0 where
  pub entries : List BookEntry
  pub book : new.book ≡ old.book ++ entries
  pub confirms : NoneConfirms entries ⊎ KeepsDisks old new

none : NoneConfirms []
none entry m is = m

one_entry : (entry : BookEntry) → (IsConfirmation entry → ⊥) → NoneConfirms (entry ∷ [])
one_entry entry not other (inl same) is = not (subst IsConfirmation (sym same) is)
one_entry entry not other (inr m) is = m

struck_none : (user : List ℕ) (items : List Struck) → NoneConfirms (struck_entries user items)
struck_none user [] entry m is = m
struck_none user (item ∷ items) entry (inl same) is = subst IsConfirmation (sym same) is
struck_none user (item ∷ items) entry (inr m) is = struck_none user items entry m is

both_none : (xs ys : List BookEntry) → NoneConfirms xs → NoneConfirms ys → NoneConfirms (xs ++ ys)
both_none xs ys p q entry m is = ⊎_elim (λ a. p entry a is) (λ b. q entry b is) (among_either entry xs ys m)

put_book : (room : List Flight → Letter → Bool) (letters : List Letter) (w : World) → (put room letters w).book ≡ w.book
put_book room [] w = refl
put_book room (letter ∷ letters) w = by (λ v. put_book room letters v) (room w.flying letter)
  where
    by : ((v : World) → (put room letters v).book ≡ v.book) → (b : Bool)
        → (if b then put room letters (record w { flying = w.flying ++ record { number = w.sent + 1; letter = letter } ∷ []; sent = w.sent + 1 })
        else put room letters (record w { slots = missed Crowded w.slots letter })).book ≡ w.book
    by rest true = rest (record w { flying = w.flying ++ record { number = w.sent + 1; letter = letter } ∷ []; sent = w.sent + 1 })
    by rest false = rest (record w { slots = missed Crowded w.slots letter })

after_book : (w : World) (own : ℕ) (did : Reaction) → (after w own did).book ≡ w.book
after_book w own did = put_book has_room did.out (record w { slots = with_slot w.slots own (slot_up did.node did.disk) })

-- what calls that read enter is confirmed by none
abbrev Plainly : World → World → Type 0
Plainly old new = (entries : List BookEntry) × (new.book ≡ old.book ++ entries) × NoneConfirms entries

plainly_stays : (w : World) → Plainly w w
plainly_stays w = ([], sym (append-nil w.book), none)

plainly_then : (a b c : World) → Plainly a b → Plainly b c → Plainly a c
plainly_then a b c (first, is, quiet) (others, goes, still) = (first ++ others, goes ∙ ap (λ (l : List BookEntry). l ++ others) is ∙ append_assoc a.book first others, both_none first others quiet still)

sees_plainly : (a b : World) → SeesOne a b → Plainly a b
sees_plainly a b (Turns own node disk calls count up e) = ([], ap (λ (w : World). w.book) e ∙ sym (append-nil a.book), none)
sees_plainly a b (Refuses own node disk kind mishaps up e) = ([], ap (λ (w : World). w.book) e ∙ sym (append-nil a.book), none)
sees_plainly a b (SendsOne letter l e) = ([], ap (λ (w : World). w.book) e ∙ sym (append-nil a.book), none)
sees_plainly a b (Takes number flies keep of e) = ([], ap (λ (w : World). w.book) e ∙ sym (append-nil a.book), none)

fall_plainly : (own : ℕ) (a b : World) → SeesFall own a b → Plainly a b
fall_plainly own a b f = (WentDown own ∷ [], ap (λ (w : World). w.book) f.is, one_entry (WentDown own) (λ never. never))

module _ (old new : World) where
  plainly_enters : Plainly old new → Enters old new
  plainly_enters (entries, is, quiet) = record { entries = entries; book = is; confirms = inl quiet }

  with_entries : (entries : List BookEntry) → new.book ≡ old.book ++ entries → NoneConfirms entries → Enters old new
  with_entries entries e n = record { entries = entries; book = e; confirms = inl n }

  same_book : new.book ≡ old.book → Enters old new
  same_book e = with_entries [] (e ∙ sym (append-nil old.book)) none

  -- what a call that begins enters
  call_entries : (call : NodeCall) → (entries : List BookEntry) × ((with_struck old call).book ≡ old.book ++ entries) × NoneConfirms entries
  call_entries (Strike user items) = (struck_entries user items, refl, struck_none user items)
  call_entries (Deliver mail) = ([], sym (append-nil old.book), none)
  call_entries (Login user proof) = ([], sym (append-nil old.book), none)
  call_entries (Fetch user id from most holders) = ([], sym (append-nil old.book), none)
  call_entries (Leave user login manager) = ([], sym (append-nil old.book), none)

  begun_enters : (call : NodeCall) (own : ℕ) (did : Reaction) → new ≡ after (with_struck old call) own did → Enters old new
  begun_enters call own did e = let (entries, is, none_is) = call_entries call in
      with_entries entries (ap (λ (w : World). w.book) e ∙ after_book (with_struck old call) own did ∙ is) none_is

  down_enters : (n : ℕ) → new.book ≡ old.book ++ WentDown n ∷ [] → Enters old new
  down_enters n e = with_entries (WentDown n ∷ []) e (one_entry (WentDown n) (λ no. no))

  cut_enters : (n : ℕ) (disk front pending : List Record) → new ≡ cut_world old n disk front pending → Enters old new
  cut_enters n disk front pending e = down_enters n (ap (λ (w : World). w.book) e)

  call_cut_enters : (call : NodeCall) (n : ℕ) (disk front pending : List Record) → new ≡ cut_world (with_struck old call) n disk front pending → Enters old new
  call_cut_enters call n disk front pending e = let (entries, is, none_is) = call_entries call in
      with_entries (entries ++ WentDown n ∷ []) (ap (λ (w : World). w.book) e ∙ ap (λ b. b ++ WentDown n ∷ []) is ∙ append_assoc old.book entries (WentDown n ∷ []))
      (both_none entries (WentDown n ∷ []) none_is (one_entry (WentDown n) (λ never. never)))

  begins_enters : (plan : Plan) (tells : Bool) (own : ℕ) (call : NodeCall) (said : Said) → BeginsCall plan tells old own call said new → Enters old new
  begins_enters plan tells own call said (FailsAtOnce node disk kind up of_kind fails is e) = begun_enters call own (refuse kind (mishaps_of_call plan old.seconds node call) (ids_drawn call) node disk) e
  begins_enters plan tells own call said (Goes node disk octets up fails filed is e) = begun_enters call own (begun_by plan old own node disk call octets) e
  begins_enters plan tells own call said (FailsInIt node disk octets up filed is g) = call_cut_enters call own disk g.front g.pending g.is

  asks_enter : (plan : Plan) (number : Number) (said : Said) → AnswersAsk plan old number said new → Enters old new
  asks_enter plan number said (Waits node disk ticket up found got wanted pends is e) = same_book (ap (λ (w : World). w.book) e)
  asks_enter plan number said (Ends node disk ticket up found answer done is e) = record { entries = entries_with answer ticket; book = ap (λ (w : World). w.book) e; confirms = inr keeps }
    where
      keeps : KeepsDisks old new
      keeps m slot slot' here there = ⊎_elim
          (λ (same, now). let was : slot_up node disk ≡ slot = same_some (slot_at old.slots number.node) _ _ up (ap (slot_at old.slots) (sym same) ∙ here) in
          ap (λ (s : Slot). s.disk) now ∙ ap (λ (s : Slot). s.disk) was)
          (λ before. ap (λ (s : Slot). s.disk) (same_some (slot_at old.slots m) slot' slot before here))
          (read_after old.slots number.node m (slot_up node disk) _ slot' up (ap (λ (w : World). slot_at w.slots m) (sym e) ∙ there))

  posts_enter : (plan : Plan) (number : ℕ) (keep : Bool) (said : Said) → Posts plan old number keep said new → Enters old new
  posts_enter plan number keep said (NobodyUp flies nobody is e) = same_book (ap (λ (w : World). w.book) e)
  posts_enter plan number keep said (OfOtherEpoch flies node disk up thrown is e) = same_book (ap (λ (w : World). w.book) e)
  posts_enter plan number keep said (TooLate flies node disk up thrown is e) = same_book (ap (λ (w : World). w.book) e)
  posts_enter plan number keep said (IsHeard flies node disk up thrown is e) = same_book (ap (λ (w : World). w.book) e ∙ after_book (record old { flying = flies_on old number flies keep }) flies.letter.to (hear flies.letter.to plan.nodes node disk flies.letter))
  posts_enter plan number keep said (FailsHearing flies node disk up thrown is down g e) = down_enters flies.letter.to (ap (λ (w : World). w.book) e ∙ ap (λ (w : World). w.book) g.is)
  posts_enter plan number keep said (IsForMaps flies node disk up of fresh is did f e) = same_book (ap (λ (w : World). w.book) e ∙ after_book (record old { flying = flies_on old number flies keep }) flies.letter.to did)
  posts_enter plan number keep said (FailsForMaps flies node disk promise up of fresh is down g e) = down_enters flies.letter.to (ap (λ (w : World). w.book) e ∙ ap (λ (w : World). w.book) g.is)

  forms_enter : (own : ℕ) (said : Said) → FormsAt old own said new → Enters old new
  forms_enter own said (Does node disk up is did f e) = same_book (ap (λ (w : World). w.book) e ∙ after_book old own did)
  forms_enter own said (HasNone is e) = same_book (ap (λ (w : World). w.book) e)
  forms_enter own said (FailsForming node disk promise up is g) = cut_enters own disk g.front g.pending g.is

  pushes_enter : (own to : ℕ) (said : Said) → Pushes old own to said new → Enters old new
  pushes_enter own to said (Sends node disk up is e) = same_book (ap (λ (w : World). w.book) e ∙ after_book old own (push own to (keys_pushed old.flying own to node disk) node disk))
  pushes_enter own to said (FailsPushing node disk up is e) = cut_enters own disk [] [] e

  widens_enter : (own to : ℕ) (key : Key) (said : Said) → Widens old own to key said new → Enters old new
  widens_enter own to key said (Adds node disk up is e) = same_book (ap (λ (w : World). w.book) e ∙ after_book old own (widen own to key node disk))
  widens_enter own to key said (FailsWidening node disk up is g) = cut_enters own disk g.front g.pending g.is

  starts_enter : (plan : Plan) (n : ℕ) (said : Said) → StartsUp plan old n said new → Enters old new
  starts_enter plan n said (Comes disk pending node records here starts small is e) = with_entries (CameUp n node.boot ∷ []) (ap (λ (w : World). w.book) e) (one_entry (CameUp n node.boot) (λ no. no))
  starts_enter plan n said (FailsStarting disk pending next records here stops is e) = down_enters n (ap (λ (w : World). w.book) e)

  does_enter : (plan : Plan) (tells : Bool) (step : Step) (said : Said) → DoesStep plan tells old step said new → Enters old new
  does_enter plan tells (Begin node call) said (inl d) = begins_enters plan tells node call said d
  does_enter plan tells (Begin node call) said (inr d) = plainly_enters (begins_seen Plainly plainly_stays plainly_then sees_plainly plan node call said old new (λ n e a b f. fall_plainly n a b f) d)
  does_enter plan tells (AskFor ticket) said (inl d) = asks_enter plan ticket said d
  does_enter plan tells (AskFor ticket) said (inr d) = plainly_enters (answers_seen Plainly plainly_stays plainly_then sees_plainly ticket said old new d)
  does_enter plan tells (GiveUp ticket) said (inr d) = plainly_enters (gives_up_seen Plainly plainly_stays plainly_then sees_plainly ticket said old new d)
  does_enter plan tells (GiveUp ticket) said (inl d) = same_book (ap (λ (w : World). w.book) d.new_world ∙ after_book old ticket.node (end_ticket ticket.seq d.node d.disk))
  does_enter plan tells (Post letter keep) said (inl d) = posts_enter plan letter keep said d.0
  does_enter plan tells (Post letter keep) said (inr d) = plainly_enters (posts_seen Plainly plainly_stays plainly_then sees_plainly letter keep said old new (λ n e a b f. fall_plainly n a b f) d)
  does_enter plan tells (DropLetter letter) said (inl d) = same_book (ap (λ (w : World). w.book) d.0.new_world)
  does_enter plan tells (DropLetter letter) said (inr d) = plainly_enters (drops_seen Plainly plainly_stays plainly_then sees_plainly letter said old new d)
  does_enter plan tells (PushTo from to) said d = pushes_enter from to said d
  does_enter plan tells (Widen at user id to) said d = widens_enter at to (Message user id) said d
  does_enter plan tells (Form node) said d = forms_enter node said d
  does_enter plan tells (Crash node) said d = down_enters node (ap (λ (w : World). w.book) d.new_world)
  does_enter plan tells (Start node) said d = starts_enter plan node said d
  does_enter plan tells (Lose node) said d = with_entries (WasLost node ∷ []) (ap (λ (w : World). w.book) d.new_world) (one_entry (WasLost node) (λ no. no))
  does_enter plan tells (Tick seconds) said d = same_book (ap (λ (w : World). w.book) d.1)

  short_enters : (plan : Plan) (step : Step) (n : ℕ) → RunsShort plan old step n new → Enters old new
  short_enters plan step n (Beginning call node disk octets is up filed g) = call_cut_enters call n disk g.front g.pending g.is
  short_enters plan step n (Hearing number keep flies node disk is at up g) = cut_enters n disk g.front g.pending g.is
  short_enters plan step n (Widening user id to node disk is up g) = cut_enters n disk g.front g.pending g.is
  short_enters plan step n (Forming node disk promise up forms g) = cut_enters n disk g.front g.pending g.is
  short_enters plan step n (Starting disk pending next records is here stops e) = down_enters n (ap (λ (w : World). w.book) e)

  pub enters : (plan : Plan) (tells : Bool) (step : Step) (outcome : StepOutcome) → MakesStep plan tells old step outcome new → Enters old new
  enters plan tells step (Says said) m = does_enter plan tells step said m.1
  enters plan tells step (Refused fault) m = same_book (ap (λ (w : World). w.book) m.1)
  enters plan tells step (NoMemory None) m = same_book (ap (λ (w : World). w.book) m)
  enters plan tells step (NoMemory (Some n)) m = short_enters plan step n m
