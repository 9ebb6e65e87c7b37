-- What a step makes of the nodes as maps see them, and of the letters in flight.
use Rattle.std.proofs.Common.{◌≡◌, ◌≢◌, inl, inr, ⊎_elim, ℕ, zero, suc, ◌+◌, ◌*◌, ◌≤◌, ◌<◌, Bool, true, false, ◌&&◌, List, [], ◌∷◌, ◌++◌, append-nil, append_assoc, map, length, drop, Option, Some, None, refl, sym, ap, ◌∙◌, subst, true≢false, nat_lt, nat_le, arith, if◌then◌else◌}
use Rattle.std.specs.Prelude.{slice_get, slice_set}
use Rattle.std.proofs.lemmas.Bool.{lt-ltb, le-leb}
use Rattle.mail_model.specs.Plan.{Plan}
use Rattle.mail_model.specs.Record.{Record}
use Rattle.object_model.specs.Lists.{Among}
use Rattle.object_model.specs.Letters.{Membership, Letter, is_read_body}
use Rattle.object_model.specs.Mishaps.MishapKind.{Down as DownKind}
use Rattle.object_model.proofs.Lists.{get_same}
use Rattle.cluster_model.specs.Cluster as mail_cluster
use Rattle.cluster_model.specs.Thrown as mail_thrown
use Rattle.cluster_model.specs.Thrown.{Why, is_stale, is_late}
use Rattle.cluster_model.specs.Thrown.Why.{Stale, Late, WhileDown}
use Rattle.cluster_model.specs.Room.{Flight, octets_of, octets_flying, message_octets, has_room, fits, most_letters, most_octets}
use Rattle.cluster_model.specs.World as mail
use Rattle.cluster_model.specs.Steps as mail_steps
use Rattle.cluster_model.specs.Steps.Step.{Post, Start}
use Rattle.cluster_model.specs.Steps.Said.{Thrown, Faulted}
use Rattle.cluster_model.specs.Makes as mail_makes
use Rattle.cluster_model.specs.Makes.Posts.{NobodyUp, OfOtherEpoch, TooLate, IsHeard, FailsHearing as MailFails, IsForMaps, FailsForMaps}
use Rattle.maps_model.specs.Cluster as maps
use Rattle.maps_model.specs.Rules as maps_rules
use Rattle.whole_model.specs.Whole.{Node, Life, Slot, slot_at, with_slot, mail_slot, maps_disk_of}
use Rattle.whole_model.specs.Whole.Life.{Up, Down, Lost}
use Rattle.whole_model.specs.Rules.{follows, IsMailBody, IsMapsBody}
use Rattle.whole_world.specs.World.{World, mail_world_of, slot_up, IsUp, FollowsAlong, Reaction, put}
use Rattle.whole_world.specs.Thrown.{refused_by}
use Rattle.whole_world.specs.Steps.{Said}
use Rattle.whole_world.specs.Steps.Step.{OfMessages}
use Rattle.whole_world.specs.Steps.Said.{Told}
use Rattle.whole_world.specs.Steps.StepOutcome.{Says}
use Rattle.whole_world.specs.Makes.{done_for_maps, learnt, promise_by, said_of, HearsMaps, DoesStep, MakesStep}
use Rattle.whole_world.specs.Makes.HearsMaps.{Hears, FailsHearing}
use Rattle.whole_world.specs.Makes.DoesStep.{ForMessages, PostsMaps, Starts, OpensGroup, ConcludesGroup, SendsReports}
use Rattle.whole_world.specs.Regroup.{maps_in, maps_of_slot, maps_at, HasRoomFor}
use Rattle.whole_world.proofs.Along.{mail_here, unseen_at}
use Rattle.whole_world.proofs.Keeping.{maps_not_mail}
use Rattle.whole_world.proofs.Stepwise.{read_is_mail}
use Rattle.cluster_model.proofs.Reading.{fetch_reads}
use Rattle.whole_world.proofs.Seeing.{put_slots}

-- slots that are written, read
set_other : {X : Type 0} (xs : List X) (k m : ℕ) (x : X) → m ≢ k → slice_get (slice_set xs k x) m ≡ slice_get xs m
set_other [] k m x apart = refl
set_other (y ∷ xs) zero zero x apart = absurd (apart refl)
set_other (y ∷ xs) zero (suc m) x apart = refl
set_other (y ∷ xs) (suc k) zero x apart = refl
set_other (y ∷ xs) (suc k) (suc m) x apart = set_other xs k m x (λ e. apart (ap suc e))

pub slot_other : (slots : List Slot) (n m : ℕ) (x : Slot) → m ≢ n → slot_at (with_slot slots n x) m ≡ slot_at slots m
slot_other slots zero m x apart = refl
slot_other slots (suc k) zero x apart = refl
slot_other slots (suc k) (suc m) x apart = set_other slots k m x (λ e. apart (ap suc e))

pub slot_here : (slots : List Slot) (n : ℕ) (x y : Slot) → slot_at slots n ≡ Some x → slot_at (with_slot slots n y) n ≡ Some y
slot_here slots zero x y e = absurd (cc e)
slot_here slots (suc k) x y e = get_same slots k x y e

-- letters that are light are put in flight with the next numbers
abbrev pub numbered : ℕ → List Letter → List Flight
numbered k [] = []
numbered k (letter ∷ letters) = record { number = k + 1; letter = letter } ∷ numbered (k + 1) letters

abbrev pub AreLight : List Letter → Type 0
AreLight letters = (letter : Letter) → Among letter letters → message_octets letter.body ≡ 0

abbrev pub AreLightFlights : List Flight → Type 0
AreLightFlights flights = (flight : Flight) → Among flight flights → message_octets flight.letter.body ≡ 0

pub length_both : (xs ys : List Flight) → length (xs ++ ys) ≡ length xs + length ys
length_both [] ys = none (length ys)
  where
    none : (a : ℕ) → a ≡ 0 + a
    none a = omega arith
length_both (x ∷ xs) ys = ap suc (length_both xs ys) ∙ (one (length xs) (length ys))
  where
    one : (a b : ℕ) → suc (a + b) ≡ suc a + b
    one a b = omega arith

octets_light : (xs ys : List Flight) → AreLightFlights ys → octets_flying (xs ++ ys) ≡ octets_flying xs + 64 * length ys
octets_light [] [] light = omega arith
octets_light [] (y ∷ ys) light = by (message_octets y.letter.body) (octets_flying ys) (length ys) (light y (inl refl)) (octets_light [] ys (λ f m. light f (inr m)))
  where
    by : (o rest n : ℕ) → o ≡ 0 → rest ≡ 0 + 64 * n → (64 + o) + rest ≡ 0 + 64 * suc n
    by o rest n p q = omega (arith, p, q)
octets_light (x ∷ xs) ys light = ap (λ r. octets_of x.letter + r) (octets_light xs ys light) ∙ (one (octets_of x.letter) (octets_flying xs) (64 * length ys))
  where
    one : (a b c : ℕ) → a + (b + c) ≡ (a + b) + c
    one a b c = omega arith

-- a light letter finds room beside light ones
pub room_beside : (count : ℕ) (base more : List Flight) (letter : Letter) → HasRoomFor count base → AreLightFlights more → length more + 1 ≤ count → message_octets letter.body ≡ 0 → has_room (base ++ more) letter ≡ true
room_beside count base more letter room light few none = both (nat_lt (length (base ++ more)) most_letters) (nat_le (octets_flying (base ++ more) + octets_of letter) most_octets)
    (lt-ltb (length (base ++ more)) most_letters (letters (length base) (length more) (length (base ++ more)) count room.letters few (length_both base more)))
    (le-leb (octets_flying (base ++ more) + octets_of letter) most_octets
    (octets (octets_flying base) (length more) (octets_flying (base ++ more)) (message_octets letter.body) count room.octets few (octets_light base more light) none))
  where
    both : (a b : Bool) → a ≡ true → b ≡ true → (a && b) ≡ true
    both true b p q = q
    both false b p q = absurd (true≢false (sym p))

    letters : (base more all count : ℕ) → base + count ≤ most_letters → more + 1 ≤ count → all ≡ base + more → all < most_letters
    letters base more all count p q e = omega (arith, p, q, e)

    octets : (base more all body count : ℕ) → base + 64 * count ≤ most_octets → more + 1 ≤ count → all ≡ base + 64 * more → body ≡ 0 → all + (64 + body) ≤ most_octets
    octets base more all body count p q e z = omega (arith, p, q, e, z)

pub record AllPut (letters : List Letter) (w new : World) : Type 0 where
  pub flying : new.flying ≡ w.flying ++ numbered w.sent letters
  pub sent : new.sent ≡ w.sent + length letters

pub put_all : (count : ℕ) (base : List Flight) (letters : List Letter) (more : List Flight) (w : World) → w.flying ≡ base ++ more → HasRoomFor count base → AreLightFlights more → AreLight letters
    → length more + length letters ≤ count → AllPut letters w (put letters w)
put_all count base [] more w is room light lights few = record { flying = sym (append-nil w.flying); sent = zero_more w.sent }
  where
    zero_more : (a : ℕ) → a ≡ a + 0
    zero_more a = omega arith
put_all count base (letter ∷ letters) more w is room light lights few = by (put_all count base letters (more ++ one ∷ []) flown (ap (λ (f : List Flight). f ++ one ∷ []) is ∙ append_assoc base more (one ∷ [])) room
    light_more (λ l m. lights l (inr m)) (subst (λ k. k + length letters ≤ count) (sym (length_both more (one ∷ []))) (omega (arith, few)))) (has_room w.flying letter)
    (ap (λ (f : List Flight). has_room f letter) is ∙ room_beside count base more letter room light (omega (arith, few)) (lights letter (inl refl)))
  where
    one : Flight
    one = record { number = w.sent + 1; letter = letter }

    flown : World
    flown = record w { flying = w.flying ++ one ∷ []; sent = w.sent + 1 }

    light_more : AreLightFlights (more ++ one ∷ [])
    light_more f m = ⊎_elim (λ a. light f a) (λ b. ⊎_elim (λ e. subst (λ (x : Flight). message_octets x.letter.body ≡ 0) e (lights letter (inl refl))) (λ none. absurd none) b) (Rattle.object_model.proofs.Lists.among_either f more (one ∷ []) m)

    sums : (a b : ℕ) → (a + 1) + b ≡ a + suc b
    sums a b = omega arith

    by : AllPut letters flown (put letters flown) → (b : Bool) → b ≡ true → AllPut (letter ∷ letters) w (if b then put letters flown else put letters w)
    by rest true e = record { flying = rest.flying ∙ append_assoc w.flying (one ∷ []) (numbered (w.sent + 1) letters); sent = rest.sent ∙ sums w.sent (length letters) }
    by rest false e = absurd (true≢false (sym e))

-- A flight of a number that no other has is the only one there.
pub split_one : (number : ℕ) (letter other : Letter) (xs ys front back : List Flight)
    → xs ++ record { number = number; letter = letter } ∷ ys ≡ front ++ record { number = number; letter = other } ∷ back
    → ((f : Flight) → Among f xs → f.number ≢ number) → ((f : Flight) → Among f ys → f.number ≢ number)
    → (letter ≡ other) × (xs ≡ front) × (ys ≡ back)
split_one number letter other [] ys [] back e nx ny = (ap (λ (f : Flight). f.letter) (head e), refl, tails e)
  where
    head : ◌≡◌ {A = List Flight} (record { number = number; letter = letter } ∷ ys) (record { number = number; letter = other } ∷ back) → ◌≡◌ {A = Flight} (record { number = number; letter = letter }) (record { number = number; letter = other })
    head h = cc

    tails : ◌≡◌ {A = List Flight} (record { number = number; letter = letter } ∷ ys) (record { number = number; letter = other } ∷ back) → ys ≡ back
    tails h = cc
split_one number letter other [] ys (g ∷ front) back e nx ny = absurd (ny (record { number = number; letter = other }) (subst (Among (record { number = number; letter = other })) (sym (tails e)) (inside front)) refl)
  where
    tails : ◌≡◌ {A = List Flight} (record { number = number; letter = letter } ∷ ys) (g ∷ (front ++ record { number = number; letter = other } ∷ back)) → ys ≡ front ++ record { number = number; letter = other } ∷ back
    tails h = cc

    inside : (front : List Flight) → Among (record { number = number; letter = other }) (front ++ record { number = number; letter = other } ∷ back)
    inside [] = inl refl
    inside (f ∷ fs) = inr (inside fs)
split_one number letter other (x ∷ xs) ys [] back e nx ny = absurd (nx x (inl refl) (ap (λ (f : Flight). f.number) (head e)))
  where
    head : x ∷ (xs ++ record { number = number; letter = letter } ∷ ys) ≡ record { number = number; letter = other } ∷ back → x ≡ record { number = number; letter = other }
    head h = cc
split_one number letter other (x ∷ xs) ys (g ∷ front) back e nx ny =
    let r = split_one number letter other xs ys front back (tails e) (λ f m. nx f (inr m)) ny in
    (r.0, (λ i. head e i ∷ r.1 i), r.2)
  where
    head : x ∷ (xs ++ record { number = number; letter = letter } ∷ ys) ≡ g ∷ (front ++ record { number = number; letter = other } ∷ back) → x ≡ g
    head h = cc

    tails : x ∷ (xs ++ record { number = number; letter = letter } ∷ ys) ≡ g ∷ (front ++ record { number = number; letter = other } ∷ back)
        → xs ++ record { number = number; letter = letter } ∷ ys ≡ front ++ record { number = number; letter = other } ∷ back
    tails h = cc

-- a letter of the rounds: it carries no epoch and no ticket
pub record IsOfRounds (letter : Letter) : Type 0 where
  pub body : IsMapsBody letter.body
  pub fresh : (installed : Option Membership) → is_stale letter installed ≡ false
  pub answers : mail_thrown.answers_ticket letter.body ≡ false
  pub ticket : letter.ticket ≡ None

-- What becomes of such a letter that is posted and not kept, where its disk does not fail.
pub data Posted (w : World) (rest : List Flight) (letter : Letter) (said : Said) (new : World) : Type 0 where
  NotUp : maps_at w letter.to ≡ None → said ≡ Told (Thrown WhileDown) → new.flying ≡ rest → new.sent ≡ w.sent → ((r : ℕ) → maps_at new r ≡ maps_at w r) → Posted w rest letter said new
  Reached : (node : maps.Node) (disk : maps.Disk) (did : maps_rules.Reaction) → maps_at w letter.to ≡ Some node → maps_rules.Hears letter.to node disk letter letter.body did
      → said ≡ said_of (refused_by letter.to node letter.body) → maps_at new letter.to ≡ Some did.node → ((r : ℕ) → r ≢ letter.to → maps_at new r ≡ maps_at w r)
      → (putting : World) → putting.flying ≡ rest → putting.sent ≡ w.sent → new.flying ≡ (put did.out putting).flying → new.sent ≡ (put did.out putting).sent
      → Posted w rest letter said new

-- a step for messages that changes no slot of messages changes no node of maps
views_same : (w new : World) → map mail_slot new.slots ≡ map mail_slot w.slots → FollowsAlong w new → (r : ℕ) → maps_at new r ≡ maps_at w r
views_same w new same follow r = by (slot_at w.slots r) (slot_at new.slots r) refl refl
  where
    none_some : {X : Type 0} (x : X) → None ≡ Some x → ⊥
    none_some x e = cc

    nothing_more : (xs : List Record) → drop (length xs) xs ≡ []
    nothing_more [] = refl
    nothing_more (x ∷ xs) = nothing_more xs

    lives : (s t : Slot) → slot_at w.slots r ≡ Some s → slot_at new.slots r ≡ Some t → mail_slot t ≡ mail_slot s → (a b : Life) → s.life ≡ a → t.life ≡ b → maps_in b ≡ maps_in a
    lives s t h k e (Up x) (Up y) p q = ap (λ (n : maps.Node). Some n) (follow.each r s t h k x y p q ∙ ap (follows r x.maps s.disk) (ap (drop (length s.disk)) (ap (λ (m : mail_cluster.Slot). m.disk) e) ∙ nothing_more s.disk))
    lives s t h k e (Up x) (Down l) p q = absurd (clash (sym (ap (λ (z : Life). (mail_slot (record { life = z; disk = t.disk })).life) q) ∙ ap (λ (m : mail_cluster.Slot). m.life) e ∙ ap (λ (z : Life). (mail_slot (record { life = z; disk = s.disk })).life) p))
      where
        clash : mail_cluster.Life.Down l ≡ mail_cluster.Life.Up x.mail → ⊥
        clash z = cc
    lives s t h k e (Up x) Lost p q = absurd (clash (sym (ap (λ (z : Life). (mail_slot (record { life = z; disk = t.disk })).life) q) ∙ ap (λ (m : mail_cluster.Slot). m.life) e ∙ ap (λ (z : Life). (mail_slot (record { life = z; disk = s.disk })).life) p))
      where
        clash : mail_cluster.Life.Lost ≡ mail_cluster.Life.Up x.mail → ⊥
        clash z = cc
    lives s t h k e (Down l) (Up y) p q = absurd (clash (sym (ap (λ (z : Life). (mail_slot (record { life = z; disk = t.disk })).life) q) ∙ ap (λ (m : mail_cluster.Slot). m.life) e ∙ ap (λ (z : Life). (mail_slot (record { life = z; disk = s.disk })).life) p))
      where
        clash : mail_cluster.Life.Up y.mail ≡ mail_cluster.Life.Down l → ⊥
        clash z = cc
    lives s t h k e Lost (Up y) p q = absurd (clash (sym (ap (λ (z : Life). (mail_slot (record { life = z; disk = t.disk })).life) q) ∙ ap (λ (m : mail_cluster.Slot). m.life) e ∙ ap (λ (z : Life). (mail_slot (record { life = z; disk = s.disk })).life) p))
      where
        clash : mail_cluster.Life.Up y.mail ≡ mail_cluster.Life.Lost → ⊥
        clash z = cc
    lives s t h k e (Down l) (Down m) p q = refl
    lives s t h k e (Down l) Lost p q = refl
    lives s t h k e Lost (Down m) p q = refl
    lives s t h k e Lost Lost p q = refl

    some_same : {X : Type 0} (o : Option X) (a b : X) → o ≡ Some a → o ≡ Some b → a ≡ b
    some_same o a b p q = cc

    by : (o p : Option Slot) → slot_at w.slots r ≡ o → slot_at new.slots r ≡ p → maps_of_slot (slot_at new.slots r) ≡ maps_of_slot (slot_at w.slots r)
    by None None h k = ap maps_of_slot (k ∙ sym h)
    by (Some s) None h k =
        let u = unseen_at new.slots r (mail_slot s) (ap (λ (l : List mail_cluster.Slot). mail_cluster.slot_at l r) same ∙ mail_here w.slots r s h) in absurd (none_some u.0 (sym k ∙ u.1))
    by None (Some t) h k =
        let u = unseen_at w.slots r (mail_slot t) (ap (λ (l : List mail_cluster.Slot). mail_cluster.slot_at l r) (sym same) ∙ mail_here new.slots r t k) in absurd (none_some u.0 (sym h ∙ u.1))
    by (Some s) (Some t) h k =
        let e : mail_slot t ≡ mail_slot s = some_same (mail_cluster.slot_at (map mail_slot w.slots) r) (mail_slot t) (mail_slot s) (ap (λ (l : List mail_cluster.Slot). mail_cluster.slot_at l r) (sym same) ∙ mail_here new.slots r t k) (mail_here w.slots r s h) in
        ap maps_of_slot k ∙ lives s t h k e s.life t.life refl refl ∙ sym (ap maps_of_slot h)

module _ (plan : Plan) (tells : Bool) (w new : World) (number : ℕ) (letter : Letter) (front back : List Flight) (is : w.flying ≡ front ++ record { number = number; letter = letter } ∷ back)
    (before : (f : Flight) → Among f front → f.number ≢ number) (behind : (f : Flight) → Among f back → f.number ≢ number) (of : IsOfRounds letter) where
  abbrev Seen : mail.World
  Seen = mail_world_of w

  same_flight : (f : mail.Flies Seen number) → (letter ≡ f.letter) × (front ≡ f.front) × (back ≡ f.back)
  same_flight f = split_one number letter f.letter front back f.front f.back (sym is ∙ f.is) before behind

  left_is : (f : mail.Flies Seen number) → mail.flies_on Seen number f false ≡ front ++ back
  left_is f = let s = same_flight f in λ i. sym s.1 i ++ sym s.2 i

  not_thrown : (node : mail_cluster.Node) (own : ℕ) (why : Why) → mail_thrown.thrown_by own node letter ≡ Some why → ⊥
  not_thrown node own why e = none_some why (sym (ap (λ (b : Bool). if b then Some Stale else (if is_late own node letter then Some Late else None)) (of.fresh node.installed)
      ∙ ap (λ (b : Bool). if b && mail_late then Some Late else None) of.answers) ∙ e)
    where
      mail_late : Bool
      mail_late = Rattle.std.specs.Prelude.not (Rattle.std.specs.Prelude.is_some (Rattle.cluster_model.specs.Rules.ticket_at own node letter.ticket))

      none_some : (y : Why) → None ≡ Some y → ⊥
      none_some y h = cc

  posts_mail : (answer : mail_steps.Said) → ((f : mail.Flies Seen number) (node : Node) (disk : List Record) → IsUp w f.letter.to node disk → is_stale f.letter node.mail.installed ≡ false → IsMailBody f.letter.body)
      → mail_makes.Posts plan Seen number false answer (mail_world_of new) → FollowsAlong w new → (said : Said) → said ≡ Told answer → Posted w (front ++ back) letter said new
  posts_mail answer for_mail (NobodyUp f nobody says new_world) follow said e =
      let s = same_flight f in
      NotUp (down (slot_at w.slots letter.to) refl) (e ∙ ap Told says) (ap (λ (x : mail.World). x.flying) new_world ∙ left_is f) (ap (λ (x : mail.World). x.sent) new_world)
      (views_same w new (ap (λ (x : mail.World). x.slots) new_world ∙ ap (mail.missed_under DownKind Seen.slots f.letter) (ap (λ (l : Letter). l.ticket) (sym s.0) ∙ of.ticket)) follow)
    where
      down : (o : Option Slot) → slot_at w.slots letter.to ≡ o → maps_of_slot o ≡ None
      down None h = refl
      down (Some slot) h = lives slot.life refl
        where
          lives : (life : Life) → slot.life ≡ life → maps_in slot.life ≡ None
          lives (Up x) l = absurd (nobody x.mail slot.disk (subst (λ (k : Letter). mail_makes.IsUp Seen k.to x.mail slot.disk) (same_flight f).0
              (mail_here w.slots letter.to slot h ∙ ap (λ (z : Life). Some (mail_slot (record { life = z; disk = slot.disk }))) l)))
          lives (Down p) l = ap maps_in l
          lives Lost l = ap maps_in l
  posts_mail answer for_mail (OfOtherEpoch f node disk up thrown says new_world) follow said e =
      absurd (not_thrown node letter.to Stale (subst (λ (k : Letter). mail_thrown.thrown_by k.to node k ≡ Some Stale) (sym (same_flight f).0) thrown))
  posts_mail answer for_mail (TooLate f node disk up thrown says new_world) follow said e =
      absurd (not_thrown node letter.to Late (subst (λ (k : Letter). mail_thrown.thrown_by k.to node k ≡ Some Late) (sym (same_flight f).0) thrown))
  posts_mail answer for_mail (IsHeard f node disk up thrown says new_world) follow said e =
      let u = Rattle.whole_world.proofs.Along.up_slot w.slots f.letter.to node disk up in
      absurd (maps_not_mail letter.body of.body (subst (λ (k : Letter). IsMailBody k.body) (sym (same_flight f).0)
      (for_mail f u.0 disk u.1 (subst (λ (k : Letter). is_stale k u.0.mail.installed ≡ false) (same_flight f).0 (of.fresh u.0.mail.installed)))))
  posts_mail answer for_mail (IsForMaps f node disk up maps fresh says did forms new_world) follow said e =
      let u = Rattle.whole_world.proofs.Along.up_slot w.slots f.letter.to node disk up in
      absurd (maps_not_mail letter.body of.body (subst (λ (k : Letter). IsMailBody k.body) (sym (same_flight f).0)
      (for_mail f u.0 disk u.1 (subst (λ (k : Letter). is_stale k u.0.mail.installed ≡ false) (same_flight f).0 (of.fresh u.0.mail.installed)))))
  posts_mail answer for_mail (FailsForMaps f node disk promise up maps fresh says down g new_world) follow said e =
      let u = Rattle.whole_world.proofs.Along.up_slot w.slots f.letter.to node disk up in
      absurd (maps_not_mail letter.body of.body (subst (λ (k : Letter). IsMailBody k.body) (sym (same_flight f).0)
      (for_mail f u.0 disk u.1 (subst (λ (k : Letter). is_stale k u.0.mail.installed ≡ false) (same_flight f).0 (of.fresh u.0.mail.installed)))))
  posts_mail answer for_mail (MailFails f node disk up thrown says down g new_world) follow said e =
      let u = Rattle.whole_world.proofs.Along.up_slot w.slots f.letter.to node disk up in
      absurd (maps_not_mail letter.body of.body (subst (λ (k : Letter). IsMailBody k.body) (sym (same_flight f).0)
      (for_mail f u.0 disk u.1 (subst (λ (k : Letter). is_stale k u.0.mail.installed ≡ false) (same_flight f).0 (of.fresh u.0.mail.installed)))))

  posts_maps : (said : Said) → ((n : ℕ) → said ≢ Told (Faulted n)) → HearsMaps w number false said new → Posted w (front ++ back) letter said new
  posts_maps said fine (Hears f node disk up body fresh did h says new_world) =
      let s = same_flight f in
      let now : Reaction = done_for_maps (learnt node f.letter.body) disk did (promise_by node.maps f.letter.body) did.out in
      let left : World = record w { flying = mail.flies_on Seen number f false } in
      let written : World = record left { slots = with_slot w.slots f.letter.to (slot_up now.node now.disk) } in
      let slots : new.slots ≡ with_slot w.slots f.letter.to (slot_up now.node now.disk) = ap (λ (x : World). x.slots) new_world ∙ put_slots did.out written in
      Reached node.maps (maps_disk_of disk) did
      (ap maps_of_slot (subst (λ (k : Letter). slot_at w.slots k.to ≡ Some (slot_up node disk)) (sym s.0) up))
      (subst (λ (k : Letter). maps_rules.Hears k.to node.maps (maps_disk_of disk) k k.body did) (sym s.0) h)
      (subst (λ (k : Letter). said ≡ said_of (refused_by k.to node.maps k.body)) (sym s.0) says)
      (ap maps_of_slot (ap (λ (l : List Slot). slot_at l letter.to) slots ∙ subst (λ (k : Letter). slot_at (with_slot w.slots f.letter.to (slot_up now.node now.disk)) k.to ≡ Some (slot_up now.node now.disk)) (sym s.0)
      (slot_here w.slots f.letter.to (slot_up node disk) (slot_up now.node now.disk) up)))
      (λ r apart. ap maps_of_slot (ap (λ (l : List Slot). slot_at l r) slots ∙ slot_other w.slots f.letter.to r (slot_up now.node now.disk) (λ e. apart (e ∙ ap (λ (k : Letter). k.to) (sym s.0)))))
      written (left_is f) refl (ap (λ (x : World). x.flying) new_world) (ap (λ (x : World). x.sent) new_world)
  posts_maps said fine (FailsHearing f node disk up body fresh says down g new_world) = absurd (fine f.letter.to says)

  pub posted : (said : Said) → MakesStep plan tells w (OfMessages (Post number false)) (Says said) new → ((n : ℕ) → said ≢ Told (Faulted n)) → Posted w (front ++ back) letter said new
  posted said (fits, ForMessages one step answer says for_mail does follow) fine =
      let same : one ≡ Post number false = inside one step in
      either same (subst (λ (k : mail_steps.Step). mail_makes.DoesStep plan tells Seen k answer (mail_world_of new)) same does)
    where
      inside : (k : mail_steps.Step) → OfMessages (Post number false) ≡ OfMessages k → k ≡ Post number false
      inside k e = cc

      either : one ≡ Post number false → mail_makes.DoesStep plan tells Seen (Post number false) answer (mail_world_of new) → Posted w (front ++ back) letter said new
      either same (inl d) = posts_mail answer (subst (Rattle.whole_world.specs.Makes.IsForMessages w) same for_mail) d.0 follow said says
      either same (inr d) = absurd (never (posted_read d))
        where
          posted_read : mail_makes.PostsRead Seen number false answer (mail_world_of new) → (f : mail.Flies Seen number) × (is_read_body f.letter.body ≡ true)
          posted_read (mail_makes.PostsRead.NobodyUp f of nobody told g) = (f, of)
          posted_read (mail_makes.PostsRead.OfOtherEpoch f node disk of up stale told g) = (f, of)
          posted_read (mail_makes.PostsRead.TooLate f node disk of up fresh late told e) = (f, of)
          posted_read (mail_makes.PostsRead.IsHeard f node disk of up fresh told g) = (f, of)
          posted_read (mail_makes.PostsRead.FailsForReads f node disk of up fresh told g) = (f, fetch_reads f.letter.body of)

          never : (f : mail.Flies Seen number) × (is_read_body f.letter.body ≡ true) → ⊥
          never (f, of_read) = maps_not_mail letter.body of.body (read_is_mail letter.body (subst (λ (k : Letter). is_read_body k.body ≡ true) (sym (same_flight f).0) of_read))
  posted said (fits, PostsMaps other keep step h) fine =
      let parts = inside other keep step in
      posts_maps said fine (subst (λ k. HearsMaps w k false said new) parts.0 (subst (λ b. HearsMaps w other b said new) parts.1 h))
    where
      inside : (k : ℕ) (b : Bool) → OfMessages (Post number false) ≡ OfMessages (Post k b) → (k ≡ number) × (b ≡ false)
      inside k b e = (cc, cc)
  posted said (fits, Starts n step h) fine = absurd (clash n step)
    where
      clash : (n : ℕ) → OfMessages (Post number false) ≡ OfMessages (Start n) → ⊥
      clash n e = cc
  posted said (fits, OpensGroup n step h) fine = absurd (cc step)
  posted said (fits, ConcludesGroup n step h) fine = absurd (cc step)
  posted said (fits, SendsReports from to step h) fine = absurd (cc step)
