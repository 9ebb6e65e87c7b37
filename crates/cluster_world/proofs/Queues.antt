-- Letters that are put in flight from a queue, of each world that nodes stand for.
use Rattle.std.proofs.Common.{◌≡◌, ◌⊎◌, inl, inr, ⊎_elim, ℕ, suc, ◌+◌, ◌<◌, Bool, true, false, List, [], ◌∷◌, ◌++◌, length, append-nil, Option, Some, None, refl, sym, ap, ◌∙◌, subst, arith, if◌then◌else◌}
use Rattle.std.proofs.lemmas.List.Elements.{All-append}
use Rattle.object_model.specs.Letters.{Number, Letter}
use Rattle.object_model.specs.Lists.{Among}
use Rattle.object_model.specs.Mishaps.MishapKind.{Crowded}
use Rattle.cluster_model.specs.Room.{Flight, fits, octets_of, octets_flying, has_room}
use Rattle.joint_world.specs.World.{World, with_letter}
use Rattle.joint_world.specs.Putting.{missed, put}
use Rattle.node_store.specs.Disks.{View}
use Rattle.node_reads.specs.Readings.{listed}
use Rattle.cluster_world.specs.Flights.{InFlight, with_flight}
use Rattle.cluster_world.specs.Hears.{CanBeHeard, AllCanBeHeard}
use Rattle.cluster_world.specs.Reading.{StandsFlying, StaysBeside, FliesOn, HasBefallen, LooksAt, PutsQueue, AreFor, AreOfOne, ticket_under, ticket_among, chances_for}
use Rattle.cluster_world.specs.declared.nodes.Nodes.{Nodes}
use Rattle.cluster_world.proofs.FlightLaws.{all_rest}
use Rattle.cluster_world.proofs.Passing.{stays_flying, flies_further, one_flies}

module _ {D : Type 0} (on : View D) where
  pub beside_same : (nodes : Nodes D) → StaysBeside on.seen nodes nodes
  beside_same nodes = record { plan = refl; disks = refl; lives = λ n. refl; falls = refl; works = λ w. w }

  pub beside_further : (a b c : Nodes D) → StaysBeside on.seen a b → StaysBeside on.seen b c → StaysBeside on.seen a c
  beside_further a b c first next = record {
    plan = next.plan ∙ first.plan;
    disks = next.disks ∙ first.disks;
    lives = λ n. next.lives n ∙ first.lives n;
    falls = next.falls ∙ first.falls;
    works = λ w. next.works (first.works w);
  }

  -- a letter that finds room
  pub finds_room : (letter : Letter) (letters octets : ℕ) (nodes : Nodes D) (flying flying' : InFlight) → letters ≡ length flying.flights → octets ≡ octets_flying flying.flights → fits letters octets (octets_of letter) ≡ true → flying' ≡ with_flight flying letter
      → LooksAt on letter None nodes flying nodes flying'
  finds_room letter letters octets nodes flying flying' count sum room is = record {
    beside = beside_same nodes;
    flies = subst (λ f. FliesOn flying f) (sym is) (one_flies flying letter);
    each = λ tells v s. (
      with_letter v letter,
      record {
        all = s.all;
        flies = ap (λ (f : InFlight). f.flights) is ∙ put_is v s.flies s.sent;
        sent = ap (λ (f : InFlight). f.sent) is ∙ ap (λ n. n + 1) s.sent;
      },
      (λ fuel queue.
          ap (λ b. if b then put tells fuel queue (with_letter v letter) else put tells fuel (queue ++ (missed tells Crowded v.slots letter).out) (record v { slots = (missed tells Crowded v.slots letter).slots })) (room_is v s.flies)
          ∙ ap (λ (q : List Letter). put tells fuel q (with_letter v letter)) (sym (append-nil queue))),
    );
    fewer = λ ticket of. ((λ one among. absurd among), omega arith);
  }
    where
      put_is : (v : World) → flying.flights ≡ v.flying → flying.sent ≡ v.sent → (with_flight flying letter).flights ≡ (with_letter v letter).flying
      put_is v f n = λ i. f i ++ record { number = n i + 1; letter = letter } ∷ []

      room_is : (v : World) → flying.flights ≡ v.flying → has_room v.flying letter ≡ true
      room_is v f = ap (λ (fs : List Flight). has_room fs letter) (sym f) ∙ ap (λ n. fits n (octets_flying flying.flights) (octets_of letter)) (sym count) ∙ ap (λ n. fits letters n (octets_of letter)) (sym sum) ∙ room

  -- one that does not
  pub finds_none : (letter : Letter) (out : Option Letter) (letters octets : ℕ) (old new : Nodes D) (flying : InFlight) → letters ≡ length flying.flights → octets ≡ octets_flying flying.flights → fits letters octets (octets_of letter) ≡ false
      → HasBefallen on Crowded letter out old new → LooksAt on letter out old flying new flying
  finds_none letter out letters octets old new flying count sum room befell = record {
    beside = befell.beside;
    flies = stays_flying flying;
    each = λ tells v s.
        let (all, out_is) = befell.each tells v.slots s.all in (
          record v { slots = (missed tells Crowded v.slots letter).slots },
          record { all = all; flies = s.flies; sent = s.sent },
          (λ fuel queue.
              ap (λ b. if b then put tells fuel queue (with_letter v letter) else put tells fuel (queue ++ (missed tells Crowded v.slots letter).out) (record v { slots = (missed tells Crowded v.slots letter).slots })) (room_is v s.flies)
              ∙ ap (λ (l : List Letter). put tells fuel (queue ++ l) (record v { slots = (missed tells Crowded v.slots letter).slots })) (sym out_is)),
        );
    fewer = befell.fewer;
  }
    where
      room_is : (v : World) → flying.flights ≡ v.flying → has_room v.flying letter ≡ false
      room_is v f = ap (λ (fs : List Flight). has_room fs letter) (sym f) ∙ ap (λ n. fits n (octets_flying flying.flights) (octets_of letter)) (sym count) ∙ ap (λ n. fits letters n (octets_of letter)) (sym sum) ∙ room

  -- So far letters of a queue were looked at, and these are left. What puts these in flight puts the queue in flight.
  pub record WereLooked (queue left : List Letter) (old : Nodes D) (flying : InFlight) (new : Nodes D) (flying' : InFlight) : Type 0 where
    pub beside : StaysBeside on.seen old new
    pub flies : FliesOn flying flying'
    pub each : (tells : Bool) (v : World) → StandsFlying on old flying v
        → (mid : World) × StandsFlying on new flying' mid × ((fuel : ℕ) (end : World) → put tells fuel left mid ≡ Some end → (more : ℕ) × (put tells more queue v ≡ Some end))
    pub of : AreFor (ticket_among queue) left

  pub none_looked : (queue : List Letter) (nodes : Nodes D) (flying : InFlight) → AreOfOne queue → WereLooked queue queue nodes flying nodes flying
  none_looked queue nodes flying of = record { beside = beside_same nodes; flies = stays_flying flying; each = λ tells v s. (v, s, (λ fuel end e. (fuel, e))); of = of }

  among_either : (letter : Letter) (xs ys : List Letter) → Among letter (xs ++ ys) → Among letter xs ⊎ Among letter ys
  among_either letter [] ys m = inr m
  among_either letter (x ∷ xs) ys (inl same) = inl (inl same)
  among_either letter (x ∷ xs) ys (inr m) = ⊎_elim (λ a. inl (inr a)) (λ b. inr b) (among_either letter xs ys m)

  pub one_looked : (queue left : List Letter) (letter : Letter) (out : Option Letter) (old mid new : Nodes D) (a b c : InFlight) → WereLooked queue (letter ∷ left) old a mid b → LooksAt on letter out mid b new c
      → WereLooked queue (left ++ listed out) old a new c
  one_looked queue left letter out old mid new a b c were looks = record {
    beside = beside_further old mid new were.beside looks.beside;
    flies = flies_further a b c were.flies looks.flies;
    each = λ tells v s.
        let (m, stands, goes) = were.each tells v s in
        let (n, now, step) = looks.each tells m stands in
        (n, now, (λ fuel end e. goes (suc fuel) end (step fuel left ∙ e)));
    of = λ one among. ⊎_elim (λ first. were.of one (inr first)) (λ last. (looks.fewer (ticket_among queue) (were.of letter (inl refl))).0 one last) (among_either one left (listed out) among);
  }

  pub fewer_looked : (queue left : List Letter) (letter : Letter) (out : Option Letter) (old mid new : Nodes D) (a b c : InFlight) → WereLooked queue (letter ∷ left) old a mid b → LooksAt on letter out mid b new c
      → length (left ++ listed out) + chances_for new.lives.items (ticket_among queue) < length (letter ∷ left) + chances_for mid.lives.items (ticket_among queue)
  fewer_looked queue left letter out old mid new a b c were looks =
      let fewer = (looks.fewer (ticket_among queue) (were.of letter (inl refl))).1 in
      omega (arith, size left (listed out), fewer)
    where
      size : (xs ys : List Letter) → length (xs ++ ys) ≡ length xs + length ys
      size [] ys = omega arith
      size (x ∷ xs) ys = omega (arith, size xs ys)

  pub all_looked : (queue : List Letter) (old new : Nodes D) (flying flying' : InFlight) → WereLooked queue [] old flying new flying' → PutsQueue on queue old flying new flying'
  all_looked queue old new flying flying' were = record {
    beside = were.beside;
    flies = were.flies;
    each = λ tells v s.
        let (m, stands, goes) = were.each tells v s in
        (m, stands, goes 0 m refl);
  }

pub nothing_of : (letters : List Letter) (n : ℕ) → length letters ≡ n → n ≡ 0 → letters ≡ []
nothing_of [] n e f = refl
nothing_of (letter ∷ letters) n e f = absurd (omega (arith, e, f))

pub empty_looked : {D : Type 0} (on : View D) (queue left : List Letter) (old new : Nodes D) (flying flying' : InFlight) → left ≡ [] → WereLooked on queue left old flying new flying' → PutsQueue on queue old flying new flying'
empty_looked on queue left old new flying flying' e were = all_looked on queue old new flying flying' (subst (λ (l : List Letter). WereLooked on queue l old flying new flying') e were)

-- The same of queues that are these.
module _ {D : Type 0} (on : View D) (queue left before after : List Letter) (letter : Letter) (out : Option Letter) (old mid new : Nodes D) (a b c : InFlight) where
  pub queue_looked : before ≡ letter ∷ left → after ≡ left ++ listed out → WereLooked on queue before old a mid b → LooksAt on letter out mid b new c → WereLooked on queue after old a new c
  queue_looked e f were looks = subst (λ (l : List Letter). WereLooked on queue l old a new c) (sym f) (one_looked on queue left letter out old mid new a b c (subst (λ (l : List Letter). WereLooked on queue l old a mid b) e were) looks)

  pub queue_smaller : before ≡ letter ∷ left → after ≡ left ++ listed out → WereLooked on queue before old a mid b → LooksAt on letter out mid b new c
      → length after + chances_for new.lives.items (ticket_among queue) < length before + chances_for mid.lives.items (ticket_among queue)
  queue_smaller e f were looks =
      let fewer = fewer_looked on queue left letter out old mid new a b c (subst (λ (l : List Letter). WereLooked on queue l old a mid b) e were) looks in
      omega (arith, ap length e, ap length f, fewer)

pub queue_heard : (left before after : List Letter) (letter : Letter) (out : Option Letter) → before ≡ letter ∷ left → after ≡ left ++ listed out → AllCanBeHeard before → AllCanBeHeard (listed out) → AllCanBeHeard after
queue_heard left before after letter out e f h k = subst (λ (l : List Letter). AllCanBeHeard l) (sym f) (All-append (λ l. CanBeHeard l) left (listed out) (all_rest letter left before e h) k)

pub first_heard : (left before : List Letter) (letter : Letter) → before ≡ letter ∷ left → AllCanBeHeard before → CanBeHeard letter
first_heard left before letter e h = (subst (λ (l : List Letter). AllCanBeHeard l) e h) 0 letter (omega arith)

-- a letter alone is of its ticket
pub one_is_of_one : (o : Option Letter) → AreOfOne (listed o)
one_is_of_one None = λ one among. absurd among
one_is_of_one (Some letter) = λ one among. ⊎_elim (λ same. by one (letter.ticket) (ap (λ (l : Letter). l.ticket) (sym same))) (λ none. absurd none) among
  where
    by : (one : Letter) (t : Option Number) → one.ticket ≡ t → (one.ticket ≡ None) ⊎ (one.ticket ≡ ticket_under t None)
    by one None e = inl e
    by one (Some number) e = inr e

-- a letter that was pushed is in flight
pub flies_now : (letter : Letter) (sent : ℕ) (old new : List Flight) → (flight : Flight) → new ≡ old ++ flight ∷ [] → flight ≡ record { number = sent + 1; letter = letter }
    → ◌≡◌ {A = InFlight} (record { flights = new; sent = sent + 1 }) (with_flight (record { flights = old; sent = sent }) letter)
flies_now letter sent old new flight e f = λ i. record { flights = (e ∙ ap (λ (x : Flight). old ++ x ∷ []) f) i; sent = sent + 1 }
