-- What messages see of calls that read is a list of few kinds of change, and each is a list of moves.
use Rattle.std.proofs.Common.{◌≡◌, ⊎_elim, ℕ, ◌+◌, ◌≤◌, Bool, true, false, List, [], ◌∷◌, ◌++◌, Option, Some, None, refl, sym, ap, ◌∙◌, subst, true≢false, le_refl, arith}
use Rattle.mail_model.specs.Identity.{Id}
use Rattle.mail_model.specs.Plan.{Plan}
use Rattle.mail_model.specs.Record.{Record}
use Rattle.object_model.specs.Lists.{Among}
use Rattle.object_model.specs.Letters.{Number, Body, Letter, is_read_body}
use Rattle.object_model.specs.Letters.Body.{File, Filed, LoginAsk, LoginTold, ListAsk, ListTold, FetchAsk, FetchTold, Strike, StrikeTold, Unlock, Push, PushAck, Retire, Group, Join, Install, Report, ReportAck}
use Rattle.object_model.specs.Mishaps.{Mishaps, no_mishaps, counted}
use Rattle.object_model.specs.Mishaps.MishapKind.{FewMembers}
use Rattle.cluster_model.specs.Cluster.{AskedOfNodes, CallKind, Node, Cluster, with_slot}
use Rattle.cluster_model.specs.Cluster.CallKind.{LoggingIn}
use Rattle.cluster_model.specs.Claims.{Covers}
use Rattle.cluster_model.specs.Moves.{NodeAct, IsReady, IsCallDone}
use Rattle.cluster_model.specs.Rules.{Reaction, store_of, idle, refuse}
use Rattle.cluster_model.specs.Thrown.{with_stamps, stamps_in, count_through}
use Rattle.cluster_model.specs.Deeds.{act_of, slot_up}
use Rattle.cluster_model.specs.Room.{Flight}
use Rattle.cluster_model.specs.World.{World, Leads, letters_of, cluster_of, with_letter, Flies, flies_on}
use Rattle.cluster_model.specs.Steps.{NodeCall, Said}
use Rattle.cluster_model.specs.Steps.Said.{Faulted}
use Rattle.cluster_model.specs.Makes.{IsUp, after, cut_world, IsReadLetter, SendsReading, GoesOnReading, IsFetchAsk, BeginsRead, AnswersRead, GivesUpRead, PostsRead, DropsRead}
use Rattle.cluster_model.specs.Makes.BeginsRead.{HasNoManager, Draws, FailsReading, Leaves}
use Rattle.cluster_model.specs.Makes.PostsRead.{NobodyUp, OfOtherEpoch, TooLate, IsHeard, FailsForReads}
use Rattle.cluster_model.proofs.StoreSteps.{stays}
use Rattle.cluster_model.proofs.Reacts.{BroughtBy, AckedBy, is_act}
use Rattle.cluster_model.proofs.Quiet.{same_tickets}
use Rattle.cluster_model.proofs.Forming.{SaysNothing}
use Rattle.cluster_model.proofs.Closing.{refuse_acts}
use Rattle.cluster_model.proofs.Leading.{no_move, led_on, acted_leads}
use Rattle.cluster_model.proofs.Missing.{letters_last}
use Rattle.cluster_model.proofs.Slots.{written_same}
use Rattle.cluster_model.proofs.Stepping.{cut_nothing, unheard_leads, quiet_leads, letter_idle, down_leads}

-- letters of calls that read say nothing of messages
pub read_says : (to : ℕ) (body : Body) → is_read_body body ≡ true → SaysNothing to body
read_says to (LoginAsk user proof) of = record { holds = λ id o h. h; file = λ id s t u o e. cc; filed = λ id e. cc; claims = λ f m fact c. c; speaks = λ u id s. s; fit = tt; asks = λ a k. k; tells = λ a k. k }
read_says to (LoginTold word) of = record { holds = λ id o h. h; file = λ id s t u o e. cc; filed = λ id e. cc; claims = λ f m fact c. c; speaks = λ u id s. s; fit = tt; asks = λ a k. k; tells = λ a k. k }
read_says to (ListAsk user) of = record { holds = λ id o h. h; file = λ id s t u o e. cc; filed = λ id e. cc; claims = λ f m fact c. c; speaks = λ u id s. s; fit = tt; asks = λ a k. k; tells = λ a k. k }
read_says to (ListTold items) of = record { holds = λ id o h. h; file = λ id s t u o e. cc; filed = λ id e. cc; claims = λ f m fact c. c; speaks = λ u id s. s; fit = tt; asks = λ a k. k; tells = λ a k. k }
read_says to (FetchAsk user id from most) of = record { holds = λ id o h. h; file = λ id s t u o e. cc; filed = λ id e. cc; claims = λ f m fact c. c; speaks = λ u id s. s; fit = tt; asks = λ a k. k; tells = λ a k. k }
read_says to (FetchTold part) of = record { holds = λ id o h. h; file = λ id s t u o e. cc; filed = λ id e. cc; claims = λ f m fact c. c; speaks = λ u id s. s; fit = tt; asks = λ a k. k; tells = λ a k. k }
read_says to (Unlock user login) of = record { holds = λ id o h. h; file = λ id s t u o e. cc; filed = λ id e. cc; claims = λ f m fact c. c; speaks = λ u id s. s; fit = tt; asks = λ a k. k; tells = λ a k. k }
read_says to (File id stamp targets users octets) of = absurd (true≢false (sym of))
read_says to (Filed id) of = absurd (true≢false (sym of))
read_says to (Strike user marks) of = absurd (true≢false (sym of))
read_says to (StrikeTold user ids) of = absurd (true≢false (sym of))
read_says to (Push key state octets) of = absurd (true≢false (sym of))
read_says to (PushAck key state) of = absurd (true≢false (sym of))
read_says to (Retire key state) of = absurd (true≢false (sym of))
read_says to (Group epoch) of = absurd (true≢false (sym of))
read_says to (Join epoch promise boot was claims) of = absurd (true≢false (sym of))
read_says to (Install membership) of = absurd (true≢false (sym of))
read_says to (Report row) of = absurd (true≢false (sym of))
read_says to (ReportAck user version) of = absurd (true≢false (sym of))

-- so they cover no wait
pub read_covers_none : (letter : Letter) → is_read_body letter.body ≡ true → (n : Number) (m : ℕ) (asked : AskedOfNodes) → Covers letter n m asked → ⊥
read_covers_none letter of n m asked c = ⊎_elim
    (λ (from, to, a). (read_says letter.to letter.body of).asks asked a)
    (λ (to, from, t). (read_says letter.to letter.body of).tells asked t)
    c.1

-- What a node does for a call that reads: it draws numbers of tickets, learns stamps, and sends such letters.
pub reading_acts : (own : ℕ) (node : Node) (disk : List Record) (calls count : ℕ) (out : List Letter) → ((letter : Letter) → Among letter out → is_read_body letter.body ≡ true)
    → IsReady own (slot_up node disk) None
    → IsCallDone (act_of own node disk (record { node = record node { calls = calls; count = count }; disk = disk; out = out }) None None [])
reading_acts own node disk calls count out of ready = is_act own node disk did None None [] [] ready
    (record { step = stays own [] (BroughtBy act) (AckedBy act) (store_of node disk); fits = λ u m. absurd m; speaks = λ user id s. absurd s.inside })
    (record { boot = refl; drawn = le_refl node.drawn; fresh = λ content e. absurd (cc e); ended = λ content e. absurd (cc e) })
    (same_tickets own node disk did None None [] refl refl (λ letter e. absurd (cc e)))
    (λ letter m. let s = read_says letter.to letter.body (of letter m) in record {
      holds = λ id octets h. absurd (s.holds id octets h);
      file = λ id users f. absurd (s.file id f.stamp f.targets users f.octets f.is);
      filed = λ id e. absurd (s.filed id e);
      claims = λ k fact c. absurd (s.claims letter.from k fact c);
      speaks = λ user id k. absurd (s.speaks user id k);
      fit = s.fit;
    })
  where
    did : Reaction
    did = record { node = record node { calls = calls; count = count }; disk = disk; out = out }

    act : NodeAct
    act = act_of own node disk did None None []

-- One thing that messages see: a node draws numbers of tickets or learns stamps; it has a ticket of a call that failed at once; it sends a letter of a call that reads; or one is taken out or kept.
pub data SeesOne (old new : World) : Type 0 where
  Turns : (own : ℕ) (node : Node) (disk : List Record) (calls count : ℕ) → IsUp old own node disk
      → new ≡ record old { slots = with_slot old.slots own (slot_up (record node { calls = calls; count = count }) disk) } → SeesOne old new
  Refuses : (own : ℕ) (node : Node) (disk : List Record) (kind : CallKind) (mishaps : Mishaps) → IsUp old own node disk → new ≡ after old own (refuse kind mishaps 0 node disk) → SeesOne old new
  Sends : (letter : Letter) → IsReadLetter old letter → new ≡ with_letter old letter → SeesOne old new
  Takes : (number : ℕ) (flies : Flies old number) (keep : Bool) → is_read_body flies.letter.body ≡ true → new ≡ record old { flying = flies_on old number flies keep } → SeesOne old new

-- a node goes down as its disk fails
pub record SeesFall (own : ℕ) (old new : World) : Type 0 where
  pub node : Node
  pub disk : List Record
  pub up : IsUp old own node disk
  pub is : new ≡ cut_world old own disk [] []

pub fetch_reads : (body : Body) → IsFetchAsk body → is_read_body body ≡ true
fetch_reads (FetchAsk user id from most) of = refl
fetch_reads body of = absurd of

-- What holds of each of these, and goes on from one to the next, holds of what messages see of a step for a call that reads. A node falls only where that is said.
module _ (P : World → World → Type 0) (stays : (w : World) → P w w) (then : (a b c : World) → P a b → P b c → P a c) (one : (a b : World) → SeesOne a b → P a b) where
  sends : (letters : List Letter) (old new : World) → SendsReading old letters new → P old new
  sends [] old new is = subst (P old) (sym is) (stays old)
  sends (letter ∷ letters) old new (first, rest) = then old (with_letter old letter) new (one old (with_letter old letter) (Sends letter first refl)) (sends letters (with_letter old letter) new rest)

  goes_on : (old new : World) → GoesOnReading old new → P old new
  goes_on old new g = sends g.letters old new g.sends

  from : (old mid new : World) → SeesOne old mid → GoesOnReading mid new → P old new
  from old mid new first g = then old mid new (one old mid first) (goes_on mid new g)

  pub begins_seen : (plan : Plan) (own : ℕ) (call : NodeCall) (said : Said) (old new : World) → ((n : ℕ) → said ≡ Faulted n → (a b : World) → SeesFall n a b → P a b) → BeginsRead plan old own call said new → P old new
  begins_seen plan own call said old new fall (HasNoManager node disk user proof up is fits says e) = one old new (Refuses own node disk LoggingIn (counted FewMembers no_mishaps) up e)
  begins_seen plan own call said old new fall (Draws node disk up of fits says g) = from old (record old { slots = with_slot old.slots own (slot_up (record node { calls = node.calls + 1 }) disk) }) new
      (Turns own node disk (node.calls + 1) node.count up refl) g
  begins_seen plan own call said old new fall (FailsReading node disk user id from most holders up is has says e) = fall own says old new (record { node = node; disk = disk; up = up; is = e })
  begins_seen plan own call said old new fall (Leaves node disk user login manager up is says g) = goes_on old new g

  pub answers_seen : (number : Number) (said : Said) (old new : World) → AnswersRead old number said new → P old new
  answers_seen number said old new a = subst (P old) (sym a.new_world) (stays old)

  pub gives_up_seen : (number : Number) (said : Said) (old new : World) → GivesUpRead old number said new → P old new
  gives_up_seen number said old new g = goes_on old new g.goes_on

  taken : (old : World) (number : ℕ) (flies : Flies old number) (keep : Bool) (new : World) → is_read_body flies.letter.body ≡ true → GoesOnReading (record old { flying = flies_on old number flies keep }) new → P old new
  taken old number flies keep new of g = from old (record old { flying = flies_on old number flies keep }) new (Takes number flies keep of refl) g

  -- the letter is there still where all else of a world was changed
  turned : (old mid : World) (number : ℕ) (flies : Flies old number) (keep : Bool) (new : World) → mid.flying ≡ old.flying → is_read_body flies.letter.body ≡ true → P old mid
      → GoesOnReading (record mid { flying = flies_on old number flies keep }) new → P old new
  turned old mid number flies keep new same of first g = then old mid new first
      (taken mid number there keep new of (subst (λ (f : List Flight). GoesOnReading (record mid { flying = f }) new) (sym (by keep)) g))
    where
      there : Flies mid number
      there = record { front = flies.front; letter = flies.letter; back = flies.back; is = same ∙ flies.is }

      by : (keep : Bool) → flies_on mid number there keep ≡ flies_on old number flies keep
      by true = same
      by false = refl

  pub posts_seen : (number : ℕ) (keep : Bool) (said : Said) (old new : World) → ((n : ℕ) → said ≡ Faulted n → (a b : World) → SeesFall n a b → P a b) → PostsRead old number keep said new → P old new
  posts_seen number keep said old new fall (NobodyUp flies of nobody says g) = taken old number flies keep new of g
  posts_seen number keep said old new fall (OfOtherEpoch flies node disk of up stale says g) = taken old number flies keep new of g
  posts_seen number keep said old new fall (TooLate flies node disk of up fresh answers says e) = one old new (Takes number flies keep of e)
  posts_seen number keep said old new fall (IsHeard flies node disk of up fresh says g) = turned old
      (record old { slots = with_slot old.slots flies.letter.to (slot_up (with_stamps flies.letter.body node) disk) }) number flies keep new refl of
      (one _ _ (Turns flies.letter.to node disk node.calls (count_through node.count (stamps_in flies.letter.body)) up refl)) g
  posts_seen number keep said old new fall (FailsForReads flies node disk of up fresh says g) = turned old
      (cut_world old flies.letter.to disk [] []) number flies keep new refl (fetch_reads flies.letter.body of)
      (fall flies.letter.to says old (cut_world old flies.letter.to disk [] []) (record { node = node; disk = disk; up = up; is = refl })) g

  pub drops_seen : (number : ℕ) (said : Said) (old new : World) → DropsRead old number said new → P old new
  drops_seen number said old new d = taken old number d.flies false new d.read d.goes_on

module _ (confirm : ℕ) (May : Id → List ℕ → Type 0) where
  abbrev pub LeadsOn : World → World → Type 0
  LeadsOn a b = Leads confirm May (cluster_of a) (cluster_of b)

  pub sees_lead : (old new : World) → SeesOne old new → LeadsOn old new
  sees_lead old new (Turns own node disk calls count up e) = subst (LeadsOn old) (sym e)
      (quiet_leads confirm May old (act_of own node disk (idle (record node { calls = calls; count = count }) disk) None None []) refl refl refl refl up
      (λ ready. (reading_acts own node disk calls count [] (λ letter m. absurd m) ready).is))
  sees_lead old new (Refuses own node disk kind mishaps up e) = subst (LeadsOn old) (sym e)
      (unheard_leads confirm May old own node disk (refuse kind mishaps 0 node disk) None [] up (λ ready. refuse_acts own node disk ready kind mishaps 0) (λ user id m. absurd m) (λ content f. absurd (cc f)))
  sees_lead old new (Sends letter l e) = subst (LeadsOn old) (sym e) (led_on confirm May (cluster_of old) (record (cluster_of old) { slots = with_slot old.slots letter.from (slot_up l.node l.disk); flying = letters_of old.flying ++ letter ∷ [] }) (cluster_of (with_letter old letter))
      (acted_leads confirm May (cluster_of old) (act_of letter.from l.node l.disk did None None []) l.up
      (λ ready. (reading_acts letter.from l.node l.disk l.node.calls l.node.count (letter ∷ []) (λ one m. ⊎_elim (λ is. subst (λ (x : Letter). is_read_body x.body ≡ true) is l.body) (λ none. absurd none) m) ready).is)
      (λ one f. absurd (cc f)) (λ user id m. absurd m) (λ content f. absurd (cc f)))
      (no_move confirm May _ (cluster_of (with_letter old letter)) (λ i. record {
        slots = sym (written_same old.slots letter.from (slot_up l.node l.disk) l.up) i;
        flying = letters_last old.flying (record { number = old.sent + 1; letter = letter }) i;
        book = old.book;
      })))
    where
      did : Reaction
      did = record { node = l.node; disk = l.disk; out = letter ∷ [] }
  sees_lead old new (Takes number flies keep of e) = subst (LeadsOn old) (sym e) (letter_idle confirm May old number flies keep (λ n m asked c wait. read_covers_none flies.letter of n m asked c))

  pub fall_leads : (own : ℕ) (old new : World) → SeesFall own old new → LeadsOn old new
  fall_leads own old new f = down_leads confirm May old new own f.node f.disk (idle f.node f.disk) None None [] f.up
      (λ ready. reading_acts own f.node f.disk f.node.calls f.node.count [] (λ letter m. absurd m) ready) (λ letter f. absurd (cc f)) (λ user id m. absurd m) (λ content f. absurd (cc f))
      (record { front = []; pending = []; one = omega arith; cut = cut_nothing f.disk; is = f.is })

  pub goes_stays : (w : World) → LeadsOn w w
  goes_stays w = no_move confirm May (cluster_of w) (cluster_of w) refl

  pub goes_then : (a b c : World) → LeadsOn a b → LeadsOn b c → LeadsOn a c
  goes_then a b c = led_on confirm May (cluster_of a) (cluster_of b) (cluster_of c)
