-- Whoever begins a call that reads has a ticket that reads the call's subject, and it does so as long as it stands.
use Rattle.std.proofs.Common.{◌≡◌, inr, ℕ, ◌+◌, arith, Bool, true, false, nat_eq, List, [], ◌∷◌, map, Some, None, refl, sym, ap, ◌∙◌, subst, if◌then◌else◌}
use Rattle.std.specs.Cmp.{nat_cmp_total}
use Rattle.std.specs.FinMap as fin
use Rattle.std.proofs.lemmas.Map.Lookups.{exact_unsigned}
use Rattle.mail_model.specs.Identity.{Id}
use Rattle.mail_model.specs.Plan.{Plan, Proof}
use Rattle.mail_model.specs.Record.{Record}
use Rattle.object_model.specs.Sets.{has}
use Rattle.object_model.specs.Letters.{Number, LoginWord, ToldItem, ToldPart}
use Rattle.object_model.specs.Letters.Body.{LoginAsk}
use Rattle.object_model.specs.Locks.{Held}
use Rattle.object_model.specs.Mishaps.{no_mishaps}
use Rattle.object_model.specs.Letters.LoginWord.{Named, Wrong, InUse, NoProfile}
use Rattle.object_model.proofs.Lists.{same_some}
use Rattle.object_model.proofs.MapLaws.{written}
use Rattle.cluster_model.specs.Cluster.{CallKind}
use Rattle.cluster_model.specs.Rules.{receivers}
use Rattle.cluster_model.specs.Steps.{NodeCall, asked_of}
use Rattle.cluster_model.specs.Steps.NodeCall.{Deliver, Strike}
use Rattle.cluster_model.specs.Steps.Step.{Begin}
use Rattle.cluster_model.specs.Steps.Said.{Begun}
use Rattle.cluster_model.specs.Rules.{new_number}
use Rattle.whole_world.specs.Steps.{Step, StepOutcome}
use Rattle.whole_world.specs.Steps.Step.{OfMessages}
use Rattle.whole_world.specs.Steps.Said.{Told}
use Rattle.whole_world.specs.Steps.StepOutcome.{Says}
use Rattle.login_model.specs.Cluster as login
use Rattle.login_model.specs.Readings.{Reading, ReadTicket, Reads, Subject, subject_of}
use Rattle.login_model.specs.Readings as readings
use Rattle.login_model.specs.Readings.Subject.{OfUser, OfPart}
use Rattle.login_model.specs.Facts.{IsDrawn}
use Rattle.login_model.specs.Rules.{Under, under, next_number, begin_read, begin_login, begin_fetch, take_word, ask_first, read_at}
use Rattle.login_model.specs.Rules as login_rules
use Rattle.login_model.specs.Moves as login_moves
use Rattle.login_model.specs.NodeLaws as login_laws
use Rattle.login_model.proofs.Begins.{login_acts, fetch_acts}
use Rattle.login_model.proofs.Hears as login_hears
use Rattle.joint_model.specs.Joint.{Node, Life, Slot, slot_at, with_slot, slot_up, read_node, read_slot}
use Rattle.joint_model.specs.Joint.Life.{Up, Down, Lost}
use Rattle.joint_model.proofs.Kept.{read_here}
use Rattle.joint_model.proofs.Settled.{read_back}
use Rattle.joint_world.specs.World.{World, reads_of, IsUp}
use Rattle.joint_world.specs.Rules.{Reaction, reacted, judged_here, LogsIn, Fetches}
use Rattle.joint_world.specs.Staying.{IsMailCall}
use Rattle.joint_world.specs.Makes.{Does, refused, HasTicket, BeginsRead, DoesStep, MakesStep}
use Rattle.joint_world.specs.Makes.BeginsRead.{FailsAtOnce, BeginsLogin, BeginsFetch, FailsReading, Leaves}
use Rattle.joint_world.specs.Makes.DoesStep.{ForWhole, Begins, Asks, GivesUp, Posts, Drops}
use Rattle.joint_world.specs.Laws.{Stands}
use Rattle.joint_world.specs.Subjects.{subject_begun, IsAbout}
use Rattle.joint_world.proofs.Rules.{begins_alone, word_here}
use Rattle.joint_world.proofs.Reading.{turned, does_since}
use Rattle.joint_world.proofs.Since.{Keeps, going_self}
use Rattle.joint_world.proofs.Standing.{makes_since}
use Rattle.joint_world.proofs.Views.{up_same, slot_there}

-- a ticket of a world is one that calls that read see
module _ (tells : Bool) (w : World) (number : Number) where
  pub ticket_reads : (one : HasTicket w number) → login.NodesRead (map (read_slot tells) w.slots) number one.ticket.reading
  ticket_reads one =
      let h = login_hears.read_here number.node (read_node true one.node) number one.ticket one.here in
      record {
        slot = login.slot_up (read_node tells one.node) one.disk;
        here = read_here tells w.slots number.node (slot_up one.node one.disk) one.up;
        reads = record { node = read_node tells one.node; up = refl; boot = h.boot; ticket = one.ticket; here = h.here; is = refl };
      }

  pub reads_ticket : (reading : Reading) → login.NodesRead (map (read_slot tells) w.slots) number reading → (one : HasTicket w number) × (one.ticket.reading ≡ reading)
  reads_ticket reading r =
      let back = read_back tells w.slots number.node r.slot r.here in
      by back.0 back.1 back.0.life refl (ap (λ (s : login.Slot). s.life) back.2 ∙ r.reads.up)
    where
      same : (a b : login.Node) → login.Life.Up a ≡ login.Life.Up b → a ≡ b
      same a b e = cc

      by : (slot : Slot) → slot_at w.slots number.node ≡ Some slot → (life : Life) → slot.life ≡ life → (read_slot tells slot).life ≡ login.Life.Up r.reads.node → (one : HasTicket w number) × (one.ticket.reading ≡ reading)
      by slot at (Up x) is e =
          let node : read_node tells x ≡ r.reads.node = same (read_node tells x) r.reads.node (subst (λ (l : Life). (read_slot tells (record { life = l; disk = slot.disk })).life ≡ login.Life.Up r.reads.node) is e) in (
            record {
              node = x;
              disk = slot.disk;
              up = at ∙ ap (λ (l : Life). Some (record { life = l; disk = slot.disk })) is;
              ticket = r.reads.ticket;
              here = login_hears.read_is number.node (read_node true x) number refl (r.reads.boot ∙ ap (λ (n : login.Node). n.boot) (sym node))
                  ∙ subst (λ (n : login.Node). fin.get n.reads number.seq ≡ Some r.reads.ticket) (sym node) r.reads.here;
            },
            r.reads.is,
          )
      by slot at (Down pending) is e = absurd (clash (subst (λ (l : Life). (read_slot tells (record { life = l; disk = slot.disk })).life ≡ login.Life.Up r.reads.node) is e))
        where
          clash : login.Life.Down ≡ login.Life.Up r.reads.node → ⊥
          clash k = cc
      by slot at Lost is e = absurd (clash (subst (λ (l : Life). (read_slot tells (record { life = l; disk = slot.disk })).life ≡ login.Life.Up r.reads.node) is e))
        where
          clash : login.Life.Lost ≡ login.Life.Up r.reads.node → ⊥
          clash k = cc

pub kept_about : (tells : Bool) (old new : World) (number : Number) (subject : Subject) → Keeps (map (read_slot tells) old.slots) (map (read_slot tells) new.slots) → IsAbout tells old number subject → IsAbout tells new number subject
kept_about tells old new number subject keeps about = record {
  drawn = keeps.drawn number about.drawn;
  reads = λ one.
      let s = keeps.reads number about.drawn one.ticket.reading (ticket_reads tells new number one) in
      let t = reads_ticket tells old number s.was s.stood in
      sym s.same ∙ ap subject_of (sym t.1) ∙ about.reads t.0;
}

pub subject_stays : (plan : Plan) (tells : Bool) (story : List (List login.Slot)) (old new : World) (step : Step) (outcome : StepOutcome) (number : Number) (subject : Subject)
    → MakesStep plan tells old step outcome new → Stands plan tells story old → IsAbout tells old number subject → IsAbout tells new number subject
subject_stays plan tells story old new step outcome number subject made stands about = kept_about tells old new number subject (makes_since plan tells old story stands step outcome new made) about

-- what a call begins with
word_subject : (u : Under) (one : readings.Login) (mine : List ToldItem) (word : LoginWord) → subject_of (take_word u one mine word).reading ≡ OfUser one.user
word_subject u one mine (Named named) = refl
word_subject u one mine (Wrong stamp) = refl
word_subject u one mine (InUse by) = refl
word_subject u one mine NoProfile = refl

login_subject : (u : Under) (user : List ℕ) (proof : Proof) (manager : ℕ) (word : LoginWord) (mine : List ToldItem) → subject_of (begin_login u user proof manager word mine).reading ≡ OfUser user
login_subject u user proof manager word mine = by (nat_eq manager u.own)
  where
    one : readings.Login
    one = record { user = user; manager = manager; stage = readings.LoginStage.AsksManager }

    by : (b : Bool) → subject_of (if b then take_word u one mine word else record { reading = readings.Reading.LogsIn one; out = login_rules.ask u manager (LoginAsk user proof) ∷ [] }).reading ≡ OfUser user
    by true = word_subject u one mine word
    by false = refl

fetch_subject : (u : Under) (user : List ℕ) (id : Id) (at most holders : ℕ) (part : ToldPart) → subject_of (begin_fetch u user id at most holders part).reading ≡ OfPart user id at most
fetch_subject u user id at most holders part = by (has holders u.own)
  where
    one : readings.Fetch
    one = record { user = user; id = id; at = at; most = most; stage = readings.FetchStage.NobodyLeft }

    first : (nodes : List ℕ) → subject_of (ask_first u one holders nodes).reading ≡ OfPart user id at most
    first [] = refl
    first (n ∷ others) = refl

    by : (b : Bool) → subject_of (if b then login_rules.same (readings.Reading.Fetches (record one { stage = readings.FetchStage.IsAnswered u.own part })) else ask_first u one holders (receivers u.own holders 64)).reading ≡ OfPart user id at most
    by true = refl
    by false = first (receivers u.own holders 64)

module _ (plan : Plan) (tells : Bool) (story : List (List login.Slot)) (old : World) (stands : Stands plan tells story old) (own : ℕ) (node : Node) (disk : List Record) (up : IsUp old own node disk) where
  abbrev seen : login.Node
  seen = read_node tells node

  abbrev fresh : Number
  fresh = new_number own node.whole.mail

  -- the ticket that stands in a world in which the node alone was turned
  stands_at : (now : Node) (w : World) → w.slots ≡ with_slot old.slots own (slot_up now disk) → (one : HasTicket w fresh) → fin.get now.reads fresh.seq ≡ Some one.ticket
  stands_at now w is one =
      let h = login_hears.read_here own (read_node true one.node) fresh one.ticket one.here in
      subst (λ (n : Node). fin.get n.reads fresh.seq ≡ Some one.ticket)
      (up_same one.node now (ap (λ (s : Slot). s.life) (same_some (slot_at w.slots own) (slot_up one.node one.disk) (slot_up now disk) one.up there)))
      h.here
    where
      there : slot_at w.slots own ≡ Some (slot_up now disk)
      there = subst (λ (s : List Slot). slot_at s own ≡ Some (slot_up now disk)) (sym is) (slot_there old.slots own (slot_up node disk) (slot_up now disk) up)

  -- the number is drawn in it
  draws : (now : Node) (w : World) → w.slots ≡ with_slot old.slots own (slot_up now disk) → now.whole.mail.boot ≡ node.whole.mail.boot → now.whole.mail.calls ≡ node.whole.mail.calls + 1 → IsDrawn (map (read_slot tells) w.slots) fresh
  draws now w is boot calls = record {
    slot = login.slot_up (read_node tells now) disk;
    here = read_here tells w.slots own (slot_up now disk) there;
    drawn = inr (sym boot, omega (arith, calls));
  }
    where
      there : slot_at w.slots own ≡ Some (slot_up now disk)
      there = subst (λ (s : List Slot). slot_at s own ≡ Some (slot_up now disk)) (sym is) (slot_there old.slots own (slot_up node disk) (slot_up now disk) up)

  -- no ticket has a number that was not drawn
  undrawn : (ticket : ReadTicket) → fin.get node.reads (node.whole.mail.calls + 1) ≡ Some ticket → ⊥
  undrawn ticket at =
      let le = ((stands.reads.order.each own (login.slot_up seen disk) (read_here tells old.slots own (slot_up node disk) up)).each seen refl).numbered (node.whole.mail.calls + 1) ticket at in
      absurd (omega (arith, le))

  fails_about : (kind : CallKind) (new : World) (subject : Subject) → new ≡ record old { slots = with_slot old.slots own (slot_up (refused kind node disk) disk) } → IsAbout tells new fresh subject
  fails_about kind new subject is = record {
    drawn = draws (refused kind node disk) new (ap (λ (w : World). w.slots) is) refl refl;
    reads = λ one. absurd (undrawn one.ticket (stands_at (refused kind node disk) new (ap (λ (w : World). w.slots) is) one));
  }

  -- a ticket that begins reads what its rule says
  begun_about : (did : login_rules.ReadDid) (locks : Held) (w : World) (subject : Subject) → w.slots ≡ with_slot old.slots own (slot_up (reacted node (begin_read own seen did) locks).node disk)
      → subject_of did.reading ≡ subject → IsAbout tells w fresh subject
  begun_about did locks w subject is same = record {
    drawn = draws (reacted node (begin_read own seen did) locks).node w is refl refl;
    reads = λ one. sym (ap (λ (t : ReadTicket). subject_of t.reading) (ticket_same (record { reading = did.reading; mishaps = no_mishaps }) one.ticket
        (sym (written nat_cmp_total exact_unsigned node.reads (node.whole.mail.calls + 1) (record { reading = did.reading; mishaps = no_mishaps })) ∙ stands_at (reacted node (begin_read own seen did) locks).node w is one))) ∙ same;
  }
    where
      ticket_same : (a b : ReadTicket) → Some a ≡ Some b → a ≡ b
      ticket_same a b e = cc

  number_is : (number : Number) → Told (Begun number) ≡ Told (Begun fresh) → fresh ≡ number
  number_is number e = by number fresh e
    where
      by : (a b : Number) → Told (Begun a) ≡ Told (Begun b) → b ≡ a
      by a b k = cc

  login_about : (user : List ℕ) (proof : Proof) (did : Reaction) (l : LogsIn plan tells own node disk user proof did) (new : World) → Does tells old own disk did new → IsAbout tells new fresh (OfUser user)
  login_about user proof did l new does =
      let word : LoginWord = (judged_here plan tells own node user proof).word in
      let u : Under = under own seen (next_number own seen) in
      let rule : login_rules.ReadDid = begin_login u user proof l.manager word l.mine in
      let acts : login_moves.IsReady own (login.slot_up seen disk) None → login_moves.IsCallDone (login_laws.act_of own seen disk (begin_read own seen rule) None) = λ ready. login_acts plan own seen disk user proof l.manager word l.mine l.managed
      (λ at. word_here plan seen user proof (next_number own seen) node.locks) l.lists ready in
      kept_about tells (turned tells (map (read_slot tells) old.slots) story old stands.alike (going_self (reads_of tells story old) stands.reads) own node disk up (begin_read own seen rule) _ (begins_alone own seen rule) acts) new fresh (OfUser user)
      (does_since tells (map (read_slot tells) old.slots) story old stands.alike (going_self (reads_of tells story old) stands.reads) own node disk up (begin_read own seen rule) _ (begins_alone own seen rule) acts
      new (subst (λ (r : Reaction). Does tells old own disk r new) l.is does))
      (begun_about rule _ _ (OfUser user) refl (login_subject u user proof l.manager word l.mine))

  fetch_about : (user : List ℕ) (id : Id) (at most holders : ℕ) (did : Reaction) (f : Fetches tells own node disk user id at most holders did) (new : World) → Does tells old own disk did new
      → IsAbout tells new fresh (OfPart user id at most)
  fetch_about user id at most holders did f new does =
      let u : Under = under own seen (next_number own seen) in
      let rule : login_rules.ReadDid = begin_fetch u user id at most (asked_of node.whole.mail holders) f.part in
      let acts : login_moves.IsReady own (login.slot_up seen disk) None → login_moves.IsCallDone (login_laws.act_of own seen disk (begin_read own seen rule) None) =
      λ ready. fetch_acts own seen disk user id at most (asked_of node.whole.mail holders) f.part f.some f.says ready in
      kept_about tells (turned tells (map (read_slot tells) old.slots) story old stands.alike (going_self (reads_of tells story old) stands.reads) own node disk up (begin_read own seen rule) node.locks (begins_alone own seen rule) acts) new fresh (OfPart user id at most)
      (does_since tells (map (read_slot tells) old.slots) story old stands.alike (going_self (reads_of tells story old) stands.reads) own node disk up (begin_read own seen rule) node.locks (begins_alone own seen rule) acts
      new (subst (λ (r : Reaction). Does tells old own disk r new) f.is does))
      (begun_about rule node.locks _ (OfPart user id at most) refl (fetch_subject u user id at most (asked_of node.whole.mail holders) f.part))

pub subject_begins : (plan : Plan) (tells : Bool) (story : List (List login.Slot)) (old new : World) (n : ℕ) (call : NodeCall) (number : Number) (subject : Subject)
    → MakesStep plan tells old (OfMessages (Begin n call)) (Says (Told (Begun number))) new → Stands plan tells story old → subject_begun call ≡ Some subject → IsAbout tells new number subject
subject_begins plan tells story old new n call number subject made stands about = by made.1
  where
    no_mail : (c : NodeCall) → IsMailCall c → subject_begun c ≡ Some subject → ⊥
    no_mail (Deliver mail) of e = absurd (cc e)
    no_mail (Strike user items) of e = absurd (cc e)
    no_mail c of e = absurd of

    subject_is : (s : Subject) → Some s ≡ Some subject → s ≡ subject
    subject_is s e = cc

    begun : (own : ℕ) (c : NodeCall) → subject_begun c ≡ Some subject → BeginsRead plan tells old own c (Told (Begun number)) new → IsAbout tells new number subject
    begun own c e (FailsAtOnce node disk kind up fails says is) = subst (λ (k : Number). IsAbout tells new k subject) (number_is plan tells story old stands own node disk up number says)
        (fails_about plan tells story old stands own node disk up kind new subject is)
    begun own c e (BeginsLogin node disk user proof up is did l says does) = subst (λ (k : Number). IsAbout tells new k subject) (number_is plan tells story old stands own node disk up number says)
        (subst (λ (s : Subject). IsAbout tells new (new_number own node.whole.mail) s) (subject_is (OfUser user) (sym (ap subject_begun is) ∙ e))
        (login_about plan tells story old stands own node disk up user proof did l new does))
    begun own c e (BeginsFetch node disk user id at most holders up is did f says does) = subst (λ (k : Number). IsAbout tells new k subject) (number_is plan tells story old stands own node disk up number says)
        (subst (λ (s : Subject). IsAbout tells new (new_number own node.whole.mail) s) (subject_is (OfPart user id at most) (sym (ap subject_begun is) ∙ e))
        (fetch_about plan tells story old stands own node disk up user id at most holders did f new does))
    begun own c e (FailsReading node disk user id at most holders up is own_holds says is_new) = absurd (cc says)
    begun own c e (Leaves node disk user number_ manager up is says does) = absurd cc

    inside : (a b : ℕ) (c d : NodeCall) → OfMessages (Begin a c) ≡ OfMessages (Begin b d) → c ≡ d
    inside a b c d e = cc

    by : DoesStep plan tells old (OfMessages (Begin n call)) (Told (Begun number)) new → IsAbout tells new number subject
    by (ForWhole of does stay) = absurd (no_mail call of about)
    by (Begins own c is b) = begun own c (ap subject_begun (sym (inside n own call c is)) ∙ about) b
    by (Asks k is of a) = absurd (cc is)
    by (GivesUp k is of g) = absurd (cc is)
    by (Posts k keep is of p) = absurd (cc is)
    by (Drops k is d) = absurd (cc is)
