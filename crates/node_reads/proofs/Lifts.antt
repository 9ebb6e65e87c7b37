-- What was done to the tickets is what the machine's rule does to the node that has them.
use Rattle.std.proofs.Common.{◌≡◌, ◌≢◌, ℕ, nat_eq, List, [], ◌∷◌, Bool, true, false, Option, Some, None, refl, sym, ap, ◌∙◌, arith, if◌then◌else◌}
use Rattle.std.specs.FinMap as fin
use Rattle.std.proofs.lemmas.Bool.Decides.{nat_tests}
use Rattle.mail_model.specs.Identity.{Id, EpochId}
use Rattle.mail_model.specs.Plan.{Proof}
use Rattle.object_model.specs.Sets.{has}
use Rattle.object_model.specs.Letters.{Number, LoginWord, ToldItem, ToldPart, Body, Letter}
use Rattle.object_model.specs.Letters.Body.{LoginAsk}
use Rattle.object_model.specs.Mishaps.{MishapKind, no_mishaps}
use Rattle.login_model.specs.Readings.{FetchStage, Fetch, Reading, ReadTicket, Reads}
use Rattle.login_model.specs.Readings.LoginStage.{AsksManager}
use Rattle.login_model.specs.Readings.FetchStage.{IsAnswered, NobodyLeft}
use Rattle.login_model.specs.Readings.Reading.{LogsIn, Fetches}
use Rattle.login_model.specs.Cluster.{Node}
use Rattle.cluster_model.specs.Rules.{receivers}
use Rattle.login_model.specs.Rules.{ReadDid, Under, Reaction, under, told_at, befell_at, begin_read, next_number, read_at, same, ask, ask_first, ask_next, take_word, begin_login, begin_fetch}
use Rattle.node_reads.specs.declared.reads.NodeReads.{NodeReads}
use Rattle.node_reads.specs.Tables.{reads_in, is_own, ticket_at, node_with, left_by, Begins, Hears, Befalls, GivesUp, given_up_at}
use Rattle.node_reads.specs.Tickets.{TableDid, ticket_told, ticket_befell, did_if_stands, taken_if_stands, letters_given_up}

-- the node with these tickets, and the letters
abbrev done : Node → TableDid → Reaction
done node did = record { node = record node { reads = did.reads }; out = did.out }

told_is : (own : ℕ) (node : Node) (letter : Letter) (mine : List ToldItem) (number : Number) (t : Option ReadTicket)
    → told_at own node letter mine (Some number) t ≡ done node (did_if_stands (ticket_told (under own node number) letter.from mine letter.body) node.reads number.seq t)
told_is own node letter mine number None = refl
told_is own node letter mine number (Some ticket) = refl

befell_is : (own : ℕ) (kind : MishapKind) (at : ℕ) (node : Node) (number : Number) (t : Option ReadTicket)
    → befell_at own kind at node number t ≡ done node (did_if_stands (ticket_befell (under own node number) kind at) node.reads number.seq t)
befell_is own kind at node number None = refl
befell_is own kind at node number (Some ticket) = refl

given_up_is : (own : ℕ) (node : Node) (number : Number) (t : Option ReadTicket)
    → given_up_at own node number t ≡ done node (record { reads = taken_if_stands node.reads number.seq t; out = letters_given_up (under own node number) t })
given_up_is own node number None = refl
given_up_is own node number (Some ticket) = refl

module _ (old new : NodeReads) (boot : new.boot ≡ old.boot) (epoch : EpochId) where
  last : (node : Node) (letters : List Letter) → done (node_with old node) (record { reads = reads_in new; out = letters }) ≡ left_by new node letters
  last node letters = ap (λ (b : ℕ). record { node = record node { boot = b; reads = reads_in new }; out = letters }) (sym boot)

  module _ (ticket : Number) where
    abbrev call : Under
    call = record { own = old.own; epoch = epoch; number = ticket }

    pub hears : (from : ℕ) (body : Body) (mine : List ToldItem) (letters : List Letter)
        → did_if_stands (ticket_told call from mine body) (reads_in old) ticket.seq (ticket_at old ticket) ≡ record { reads = reads_in new; out = letters }
        → Hears epoch ticket from body mine letters old new
    hears from body mine letters did = record {
      did = λ node letter e t f b.
          ap (λ (n : Option Number). told_at old.own (node_with old node) letter mine n (read_at old.own (node_with old node) n)) t
          ∙ told_is old.own (node_with old node) letter mine ticket (ticket_at old ticket)
          ∙ ap (λ (x : EpochId). done (node_with old node) (did_if_stands (ticket_told (record { own = old.own; epoch = x; number = ticket }) letter.from mine letter.body) (reads_in old) ticket.seq (ticket_at old ticket))) e
          ∙ ap (λ (m : ℕ). done (node_with old node) (did_if_stands (ticket_told call m mine letter.body) (reads_in old) ticket.seq (ticket_at old ticket))) f
          ∙ ap (λ (x : Body). done (node_with old node) (did_if_stands (ticket_told call from mine x) (reads_in old) ticket.seq (ticket_at old ticket))) b
          ∙ ap (done (node_with old node)) did
          ∙ last node letters;
    }

    pub befalls : (kind : MishapKind) (at : ℕ) (letters : List Letter)
        → did_if_stands (ticket_befell call kind at) (reads_in old) ticket.seq (ticket_at old ticket) ≡ record { reads = reads_in new; out = letters }
        → Befalls epoch ticket kind at letters old new
    befalls kind at letters did = record {
      did = λ node e.
          befell_is old.own kind at (node_with old node) ticket (ticket_at old ticket)
          ∙ ap (λ (x : EpochId). done (node_with old node) (did_if_stands (ticket_befell (record { own = old.own; epoch = x; number = ticket }) kind at) (reads_in old) ticket.seq (ticket_at old ticket))) e
          ∙ ap (done (node_with old node)) did
          ∙ last node letters;
    }

    pub gives_up : (letters : List Letter) → letters ≡ letters_given_up call (ticket_at old ticket) → reads_in new ≡ taken_if_stands (reads_in old) ticket.seq (ticket_at old ticket)
        → GivesUp epoch ticket letters old new
    gives_up letters sent tickets = record {
      did = λ node e.
          given_up_is old.own (node_with old node) ticket (ticket_at old ticket)
          ∙ ap (λ (x : EpochId). done (node_with old node) (record { reads = taken_if_stands (reads_in old) ticket.seq (ticket_at old ticket); out = letters_given_up (record { own = old.own; epoch = x; number = ticket }) (ticket_at old ticket) })) e
          ∙ ap (λ (l : List Letter). done (node_with old node) (record { reads = taken_if_stands (reads_in old) ticket.seq (ticket_at old ticket); out = l })) (sym sent)
          ∙ ap (λ (m : Reads). done (node_with old node) (record { reads = m; out = letters })) (sym tickets)
          ∙ last node letters;
    }

  -- a ticket that begins by a rule, with what became of its reading
  pub begins : (seq : ℕ) (rule : Under → ReadDid) (reading : Reading) (letters : List Letter)
      → record { reading = reading; out = letters } ≡ rule (record { own = old.own; epoch = epoch; number = record { node = old.own; boot = old.boot; seq = seq } })
      → reads_in new ≡ fin.insert (reads_in old) seq (record { reading = reading; mishaps = no_mishaps })
      → Begins epoch seq rule letters old new
  begins seq rule reading letters did put = record {
    did = λ node e c.
        ap (λ (x : EpochId). begin_read old.own (node_with old node) (rule (record { own = old.own; epoch = x; number = next_number old.own (node_with old node) }))) e
        ∙ ap (λ (n : ℕ). begun node n (rule (record { own = old.own; epoch = epoch; number = record { node = old.own; boot = old.boot; seq = n } }))) c
        ∙ ap (begun node seq) (sym did)
        ∙ ap (λ (m : Reads). record { node = record node { boot = old.boot; calls = seq; reads = m }; out = letters }) (sym put)
        ∙ ap (λ (b : ℕ). record { node = record node { boot = b; calls = seq; reads = reads_in new }; out = letters }) (sym boot);
  }
    where
      begun : Node → ℕ → ReadDid → Reaction
      begun node n d = record { node = record node { boot = old.boot; calls = n; reads = fin.insert (reads_in old) n (record { reading = d.reading; mishaps = no_mishaps }) }; out = d.out }

-- the ticket of a number that is the node's own, and of another
pub own_ticket : (reads : NodeReads) (ticket : Number) → is_own reads ticket ≡ true → fin.get (reads_in reads) ticket.seq ≡ ticket_at reads ticket
own_ticket reads ticket own = ap (λ (b : Bool). if b then fin.get (reads_in reads) ticket.seq else None) (sym own)

pub other_ticket : (reads : NodeReads) (ticket : Number) → is_own reads ticket ≡ false → ticket_at reads ticket ≡ None
other_ticket reads ticket other = ap (λ (b : Bool). if b then fin.get (reads_in reads) ticket.seq else None) other

module _ (old new : NodeReads) (boot : new.boot ≡ old.boot) (epoch : EpochId) (ticket : Number) (own : is_own old ticket ≡ true) where
  abbrev sender : Under
  sender = record { own = old.own; epoch = epoch; number = ticket }

  pub hears_own : (from : ℕ) (body : Body) (mine : List ToldItem) (letters : List Letter)
      → did_if_stands (ticket_told sender from mine body) (reads_in old) ticket.seq (fin.get (reads_in old) ticket.seq) ≡ record { reads = reads_in new; out = letters }
      → Hears epoch ticket from body mine letters old new
  hears_own from body mine letters did = hears old new boot epoch ticket from body mine letters (ap (did_if_stands (ticket_told sender from mine body) (reads_in old) ticket.seq) (sym (own_ticket old ticket own)) ∙ did)

  pub befalls_own : (kind : MishapKind) (at : ℕ) (letters : List Letter)
      → did_if_stands (ticket_befell sender kind at) (reads_in old) ticket.seq (fin.get (reads_in old) ticket.seq) ≡ record { reads = reads_in new; out = letters }
      → Befalls epoch ticket kind at letters old new
  befalls_own kind at letters did = befalls old new boot epoch ticket kind at letters (ap (did_if_stands (ticket_befell sender kind at) (reads_in old) ticket.seq) (sym (own_ticket old ticket own)) ∙ did)

  pub gives_up_own : (letters : List Letter) → letters ≡ letters_given_up sender (fin.get (reads_in old) ticket.seq) → reads_in new ≡ taken_if_stands (reads_in old) ticket.seq (fin.get (reads_in old) ticket.seq)
      → GivesUp epoch ticket letters old new
  gives_up_own letters sent tickets = gives_up old new boot epoch ticket letters (sent ∙ ap (letters_given_up sender) (own_ticket old ticket own)) (tickets ∙ ap (taken_if_stands (reads_in old) ticket.seq) (own_ticket old ticket own))

-- a number of another node or boot changes nothing
module _ (old : NodeReads) (epoch : EpochId) (ticket : Number) (other : is_own old ticket ≡ false) where
  pub hears_other : (from : ℕ) (body : Body) (mine : List ToldItem) → Hears epoch ticket from body mine [] old old
  hears_other from body mine = hears old old refl epoch ticket from body mine []
      (ap (did_if_stands (ticket_told (record { own = old.own; epoch = epoch; number = ticket }) from mine body) (reads_in old) ticket.seq) (other_ticket old ticket other))

  pub befalls_other : (kind : MishapKind) (at : ℕ) → Befalls epoch ticket kind at [] old old
  befalls_other kind at = befalls old old refl epoch ticket kind at []
      (ap (did_if_stands (ticket_befell (record { own = old.own; epoch = epoch; number = ticket }) kind at) (reads_in old) ticket.seq) (other_ticket old ticket other))

  pub gives_up_other : GivesUp epoch ticket [] old old
  gives_up_other = gives_up old old refl epoch ticket [] (sym (ap (letters_given_up (record { own = old.own; epoch = epoch; number = ticket })) (other_ticket old ticket other)))
      (sym (ap (taken_if_stands (reads_in old) ticket.seq) (other_ticket old ticket other)))

-- who is asked as a call begins
pub asks_other : (u : Under) (user : List ℕ) (proof : Proof) (manager : ℕ) (word : LoginWord) (mine : List ToldItem) → manager ≢ u.own
    → record { reading = LogsIn (record { user = user; manager = manager; stage = AsksManager }); out = ask u manager (LoginAsk user proof) ∷ [] } ≡ begin_login u user proof manager word mine
asks_other u user proof manager word mine apart =
    let other : nat_eq manager u.own ≡ false = grind (arith, nat_tests, apart) in
    ap (λ (b : Bool). if b then take_word u (record { user = user; manager = manager; stage = AsksManager }) mine word
    else record { reading = LogsIn (record { user = user; manager = manager; stage = AsksManager }); out = ask u manager (LoginAsk user proof) ∷ [] }) (sym other)

pub takes_own_word : (u : Under) (user : List ℕ) (proof : Proof) (word : LoginWord) (mine : List ToldItem)
    → take_word u (record { user = user; manager = u.own; stage = AsksManager }) mine word ≡ begin_login u user proof u.own word mine
takes_own_word u user proof word mine =
    let same : nat_eq u.own u.own ≡ true = grind (arith, nat_tests) in
    ap (λ (b : Bool). if b then take_word u (record { user = user; manager = u.own; stage = AsksManager }) mine word
    else record { reading = LogsIn (record { user = user; manager = u.own; stage = AsksManager }); out = ask u u.own (LoginAsk user proof) ∷ [] }) (sym same)

module _ (u : Under) (user : List ℕ) (id : Id) (at most holders : ℕ) (part : ToldPart) where
  abbrev fetch_of : FetchStage → Fetch
  fetch_of stage = record { user = user; id = id; at = at; most = most; stage = stage }

  -- whatever it asked before
  any_stage : (stage : FetchStage) (to : List ℕ) → ask_first u (fetch_of stage) holders to ≡ ask_first u (fetch_of NobodyLeft) holders to
  any_stage stage [] = refl
  any_stage stage (holder ∷ others) = refl

  pub asks_holders : (stage : FetchStage) → has holders u.own ≡ false → ask_next u (fetch_of stage) holders ≡ begin_fetch u user id at most holders part
  asks_holders stage other = any_stage stage (receivers u.own holders 64) ∙ ap (λ (b : Bool). if b then same (Fetches (fetch_of (IsAnswered u.own part))) else ask_next u (fetch_of NobodyLeft) holders) (sym other)

  pub answers_itself : has holders u.own ≡ true → same (Fetches (fetch_of (IsAnswered u.own part))) ≡ begin_fetch u user id at most holders part
  answers_itself own = ap (λ (b : Bool). if b then same (Fetches (fetch_of (IsAnswered u.own part))) else ask_next u (fetch_of NobodyLeft) holders) (sym own)
