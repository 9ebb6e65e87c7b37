-- A letter that a mishap befalls: its ticket then waits for it no more.
use Rattle.std.proofs.Common.{◌≡◌, ◌⊎◌, inl, inr, ⊎_elim, ℕ, Bool, true, false, List, [], ◌∷◌, ◌++◌, Option, Some, None, refl, sym, ap, ◌∙◌, subst, true≢false, if◌then◌else◌, nat_eq}
use Rattle.std.specs.FinMap as map
use Rattle.std.specs.Cmp.{nat_cmp_total}
use Rattle.std.proofs.lemmas.Bool.{eq-eqb, cases_eq, cond-true, cond-false, ne_eqb}
use Rattle.std.proofs.lemmas.Map.Lookups.{exact_unsigned}
use Rattle.mail_model.specs.Record.{Record}
use Rattle.object_model.specs.Sets.{has, without_node}
use Rattle.object_model.specs.Lists.{Among}
use Rattle.object_model.specs.Mishaps.{MishapKind, counted}
use Rattle.object_model.specs.Letters.{Number, Letter}
use Rattle.object_model.proofs.MapLaws.{written}
use Rattle.object_model.proofs.SetLaws.{left_in}
use Rattle.object_model.proofs.Lists.{among_front, among_behind, among_either, same_some}
use Rattle.cluster_model.specs.Rules.{receivers}
use Rattle.cluster_model.proofs.Logs.{receiver_is}
use Rattle.login_model.specs.Readings.{LoginStage, Login, FetchStage, Fetch, Reading, ReadTicket}
use Rattle.login_model.specs.Readings.LoginStage.{AsksManager, IsDenied, AsksNodes, HasFailed}
use Rattle.login_model.specs.Readings.FetchStage.{AsksHolder, IsAnswered, NobodyLeft}
use Rattle.login_model.specs.Readings.Reading.{LogsIn, Fetches}
use Rattle.login_model.specs.Cluster.{Node, Slot, Cluster, slot_at, with_slot, slot_up, NodesRead}
use Rattle.login_model.specs.Cluster.Life.{Up}
use Rattle.login_model.specs.Rules.{same, Under, fail, ask_first, ask_next, login_befell, fetch_befell, befell, befell_at, mishap, read_at, under, with_reading}
use Rattle.login_model.specs.Facts.{AnswerAwaited, LoginWaits, FetchWaits, ReadingWaits, Covers, LifeWaits, NodesWait, far_end}
use Rattle.login_model.specs.Facts.AnswerAwaited.{ForWord, ForList, ForPart}
use Rattle.login_model.specs.Moves.{NodeAct, MayMove, MayMoves, IsReady, IsCallDone, SettlesLetter}
use Rattle.login_model.proofs.Kept.{is_ready}
use Rattle.login_model.specs.Moves.Move.{Acted, Taken}
use Rattle.login_model.specs.Parts.{Sound}
use Rattle.login_model.specs.NodeLaws.{lost_moves}
use Rattle.login_model.proofs.Slots.{at_same}
use Rattle.login_model.proofs.Reacts.{same_up}
use Rattle.login_model.proofs.Hears.{none_some, same_number, read_is}
use Rattle.login_model.proofs.Begins.{mishap_acts}

-- a login that failed waits for nobody
failed_waits : (u : Under) (login : Login) (m : ℕ) (what : AnswerAwaited) → ReadingWaits (fail u login).reading m what → ⊥
failed_waits u login m ForWord w = w
failed_waits u login m ForList w = w
failed_waits u login m ForPart w = w

login_over : (u : Under) (m : ℕ) (login : Login) (stage : LoginStage) → login.stage ≡ stage → (what : AnswerAwaited) → ReadingWaits (login_befell u m login stage).reading m what → ⊥
login_over u m login AsksManager e what w = by (nat_eq m login.manager) refl w
  where
    waits : (what : AnswerAwaited) → LoginWaits login.manager AsksManager m what → m ≡ login.manager
    waits ForWord k = k
    waits ForList k = absurd k
    waits ForPart k = absurd k

    by : (b : Bool) → nat_eq m login.manager ≡ b → ReadingWaits (if b then fail u login else same (LogsIn login)).reading m what → ⊥
    by true h k = failed_waits u login m what k
    by false h k = true≢false (sym (eq-eqb m login.manager (waits what (subst (λ s. LoginWaits login.manager s m what) e k))) ∙ h)
login_over u m login (IsDenied word) e what w = nothing what (subst (λ s. LoginWaits login.manager s m what) e w)
  where
    nothing : (what : AnswerAwaited) → LoginWaits login.manager (IsDenied word) m what → ⊥
    nothing ForWord k = k
    nothing ForList k = k
    nothing ForPart k = k
login_over u m login (AsksNodes named waiting told) e what w = by (has waiting m) refl w
  where
    waits : (what : AnswerAwaited) → LoginWaits login.manager (AsksNodes named waiting told) m what → has waiting m ≡ true
    waits ForWord k = absurd k
    waits ForList k = k
    waits ForPart k = absurd k

    by : (b : Bool) → has waiting m ≡ b → ReadingWaits (if b then fail u login else same (LogsIn login)).reading m what → ⊥
    by true h k = failed_waits u login m what k
    by false h k = true≢false (sym (waits what (subst (λ s. LoginWaits login.manager s m what) e k)) ∙ h)
login_over u m login HasFailed e what w = nothing what (subst (λ s. LoginWaits login.manager s m what) e w)
  where
    nothing : (what : AnswerAwaited) → LoginWaits login.manager HasFailed m what → ⊥
    nothing ForWord k = k
    nothing ForList k = k
    nothing ForPart k = k

-- the next holder is another
next_apart : (u : Under) (fetch : Fetch) (left m : ℕ) (holders : List ℕ) → ((h : ℕ) → Among h holders → has (without_node left m) h ≡ true) → (what : AnswerAwaited)
    → ReadingWaits (ask_first u fetch (without_node left m) holders).reading m what → ⊥
next_apart u fetch left m [] all ForWord w = w
next_apart u fetch left m [] all ForList w = w
next_apart u fetch left m [] all ForPart w = w
next_apart u fetch left m (holder ∷ others) all ForWord w = w
next_apart u fetch left m (holder ∷ others) all ForList w = w
next_apart u fetch left m (holder ∷ others) all ForPart w = (left_in left m holder (all holder (inl refl))).1 (sym w)

fetch_over : (u : Under) (m : ℕ) (fetch : Fetch) (stage : FetchStage) → fetch.stage ≡ stage → (what : AnswerAwaited) → ReadingWaits (fetch_befell u m fetch stage).reading m what → ⊥
fetch_over u m fetch (AsksHolder holder left) e what w = by (nat_eq m holder) refl w
  where
    waits : (what : AnswerAwaited) → FetchWaits (AsksHolder holder left) m what → m ≡ holder
    waits ForWord k = absurd k
    waits ForList k = absurd k
    waits ForPart k = k

    by : (b : Bool) → nat_eq m holder ≡ b → ReadingWaits (if b then ask_next u fetch (without_node left m) else same (Fetches fetch)).reading m what → ⊥
    by true h k = next_apart u fetch left m (receivers u.own (without_node left m) 64) (λ x inside. (receiver_is u.own (without_node left m) 64 x inside).0) what k
    by false h k = true≢false (sym (eq-eqb m holder (waits what (subst (λ s. FetchWaits s m what) e k))) ∙ h)
fetch_over u m fetch (IsAnswered by part) e what w = nothing what (subst (λ s. FetchWaits s m what) e w)
  where
    nothing : (what : AnswerAwaited) → FetchWaits (IsAnswered by part) m what → ⊥
    nothing ForWord k = k
    nothing ForList k = k
    nothing ForPart k = k
fetch_over u m fetch NobodyLeft e what w = nothing what (subst (λ s. FetchWaits s m what) e w)
  where
    nothing : (what : AnswerAwaited) → FetchWaits NobodyLeft m what → ⊥
    nothing ForWord k = k
    nothing ForList k = k
    nothing ForPart k = k

pub reading_over : (u : Under) (m : ℕ) (reading : Reading) (what : AnswerAwaited) → ReadingWaits (befell u m reading).reading m what → ⊥
reading_over u m (LogsIn login) what w = login_over u m login login.stage refl what w
reading_over u m (Fetches fetch) what w = fetch_over u m fetch fetch.stage refl what w

-- the far end of a letter is whom it covers
far_is : (letter : Letter) (number : Number) (m : ℕ) (what : AnswerAwaited) → Covers letter number m what → far_end letter number ≡ m
far_is letter number m what c = ⊎_elim
    (λ (from, to, a). cond-true (nat_eq letter.from number.node) letter.to letter.from (eq-eqb letter.from number.node from) ∙ to)
    (λ (to, from, t). ⊎_elim
    (λ same. cond-true (nat_eq letter.from number.node) letter.to letter.from (eq-eqb letter.from number.node same) ∙ to ∙ sym same ∙ from)
    (λ apart. cond-false (nat_eq letter.from number.node) letter.to letter.from (ne_eqb letter.from number.node apart) ∙ from)
    (cases_eq letter.from number.node))
    c.1

-- after the mishap the ticket waits for that node no more
mishap_over : (own : ℕ) (kind : MishapKind) (m : ℕ) (node : Node) (number : Number) → number.node ≡ own → (what : AnswerAwaited) → LifeWaits (Up (mishap own kind m node number).node) number m what → ⊥
mishap_over own kind m node number at what w = by (read_at own node (Some number)) refl w
  where
    late : read_at own node (Some number) ≡ None → LifeWaits (Up node) number m what → ⊥
    late none k =
        let same_ = same_up node k.reads.node k.reads.up in
        let here = subst (λ (n : Node). map.get n.reads number.seq ≡ Some k.reads.ticket) (sym same_) k.reads.here in
        let boot : number.boot ≡ node.boot = k.reads.boot ∙ ap (λ (n : Node). n.boot) (sym same_) in
        none_some (read_at own node (Some number)) k.reads.ticket none (read_is own node number at boot ∙ here)

    done : (ticket : ReadTicket) → LifeWaits (Up (befell_at own kind m node number (Some ticket)).node) number m what → ⊥
    done ticket k =
        let next : ReadTicket = record { reading = (befell (under own node number) m ticket.reading).reading; mishaps = counted kind ticket.mishaps } in
        let same_ = same_up (with_reading node number.seq next) k.reads.node k.reads.up in
        let here : map.get (map.insert node.reads number.seq next) number.seq ≡ Some k.reads.ticket = subst (λ (x : Node). map.get x.reads number.seq ≡ Some k.reads.ticket) (sym same_) k.reads.here in
        let is : next ≡ k.reads.ticket = same_some (map.get (map.insert node.reads number.seq next) number.seq) next k.reads.ticket (written nat_cmp_total exact_unsigned node.reads number.seq next) here in
        reading_over (under own node number) m ticket.reading what
        (subst (λ (x : ReadTicket). ReadingWaits x.reading m what) (sym is) (subst (λ g. ReadingWaits g m what) (sym k.reads.is) k.waits))

    by : (r : Option ReadTicket) → read_at own node (Some number) ≡ r → LifeWaits (Up (befell_at own kind m node number r).node) number m what → ⊥
    by None e k = late e k
    by (Some ticket) e k = done ticket k

pub lost_may : (w : Cluster) → Sound w → (kind : MishapKind) (letter : Letter) (number : Number) (left : List Letter) → letter.ticket ≡ Some number → Among letter w.flying
    → ((one : Letter) → Among one left → Among one w.flying) → ((one : Letter) → Among one w.flying → Among one left ⊎ (one ≡ letter))
    → (node : Node) (disk : List Record) → slot_at w.slots number.node ≡ Some (slot_up node disk) → MayMoves (lost_moves number.node node disk kind letter number left) w
lost_may w s kind letter number left t flies fewer others node disk here = (
  (here, (λ ready. (mishap_acts number.node node disk ready kind (far_end letter number) number).is), λ one e. absurd (none_letter one e)),
  (
    (
      λ one m. ⊎_elim (λ stays. among_front one w.flying did (fewer one stays)) (λ new. among_behind one w.flying did new) (among_either one left did m),
      λ one m. ⊎_elim
          (λ old. ⊎_elim (λ stays. inl (among_front one left did stays)) (λ is. inr is) (others one old))
          (λ new. inl (among_behind one left did new))
          (among_either one w.flying did m),
      λ other m what c waits. absurd (over other m what c waits),
    ),
    tt,
  ),
)
  where
    none_letter : (one : Letter) → ◌≡◌ {A = Option Letter} None (Some one) → ⊥
    none_letter one e = cc

    did : List Letter
    did = (mishap number.node kind (far_end letter number) node number).out

    after : List Slot
    after = with_slot w.slots number.node (slot_up (mishap number.node kind (far_end letter number) node number).node disk)

    over : (other : Number) (m : ℕ) (what : AnswerAwaited) → Covers letter other m what → NodesWait after other m what → ⊥
    over other m what c waits =
        let same_n : number ≡ other = same_number number other (sym t ∙ c.0) in
        let covers : Covers letter number m what = subst (λ n. Covers letter n m what) (sym same_n) c in
        let mine : NodesWait after number m what = subst (λ n. NodesWait after n m what) (sym same_n) waits in
        let there = at_same w.slots number.node (slot_up node disk) (slot_up (mishap number.node kind (far_end letter number) node number).node disk) here in
        let is = same_some (slot_at after number.node) mine.slot (slot_up (mishap number.node kind (far_end letter number) node number).node disk) mine.here there in
        let life : LifeWaits (Up (mishap number.node kind (far_end letter number) node number).node) number m what = subst (λ (x : Slot). LifeWaits x.life number m what) is mine.waits in
        mishap_over number.node kind m node number refl what
        (subst (λ k. LifeWaits (Up (mishap number.node kind k node number).node) number m what) (far_is letter number m what covers) life)

pub late_may : (w : Cluster) (letter : Letter) (left : List Letter) → ((one : Letter) → Among one left → Among one w.flying) → ((one : Letter) → Among one w.flying → Among one left ⊎ (one ≡ letter))
    → ((number : Number) → letter.ticket ≡ Some number → (reading : Reading) → NodesRead w.slots number reading → ⊥) → MayMove (Taken letter left) w
late_may w letter left fewer others nobody = (fewer, others, λ number m what c waits. absurd (nobody number c.0 waits.waits.reading (record { slot = waits.slot; here = waits.here; reads = waits.waits.reads })))

pub heard_may : (w : Cluster) → Sound w → (act : NodeAct) (letter : Letter) (left : List Letter) → slot_at w.slots act.node ≡ Some act.before → act.heard ≡ Some letter → Among letter w.flying → letter.to ≡ act.node
    → (IsReady act.node act.before act.heard → IsCallDone act)
    → ((one : Letter) → Among one left → Among one w.flying) → ((one : Letter) → Among one w.flying → Among one left ⊎ (one ≡ letter))
    → MayMoves (Acted act ∷ Taken letter (left ++ act.out) ∷ []) w
heard_may w s act letter left here heard flies to done fewer others = (
  (here, (λ ready. (done ready).is), flew),
  (
    (
      λ one m. ⊎_elim (λ stays. among_front one w.flying act.out (fewer one stays)) (λ new. among_behind one w.flying act.out new) (among_either one left act.out m),
      λ one m. ⊎_elim
          (λ old. ⊎_elim (λ stays. inl (among_front one left act.out stays)) (λ is. inr is) (others one old))
          (λ new. inl (among_behind one left act.out new))
          (among_either one w.flying act.out m),
      λ number m what c waits. ⊎_elim
          (λ out. record { letter = out.letter; inside = among_behind out.letter left act.out out.inside; covers = out.covers })
          (λ (at, over). absurd (over (own_waits number m what at waits)))
          (settles.settled letter heard number m what c),
    ),
    tt,
  ),
)
  where
    flew : (one : Letter) → act.heard ≡ Some one → Among one w.flying × (one.to ≡ act.node)
    flew one e = let is = same_some act.heard letter one heard e in (subst (λ (l : Letter). Among l w.flying) is flies, subst (λ (l : Letter). l.to ≡ act.node) is to)

    settles : SettlesLetter act
    settles = (done (is_ready w act here flew s)).settles

    own_waits : (number : Number) (m : ℕ) (what : AnswerAwaited) → number.node ≡ act.node → NodesWait (with_slot w.slots act.node act.after) number m what → LifeWaits act.after.life number m what
    own_waits number m what at waits =
        let there = subst (λ n. slot_at (with_slot w.slots act.node act.after) n ≡ Some act.after) (sym at) (at_same w.slots act.node act.before act.after here) in
        subst (λ (x : Slot). LifeWaits x.life number m what) (same_some (slot_at (with_slot w.slots act.node act.after) number.node) waits.slot act.after waits.here there) waits.waits
