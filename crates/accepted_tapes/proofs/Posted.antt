-- What comes of a letter that is posted to a node that is up in the first epoch.
use Rattle.std.proofs.Common.{◌≡◌, ⊎_elim, ◌+◌, ◌≤◌, ◌&&◌, inl, inr, ℕ, Bool, true, false, nat_le, List, [], ◌∷◌, ◌++◌, Option, Some, None, refl, sym, ap, ◌∙◌, subst, true≢false, if◌then◌else◌}
use Rattle.std.specs.Prelude.{◌⊎◌}
use Rattle.std.proofs.lemmas.Option.{none-some, same_Some}
use Rattle.mail_model.specs.Identity.{Id, Stamp}
use Rattle.mail_model.specs.Plan.{Plan}
use Rattle.mail_model.specs.Record.{Record}
use Rattle.object_model.specs.Letters.{Number, MapRow, Body, Letter, is_read_body}
use Rattle.cluster_model.specs.Cluster.{Node, Slot, Ticket, with_slot}
use Rattle.cluster_model.specs.Starts.{first_membership}
use Rattle.cluster_model.specs.Forms.{IsMapsBody}
use Rattle.cluster_model.specs.Thrown.{is_stale, is_late, answers_ticket, thrown_by, with_stamps}
use Rattle.cluster_model.specs.Thrown.Why.{Stale, Late}
use Rattle.cluster_model.specs.Deeds.{slot_up, hear}
use Rattle.cluster_model.specs.Rules.{Reaction, ticket_at, told_at}
use Rattle.object_model.specs.Letters.Body.{Filed, FetchAsk}
use Rattle.cluster_model.specs.Room.{Flight, has_room}
use Rattle.cluster_model.specs.World.{World, Flies, flies_on}
use Rattle.cluster_model.specs.Steps.{Said, letter_at, letters_end, step_fault}
use Rattle.cluster_model.specs.Steps.Step.{Post}
use Rattle.cluster_model.specs.Steps.Said.{Faulted}
use Rattle.cluster_model.specs.Makes.{IsUp, Posts, PostsRead, IsFetchAsk, posted_letter, after}
use Rattle.cluster_model.specs.Makes.Posts.{NobodyUp, OfOtherEpoch, TooLate, IsHeard, FailsHearing, IsForMaps, FailsForMaps}
use Rattle.cluster_model.specs.Plain.{kept}
use Rattle.accepted_tapes.proofs.Flown.{IsFirstUp, Holds, are_distinct, flies_so, stay_up, sends_none, sends_one, installed_in, file_of, filed_of}

-- it is late, or its receiver hears it
abbrev IsLate : ℕ → Bool → Letter → World → World → Type 0
IsLate number keep letter old new = (answers_ticket letter.body ≡ true) × (new ≡ record old { flying = kept number keep old.flying })

record WasHeard (plan : Plan) (number : ℕ) (keep : Bool) (letter : Letter) (old new : World) : Type 0 where
  node : Node
  disk : List Record
  up : IsUp old letter.to node disk
  is : new ≡ after (record old { flying = kept number keep old.flying }) letter.to (hear letter.to plan.nodes node disk letter)

late_answers : (own : ℕ) (node : Node) (letter : Letter) (stale : Bool) (answers gone : Bool) → (if stale then Some Stale else (if answers && gone then Some Late else None)) ≡ Some Late → answers ≡ true
late_answers own node letter true answers gone is = absurd (let clash : Stale ≡ Late = same_Some Stale Late is in cc)
late_answers own node letter false true gone is = refl
late_answers own node letter false false gone is = absurd (none-some Late is)

not_stale : (late : Bool) → (if late then Some Late else None) ≡ Some Stale → ⊥
not_stale true is = let clash : Late ≡ Stale = same_Some Late Stale is in cc
not_stale false is = none-some Stale is

-- what a Post does to messages
abbrev pub PostsStep : Plan → World → ℕ → Bool → Said → World → Type 0
PostsStep plan old number keep said new =
    ((posts : Posts plan old number keep said new) × (is_read_body (posted_letter posts).body ≡ false)) ⊎ PostsRead old number keep said new

asks_reads : (body : Body) → IsFetchAsk body → is_read_body body ≡ true
asks_reads (FetchAsk user id from most) asks = refl
asks_reads body asks = absurd asks

module _ (plan : Plan) (flying : List Flight) (sent : ℕ) (old : World) (h : Holds plan.nodes flying sent old) (distinct : are_distinct flying ≡ true)
    (number : ℕ) (keep : Bool) (letter : Letter) (here : letter_at number flying ≡ Some letter) (above : 1 ≤ letter.to) (within : letter.to ≤ plan.nodes)
    (fresh : (managers : List MapRow) → is_stale letter (Some (first_membership plan.nodes managers)) ≡ false) (of_mail : IsMapsBody letter.body → ⊥) where
  so : (f : Flies old number) → (f.letter ≡ letter) × (flies_on old number f keep ≡ kept number keep old.flying)
  so f = let is = flies_so old number f keep (subst (λ (l : List Flight). are_distinct l ≡ true) (sym h.flying_is) distinct) in
      (same_Some f.letter letter (sym is.0 ∙ ap (letter_at number) h.flying_is ∙ here), is.1)

  of_reads : (f : Flies old number) → is_read_body f.letter.body ≡ true → is_read_body letter.body ≡ false → ⊥
  of_reads f read unread = true≢false (sym (subst (λ (l : Letter). is_read_body l.body ≡ true) (so f).0 read) ∙ unread)

  -- a letter of messages is none of calls that read
  posts_of : (said : Said) (new : World) → is_read_body letter.body ≡ false → PostsStep plan old number keep said new → Posts plan old number keep said new
  posts_of said new unread (inl posts) = posts.0
  posts_of said new unread (inr (PostsRead.NobodyUp f read never says goes)) = absurd (of_reads f read unread)
  posts_of said new unread (inr (PostsRead.OfOtherEpoch f node disk read up stale says goes)) = absurd (of_reads f read unread)
  posts_of said new unread (inr (PostsRead.TooLate f node disk read up fits answers says is)) = absurd (of_reads f read unread)
  posts_of said new unread (inr (PostsRead.IsHeard f node disk read up fits says goes)) = absurd (of_reads f read unread)
  posts_of said new unread (inr (PostsRead.FailsForReads f node disk asks up fits says goes)) = absurd (of_reads f (asks_reads f.letter.body asks) unread)

  there : IsFirstUp plan.nodes old.slots letter.to
  there = h.up letter.to above within

  first_at : (node : Node) (disk : List Record) → IsUp old letter.to node disk → node.installed ≡ Some (first_membership plan.nodes there.managers)
  first_at node disk up = ap (λ (slot : Slot). installed_in slot.life) (same_Some (slot_up node disk) (slot_up there.node there.disk) (sym up ∙ there.up)) ∙ there.first

  never_stale : (node : Node) (disk : List Record) → IsUp old letter.to node disk → thrown_by letter.to node letter ≡ Some Stale → ⊥
  never_stale node disk up thrown =
      not_stale (is_late letter.to node letter) (subst (λ b. (if b then Some Stale else (if is_late letter.to node letter then Some Late else None)) ≡ Some Stale) (ap (is_stale letter) (first_at node disk up) ∙ fresh there.managers) thrown)

  post_comes : (said : Said) (new : World) → Posts plan old number keep said new → ((n : ℕ) → said ≡ Faulted n → ⊥) → IsLate number keep letter old new ⊎ WasHeard plan number keep letter old new
  post_comes said new (NobodyUp f never says is) well =
      absurd (never there.node there.disk (subst (λ (l : Letter). IsUp old l.to there.node there.disk) (sym (so f).0) there.up))
  post_comes said new (OfOtherEpoch f node disk up thrown says is) well =
      absurd (never_stale node disk (subst (λ (l : Letter). IsUp old l.to node disk) (so f).0 up) (subst (λ (l : Letter). thrown_by l.to node l ≡ Some Stale) (so f).0 thrown))
  post_comes said new (TooLate f node disk up thrown says is) well = inl (
    late_answers letter.to node letter (is_stale letter node.installed) (answers_ticket letter.body) _ (subst (λ (l : Letter). thrown_by l.to node l ≡ Some Late) (so f).0 thrown),
    is ∙ ap (λ (l : List Flight). record old { flying = l }) (so f).1,
  )
  post_comes said new (IsHeard f node disk up thrown says is) well = inr (record {
    node = node;
    disk = disk;
    up = subst (λ (l : Letter). IsUp old l.to node disk) (so f).0 up;
    is = subst (λ (l : Letter). new ≡ after (record old { flying = kept number keep old.flying }) l.to (hear l.to plan.nodes node disk l)) (so f).0
        (is ∙ ap (λ (l : List Flight). after (record old { flying = l }) f.letter.to (hear f.letter.to plan.nodes node disk f.letter)) (so f).1);
  })
  post_comes said new (FailsHearing f node disk up thrown says down falls is) well = absurd (well f.letter.to says)
  post_comes said new (IsForMaps f node disk up of its says did forms is) well = absurd (of_mail (subst (λ (l : Letter). IsMapsBody l.body) (so f).0 of))
  post_comes said new (FailsForMaps f node disk promise up of its says down falls is) well = absurd (well f.letter.to says)

-- a letter that carries a message is answered
pub file_posted : (plan : Plan) (flying : List Flight) (sent : ℕ) (old : World) → Holds plan.nodes flying sent old → are_distinct flying ≡ true → (number : ℕ) (keep : Bool)
    → (from to : ℕ) (ticket : Option Number) (id : Id) (stamp : Stamp) (targets : ℕ) (users : List (List ℕ)) (octets : List ℕ) → letter_at number flying ≡ Some (file_of from to ticket id stamp targets users octets)
    → 1 ≤ to → to ≤ plan.nodes → has_room (kept number keep flying) (filed_of to from ticket id) ≡ true
    → (said : Said) (new : World) → PostsStep plan old number keep said new → ((n : ℕ) → said ≡ Faulted n → ⊥)
    → Holds plan.nodes (kept number keep flying ++ record { number = sent + 1; letter = filed_of to from ticket id } ∷ []) (sent + 1) new
file_posted plan flying sent old h distinct number keep from to ticket id stamp targets users octets here above within room said new posts well = ⊎_elim
    (λ (late : IsLate number keep (file_of from to ticket id stamp targets users octets) old new). absurd (let clash : false ≡ true = late.0 in cc))
    (λ (heard : WasHeard plan number keep (file_of from to ticket id stamp targets users octets) old new). was heard)
    (post_comes plan flying sent old h distinct number keep (file_of from to ticket id stamp targets users octets) here above within (λ managers. refl) (λ of. of) said new
    (posts_of plan flying sent old h distinct number keep (file_of from to ticket id stamp targets users octets) here above within (λ managers. refl) (λ of. of) said new refl posts) well)
  where
    was : WasHeard plan number keep (file_of from to ticket id stamp targets users octets) old new
        → Holds plan.nodes (kept number keep flying ++ record { number = sent + 1; letter = filed_of to from ticket id } ∷ []) (sent + 1) new
    was heard =
        let did : Reaction = hear to plan.nodes heard.node heard.disk (file_of from to ticket id stamp targets users octets) in
        let mid : World = record old { flying = kept number keep old.flying } in
        let is : new ≡ record mid { slots = with_slot old.slots to (slot_up did.node did.disk); flying = kept number keep old.flying ++ record { number = old.sent + 1; letter = filed_of to from ticket id } ∷ []; sent = old.sent + 1 } =
        heard.is ∙ sends_one mid to did (filed_of to from ticket id) refl (subst (λ (l : List Flight). has_room (kept number keep l) (filed_of to from ticket id) ≡ true) (sym h.flying_is) room) in
        record {
          flying_is = ap (λ (w : World). w.flying) is
              ∙ ap (λ (l : List Flight). kept number keep l ++ record { number = old.sent + 1; letter = filed_of to from ticket id } ∷ []) h.flying_is
              ∙ ap (λ (n : ℕ). kept number keep flying ++ record { number = n + 1; letter = filed_of to from ticket id } ∷ []) h.sent_is;
          sent_is = ap (λ (w : World). w.sent) is ∙ ap (λ (n : ℕ). n + 1) h.sent_is;
          up = subst (λ (slots : List Slot). (n : ℕ) → 1 ≤ n → n ≤ plan.nodes → IsFirstUp plan.nodes slots n) (sym (ap (λ (w : World). w.slots) is))
              (stay_up plan.nodes old.slots to heard.node did.node heard.disk did.disk h.up heard.up refl);
        }

-- one that says that it is filed is not
pub told_posted : (plan : Plan) (flying : List Flight) (sent : ℕ) (old : World) → Holds plan.nodes flying sent old → are_distinct flying ≡ true → (number : ℕ) (keep : Bool)
    → (from to : ℕ) (ticket : Option Number) (id : Id) → letter_at number flying ≡ Some (filed_of from to ticket id) → 1 ≤ to → to ≤ plan.nodes
    → (said : Said) (new : World) → PostsStep plan old number keep said new → ((n : ℕ) → said ≡ Faulted n → ⊥) → Holds plan.nodes (kept number keep flying) sent new
told_posted plan flying sent old h distinct number keep from to ticket id here above within said new posts well = ⊎_elim
    (λ (late : IsLate number keep (filed_of from to ticket id) old new). subst (Holds plan.nodes (kept number keep flying) sent) (sym late.1)
    (record { flying_is = ap (kept number keep) h.flying_is; sent_is = h.sent_is; up = h.up }))
    (λ (heard : WasHeard plan number keep (filed_of from to ticket id) old new). was heard (ticket_at to (with_stamps (Filed id) heard.node) ticket) refl)
    (post_comes plan flying sent old h distinct number keep (filed_of from to ticket id) here above within (λ managers. refl) (λ of. of) said new
    (posts_of plan flying sent old h distinct number keep (filed_of from to ticket id) here above within (λ managers. refl) (λ of. of) said new refl posts) well)
  where
    holds : (node : Node) (disk : List Record) (did : Reaction) → IsUp old to node disk → did.out ≡ [] → did.node.installed ≡ node.installed → new ≡ after (record old { flying = kept number keep old.flying }) to did
        → Holds plan.nodes (kept number keep flying) sent new
    holds node disk did up none same is =
        let to_is = is ∙ sends_none (record old { flying = kept number keep old.flying }) to did none in
        record {
          flying_is = ap (λ (w : World). w.flying) to_is ∙ ap (kept number keep) h.flying_is;
          sent_is = ap (λ (w : World). w.sent) to_is ∙ h.sent_is;
          up = subst (λ (slots : List Slot). (n : ℕ) → 1 ≤ n → n ≤ plan.nodes → IsFirstUp plan.nodes slots n) (sym (ap (λ (w : World). w.slots) to_is))
              (stay_up plan.nodes old.slots to node did.node disk did.disk h.up up same);
        }

    was : (heard : WasHeard plan number keep (filed_of from to ticket id) old new) → (found : Option Ticket) → ticket_at to (with_stamps (Filed id) heard.node) ticket ≡ found → Holds plan.nodes (kept number keep flying) sent new
    was heard None none = holds heard.node heard.disk (told_at (with_stamps (Filed id) heard.node) heard.disk (filed_of from to ticket id) None) heard.up refl refl
        (heard.is ∙ ap (λ (t : Option Ticket). after (record old { flying = kept number keep old.flying }) to (told_at (with_stamps (Filed id) heard.node) heard.disk (filed_of from to ticket id) t)) none)
    was heard (Some ticket_there) there_is = holds heard.node heard.disk (told_at (with_stamps (Filed id) heard.node) heard.disk (filed_of from to ticket id) (Some ticket_there)) heard.up refl refl
        (heard.is ∙ ap (λ (t : Option Ticket). after (record old { flying = kept number keep old.flying }) to (told_at (with_stamps (Filed id) heard.node) heard.disk (filed_of from to ticket id) t)) there_is)

-- a letter in flight is one that may be posted
pub post_fits : (plan : Plan) (flying : List Flight) (sent : ℕ) (w : World) → Holds plan.nodes flying sent w → (number : ℕ) (keep : Bool) (letter : Letter) → letter_at number flying ≡ Some letter
    → nat_le letters_end sent ≡ false → step_fault plan (Post number keep) w ≡ None
post_fits plan flying sent w h number keep letter here few =
    let at : letter_at number w.flying ≡ Some letter = ap (letter_at number) h.flying_is ∙ here in
    let low : nat_le letters_end w.sent ≡ false = ap (nat_le letters_end) h.sent_is ∙ few in
    rw at (rw low refl)
