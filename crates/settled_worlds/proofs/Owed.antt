-- A world that was driven owes of its end what it is promised, once it has settled.
use Rattle.std.proofs.Common.{◌≡◌, inl, inr, ⊎_elim, ℕ, ◌≤◌, Bool, true, List, [], ◌∷◌, ◌++◌, map, Option, Some, Ok, refl, sym, ap, ◌∙◌, subst, arith}
use Rattle.std.specs.Prelude.{All}
use Rattle.mail_model.specs.Plan.{Plan}
use Rattle.mail_model.specs.Record.{Record}
use Rattle.object_model.specs.Letters.{Number, Letter}
use Rattle.object_model.specs.Lists.{Among}
use Rattle.object_model.proofs.Lists.{among_last}
use Rattle.cluster_model.specs.Room.{Flight}
use Rattle.cluster_model.specs.World.{letters_of}
use Rattle.mail_model.specs.Maildrop.{Given}
use Rattle.mail_model.specs.PopReplies.{Item}
use Rattle.session_model.specs.Calls as model
use Rattle.session_model.specs.Calls.Call.{Login}
use Rattle.session_model.specs.Calls.Answer.{Listed}
use Rattle.session_model.specs.Copies.{AreDisks}
use Rattle.settled_logins.specs.Reading.{disks_of as slots_disks}
use Rattle.settled_logins.specs.Settled.{IsMember}
use Rattle.standing_model.specs.Standing.{AreStanding, NamesFragments, MembersAgree}
use Rattle.node_store.specs.Disks.{View}
use Rattle.cluster_world.specs.Lasting.{WasDriven}
use Rattle.cluster_world.specs.Made.{StepMade}
use Rattle.cluster_world.specs.Outcomes.{Outcome, Awaited, Came, Makes, map_seen}
use Rattle.cluster_world.specs.Outcomes.Outcome.{Began, Refused, Fell, Broke, Answers, StillPending, Unanswered, GaveUp, Abandoned, KeptUp, Left, Moved, Settling, Mapped}
use Rattle.cluster_world.specs.Owing.{AllBlind, AreOfSessions}
use Rattle.cluster_world.specs.Worlds.{disks_of, disks_tell}
use Rattle.cluster_world.specs.declared.settling.Settle.TheVariants.{Settled}
use Rattle.cluster_world.specs.declared.world.World.{World}
use Rattle.settled_worlds.specs.Settled.{IsReaderOutcome, MembersMade, WorldOwesSettled}
use Rattle.settled_worlds.proofs.Alike.{AreAlike, standing_alike, names_alike, agree_alike}
use Rattle.settled_worlds.proofs.Arriving.{SettledAt, arrive, settles}
use Rattle.settled_worlds.proofs.Carrying.{Has}
use Rattle.settled_worlds.proofs.Mapping.{agree, names}
use Rattle.settled_worlds.proofs.Members.{member_in}
use Rattle.settled_worlds.proofs.Parted.{IsKnown, known_front, known_behind, known_first, sessions_front, Parted, parted}
use Rattle.settled_worlds.proofs.Readers.{AreFewer, fewer_sessions, fewer_after, fewer_after_all}
use Rattle.settled_worlds.proofs.Reading.{Reads, all_go}
use Rattle.settled_worlds.proofs.Telling.{members_alike}

-- ---- a session that asked nothing awaits nothing

abbrev AsksNone : ℕ → List Outcome → Type 0
AsksNone k outcomes = (n : ℕ) (asked : model.Call) (ticket : Number) → Among (Began k n asked ticket) outcomes → ⊥

abbrev AwaitsNone : ℕ → List Awaited → Type 0
AwaitsNone k awaited = (one : Awaited) → Among one awaited → one.session ≡ k → ⊥

fewer_none : (k : ℕ) (awaited left : List Awaited) → AreFewer left awaited → AwaitsNone k awaited → AwaitsNone k left
fewer_none k awaited left fewer none one m own = none one (fewer one m) own

module _ {D : Type 0} (on : View D) where
  same_none : (k : ℕ) (awaited left other : List Awaited) → left ≡ other → AreFewer other awaited → AwaitsNone k awaited → AwaitsNone k left
  same_none k awaited left other is fewer none = subst (AwaitsNone k) (sym is) (fewer_none k awaited other fewer none)

  all_of : (awaited : List Awaited) → AreFewer awaited awaited
  all_of awaited one m = m

  came_none : (k : ℕ) (outcome : Outcome) (awaited left : List Awaited) (old new : World D) → ((n : ℕ) (asked : model.Call) (ticket : Number) → outcome ≡ Began k n asked ticket → ⊥) → Came on outcome awaited old left new
      → AwaitsNone k awaited → AwaitsNone k left
  came_none k (Began j n asked ticket) awaited left old new not_own (call, stirs, e, is, left_is) none = subst (AwaitsNone k) (sym left_is) (λ one m own. ⊎_elim
      (λ before. none one before own)
      (λ same. not_own n asked ticket (ap (λ i. Began i n asked ticket) (ap (λ (x : Awaited). x.session) same ∙ own)))
      (among_last one awaited (record { ticket = ticket; session = j; call = asked }) m))
  came_none k (Refused j n asked) awaited left old new not_own (call, why, e, refusal, is, left_is) none = same_none k awaited left _ left_is (all_of awaited) none
  came_none k (Fell j n asked) awaited left old new not_own (call, e, is, left_is) none = same_none k awaited left _ left_is (fewer_after (Some n) awaited) none
  came_none k (Broke j n asked) awaited left old new not_own (call, failed, e, is, left_is) none = same_none k awaited left _ left_is (fewer_after (Some failed) awaited) none
  came_none k (Answers j asked ticket given) awaited left old new not_own (own, given_is, waits, is, left_is) none = same_none k awaited left _ left_is (fewer_sessions j awaited) none
  came_none k (StillPending j ticket) awaited left old new not_own (asked, got, wanted, waits, is, left_is) none = same_none k awaited left _ left_is (all_of awaited) none
  came_none k (Unanswered j asked ticket) awaited left old new not_own (result, waits, leaves, is, left_is) none = same_none k awaited left _ left_is (fewer_after _ awaited) none
  came_none k (GaveUp j asked ticket) awaited left old new not_own (waits, is, left_is) none = same_none k awaited left _ left_is (fewer_sessions j awaited) none
  came_none k (Abandoned j asked ticket) awaited left old new not_own (waits, is, left_is) none = same_none k awaited left _ left_is (fewer_sessions j awaited) none
  came_none k (KeptUp j ticket why) awaited left old new not_own (asked, waits, is, left_is) none = same_none k awaited left _ left_is (fewer_after _ awaited) none
  came_none k (Left j n user) awaited left old new not_own (call, result, leaves, is, left_is) none = same_none k awaited left _ left_is (fewer_after _ awaited) none
  came_none k (Moved asked steps sum up) awaited left old new not_own (makes, left_is, sum_is, up_is) none = same_none k awaited left _ left_is (fewer_after_all steps awaited) none
  came_none k (Settling result steps) awaited left old new not_own (makes, are, left_is) none = same_none k awaited left _ left_is (fewer_after_all steps awaited) none
  came_none k (Mapped user told) awaited left old new not_own (told_is, left_is, same) none = same_none k awaited left _ left_is (all_of awaited) none

  makes_none : (k : ℕ) (outcomes : List Outcome) (awaited left : List Awaited) (old new : World D) → AsksNone k outcomes → Makes on outcomes awaited old left new → AwaitsNone k awaited → AwaitsNone k left
  makes_none k [] awaited left old new asks (left_is, same) none = subst (AwaitsNone k) (sym left_is) none
  makes_none k (one ∷ more) awaited left old new asks (between, mid, came, rest) none =
      makes_none k more between left mid new (λ n asked ticket m. asks n asked ticket (inr m)) rest (came_none k one awaited between old mid (λ n asked ticket e. asks n asked ticket (inl e)) came none)

  -- ---- the world behind a settle, and what it owes

  module _ (plan : Plan) (lines : List (List ℕ)) (outcomes : List Outcome) (left : List Awaited) (start last : World D) (disks : List (List Record)) (d : WasDriven on plan lines outcomes left start last)
      (tells : disks_tell on.seen last ≡ true) (are : AreDisks 1 (map on.seen (disks_of last)) disks) where
    abbrev told : Bool
    told = disks_tell on.seen start

    few : plan.nodes ≤ 16
    few = omega (arith, start.nodes.few, ap (λ (p : Plan). p.nodes) d.begins.plan_is)

    known : IsKnown told plan.nodes outcomes
    known = ⊎_elim (λ t. inl t) (λ b. inr (subst (λ (p : Plan). AllBlind p.nodes outcomes) d.begins.plan_is b)) d.known

    module _ (front behind : List Outcome) (steps : List StepMade) (split : outcomes ≡ front ++ Settling (Ok Settled) steps ∷ behind) where
      abbrev one : Outcome
      one = Settling (Ok Settled) steps

      at : Parted on front one behind [] left start last
      at = parted on front behind one [] left start last (subst (λ (o : List Outcome). Makes on o [] start left last) split d.makes)

      known_all : IsKnown told plan.nodes (front ++ one ∷ behind)
      known_all = subst (IsKnown told plan.nodes) split known

      settled_at : (members : List ℕ) → MembersMade plan front members → SettledAt on plan told few lines members at.next
      settled_at members made =
          settles on plan told few lines steps at.between at.after at.mid at.next (known_first told plan.nodes one behind (known_behind told plan.nodes front (one ∷ behind) known_all)) at.came members
          (arrive on plan told few lines front at.between start at.mid d.begins refl (known_front told plan.nodes front (one ∷ behind) known_all)
          (sessions_front lines front (one ∷ behind) (subst (AreOfSessions lines) split d.sessions)) at.before members made)

      fresh_reads : (members : List ℕ) (s : SettledAt on plan told few lines members at.next) (k : ℕ) → AsksNone k front → Has on plan told (Reads on plan told few s.g members s.exactly k (slots_disks s.stood.whole.v) at.after) at.next
      fresh_reads members s k asks = record {
        of = s.stood.of;
        whole = s.stood.whole;
        holds = record {
          parts = s.stood.holds.keeping.parts;
          stand = record { settled = s.settled; letters = λ letter m. absurd (none_flies _ s.clear letter m) };
          disks = refl;
          logins = λ one m own user given is. absurd (came_none k (Settling (Ok Settled) steps) at.between at.after at.mid at.next (λ n asked ticket e. settles_begins_none n asked ticket e) at.came
              (makes_none k front [] at.between start at.mid asks at.before (λ x m e. m)) one m own);
        };
      }
        where
          settles_begins_none : (n : ℕ) (asked : model.Call) (ticket : Number) → Settling (Ok Settled) steps ≡ Began k n asked ticket → ⊥
          settles_begins_none n asked ticket e = cc

          none_flies : (flying : List Flight) → flying ≡ [] → (letter : Letter) → Among letter (letters_of flying) → ⊥
          none_flies flying none letter m = subst (λ f. Among letter (letters_of f)) none m

      pub fresh : (members : List ℕ) (k node : ℕ) → All IsReaderOutcome behind → MembersMade plan front members → Among node members → AsksNone k front
          → ((n : ℕ) (asked : model.Call) (ticket : Number) → Among (Began k n asked ticket) behind → n ≡ node)
          → (user : List ℕ) (given : Given) (ticket : Number) (items : List Item) → Among (Answers k (Login user given) ticket (Listed items)) behind → AreStanding disks members user (map (λ (item : Item). item.id) items)
      fresh members k node reads made inside asks at_node user given ticket items answered =
          let s = settled_at members made in
          let member : IsMember s.g node = member_in s.g.members node ((s.exactly node).1 inside) in
          let all = all_go on plan told few s.g members s.exactly k (slots_disks s.stood.whole.v) behind at.after left at.next last reads
          (λ n asked number m. subst (IsMember s.g) (sym (at_node n asked number m)) member) at.more (fresh_reads members s k asks) in
          let alike : AreAlike members (slots_disks all.at.whole.v) disks = members_alike on plan last all.at.whole tells disks are s.g all.at.holds.stand.settled members s.exactly in
          standing_alike members (slots_disks all.at.whole.v) disks alike user (map (λ (item : Item). item.id) items)
          (subst (λ b. AreStanding b members user (map (λ (item : Item). item.id) items)) (sym all.at.holds.disks) (all.lists user given ticket items answered))

    pub maps : (front : List Outcome) (steps : List StepMade) (members : List ℕ) (user : List ℕ) (told_map : Option (ℕ × ℕ)) → outcomes ≡ front ++ Settling (Ok Settled) steps ∷ Mapped user told_map ∷ []
        → MembersMade plan front members → NamesFragments disks members user (map_seen told_map) × MembersAgree disks members
    maps front steps members user told_map split made =
        let behind : List Outcome = Mapped user told_map ∷ [] in
        let a = at front behind steps split in
        let s = settled_at front behind steps split members made in
        let (between, mid, came, rest) = a.more in
        let same : last ≡ a.next = rest.1 ∙ came.2 in
        let alike : AreAlike members (slots_disks s.stood.whole.v) disks =
        members_alike on plan a.next s.stood.whole (subst (λ (w : World D). disks_tell on.seen w ≡ true) same tells) disks (subst (λ (w : World D). AreDisks 1 (map on.seen (disks_of w)) disks) same are) s.g s.settled members s.exactly in (
          names_alike members (slots_disks s.stood.whole.v) disks alike user (map_seen told_map)
              (subst (λ t. NamesFragments (slots_disks s.stood.whole.v) members user (map_seen t)) (sym came.0) (names on plan told few lines members a.next s user)),
          agree_alike members (slots_disks s.stood.whole.v) disks alike (agree on plan told few lines members a.next s),
        )

  pub world_owes_settled : WorldOwesSettled on
  world_owes_settled plan lines outcomes left start last disks d tells are = record {
    fresh = λ front behind steps members k node split reads made inside asks at_node user given ticket items answered.
        fresh plan lines outcomes left start last disks d tells are front behind steps split members k node reads made inside asks at_node user given ticket items answered;
    maps = λ front steps members user told_map split made. maps plan lines outcomes left start last disks d tells are front steps members user told_map split made;
  }
