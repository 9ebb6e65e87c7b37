-- What is known after all steps, from the opening on.
use Rattle.std.proofs.Common.{◌≡◌, ◌≤◌, inl, ⊎_elim, ℕ, zero, suc, Bool, List, [], ◌∷◌, ◌++◌, flat_map, Option, Some, None, refl, sym, ap, ◌∙◌, subst, append_assoc, append-nil}
use Rattle.std.specs.Prelude.{slice_get}
use Rattle.std.specs.Ordering.{nat_cmp}
use Rattle.std.specs.FinMap as fin
use Rattle.mail_model.specs.Plan.{Plan}
use Rattle.mail_model.specs.Record.{Record}
use Rattle.object_model.specs.Lists.{Among}
use Rattle.object_model.specs.Letters.{Number, MapRow}
use Rattle.object_model.proofs.Lists.{among_behind, among_either}
use Rattle.session_model.specs.Calls.{Call}
use Rattle.session_model.specs.Calls.Answer.{Failed}
use Rattle.session_model.specs.Logs.{Asked, Answered}
use Rattle.cluster_model.specs.Starts.{first_membership, fresh_node}
use Rattle.cluster_model.specs.World as mail
use Rattle.cluster_model.specs.WorldLaws.{opening_world, fresh_slots}
use Rattle.cluster_model.specs.Cluster.{Ticket, Node, slot_at}
use Rattle.cluster_model.specs.Deeds.{slot_up}
use Rattle.cluster_model.specs.Makes as mail_makes
use Rattle.cluster_model.specs.Progress.{NodeAnswer}
use Rattle.cluster_model.specs.Progress.Ask.{Done}
use Rattle.cluster_model.specs.Steps.{NodeCall}
use Rattle.cluster_model.specs.Steps.Step.{Begin, AskFor, GiveUp, Tick}
use Rattle.cluster_model.specs.Steps.Said.{Begun, Asked as AskedFor, Finished}
use Rattle.cluster_model.specs.Steps.StepOutcome.{Says as mail_says}
use Rattle.cluster_model.proofs.Opening.{opening_sound}
use Rattle.maps_model.specs.Words.{ManagersAreMembers}
use Rattle.whole_world.specs.Steps.{Step, StepOutcome}
use Rattle.whole_world.specs.Steps.Step.{OfMessages}
use Rattle.whole_world.specs.Steps.Said.{Told}
use Rattle.whole_world.specs.Steps.StepOutcome.{Says}
use Rattle.whole_world.specs.Seen.{step_seen, outcome_seen}
use Rattle.whole_world.specs.World as whole_world
use Rattle.whole_world.proofs.InFirst as whole_opening
use Rattle.whole_world.proofs.Projecting.{makes_seen}
use Rattle.login_model.specs.Cluster as login
use Rattle.joint_world.specs.World.{World, whole_world_of, mail_world_of}
use Rattle.joint_world.specs.First.{first_world}
use Rattle.joint_world.specs.Laws.{Stands}
use Rattle.joint_world.specs.Makes.{MakesStep}
use Rattle.cluster_owes.specs.Seen.{call_made}
use Rattle.cluster_owes.specs.Outcomes.{Outcome, BegunCall, asked_by_outcome, answered_by_outcome, begun_by_outcome, Came, Makes, IsOfSession, AreOfSessions}
use Rattle.cluster_owes.specs.Outcomes.Outcome.{Began, Fell, Answers, GaveUp, Ticked, Other}
use Rattle.joint_world.proofs.Opening.{first_all_stand}
use Rattle.joint_world.proofs.Standing.{all_stand}
use Rattle.joint_world.proofs.SameStep.{makes_same}
use Rattle.joint_world.proofs.Subjects.{subject_stays}
use Rattle.joint_world.proofs.Shown.{subject_is_shown}
use Rattle.cluster_owes.proofs.Standing.{StandsAs, same_up}
use Rattle.cluster_owes.proofs.Known.{BegunStands, Known}
use Rattle.cluster_owes.proofs.QuietSteps.{known_other, known_ticked, known_answered, failed_drops, failed_acks, failed_stands}
use Rattle.cluster_owes.proofs.Answered.{FoundStands, known_answers}
use Rattle.cluster_owes.proofs.BegunCalls.{known_began, known_fell}
use Rattle.cluster_owes.proofs.Subjects.{IsOfCall, found_stands}
use Rattle.cluster_owes.proofs.Calls.{call_begins}

-- where a cluster opens there are no tickets
pub opens_empty : (nodes : ℕ) (map : List MapRow) (number : Number) (ticket : Ticket) → StandsAs (opening_world nodes map).slots number ticket → ⊥
opens_empty nodes map number ticket s = none (fin.get (fin.empty {R = nat_cmp}) number.seq) (fin.get-empty nat_cmp number.seq) (ap (λ (n : Node). fin.get n.tickets number.seq) (is_fresh nodes number.node s.node s.disk s.up) ∙ s.here)
  where
    none : (o : Option Ticket) → o ≡ None → o ≡ Some ticket → ⊥
    none o p q = cc

    in_slots : (k n : ℕ) (node : Node) (disk : List Record) → slice_get (fresh_slots nodes map k) n ≡ Some (slot_up node disk) → fresh_node nodes map ≡ node
    in_slots zero n node disk e = absurd (cc e)
    in_slots (suc k) zero node disk e = same_up (fresh_node nodes map) node _ disk e
    in_slots (suc k) (suc n) node disk e = in_slots k n node disk e

    is_fresh : (k n : ℕ) (node : Node) (disk : List Record) → slot_at (fresh_slots nodes map k) n ≡ Some (slot_up node disk) → fresh_node nodes map ≡ node
    is_fresh k zero node disk e = absurd (cc e)
    is_fresh k (suc n) node disk e = in_slots k n node disk e

module _ (plan : Plan) (tells : Bool) where
  -- all that stands between two steps, with some story
  pub record Standing (w : World) : Type 0 where
    pub story : List (List login.Slot)
    pub stands : Stands plan tells story w

  -- it stands after one more step
  pub stands_on : (old new : World) (step : Step) (outcome : StepOutcome) → MakesStep plan tells old step outcome new → Standing old → Standing new
  stands_on old new step outcome made s =
      let grown = all_stand plan tells old new (record { step = step; outcome = outcome } ∷ []) s.story (new, made, refl) s.stands in
      record { story = grown.0; stands = grown.1 }

  -- messages see the step as one of theirs
  pub step_of_mail : (old new : World) (step : Step) (outcome : StepOutcome) → MakesStep plan tells old step outcome new → Standing old
      → mail_makes.MakesStep plan tells (mail_world_of old) (step_seen step) (outcome_seen outcome) (mail_world_of new)
  step_of_mail old new step outcome made s =
      makes_seen plan tells (whole_world_of old) (whole_world_of new) step outcome (makes_same plan tells s.story old s.stands step outcome new made)

  -- where it opens
  module _ (map : List MapRow) (some : 1 ≤ plan.nodes) (few : plan.nodes ≤ 64) (managers : ManagersAreMembers (first_membership plan.nodes map)) where
    pub opens_standing : Standing (first_world plan.nodes map)
    opens_standing = record { story = _; stands = (first_all_stand plan tells map some few managers).0 }

    pub opens_for_mail : opening_world plan.nodes map ≡ mail_world_of (first_world plan.nodes map)
    opens_for_mail = sym (ap whole_world.mail_world_of (first_all_stand plan tells map some few managers).1 ∙ (whole_opening.first_stands plan map some few managers).1)

  module _ (lines : List (List ℕ)) where
    abbrev Knows : List Asked → List Answered → List BegunCall → mail.World → Type 0
    Knows asked answered begun w = Known plan tells lines asked answered begun w

    -- so much is known, and each ticket of a call that reads is of its call
    pub record AllKnown (asked : List Asked) (answered : List Answered) (begun : List BegunCall) (w : World) : Type 0 where
      pub stands : Standing w
      pub known : Knows asked answered begun (mail_world_of w)
      pub of_calls : (one : BegunCall) → Among one begun → IsOfCall tells w one.ticket one.call

    -- nothing more was asked, answered or begun
    not_asked : (asked : List Asked) (answered : List Answered) (begun : List BegunCall) (w : mail.World) → Knows asked answered begun w → Knows (asked ++ []) answered begun w
    not_asked asked answered begun w known = subst (λ l. Knows l answered begun w) (sym (append-nil asked)) known

    not_answered : (asked : List Asked) (answered : List Answered) (begun : List BegunCall) (w : mail.World) → Knows asked answered begun w → Knows asked (answered ++ []) begun w
    not_answered asked answered begun w known = subst (λ l. Knows asked l begun w) (sym (append-nil answered)) known

    not_begun : (asked : List Asked) (answered : List Answered) (begun : List BegunCall) (w : mail.World) → Knows asked answered begun w → Knows asked answered (begun ++ []) w
    not_begun asked answered begun w known = subst (λ l. Knows asked answered l w) (sym (append-nil begun)) known

    module _ (asked : List Asked) (answered : List Answered) (begun : List BegunCall) (old new : World) (all : AllKnown asked answered begun old) where
      abbrev before : mail.World
      before = mail_world_of old

      abbrev after : mail.World
      after = mail_world_of new

      -- the tickets that stood are of their calls
      calls_stay : (step : Step) (outcome : StepOutcome) → MakesStep plan tells old step outcome new → (one : BegunCall) → Among one begun → IsOfCall tells new one.ticket one.call
      calls_stay step outcome made one m subject may = subject_stays plan tells all.stands.story old new step outcome one.ticket subject made all.stands.stands (all.of_calls one m subject may)

      -- with no call more
      same_calls : (step : Step) (outcome : StepOutcome) → MakesStep plan tells old step outcome new → (one : BegunCall) → Among one (begun ++ []) → IsOfCall tells new one.ticket one.call
      same_calls step outcome made one m = calls_stay step outcome made one (subst (Among one) (append-nil begun) m)

      -- and with one
      one_call : (n : ℕ) (call : NodeCall) (last : BegunCall) → call_made call ≡ Some last.call → MakesStep plan tells old (OfMessages (Begin n call)) (Says (Told (Begun last.ticket))) new
          → BegunStands after last → (one : BegunCall) → Among one (begun ++ last ∷ []) → IsOfCall tells new one.ticket one.call
      one_call n call last is made begins one m = ⊎_elim
          (λ was. calls_stay (OfMessages (Begin n call)) (Says (Told (Begun last.ticket))) made one was)
          (λ here. ⊎_elim
          (λ same. subst (λ (b : BegunCall). IsOfCall tells new b.ticket b.call) same
          (call_begins plan tells all.stands.story old new n call last.call last.ticket is made all.stands.stands begins.drawn begins.within))
          (λ none. absurd none) here)
          (among_either one begun (last ∷ []) m)

      -- what the ticket of a call found stands
      found_shown : (k : ℕ) (made : Call) (ticket : Number) (own : NodeAnswer) → Among (record { ticket = ticket; session = k; call = made }) begun
          → MakesStep plan tells old (OfMessages (AskFor ticket)) (Says (Told (AskedFor (Done own)))) new → FoundStands tells after made own
      found_shown k made ticket own m did found is = found_stands tells new ticket made found
          (λ subject may. subject_is_shown plan tells all.stands.story old new ticket subject found
          (subst (λ a. MakesStep plan tells old (OfMessages (AskFor ticket)) (Says (Told (AskedFor (Done a)))) new) is did) all.stands.stands
          (all.of_calls (record { ticket = ticket; session = k; call = made }) m subject may))

      one_known : (outcome : Outcome) → IsOfSession lines outcome → Came plan tells outcome begun old new
          → AllKnown (asked ++ asked_by_outcome outcome) (answered ++ answered_by_outcome outcome) (begun ++ begun_by_outcome outcome) new
      one_known (Began k node made ticket) of (call, is_call, did) =
          let seen = step_of_mail old new (OfMessages (Begin node call)) (Says (Told (Begun ticket))) did all.stands in
          let last : BegunCall = record { ticket = ticket; session = k; call = made } in
          let known = known_began plan tells lines asked answered begun before after all.known k node ticket call made is_call seen of.0 of.1 in record {
            stands = stands_on old new (OfMessages (Begin node call)) (Says (Told (Begun ticket))) did all.stands;
            known = not_answered _ answered _ after known;
            of_calls = one_call node call last is_call did (known.calls last (among_behind last begun (last ∷ []) (inl refl)));
          }
      one_known (Fell k node made) of (call, outcome, is_call, fall, did) =
          let seen = step_of_mail old new (OfMessages (Begin node call)) outcome did all.stands in record {
            stands = stands_on old new (OfMessages (Begin node call)) outcome did all.stands;
            known = not_answered _ answered _ after
                (known_fell plan tells lines asked answered begun before after all.known k node (record { node = 0; boot = 0; seq = 0 }) call made (outcome_seen outcome) is_call fall seen);
            of_calls = same_calls (OfMessages (Begin node call)) outcome did;
          }
      one_known (Answers k made ticket given) of (own, given_is, among, did) =
          let seen = step_of_mail old new (OfMessages (AskFor ticket)) (Says (Told (AskedFor (Done own)))) did all.stands in record {
            stands = stands_on old new (OfMessages (AskFor ticket)) (Says (Told (AskedFor (Done own)))) did all.stands;
            known = not_begun _ _ begun after (not_asked asked _ begun after
                (subst (λ g. Knows asked (answered ++ record { session = k; call = made; answer = g } ∷ []) begun after) (sym given_is)
                (known_answers plan tells lines asked answered begun before after all.known k made ticket own (found_shown k made ticket own among did) among seen)));
            of_calls = same_calls (OfMessages (AskFor ticket)) (Says (Told (AskedFor (Done own)))) did;
          }
      one_known (GaveUp k made ticket) of did =
          let seen = step_of_mail old new (OfMessages (GiveUp ticket)) (Says (Told Finished)) did all.stands in record {
            stands = stands_on old new (OfMessages (GiveUp ticket)) (Says (Told Finished)) did all.stands;
            known = not_begun _ _ begun after (not_asked asked _ begun after
                (known_answered plan tells lines asked answered begun after k made Failed (failed_drops made) (failed_acks k made) (failed_stands tells after made)
                (known_other plan tells lines asked answered begun before after (GiveUp ticket) (mail_says Finished) tt seen all.known)));
            of_calls = same_calls (OfMessages (GiveUp ticket)) (Says (Told Finished)) did;
          }
      one_known (Ticked seconds) clock did =
          let seen = step_of_mail old new (OfMessages (Tick seconds)) (Says (Told Finished)) did all.stands in record {
            stands = stands_on old new (OfMessages (Tick seconds)) (Says (Told Finished)) did all.stands;
            known = not_begun _ _ begun after (not_asked asked _ begun after (not_answered asked answered begun after
                (known_ticked plan tells lines asked answered begun before after seconds clock seen all.known)));
            of_calls = same_calls (OfMessages (Tick seconds)) (Says (Told Finished)) did;
          }
      one_known (Other step outcome) of (other, did) =
          let seen = step_of_mail old new step outcome did all.stands in record {
            stands = stands_on old new step outcome did all.stands;
            known = not_begun _ _ begun after (not_asked asked _ begun after (not_answered asked answered begun after
                (known_other plan tells lines asked answered begun before after (step_seen step) (outcome_seen outcome) other seen all.known)));
            of_calls = same_calls step outcome did;
          }

    pub all_known : (outcomes : List Outcome) (asked : List Asked) (answered : List Answered) (begun : List BegunCall) (old last : World) → AreOfSessions lines outcomes → Makes plan tells outcomes begun old last
        → AllKnown asked answered begun old → (all : List BegunCall) × AllKnown (asked ++ flat_map asked_by_outcome outcomes) (answered ++ flat_map answered_by_outcome outcomes) all last
    all_known [] asked answered begun old last of same known =
        (begun, subst (λ l. AllKnown l (answered ++ []) begun last) (sym (append-nil asked)) (subst (λ l. AllKnown asked l begun last) (sym (append-nil answered)) (subst (λ w. AllKnown asked answered begun w) (sym same) known)))
    all_known (outcome ∷ more) asked answered begun old last of (mid, came, rest) known =
        let first = one_known asked answered begun old mid known outcome of.0 came in
        let all = all_known more (asked ++ asked_by_outcome outcome) (answered ++ answered_by_outcome outcome) (begun ++ begun_by_outcome outcome) mid last of.1 rest first in (
          all.0,
          subst (λ l. AllKnown l (answered ++ (answered_by_outcome outcome ++ flat_map answered_by_outcome more)) all.0 last) (append_assoc asked (asked_by_outcome outcome) (flat_map asked_by_outcome more))
              (subst (λ l. AllKnown ((asked ++ asked_by_outcome outcome) ++ flat_map asked_by_outcome more) l all.0 last) (append_assoc answered (answered_by_outcome outcome) (flat_map answered_by_outcome more)) all.1),
        )

    module _ (map : List MapRow) (some : 1 ≤ plan.nodes) (few : plan.nodes ≤ 64) (managers : ManagersAreMembers (first_membership plan.nodes map)) where
      -- where it opens nothing was asked
      opens_knowing : Knows [] [] [] (opening_world plan.nodes map)
      opens_knowing = let both = opening_sound plan.nodes plan.confirm map few in record {
        in_plan = both.0;
        sound = both.1;
        clock = inl refl;
        told = [];
        told_are = refl;
        book_is = record { struck = refl; dropped = refl; masks = []; acked = (refl, refl) };
        masked = tt;
        files = [];
        apart = tt;
        filed = λ f m. absurd m;
        calls = λ one m. absurd m;
        tickets = λ one ticket m s. absurd m;
        numbered = λ number ticket s. absurd (opens_empty plan.nodes map number ticket s);
        acks = λ ack m. absurd m;
        other_ids = tt;
        answers = λ one m. absurd m;
      }

      pub known_last : (outcomes : List Outcome) (last : World) → AreOfSessions lines outcomes → Makes plan tells outcomes [] (first_world plan.nodes map) last
          → (all : List BegunCall) × AllKnown (flat_map asked_by_outcome outcomes) (flat_map answered_by_outcome outcomes) all last
      known_last outcomes last of makes = all_known outcomes [] [] [] (first_world plan.nodes map) last of makes (record {
        stands = opens_standing map some few managers;
        known = subst (Knows [] [] []) (opens_for_mail map some few managers) opens_knowing;
        of_calls = λ one m. absurd m;
      })
