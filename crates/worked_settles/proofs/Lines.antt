-- Lines of a worked tape, each of which moves one session, or none.
use Rattle.std.proofs.Common.{◌≡◌, ◌≢◌, ◌+◌, ◌≤◌, ℕ, List, [], ◌∷◌, ◌++◌, Some, None, refl, sym, ap, ◌∙◌, subst, arith, flat_map, append_assoc, append-nil}
use Rattle.mail_model.specs.Lines.{sent_line}
use Rattle.mail_model.specs.Plan.{Plan}
use Rattle.mail_model.specs.Tape.{ClusterOrder, tape_order}
use Rattle.mail_model.specs.Tape.Order.{Say, GiveUp, Moves}
use Rattle.mail_model.specs.Transcript.{Entry, said_lines}
use Rattle.session_model.specs.Calls.{Call, Answer, RepliesTo}
use Rattle.session_model.specs.Calls.Answer.{Failed}
use Rattle.session_model.specs.Moves.{with_answer}
use Rattle.session_model.specs.Talk.{TalkState, Exchange, Standing, IsNext, IsOn, stands_by}
use Rattle.session_model.specs.Talk.{answered as stands_answered}
use Rattle.session_model.specs.Talk.Standing.{Hearing, Waiting}
use Rattle.session_model.specs.Sessions.{Session, session_at}
use Rattle.session_model.specs.Events.{ClusterEvent, IsEventOf, event_entries}
use Rattle.session_model.specs.Lives.{life_after}
use Rattle.session_model.specs.Acts.{Act, Acted, closing, replace}
use Rattle.session_model.specs.Acts.Act.{Does, StillWaits, Makes}
use Rattle.session_model.specs.Acts.Deed.{IsFed, Hears, IsAnswered, IsGivenUp}
use Rattle.session_model.specs.Turns.{Waits, IsAtRest, IsFirst, IsNone, to_leave, turn_after_event, turn_after_unit}
use Rattle.session_model.specs.Turns.Turn.{Hearing as Hears_on, Beginning, Asking}
use Rattle.session_model.specs.Run.{IsHandled, refusal, AreHandled}
use Rattle.worked_sessions.specs.OneMessage.{fed_with}

-- lines after lines
pub handled_more : (plan : Plan) (been : List Act) (old mid new : List Session) (front back : List (List ℕ)) (acts more : List (List Act)) (outputs others : List (List (List Entry)))
    → AreHandled plan been old front acts outputs mid → AreHandled plan (been ++ flat_map (λ a. a) acts) mid back more others new
    → AreHandled plan been old (front ++ back) (acts ++ more) (outputs ++ others) new
handled_more plan been old mid new [] back [] more [] others is follow =
    subst (λ (b : List Act). AreHandled plan b old back more others new) (append-nil been) (subst (λ (s : List Session). AreHandled plan (been ++ []) s back more others new) is follow)
handled_more plan been old mid new (line ∷ front) back (a ∷ acts) more (o ∷ outputs) others (next, is, later) follow = (
  next,
  is,
  handled_more plan (been ++ a) next mid new front back acts more outputs others later
      (subst (λ (b : List Act). AreHandled plan b mid back more others new) (sym (append_assoc been a (flat_map (λ x. x) acts))) follow),
)
handled_more plan been old mid new [] back [] more (o ∷ outputs) others is follow = absurd is
handled_more plan been old mid new [] back (a ∷ acts) more [] others is follow = absurd is
handled_more plan been old mid new [] back (a ∷ acts) more (o ∷ outputs) others is follow = absurd is
handled_more plan been old mid new (line ∷ front) back [] more [] others is follow = absurd is
handled_more plan been old mid new (line ∷ front) back [] more (o ∷ outputs) others is follow = absurd is
handled_more plan been old mid new (line ∷ front) back (a ∷ acts) more [] others is follow = absurd is

-- session k among others, of which none waits
pub record IsPlace (k : ℕ) (around : Session → List Session) : Type 0 where
  pub first : 1 ≤ k
  pub at : (s : Session) → session_at (around s) k ≡ Some s
  pub put : (s t : Session) → replace (around s) k t ≡ around t
  pub others : (s : Session) (j : ℕ) → j ≢ k → Waits (session_at (around s) j) → ⊥

module _ (plan : Plan) (been : List Act) (k : ℕ) (around : Session → List Session) (place : IsPlace k around) where
  -- nobody waits where session k does not
  pub nobody : (s : Session) → (Waits (Some s) → ⊥) → IsNone Waits (around s) 1
  nobody s never j low waits = place.others s j (λ same. never (subst Waits (place.at s) (subst (λ (i : ℕ). Waits (session_at (around s) i)) same waits))) waits

  -- it is the first that waits
  only_one : (s : Session) → Waits (Some s) → IsFirst Waits (around s) 1 k
  only_one s waits = record {
    later = place.first;
    here = subst Waits (sym (place.at s)) waits;
    none = λ j low high. place.others s j (λ same. omega (arith, same, high));
  }

  -- and nobody waits after it
  nobody_after : (s : Session) → IsNone Waits (around s) (k + 1)
  nobody_after s j low = place.others s j (λ same. omega (arith, same, low))

  -- it is at rest
  rests : (s : Session) → IsAtRest (Some s) → IsAtRest (session_at (around s) k)
  rests s is = subst IsAtRest (sym (place.at s)) is

  stays : (s : Session) → to_leave (Some s) ≡ None → to_leave (session_at (around s) k) ≡ None
  stays s is = ap to_leave (place.at s) ∙ is

  -- a session that hears does not wait
  pub hears_on : (s : Session) (state : TalkState) → s.standing ≡ Hearing state → Waits (Some s) → ⊥
  hears_on s state hears (other, call, waits) = cc

  -- it is fed
  feeds : (old : Session) (text : List ℕ) (state : TalkState) → old.standing ≡ Hearing state → Acted plan (around old) (Does k (IsFed (sent_line text))) [] (around (fed_with old text))
  feeds old text state hears = (
    old,
    fed_with old text,
    [],
    place.at old,
    (subst IsOn (sym hears) tt, refl, refl),
    ap (closing k (IsFed (sent_line text))) (sym hears),
    sym (place.put old (fed_with old text)),
  )

  -- a line that is answered at once
  pub answered : (old new : Session) (line text : List ℕ) (one : Exchange) (state : TalkState) (entries : List Entry) → tape_order line ≡ Some (Say k text)
      → refusal plan been (around old) (Say k text) ≡ None → old.standing ≡ Hearing state
      → one.call ≡ None → one.answer ≡ None → IsNext plan old.node state (old.rest ++ sent_line text) one []
      → new ≡ record old { octets = old.octets ++ sent_line text; whole = old.whole ++ one ∷ []; standing = stands_by plan old.node state one; rest = [] }
      → entries ≡ said_lines k one.reply ++ closing k (Hears one) new.standing
      → IsAtRest (Some new) → to_leave (Some new) ≡ None → (Waits (Some new) → ⊥)
      → IsHandled plan been (around old) line (Does k (IsFed (sent_line text)) ∷ Does k (Hears one) ∷ []) ([] ∷ entries ∷ []) (around new)
  answered old new line text one state entries spelled accepted hears none unanswered next is says at_rest leaves never = record {
    last = Hears_on k 1;
    begun = record {
      order = Say k text;
      spelled = spelled;
      accepted = accepted;
      first = Does k (IsFed (sent_line text));
      said = [];
      next = Hears_on k 1;
      mid = around (fed_with old text);
      starts = (refl, refl);
      acted = feeds old text state hears;
      more = Does k (Hears one) ∷ [];
      others = entries ∷ [];
      goes = (
        Hears_on k 1,
        around new,
        (refl, ap (turn_after_unit k 1) (sym none)),
        (fed_with old text, new, one.reply, place.at (fed_with old text), (state, [], hears, next, refl, is, unanswered), says, sym (place.put (fed_with old text) new)),
        (refl, refl),
      );
      acts_are = refl;
      outputs_are = refl;
    };
    done = (1, (refl, rests new at_rest, stays new leaves), nobody new never);
  }

  -- a line of a text
  pub fed_only : (old : Session) (line text : List ℕ) (state : TalkState) → tape_order line ≡ Some (Say k text)
      → refusal plan been (around old) (Say k text) ≡ None → old.standing ≡ Hearing state → IsAtRest (Some (fed_with old text)) → to_leave (Some (fed_with old text)) ≡ None
      → IsHandled plan been (around old) line (Does k (IsFed (sent_line text)) ∷ []) ([] ∷ []) (around (fed_with old text))
  fed_only old line text state spelled accepted hears at_rest leaves = record {
    last = Hears_on k 1;
    begun = record {
      order = Say k text;
      spelled = spelled;
      accepted = accepted;
      first = Does k (IsFed (sent_line text));
      said = [];
      next = Hears_on k 1;
      mid = around (fed_with old text);
      starts = (refl, refl);
      acted = feeds old text state hears;
      more = [];
      others = [];
      goes = (refl, refl);
      acts_are = refl;
      outputs_are = refl;
    };
    done = (1, (refl, rests (fed_with old text) at_rest, stays (fed_with old text) leaves), nobody (fed_with old text) (hears_on (fed_with old text) state hears));
  }

  -- a line that ends a unit which asks the node, and the session waits
  pub asks : (old new : Session) (line text : List ℕ) (one : Exchange) (call : Call) (state then : TalkState) → tape_order line ≡ Some (Say k text)
      → refusal plan been (around old) (Say k text) ≡ None → old.standing ≡ Hearing state → one.call ≡ Some call → one.answer ≡ None → one.reply ≡ []
      → IsNext plan old.node state (old.rest ++ sent_line text) one [] → stands_by plan old.node state one ≡ Waiting then call
      → new ≡ record old { octets = old.octets ++ sent_line text; whole = old.whole ++ one ∷ []; standing = Waiting then call; rest = [] }
      → IsHandled plan been (around old) line (Does k (IsFed (sent_line text)) ∷ Does k (Hears one) ∷ StillWaits k ∷ []) ([] ∷ [] ∷ [] ∷ []) (around new)
  asks old new line text one call state then spelled accepted hears asked unanswered silent next stands is = record {
    last = Asking (k + 1);
    begun = record {
      order = Say k text;
      spelled = spelled;
      accepted = accepted;
      first = Does k (IsFed (sent_line text));
      said = [];
      next = Hears_on k 1;
      mid = around (fed_with old text);
      starts = (refl, refl);
      acted = feeds old text state hears;
      more = Does k (Hears one) ∷ StillWaits k ∷ [];
      others = [] ∷ [] ∷ [];
      goes = (
        Beginning k 1,
        around new,
        (refl, ap (turn_after_unit k 1) (sym asked)),
        (
          fed_with old text,
          new,
          [],
          place.at (fed_with old text),
          (state, [], hears, next, sym silent, is ∙ ap (λ (s : Standing). record old { octets = old.octets ++ sent_line text; whole = old.whole ++ one ∷ []; standing = s; rest = [] }) (sym stands), unanswered),
          ap (closing k (Hears one)) (sym (ap (λ (s : Session). s.standing) is)),
          sym (place.put (fed_with old text) new),
        ),
        (Asking (k + 1), around new, (1, refl, only_one new waits, refl), (refl, refl), (refl, refl)),
      );
      acts_are = refl;
      outputs_are = refl;
    };
    done = (k + 1, refl, nobody_after new);
  }
    where
      waits : Waits (Some new)
      waits = (then, call, ap (λ (s : Session). s.standing) is)

  -- a line that moves the cluster, while the session waits on
  pub moved_in_vain : (old : Session) (line : List ℕ) (order : ClusterOrder) (event : ClusterEvent) → tape_order line ≡ Some (Moves order)
      → refusal plan been (around old) (Moves order) ≡ None → IsEventOf plan (life_after been) order event → turn_after_event event ≡ Asking 1 → Waits (Some old)
      → IsHandled plan been (around old) line (Makes order event ∷ StillWaits k ∷ []) (event_entries event ∷ [] ∷ []) (around old)
  moved_in_vain old line order event spelled accepted comes then waits = record {
    last = Asking (k + 1);
    begun = record {
      order = Moves order;
      spelled = spelled;
      accepted = accepted;
      first = Makes order event;
      said = event_entries event;
      next = Asking 1;
      mid = around old;
      starts = (event, comes, refl, sym then);
      acted = (refl, refl);
      more = StillWaits k ∷ [];
      others = [] ∷ [];
      goes = (Asking (k + 1), around old, (1, refl, only_one old waits, refl), (refl, refl), (refl, refl));
      acts_are = refl;
      outputs_are = refl;
    };
    done = (k + 1, refl, nobody_after old);
  }

  -- one that has it answered
  pub moved_on : (old new : Session) (line : List ℕ) (order : ClusterOrder) (event : ClusterEvent) (call : Call) (answer : Answer) (reply : List (List ℕ)) (entries : List Entry)
      (before : List Exchange) (one : Exchange) (state : TalkState) → tape_order line ≡ Some (Moves order)
      → refusal plan been (around old) (Moves order) ≡ None → IsEventOf plan (life_after been) order event → turn_after_event event ≡ Asking 1
      → old.standing ≡ Waiting state call → old.whole ≡ before ++ one ∷ [] → RepliesTo one.unit call answer reply
      → new ≡ record old { whole = before ++ with_answer one answer reply ∷ []; standing = stands_answered state call answer }
      → entries ≡ said_lines k reply ++ closing k (IsAnswered call answer reply) new.standing
      → IsAtRest (Some new) → to_leave (Some new) ≡ None → (Waits (Some new) → ⊥)
      → IsHandled plan been (around old) line (Makes order event ∷ Does k (IsAnswered call answer reply) ∷ []) (event_entries event ∷ entries ∷ []) (around new)
  moved_on old new line order event call answer reply entries before one state spelled accepted comes then waits whole replies is says at_rest leaves never = record {
    last = Hears_on k k;
    begun = record {
      order = Moves order;
      spelled = spelled;
      accepted = accepted;
      first = Makes order event;
      said = event_entries event;
      next = Asking 1;
      mid = around old;
      starts = (event, comes, refl, sym then);
      acted = (refl, refl);
      more = Does k (IsAnswered call answer reply) ∷ [];
      others = entries ∷ [];
      goes = (
        Hears_on k k,
        around new,
        (1, refl, only_one old (state, call, waits), refl),
        (old, new, reply, place.at old, (before, one, state, whole, waits, replies, refl, is), says, sym (place.put old new)),
        (refl, refl),
      );
      acts_are = refl;
      outputs_are = refl;
    };
    done = (k, (refl, rests new at_rest, stays new leaves), λ j low. nobody new never j (omega (arith, low, place.first)));
  }

  -- one that moves the cluster while nobody waits
  pub moved : (old : Session) (line : List ℕ) (order : ClusterOrder) (event : ClusterEvent) → tape_order line ≡ Some (Moves order)
      → refusal plan been (around old) (Moves order) ≡ None → IsEventOf plan (life_after been) order event → turn_after_event event ≡ Asking 1 → (Waits (Some old) → ⊥)
      → IsHandled plan been (around old) line (Makes order event ∷ []) (event_entries event ∷ []) (around old)
  moved old line order event spelled accepted comes then never = record {
    last = Asking 1;
    begun = record {
      order = Moves order;
      spelled = spelled;
      accepted = accepted;
      first = Makes order event;
      said = event_entries event;
      next = Asking 1;
      mid = around old;
      starts = (event, comes, refl, sym then);
      acted = (refl, refl);
      more = [];
      others = [];
      goes = (refl, refl);
      acts_are = refl;
      outputs_are = refl;
    };
    done = (1, refl, nobody old never);
  }

  -- one that gives up its call
  pub gives_up : (old new : Session) (line : List ℕ) (call : Call) (reply : List (List ℕ)) (entries : List Entry) (before : List Exchange) (one : Exchange) (state : TalkState)
      → tape_order line ≡ Some (GiveUp k) → refusal plan been (around old) (GiveUp k) ≡ None
      → old.standing ≡ Waiting state call → old.whole ≡ before ++ one ∷ [] → RepliesTo one.unit call Failed reply
      → new ≡ record old { whole = before ++ with_answer one Failed reply ∷ []; standing = stands_answered state call Failed }
      → entries ≡ said_lines k reply ++ closing k (IsGivenUp call reply) new.standing
      → IsAtRest (Some new) → to_leave (Some new) ≡ None → (Waits (Some new) → ⊥)
      → IsHandled plan been (around old) line (Does k (IsGivenUp call reply) ∷ []) (entries ∷ []) (around new)
  gives_up old new line call reply entries before one state spelled accepted waits whole replies is says at_rest leaves never = record {
    last = Hears_on k 1;
    begun = record {
      order = GiveUp k;
      spelled = spelled;
      accepted = accepted;
      first = Does k (IsGivenUp call reply);
      said = entries;
      next = Hears_on k 1;
      mid = around new;
      starts = (call, reply, refl, refl);
      acted = (old, new, reply, place.at old, (before, one, state, whole, waits, replies, refl, is), says, sym (place.put old new));
      more = [];
      others = [];
      goes = (refl, refl);
      acts_are = refl;
      outputs_are = refl;
    };
    done = (1, (refl, rests new at_rest, stays new leaves), nobody new never);
  }
