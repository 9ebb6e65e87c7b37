-- The run lines of a good tape are handled, and none is refused.
use Rattle.std.proofs.lemmas.List.{append-nil}
use Rattle.std.proofs.Common.{◌≡◌, ◌≤◌, ◌<◌, ◌+◌, ◌^◌, ℕ, Bool, true, false, List, [], ◌∷◌, ◌++◌, length, flat_map, All, Option, Some, None, refl, sym, ap, ◌∙◌, subst, arith, append_assoc, length-append, ⊎_elim, if◌then◌else◌}
use Rattle.std.specs.Prelude.{◌⊎◌}
use Rattle.std.specs.Io.KnownBytes.{Consumes, IsAtEnd}
use Rattle.std.proofs.lemmas.Bool.{ltb-false}
use Rattle.std.proofs.lemmas.List.Concat.{flat_map-append}
use Rattle.std.proofs.lemmas.List.Elements.{All-push}
use Rattle.std.proofs.lemmas.Option.{none-some, same_Some}
use Rattle.mail_model.specs.Lines.{HasNoLf, BeginsWith, ended, without_cr}
use Rattle.mail_model.specs.Plan.{Plan}
use Rattle.mail_model.specs.Tape.{Order, tape_order, order_of, is_long}
use Rattle.mail_model.specs.Tape.Order.{End}
use Rattle.mail_model.specs.Transcript.{Entry}
use Rattle.session_model.specs.Sessions.{Session}
use Rattle.session_model.specs.Acts.{Act}
use Rattle.session_model.specs.Turns.{Turn, Starts}
use Rattle.session_model.specs.Lives.{failed_in}
use Rattle.session_model.specs.Run.{IsHandled, AreHandled, refusal}
use Rattle.drive_tape.specs.declared.drove.TapeFault.{TapeFault}
use Rattle.drive_tape.specs.declared.drove.TapeFault.TheVariants.{BadLine, TapeTooLong}
use Rattle.drive_tape.specs.Faults.{tape_fault_seen}
use Rattle.drive_tape.specs.Drive.{IsOrder, IsNoOrder, StopsAt}
use Rattle.cluster_model.specs.Starts.{first_membership}
use Rattle.maps_model.specs.Words.{ManagersAreMembers}
use Rattle.joint_world.specs.First.{first_world}
use Rattle.joint_world.specs.World.{World}
use Rattle.whole_node.specs.Starting.{first_map}
use Rattle.accepted_tapes.specs.Follows.{Standing, FollowsAll}
use Rattle.accepted_tapes.specs.Accepted.{NobodyWaits, MayBeDenied, Grants}
use Rattle.porcupine_server.specs.Complete.{IsGoodTape}
use Rattle.porcupine_server.proofs.NextLine.{flat_map_last, front_all, last_all, Ahead, same_line, begins_more, within_line, no_line, next_line, last_or_before}
use Rattle.porcupine_server.proofs.GoodPlan.{consumed, at_end, run_part}

-- an order is not too long
order_short : (line : List ℕ) (order : Order) → tape_order line ≡ Some order → length line ≤ 65535
order_short line order is = by_test (is_long line) refl is
  where
    by_test : (long : Bool) → is_long line ≡ long → (if long then None else order_of (without_cr line)) ≡ Some order → length line ≤ 65535
    by_test true test none = absurd (none-some order none)
    by_test false test some = ltb-false 65535 (length line) test

-- `end` is not handled as a run line
no_end_start : (plan : Plan) (been : List Act) (order : Order) (sessions : List Session) (first : Act) (turn : Turn) → order ≡ End → Starts plan been order sessions first turn → ⊥
no_end_start plan been order sessions first turn is starts = subst (λ (o : Order). Starts plan been o sessions first turn) is starts

no_end_line : (plan : Plan) (been : List Act) (old : List Session) (line : List ℕ) (acts : List Act) (outputs : List (List Entry)) (new : List Session) → tape_order line ≡ Some End → IsHandled plan been old line acts outputs new → ⊥
no_end_line plan been old line acts outputs new ends handled =
    no_end_start plan been handled.begun.order old handled.begun.first handled.begun.next (same_Some handled.begun.order End (sym handled.begun.spelled ∙ ends)) handled.begun.starts

no_end_run : (plan : Plan) (been : List Act) (old : List Session) (front : List (List ℕ)) (line : List ℕ) (rest : List (List ℕ)) (acts : List (List Act)) (outputs : List (List (List Entry))) (new : List Session)
    → tape_order line ≡ Some End → AreHandled plan been old (front ++ line ∷ rest) acts outputs new → ⊥
no_end_run plan been old [] line rest [] outputs new ends runs = absurd runs
no_end_run plan been old [] line rest (a ∷ acts) [] new ends runs = absurd runs
no_end_run plan been old [] line rest (a ∷ acts) (o ∷ outputs) new ends runs = no_end_line plan been old line a o runs.0 ends runs.1
no_end_run plan been old (l ∷ front) line rest [] outputs new ends runs = absurd runs
no_end_run plan been old (l ∷ front) line rest (a ∷ acts) [] new ends runs = absurd runs
no_end_run plan been old (l ∷ front) line rest (a ∷ acts) (o ∷ outputs) new ends runs = no_end_run plan (been ++ a) runs.0 front line rest acts outputs new ends runs.2

module _ (tape : List ℕ) (good : IsGoodTape tape) where
  -- the run lines and `end`
  abbrev all_lines : List (List ℕ)
  all_lines = good.lines ++ good.last ∷ []

  -- The next line after run lines that were handled, where no node failed: it is an order that is not refused, and no step of it is.
  record RunNext (lines : List (List ℕ)) (been : List Act) (sessions : List Session) (calls : List Standing) (w : World) (more : List ℕ) : Type 0 where
    next : List ℕ
    rest : List ℕ
    begins : BeginsWith more next rest
    order : Order
    spelled : tape_order next ≡ Some order
    accepted : refusal good.plan been sessions order ≡ None
    grants : MayBeDenied order sessions → Grants good.plan order calls w
    short : length (flat_map ended lines) + length next < 2 ^ 40

  octets_of : flat_map ended all_lines ≡ flat_map ended good.lines ++ ended good.last
  octets_of = flat_map_last ended good.lines good.last

  run_lines : (lines : List (List ℕ)) (more : List ℕ) → run_part tape good ≡ flat_map ended lines ++ more → flat_map ended all_lines ++ good.behind ≡ flat_map ended lines ++ more
  run_lines lines more is = ap (λ (l : List ℕ). l ++ good.behind) octets_of ∙ append_assoc (flat_map ended good.lines) (ended good.last) good.behind ∙ is

  -- within the octets that a tape may have
  run_short : (lines : List (List ℕ)) (next : List ℕ) (others : List (List ℕ)) → all_lines ≡ lines ++ next ∷ others → length (flat_map ended lines) + length next < 2 ^ 40
  run_short lines next others split = omega (
    arith,
    good.short,
    ap length (sym octets_of ∙ ap (λ (ls : List (List ℕ)). flat_map ended ls) split ∙ flat_map-append ended lines (next ∷ others)),
    length-append (flat_map ended lines) (ended next ++ flat_map ended others),
    length-append (ended next) (flat_map ended others),
    length-append next (10 ∷ []),
  )

  -- members alone manage users as the cluster opens
  abbrev pub Managed : Type 0
  Managed = ManagersAreMembers (first_membership good.plan.nodes (first_map good.plan))

  -- what the machine makes of the acts of these lines
  abbrev Follow : List (List Act) → List Standing → World → Type 0
  Follow acts calls w = FollowsAll good.plan good.lines (flat_map (λ a. a) acts) [] (first_world good.plan.nodes (first_map good.plan)) calls w

  -- Lines that were read, with no `end` among them, are the first of the run lines.
  pub first_lines : (lines : List (List ℕ)) (more : List ℕ) → All HasNoLf lines → ((front : List (List ℕ)) (rest : List (List ℕ)) → lines ≡ front ++ good.last ∷ rest → ⊥)
      → run_part tape good ≡ flat_map ended lines ++ more → (others : List (List ℕ)) × (good.lines ≡ lines ++ others)
  first_lines lines more each never is = ⊎_elim
      (λ (ahead : Ahead all_lines lines good.behind more). ⊎_elim
      (λ (here : (good.lines ≡ lines) × (good.last ≡ ahead.next) × (ahead.others ≡ [])). ([], here.0 ∙ sym (append-nil lines)))
      (λ (before : (others : List (List ℕ)) × (good.lines ≡ lines ++ ahead.next ∷ others)). (ahead.next ∷ before.0, before.1))
      (last_or_before good.lines good.last lines ahead.next ahead.others ahead.split))
      (λ (beyond : (extra : List (List ℕ)) × (lines ≡ all_lines ++ extra)). absurd (never good.lines beyond.0 (beyond.1 ∙ append_assoc good.lines (good.last ∷ []) beyond.0)))
      (next_line all_lines lines good.behind more (All-push HasNoLf good.lines good.last good.each good.last_one) each (run_lines lines more is))

  -- no line that was handled is `end`
  pub no_end_handled : (lines : List (List ℕ)) (acts : List (List Act)) (outputs : List (List (List Entry))) (sessions : List Session) → AreHandled good.plan [] [] lines acts outputs sessions
      → (front rest : List (List ℕ)) → lines ≡ front ++ good.last ∷ rest → ⊥
  no_end_handled lines acts outputs sessions runs front rest is =
      no_end_run good.plan [] [] front good.last rest acts outputs sessions good.ends (subst (λ (ls : List (List ℕ)). AreHandled good.plan [] [] ls acts outputs sessions) is runs)

  -- nor is one more that is another order
  pub no_end_next : (lines : List (List ℕ)) (line : List ℕ) (acts : List (List Act)) (outputs : List (List (List Entry))) (sessions : List Session) → AreHandled good.plan [] [] lines acts outputs sessions
      → (tape_order line ≡ Some End → ⊥) → (front rest : List (List ℕ)) → lines ++ line ∷ [] ≡ front ++ good.last ∷ rest → ⊥
  no_end_next lines line acts outputs sessions runs other front rest is = ⊎_elim
      (λ (here : (lines ≡ front) × (line ≡ good.last) × (rest ≡ [])). other (ap tape_order here.1 ∙ good.ends))
      (λ (before : (others : List (List ℕ)) × (lines ≡ front ++ good.last ∷ others)). no_end_handled lines acts outputs sessions runs front before.0 before.1)
      (last_or_before lines line front good.last rest is)

  -- what was read is the first of the run part
  pub read_first : (between left1 : Option (List ℕ)) (read others : List ℕ) (lines : List (List ℕ)) → between ≡ Some (run_part tape good) → Consumes between left1 read → read ≡ flat_map ended lines ++ others
      → (more : List ℕ) × (run_part tape good ≡ flat_map ended lines ++ more)
  read_first between left1 read others lines told took cut =
      let later = consumed (run_part tape good) left1 read (subst (λ (l : Option (List ℕ)). Consumes l left1 read) told took) in
      (others ++ later.0, later.2 ∙ ap (λ (l : List ℕ). l ++ later.0) cut ∙ append_assoc (flat_map ended lines) others later.0)

  run_next : (lines : List (List ℕ)) (acts : List (List Act)) (outputs : List (List (List Entry))) (sessions : List Session) (calls : List Standing) (w : World) (managed : Managed) (more : List ℕ) → All HasNoLf lines
      → AreHandled good.plan [] [] lines acts outputs sessions → Follow acts calls w → failed_in (flat_map (λ a. a) acts) ≡ []
      → (good.plan.nodes ≡ 1 → NobodyWaits (flat_map (λ a. a) acts))
      → run_part tape good ≡ flat_map ended lines ++ more → RunNext lines (flat_map (λ a. a) acts) sessions calls w more
  run_next lines acts outputs sessions calls w managed more each runs follows up alone is = ⊎_elim
      (λ (ahead : Ahead all_lines lines good.behind more). ⊎_elim
      (λ (here : (good.lines ≡ lines) × (good.last ≡ ahead.next) × (ahead.others ≡ [])). record {
        next = ahead.next;
        rest = flat_map ended ahead.others ++ good.behind;
        begins = ahead.begins;
        order = End;
        spelled = ap tape_order (sym here.1) ∙ good.ends;
        accepted = refl;
        grants = λ denied. tt;
        short = run_short lines ahead.next ahead.others ahead.split;
      })
      (λ (before : (others : List (List ℕ)) × (good.lines ≡ lines ++ ahead.next ∷ others)).
      let accepted = good.accepted (first_map good.plan) lines ahead.next before.0 acts outputs sessions calls w managed before.1 runs follows up alone in
      record {
        next = ahead.next;
        rest = flat_map ended ahead.others ++ good.behind;
        begins = ahead.begins;
        order = accepted.0;
        spelled = accepted.1;
        accepted = accepted.2;
        grants = accepted.3;
        short = run_short lines ahead.next ahead.others ahead.split;
      })
      (last_or_before good.lines good.last lines ahead.next ahead.others ahead.split))
      (λ (beyond : (extra : List (List ℕ)) × (lines ≡ all_lines ++ extra)).
      absurd (no_end_run good.plan [] [] good.lines good.last beyond.0 acts outputs sessions good.ends
      (subst (λ (ls : List (List ℕ)). AreHandled good.plan [] [] ls acts outputs sessions) (beyond.1 ∙ append_assoc good.lines (good.last ∷ []) beyond.0) runs)))
      (next_line all_lines lines good.behind more (All-push HasNoLf good.lines good.last good.each good.last_one) each (run_lines lines more is))

  -- the run lines of the tape have no fault
  pub no_run_fault : (between left1 : Option (List ℕ)) (fault : TapeFault) (read others : List ℕ) (room : ℕ) (lines : List (List ℕ)) (acts : List (List Act)) (outputs : List (List (List Entry))) (sessions : List Session)
      → (calls : List Standing) (w : World) → Managed → between ≡ Some (run_part tape good) → Consumes between left1 read → read ≡ flat_map ended lines ++ others → All HasNoLf lines
      → AreHandled good.plan [] [] lines acts outputs sessions → Follow acts calls w → failed_in (flat_map (λ a. a) acts) ≡ []
      → (good.plan.nodes ≡ 1 → NobodyWaits (flat_map (λ a. a) acts)) → length read + room ≡ 2 ^ 40 → StopsAt fault good.plan (flat_map (λ a. a) acts) sessions left1 others room → ⊥
  no_run_fault between left1 fault read others room lines acts outputs sessions calls w managed told took cut each runs follows up alone limit why = ⊎_elim
      (λ (end : (fault ≡ BadLine) × HasNoLf others × IsAtEnd left1). no_line others n.next n.rest end.1 (ap (λ (l : List ℕ). others ++ l) (sym (at_end left1 later.0 later.1 end.2)) ∙ n.begins.whole))
      (λ (a : ((fault ≡ BadLine) × HasNoLf others × (65535 < length others)) ⊎ ((fault ≡ BadLine) × IsNoOrder others) ⊎ ((fault ≡ TapeTooLong) × HasNoLf others × (room ≡ 0))
      ⊎ ((order : Order) × IsOrder others order × (refusal good.plan (flat_map (λ a. a) acts) sessions order ≡ Some (tape_fault_seen fault)))). ⊎_elim
      (λ (long : (fault ≡ BadLine) × HasNoLf others × (65535 < length others)).
      omega (arith, long.2, order_short n.next n.order n.spelled, within_line others later.0 n.next n.rest long.1 n.begins.whole))
      (λ (b : ((fault ≡ BadLine) × IsNoOrder others) ⊎ ((fault ≡ TapeTooLong) × HasNoLf others × (room ≡ 0))
      ⊎ ((order : Order) × IsOrder others order × (refusal good.plan (flat_map (λ a. a) acts) sessions order ≡ Some (tape_fault_seen fault)))). ⊎_elim
      (λ (none : (fault ≡ BadLine) × IsNoOrder others). none-some n.order (sym none.1.spelled ∙ ap tape_order (next_is none.1.line none.1.whole none.1.one) ∙ n.spelled))
      (λ (c : ((fault ≡ TapeTooLong) × HasNoLf others × (room ≡ 0)) ⊎ ((order : Order) × IsOrder others order × (refusal good.plan (flat_map (λ a. a) acts) sessions order ≡ Some (tape_fault_seen fault)))). ⊎_elim
      (λ (far : (fault ≡ TapeTooLong) × HasNoLf others × (room ≡ 0)). no_limit far.1 far.2)
      (λ (refused : (order : Order) × IsOrder others order × (refusal good.plan (flat_map (λ a. a) acts) sessions order ≡ Some (tape_fault_seen fault))). no_refusal refused.0 refused.1 refused.2)
      c) b) a) why
    where
      later : (later : List ℕ) × (left1 ≡ Some later) × (run_part tape good ≡ read ++ later)
      later = consumed (run_part tape good) left1 read (subst (λ (l : Option (List ℕ)). Consumes l left1 read) told took)

      n : RunNext lines (flat_map (λ a. a) acts) sessions calls w (others ++ later.0)
      n = run_next lines acts outputs sessions calls w managed (others ++ later.0) each runs follows up alone (later.2 ∙ ap (λ (l : List ℕ). l ++ later.0) cut ∙ append_assoc (flat_map ended lines) others later.0)

      next_is : (line : List ℕ) → others ≡ ended line → HasNoLf line → line ≡ n.next
      next_is line whole one = (same_line (others ++ later.0) line ([] ++ later.0) n.next n.rest (begins_more others line [] later.0 (record { whole = whole; one = one })) n.begins).0

      no_limit : HasNoLf others → room ≡ 0 → ⊥
      no_limit none full =
          omega (arith, full, limit, n.short, ap length cut, length-append (flat_map ended lines) others, within_line others later.0 n.next n.rest none n.begins.whole)

      no_refusal : (order : Order) → IsOrder others order → refusal good.plan (flat_map (λ a. a) acts) sessions order ≡ Some (tape_fault_seen fault) → ⊥
      no_refusal order is refused =
          let same = same_Some order n.order (sym is.spelled ∙ ap tape_order (next_is is.line is.whole is.one) ∙ n.spelled) in
          none-some (tape_fault_seen fault) (sym n.accepted ∙ ap (refusal good.plan (flat_map (λ a. a) acts) sessions) (sym same) ∙ refused)

  -- and the machine grants the next
  pub granted : (between left1 : Option (List ℕ)) (read others : List ℕ) (lines : List (List ℕ)) (line : List ℕ) (acts : List (List Act)) (outputs : List (List (List Entry))) (sessions : List Session) (order : Order)
      → (calls : List Standing) (w : World) → Managed → between ≡ Some (run_part tape good) → Consumes between left1 read → read ≡ flat_map ended (lines ++ line ∷ []) ++ others → All HasNoLf (lines ++ line ∷ [])
      → AreHandled good.plan [] [] lines acts outputs sessions → Follow acts calls w → failed_in (flat_map (λ a. a) acts) ≡ [] → (good.plan.nodes ≡ 1 → NobodyWaits (flat_map (λ a. a) acts))
      → tape_order line ≡ Some order → MayBeDenied order sessions → Grants good.plan order calls w
  granted between left1 read others lines line acts outputs sessions order calls w managed told took cut each runs follows up alone spelled denied =
      subst (λ (o : Order). Grants good.plan o calls w) (sym same) (n.grants (subst (λ (o : Order). MayBeDenied o sessions) same denied))
    where
      later : (later : List ℕ) × (left1 ≡ Some later) × (run_part tape good ≡ read ++ later)
      later = consumed (run_part tape good) left1 read (subst (λ (l : Option (List ℕ)). Consumes l left1 read) told took)

      cut_more : read ++ later.0 ≡ flat_map ended lines ++ ((ended line ++ others) ++ later.0)
      cut_more = ap (λ (l : List ℕ). l ++ later.0) (cut ∙ ap (λ (l : List ℕ). l ++ others) (flat_map_last ended lines line) ∙ append_assoc (flat_map ended lines) (ended line) others)
          ∙ append_assoc (flat_map ended lines) (ended line ++ others) later.0

      n : RunNext lines (flat_map (λ a. a) acts) sessions calls w ((ended line ++ others) ++ later.0)
      n = run_next lines acts outputs sessions calls w managed ((ended line ++ others) ++ later.0) (front_all HasNoLf lines (line ∷ []) each) runs follows up alone (later.2 ∙ cut_more)

      begins : BeginsWith ((ended line ++ others) ++ later.0) line (others ++ later.0)
      begins = record {
        whole = append_assoc (ended line) others later.0 ∙ append_assoc line (10 ∷ []) (others ++ later.0);
        one = last_all HasNoLf lines line each;
      }

      next_is : line ≡ n.next
      next_is = (same_line ((ended line ++ others) ++ later.0) line (others ++ later.0) n.next n.rest begins n.begins).0

      same : order ≡ n.order
      same = same_Some order n.order (sym spelled ∙ ap tape_order next_is ∙ n.spelled)
