-- A node that the acts of a run lost is one that the transcript says is lost, or that the last line loses.
use Rattle.std.proofs.Common.{◌≡◌, ◌⊎◌, inl, inr, ⊎_elim, ℕ, Bool, true, false, List, [], ◌∷◌, ◌++◌, flat_map, Some, refl, sym, ap, ◌∙◌, subst, append-nil, nat_eq, if◌then◌else◌}
use Rattle.std.proofs.lemmas.List.Concat.{flat_map-append}
use Rattle.std.proofs.lemmas.Bool.{eqb-true}
use Rattle.mail_model.specs.Plan.{Plan}
use Rattle.mail_model.specs.Tape.{Order, ClusterOrder}
use Rattle.mail_model.specs.Tape.Order.{Open, Say, Feed, Close, GiveUp, Moves, End}
use Rattle.mail_model.specs.Tape.ClusterOrder.{Crash, Start, Lose, Post, Again, Drop, Flow, Push, Widen, Group, Conclude, Regroup, Report, Settle, Maps, Tick, Sum}
use Rattle.mail_model.specs.Transcript.{Entry, all_of}
use Rattle.mail_model.specs.Stored.{IsLost}
use Rattle.mail_model.proofs.ShownCuts.{front_of_one}
use Rattle.session_model.specs.Events.{ClusterEvent, NodeLife, IsEventOf, turned, life_by_event, lost_event}
use Rattle.session_model.specs.Events.ClusterEvent.{WentDown, CameUp, WasLost, WasHeard, WasThrown, WasDropped, HasFlowed, HasSent, HasWidened, HasGrouped, HasFormed, HasSettled, WasAbsent, HasMapped, HasTicked, HasSummed, HasFaulted}
use Rattle.session_model.specs.Events.NodeLife.{Up, Down, Lost}
use Rattle.session_model.specs.Sessions.{Session}
use Rattle.session_model.specs.Acts.{Act, Acted, ActedAll}
use Rattle.session_model.specs.Acts.Act.{Opens, Does, Faults, StillWaits, Leaves, Makes, Abandons}
use Rattle.session_model.specs.Lives.{life_by, life_from, life_after}
use Rattle.session_model.specs.Turns.{Turn, Next, ActsGo, Starts}
use Rattle.session_model.specs.Turns.Turn.{Hearing, Beginning, Closing, Falling, Asking}
use Rattle.session_model.specs.Run.{Stop, Made, MayMiss, IsCutShort, IsBegun, IsLeftOff, IsCutOff}
use Rattle.session_model.specs.Run.Stop.{BehindLine, Denied, SinkFailed, OutOfMemory}
use Rattle.session_model.specs.Losses.{IsLostIn, LostIsShown}
use Rattle.session_model.proofs.Driven.{IsLast, begun_made, handled_made, last_of, all_written}

-- what the transcript says stands in every longer one

lost_front : (entries more : List Entry) (node : ℕ) → IsLost entries node → IsLost (entries ++ more) node
lost_front [] more node lost = absurd lost
lost_front (entry ∷ entries) more node lost = ⊎_elim (λ here. inl here) (λ later. inr (lost_front entries more node later)) lost

lost_behind : (entries more : List Entry) (node : ℕ) → IsLost more node → IsLost (entries ++ more) node
lost_behind [] more node lost = lost
lost_behind (entry ∷ entries) more node lost = inr (lost_behind entries more node lost)

-- the life of a node after acts, and others after them
pub life_both : (acts more : List Act) (node : ℕ) (life : NodeLife) → life_from life (acts ++ more) node ≡ life_from (life_from life acts node) more node
life_both [] more node life = refl
life_both (act ∷ acts) more node life = life_both acts more node (life_by act node life)

-- the act loses the node
abbrev Loses : Act → ℕ → Type 0
Loses act node = (order : ClusterOrder) × (act ≡ Makes order (WasLost node))

-- a node that is lost was so, or this act lost it
turned_lost : (other node : ℕ) (now life : NodeLife) → (now ≡ Lost → ⊥) → turned other now node life ≡ Lost → life ≡ Lost
turned_lost other node now life not is = by_test (nat_eq other node) is
  where
    by_test : (b : Bool) → (if b then now else life) ≡ Lost → life ≡ Lost
    by_test true e = absurd (not e)
    by_test false e = e

event_lost : (order : ClusterOrder) (event : ClusterEvent) (node : ℕ) (life : NodeLife) → life_by_event event node life ≡ Lost → (life ≡ Lost) ⊎ Loses (Makes order event) node
event_lost order (WasLost other) node life is = by_test (nat_eq other node) refl is
  where
    by_test : (b : Bool) → nat_eq other node ≡ b → (if b then Lost else life) ≡ Lost → (life ≡ Lost) ⊎ Loses (Makes order (WasLost other)) node
    by_test true same e = inr (order, ap (λ (n : ℕ). Makes order (WasLost n)) (eqb-true other node same))
    by_test false same e = inl e
event_lost order (WentDown other) node life is = inl (turned_lost other node Down life (λ e. cc) is)
event_lost order (CameUp other boot) node life is = inl (turned_lost other node (Up boot) life (λ e. cc) is)
event_lost order (HasFaulted other) node life is = inl (turned_lost other node Down life (λ e. cc) is)
event_lost order (WasHeard letter) node life is = inl is
event_lost order (WasThrown letter why) node life is = inl is
event_lost order (WasDropped letter) node life is = inl is
event_lost order HasFlowed node life is = inl is
event_lost order (HasSent count) node life is = inl is
event_lost order (HasWidened did) node life is = inl is
event_lost order (HasGrouped epoch) node life is = inl is
event_lost order (HasFormed epoch members) node life is = inl is
event_lost order HasSettled node life is = inl is
event_lost order (WasAbsent member) node life is = inl is
event_lost order (HasMapped user told) node life is = inl is
event_lost order HasTicked node life is = inl is
event_lost order (HasSummed sum) node life is = inl is

act_lost : (act : Act) (node : ℕ) (life : NodeLife) → life_by act node life ≡ Lost → (life ≡ Lost) ⊎ Loses act node
act_lost (Makes order event) node life is = event_lost order event node life is
act_lost (Faults other) node life is = inl (turned_lost other node Down life (λ e. cc) is)
act_lost (Opens protocol at greeting) node life is = inl is
act_lost (Does k deed) node life is = inl is
act_lost (StillWaits k) node life is = inl is
act_lost (Leaves k user) node life is = inl is
act_lost (Abandons k) node life is = inl is

-- what an act writes that loses a node
loses_says : (plan : Plan) (old new : List Session) (act : Act) (entries : List Entry) (node : ℕ) → Acted plan old act entries new → Loses act node → entries ≡ lost_event node ∷ []
loses_says plan old new act entries node acted (order, is) =
    let makes : Acted plan old (Makes order (WasLost node)) entries new = subst (λ (a : Act). Acted plan old a entries new) is acted in makes.0

-- a node that is lost after acts was so before, or what they write says so
acts_lost : (plan : Plan) (old new : List Session) (acts : List Act) (outputs : List (List Entry)) (node : ℕ) (life : NodeLife) → ActedAll plan old acts outputs new
    → life_from life acts node ≡ Lost → (life ≡ Lost) ⊎ IsLost (all_of outputs) node
acts_lost plan old new [] [] node life done is = inl is
acts_lost plan old new (act ∷ acts) (entries ∷ outputs) node life (mid, acted, done) is = ⊎_elim
    (λ before. ⊎_elim (λ was. inl was)
    (λ loses. inr (lost_front entries (all_of outputs) node (subst (λ (e : List Entry). IsLost e node) (sym (loses_says plan old mid act entries node acted loses)) (inl refl))))
    (act_lost act node life before))
    (λ says. inr (lost_behind entries (all_of outputs) node says))
    (acts_lost plan mid new acts outputs node (life_by act node life) done is)
acts_lost plan old new [] (entries ∷ outputs) node life done is = absurd done
acts_lost plan old new (act ∷ acts) [] node life done is = absurd done

-- at first no node is lost
first_lost : (entries : List Entry) (node : ℕ) → (Up 1 ≡ Lost) ⊎ IsLost entries node → IsLost entries node
first_lost entries node lost = ⊎_elim (λ clash. cc) (λ says. says) lost

-- only the first act of a line loses a node

next_loses : (turn next : Turn) (sessions : List Session) (order : ClusterOrder) (event : ClusterEvent) → Next turn sessions (Makes order event) next → ⊥
next_loses (Hearing k onward) next sessions order event is = is
next_loses (Beginning k onward) next sessions order event is = is
next_loses (Closing k onward) next sessions order event is = is
next_loses (Falling k node onward) next sessions order event is = is
next_loses (Asking k) next sessions order event is = is

later_loses : (plan : Plan) (turn last : Turn) (old new : List Session) (acts been : List Act) (outputs : List (List Entry)) (act : Act) (node : ℕ) → ActsGo plan turn old acts outputs last new
    → acts ≡ been ++ act ∷ [] → Loses act node → ⊥
later_loses plan turn last old new (first ∷ acts) [] (entries ∷ outputs) act node (next, mid, is, acted, goes) are (order, loses) =
    let same : first ≡ act = cc in
    next_loses turn next old order (WasLost node) (subst (λ (a : Act). Next turn old a next) (same ∙ loses) is)
later_loses plan turn last old new (first ∷ acts) (other ∷ been) (entries ∷ outputs) act node (next, mid, is, acted, goes) are loses =
    let rest : acts ≡ been ++ act ∷ [] = cc in later_loses plan next last mid new acts been outputs act node goes rest loses
later_loses plan turn last old new [] [] outputs act node goes are loses = cc
later_loses plan turn last old new [] (other ∷ been) outputs act node goes are loses = cc
later_loses plan turn last old new (first ∷ acts) been [] act node goes are loses = absurd goes

-- an order of which it comes that a node is lost
event_loses : (plan : Plan) (lives : ℕ → NodeLife) (order : ClusterOrder) (node : ℕ) → IsEventOf plan lives order (WasLost node) → order ≡ Lose node
event_loses plan lives (Lose other) node is = ap Lose (sym is)
event_loses plan lives (Crash other) node is = absurd is
event_loses plan lives (Start other) node is = absurd is
event_loses plan lives (Post letter) node is = absurd is
event_loses plan lives (Again letter) node is = absurd is
event_loses plan lives (Drop letter) node is = absurd is
event_loses plan lives Flow node is = absurd is
event_loses plan lives (Push other) node is = absurd is
event_loses plan lives (Widen at user id to) node is = absurd is
event_loses plan lives (Group other) node is = absurd is
event_loses plan lives (Conclude other) node is = absurd is
event_loses plan lives (Regroup other) node is = absurd is
event_loses plan lives (Report other) node is = absurd is
event_loses plan lives Settle node is = absurd is
event_loses plan lives (Maps user) node is = absurd is
event_loses plan lives (Tick seconds) node is = absurd is
event_loses plan lives Sum node is = absurd is

starts_loses : (plan : Plan) (been : List Act) (order : Order) (sessions : List Session) (act : Act) (turn : Turn) (node : ℕ) → Starts plan been order sessions act turn → Loses act node
    → order ≡ Moves (Lose node)
starts_loses plan been (Moves order) sessions act turn node (event, may, is, next) (own, loses) =
    let same : Makes order event ≡ Makes own (WasLost node) = sym is ∙ loses in
    let same_event : event ≡ WasLost node = cc in
    ap Moves (event_loses plan (life_after been) order node (subst (IsEventOf plan (life_after been) order) same_event may))
starts_loses plan been (Open protocol at) sessions act turn node (boot, up, is, next) (own, loses) = let clash = sym is ∙ loses in cc
starts_loses plan been (Say k text) sessions act turn node (is, next) (own, loses) = let clash = sym is ∙ loses in cc
starts_loses plan been (Feed k octets) sessions act turn node (is, next) (own, loses) = let clash = sym is ∙ loses in cc
starts_loses plan been (Close k) sessions act turn node starts (own, loses) =
    ⊎_elim (λ now. let clash = sym now.0 ∙ loses in cc) (λ first. let clash = sym first.0 ∙ loses in cc) starts
starts_loses plan been (GiveUp k) sessions act turn node (call, reply, is, next) (own, loses) = let clash = sym is ∙ loses in cc
starts_loses plan been End sessions act turn node starts loses = absurd starts

-- some of what an act writes is missing
short : (stop : Stop) (missing : List Entry) → MayMiss stop missing → IsCutShort stop
short BehindLine missing may = may
short Denied missing may = may
short SinkFailed missing may = tt
short OutOfMemory missing may = tt

module _ (plan : Plan) (stop : Stop) (handled : List (List ℕ)) (been : List Act) (node : ℕ) where
  -- the work stopped in the midst of a line
  cut_lost : (line : List ℕ) (old new : List Session) (acts : List Act) (outputs entries : List Entry) (turn : Turn) → IsCutOff plan been stop old line acts entries turn new
      → (life_after been node ≡ Lost → IsLost outputs node) → life_from (life_after been node) acts node ≡ Lost → IsLostIn stop (handled ++ line ∷ []) (outputs ++ entries) node
  cut_lost line old new acts outputs entries turn cut before lost = ⊎_elim
      (λ was. ⊎_elim
      (λ first. inl (lost_front outputs entries node (before first)))
      (λ says. inl (lost_behind outputs entries node (subst (λ (e : List Entry). IsLost e node) (sym cut.written) (lost_front (all_of cut.before) cut.front node says))))
      (acts_lost plan old end.mid end.been cut.before node (life_after been node) end.done was))
      (λ loses. ⊎_elim
      (λ none. inr (short stop cut.missing cut.may, record { before = handled; line = line; last = refl; loses = begun.spelled ∙ ap Some (by_acts end.been end.are loses) }))
      (λ one. inl (lost_behind outputs entries node (subst (λ (e : List Entry). IsLost e node) (sym cut.written)
      (lost_behind (all_of cut.before) cut.front node (subst (λ (e : List Entry). IsLost e node) (sym one) (inl refl))))))
      (front_of_one (lost_event node) cut.front cut.missing (sym (loses_says plan end.mid new end.act cut.says node end.acted loses) ∙ cut.cut)))
      (act_lost end.act node (life_from (life_after been node) end.been node)
      (sym (life_both end.been (end.act ∷ []) node (life_after been node)) ∙ ap (λ (a : List Act). life_from (life_after been node) a node) (sym end.are) ∙ lost))
    where
      begun : IsBegun plan been old line acts (cut.before ++ cut.says ∷ []) turn new
      begun = cut.begun

      end : IsLast plan old acts cut.before cut.says new
      end = last_of plan old new acts cut.before cut.says (begun_made plan been old new line acts (cut.before ++ cut.says ∷ []) turn begun).done

      by_acts : (first : List Act) → acts ≡ first ++ end.act ∷ [] → Loses end.act node → begun.order ≡ Moves (Lose node)
      by_acts [] are loses =
          let same : begun.first ≡ end.act = cc in
          starts_loses plan been begun.order old begun.first begun.next node begun.starts (loses.0, same ∙ loses.1)
      by_acts (other ∷ first) are loses =
          let rest : begun.more ≡ first ++ end.act ∷ [] = cc in
          absurd (later_loses plan begun.next turn begun.mid new begun.more first begun.others end.act node begun.goes rest loses)

  -- however it was left off
  off_lost : (old new : List Session) (left : List (List ℕ)) (others : List (List Act)) (outputs tail : List Entry) (extra : List Made) → IsLeftOff plan been stop old left others tail extra new
      → (life_after been node ≡ Lost → IsLost outputs node) → life_from (life_after been node) (flat_map (λ a. a) others) node ≡ Lost → IsLostIn stop (handled ++ left) (outputs ++ tail) node
  off_lost old new [] [] outputs tail extra off before lost = inl (lost_front outputs tail node (before lost))
  off_lost old new (line ∷ []) ([] ∷ []) outputs tail extra off before lost = inl (lost_front outputs tail node (before lost))
  off_lost old new (line ∷ []) ((act ∷ acts) ∷ []) outputs tail extra (turn, cut, asked) before lost =
      cut_lost line old new (act ∷ acts) outputs tail turn cut before
      (ap (λ (a : List Act). life_from (life_after been node) a node) (sym (append-nil (act ∷ acts))) ∙ lost)
  off_lost old new left others outputs tail extra off before lost = absurd off

pub lost_is_shown : LostIsShown
lost_is_shown plan stop handled left acts others made entries last node driven lost =
    subst (λ (e : List Entry). IsLostIn stop (handled ++ left) e node) (sym driven.written)
    (off_lost plan stop handled (flat_map (λ a. a) acts) node driven.mid last left others (flat_map all_of driven.outputs) driven.tail driven.extra driven.off
    (λ was. subst (λ (e : List Entry). IsLost e node) (sym (all_written driven.outputs)) (first_lost (all_of (flat_map (λ o. o) driven.outputs)) node
    (acts_lost plan [] driven.mid (flat_map (λ a. a) acts) (flat_map (λ o. o) driven.outputs) node (Up 1)
    (handled_made plan [] [] driven.mid handled acts driven.outputs driven.are).done was)))
    (sym (life_both (flat_map (λ a. a) acts) (flat_map (λ a. a) others) node (Up 1)) ∙ ap (λ (a : List Act). life_after a node) (sym (flat_map-append (λ (a : List Act). a) acts others)) ∙ lost))
