-- What was made of the cluster for the lines of a tape, by their acts.
use Rattle.std.proofs.Common.{◌≡◌, ◌⊎◌, inl, inr, ⊎_elim, ℕ, List, [], ◌∷◌, ◌++◌, map, flat_map, Option, Some, None, refl, sym, ap, ap₂, ◌∙◌, subst}
use Rattle.std.proofs.lemmas.List.{append-nil}
use Rattle.std.proofs.lemmas.Grind.{flat_map-append}
use Rattle.mail_model.specs.Plan.{Plan}
use Rattle.mail_model.specs.Tape.{Order, ClusterOrder, tape_order}
use Rattle.mail_model.specs.Tape.Order.{Open, Say, Feed, Close, GiveUp, End}
use Rattle.mail_model.specs.Transcript.{Entry}
use Rattle.object_model.specs.Lists.{Among}
use Rattle.session_model.specs.Calls.{Call}
use Rattle.session_model.specs.Events.{ClusterEvent, IsEventOf}
use Rattle.session_model.specs.Sessions.{Session}
use Rattle.session_model.specs.Acts.{Act}
use Rattle.session_model.specs.Acts.Act.{Opens, Does, Faults, StillWaits, Leaves, Makes, Abandons}
use Rattle.session_model.specs.Acts.Deed.{IsFed, Hears, IsAnswered, IsGivenUp, Falls, Closes}
use Rattle.session_model.specs.Lives.{life_after}
use Rattle.session_model.specs.Logs.{Asked, asked_by, call_in}
use Rattle.session_model.specs.Books.{Among as AmongAsked}
use Rattle.session_model.specs.Turns.{Turn, Next, ActsGo, Starts}
use Rattle.session_model.specs.Turns.Turn.{Hearing, Beginning, Closing, Falling, Asking}
use Rattle.session_model.specs.Run.{Made, Stop, MayHaveAsked, FirstStep, IsAlwaysDone, IsBegun, AreHandled, IsLeftOff, IsDriven, made_by}
use Rattle.session_model.specs.Run.Stop.{BehindLine, Denied, SinkFailed, OutOfMemory}
use Rattle.drive_tape.proofs.Begins.{among_more, among_split}

among_behind : {X : Type 0} (x : X) (xs ys : List X) → Among x ys → Among x (xs ++ ys)
among_behind x [] ys among = among
among_behind x (y ∷ xs) ys among = inr (among_behind x xs ys among)

-- calls

asked_front : (one : Asked) (xs ys : List Asked) → AmongAsked one xs → AmongAsked one (xs ++ ys)
asked_front one [] ys among = absurd among
asked_front one (x ∷ xs) ys among = ⊎_elim (λ (same : x ≡ one). inl same) (λ (rest : AmongAsked one xs). inr (asked_front one xs ys rest)) among

asked_behind : (one : Asked) (xs ys : List Asked) → AmongAsked one ys → AmongAsked one (xs ++ ys)
asked_behind one [] ys among = among
asked_behind one (x ∷ xs) ys among = inr (asked_behind one xs ys among)

hears_begins : (j k : ℕ) (call : Call) (o : Option Call) → Among (Made.Begins k call) (map (Made.Begins j) (call_in o)) → AmongAsked (record { session = k; call = call }) (flat_map (λ (c : Call). record { session = j; call = c } ∷ []) (call_in o))
hears_begins j k call None among = absurd among
hears_begins j k call (Some c) among = ⊎_elim
    (λ (same : Made.Begins j c ≡ Made.Begins k call). inl (ap₂ (λ (n : ℕ) (d : Call). record { session = n; call = d }) (same_session same) (same_call same)))
    (λ none. absurd none) among
  where
    same_session : Made.Begins j c ≡ Made.Begins k call → j ≡ k
    same_session e = cc

    same_call : Made.Begins j c ≡ Made.Begins k call → c ≡ call
    same_call e = cc

act_begins : (act : Act) (k : ℕ) (call : Call) → Among (Made.Begins k call) (made_by act) → AmongAsked (record { session = k; call = call }) (asked_by act)
act_begins (Does j (Hears one)) k call among = hears_begins j k call one.call among
act_begins (Does j (IsAnswered asked answer reply)) k call among = absurd (⊎_elim (λ (same : Made.Asks j ≡ Made.Begins k call). cc) (λ none. none) among)
act_begins (Does j (IsGivenUp asked reply)) k call among = absurd (⊎_elim (λ (same : Made.GivesUp j ≡ Made.Begins k call). cc) (λ none. none) among)
act_begins (Does j (IsFed octets)) k call among = absurd among
act_begins (Does j Falls) k call among = absurd among
act_begins (Does j Closes) k call among = absurd among
act_begins (Opens protocol node greeting) k call among = absurd among
act_begins (Faults node) k call among = absurd among
act_begins (StillWaits j) k call among = absurd (⊎_elim (λ (same : Made.Asks j ≡ Made.Begins k call). cc) (λ none. none) among)
act_begins (Leaves j user) k call among = absurd (⊎_elim (λ (same : Made.Leaves j user ≡ Made.Begins k call). cc) (λ none. none) among)
act_begins (Makes asked event) k call among = absurd (⊎_elim (λ (same : Made.Moves asked ≡ Made.Begins k call). cc) (λ none. none) among)
act_begins (Abandons j) k call among = absurd (⊎_elim (λ (same : Made.GivesUp j ≡ Made.Begins k call). cc) (λ none. none) among)

-- a call that acts begin is one that they ask
pub acts_begin : (acts : List Act) (k : ℕ) (call : Call) → Among (Made.Begins k call) (flat_map made_by acts) → AmongAsked (record { session = k; call = call }) (flat_map asked_by acts)
acts_begin [] k call among = absurd among
acts_begin (act ∷ acts) k call among = ⊎_elim
    (λ here. asked_front (record { session = k; call = call }) (asked_by act) (flat_map asked_by acts) (act_begins act k call here))
    (λ later. asked_behind (record { session = k; call = call }) (asked_by act) (flat_map asked_by acts) (acts_begin acts k call later))
    (among_split (Made.Begins k call) (made_by act) (flat_map made_by acts) among)

-- the steps beside those of acts

-- an ask, a giving up, or an order of the last line
pub record IsExtra (left : List (List ℕ)) (one : Made) : Type 0 where
  pub begins : (k : ℕ) (call : Call) → one ≡ Made.Begins k call → ⊥
  pub moves : (asked : ClusterOrder) → one ≡ Made.Moves asked → (IsAlwaysDone asked → ⊥) × ((line : List ℕ) × Among line left × (tape_order line ≡ Some (Order.Moves asked)))

asks_extra : (left : List (List ℕ)) (k : ℕ) → IsExtra left (Made.Asks k)
asks_extra left k = record { begins = λ j call e. cc; moves = λ asked e. absurd (let never : Made.Asks k ≡ Made.Moves asked = e in cc) }

gives_up_extra : (left : List (List ℕ)) (k : ℕ) → IsExtra left (Made.GivesUp k)
gives_up_extra left k = record { begins = λ j call e. cc; moves = λ asked e. absurd (let never : Made.GivesUp k ≡ Made.Moves asked = e in cc) }

moves_same : (a b : ClusterOrder) → Made.Moves a ≡ Made.Moves b → a ≡ b
moves_same a b e = cc

moves_extra : (line : List ℕ) (asked : ClusterOrder) → tape_order line ≡ Some (Order.Moves asked) → (IsAlwaysDone asked → ⊥) → IsExtra (line ∷ []) (Made.Moves asked)
moves_extra line asked spelled may = record {
  begins = λ j call e. cc;
  moves = λ other e. let same = moves_same asked other e in
      (subst (λ (o : ClusterOrder). IsAlwaysDone o → ⊥) same may, (line, inl refl, subst (λ (o : ClusterOrder). tape_order line ≡ Some (Order.Moves o)) same spelled));
}

first_extra : (line : List ℕ) (order : Order) (sessions : List Session) (one : Made) → tape_order line ≡ Some order → FirstStep order sessions one → IsExtra (line ∷ []) one
first_extra line (Close k) sessions one spelled first = subst (IsExtra (line ∷ [])) (sym first.1) (gives_up_extra (line ∷ []) k)
first_extra line (GiveUp k) sessions one spelled first = subst (IsExtra (line ∷ [])) (sym first) (gives_up_extra (line ∷ []) k)
first_extra line (Order.Moves asked) sessions one spelled first = subst (IsExtra (line ∷ [])) (sym first.1) (moves_extra line asked spelled first.0)
first_extra line (Open protocol node) sessions one spelled first = absurd first
first_extra line (Say k text) sessions one spelled first = absurd first
first_extra line (Feed k octets) sessions one spelled first = absurd first
first_extra line End sessions one spelled first = absurd first

none_extra : (left : List (List ℕ)) (extra : List Made) (one : Made) → extra ≡ [] → Among one extra → IsExtra left one
none_extra left extra one none among = absurd (subst (Among one) none among)

one_extra : (left : List (List ℕ)) (extra : List Made) (step one : Made) → extra ≡ step ∷ [] → IsExtra left step → Among one extra → IsExtra left one
one_extra left extra step one are is among = ⊎_elim (λ (same : step ≡ one). subst (IsExtra left) same is) (λ none. absurd none) (subst (Among one) are among)

asked_extra : (left : List (List ℕ)) (stop : Stop) (turn : Turn) (sessions : List Session) (extra : List Made) (one : Made) → MayHaveAsked stop turn sessions extra → Among one extra → IsExtra left one
asked_extra left OutOfMemory turn sessions extra one may among = ⊎_elim
    (λ none. none_extra left extra one none among)
    (λ some. one_extra left extra (Made.Asks some.1) one some.4 (asks_extra left some.1) among) may
asked_extra left BehindLine turn sessions extra one may among = none_extra left extra one may among
asked_extra left Denied turn sessions extra one may among = none_extra left extra one may among
asked_extra left SinkFailed turn sessions extra one may among = none_extra left extra one may among

pub left_extra : (plan : Plan) (been : List Act) (stop : Stop) (old new : List Session) (left : List (List ℕ)) (by_line : List (List Act)) (tail : List Entry) (extra : List Made) (one : Made)
    → IsLeftOff plan been stop old left by_line tail extra new → Among one extra → IsExtra left one
left_extra plan been stop old new [] [] tail extra one off among = none_extra [] extra one off.1 among
left_extra plan been stop old new (line ∷ []) ([] ∷ []) tail extra one (tried, is) among =
    one_extra (line ∷ []) extra tried.step one tried.extra_is (first_extra line tried.order old tried.step tried.spelled tried.first) among
left_extra plan been stop old new (line ∷ []) ((act ∷ acts) ∷ []) tail extra one (turn, cut, asked) among = asked_extra (line ∷ []) stop turn new extra one asked among
left_extra plan been stop old new left by_line tail extra one off among = absurd off

-- orders

-- no act but the first of a line moves the cluster
next_moves : (turn next : Turn) (sessions : List Session) (act : Act) (asked : ClusterOrder) → Next turn sessions act next → Among (Made.Moves asked) (made_by act) → ⊥
next_moves turn next sessions (Does j (Hears one)) asked is among = by one.call among
  where
    by : (o : Option Call) → Among (Made.Moves asked) (map (Made.Begins j) (call_in o)) → ⊥
    by None none = none
    by (Some c) some = ⊎_elim (λ (same : Made.Begins j c ≡ Made.Moves asked). cc) (λ none. none) some
next_moves turn next sessions (Does j (IsAnswered call answer reply)) asked is among = ⊎_elim (λ (same : Made.Asks j ≡ Made.Moves asked). cc) (λ none. none) among
next_moves turn next sessions (Does j (IsGivenUp call reply)) asked is among = ⊎_elim (λ (same : Made.GivesUp j ≡ Made.Moves asked). cc) (λ none. none) among
next_moves turn next sessions (Does j (IsFed octets)) asked is among = among
next_moves turn next sessions (Does j Falls) asked is among = among
next_moves turn next sessions (Does j Closes) asked is among = among
next_moves turn next sessions (Opens protocol node greeting) asked is among = among
next_moves turn next sessions (Faults node) asked is among = among
next_moves turn next sessions (StillWaits j) asked is among = ⊎_elim (λ (same : Made.Asks j ≡ Made.Moves asked). cc) (λ none. none) among
next_moves turn next sessions (Leaves j user) asked is among = ⊎_elim (λ (same : Made.Leaves j user ≡ Made.Moves asked). cc) (λ none. none) among
next_moves turn next sessions (Abandons j) asked is among = ⊎_elim (λ (same : Made.GivesUp j ≡ Made.Moves asked). cc) (λ none. none) among
next_moves (Hearing k onward) next sessions (Makes own event) asked is among = is
next_moves (Beginning k onward) next sessions (Makes own event) asked is among = is
next_moves (Closing k onward) next sessions (Makes own event) asked is among = is
next_moves (Falling k node onward) next sessions (Makes own event) asked is among = is
next_moves (Asking k) next sessions (Makes own event) asked is among = is

goes_moves : (plan : Plan) (turn last : Turn) (old new : List Session) (acts : List Act) (outputs : List (List Entry)) (asked : ClusterOrder) → ActsGo plan turn old acts outputs last new → Among (Made.Moves asked) (flat_map made_by acts) → ⊥
goes_moves plan turn last old new [] outputs asked goes among = among
goes_moves plan turn last old new (act ∷ acts) [] asked goes among = goes
goes_moves plan turn last old new (act ∷ acts) (entries ∷ outputs) asked (next, mid, is, acted, goes) among = ⊎_elim
    (λ here. next_moves turn next old act asked is here)
    (λ later. goes_moves plan next last mid new acts outputs asked goes later)
    (among_split (Made.Moves asked) (made_by act) (flat_map made_by acts) among)

-- the order is that of the line, and this came of it
pub record IsMoved (plan : Plan) (been : List Act) (line : List ℕ) (first : Act) (asked : ClusterOrder) : Type 0 where
  pub spelled : tape_order line ≡ Some (Order.Moves asked)
  pub event : ClusterEvent
  pub may : IsEventOf plan (life_after been) asked event
  pub is : first ≡ Makes asked event

starts_moves : (plan : Plan) (been : List Act) (order : Order) (sessions : List Session) (line : List ℕ) (act : Act) (turn : Turn) (asked : ClusterOrder) → tape_order line ≡ Some order → Starts plan been order sessions act turn
    → Among (Made.Moves asked) (made_by act) → IsMoved plan been line act asked
starts_moves plan been (Order.Moves own) sessions line act turn asked spelled (event, may, is, next) among =
    ⊎_elim (λ (same : Made.Moves own ≡ Made.Moves asked). let e = moves_same own asked same in
    subst (λ (o : ClusterOrder). IsMoved plan been line act o) e (record { spelled = spelled; event = event; may = may; is = is }))
    (λ none. absurd none) (subst (λ (a : Act). Among (Made.Moves asked) (made_by a)) is among)
starts_moves plan been (Open protocol node) sessions line act turn asked spelled (boot, up, is, next) among = absurd (subst (λ (a : Act). Among (Made.Moves asked) (made_by a)) is among)
starts_moves plan been (Say k text) sessions line act turn asked spelled (is, next) among = absurd (subst (λ (a : Act). Among (Made.Moves asked) (made_by a)) is among)
starts_moves plan been (Feed k octets) sessions line act turn asked spelled (is, next) among = absurd (subst (λ (a : Act). Among (Made.Moves asked) (made_by a)) is among)
starts_moves plan been (Close k) sessions line act turn asked spelled starts among = absurd (⊎_elim
    (λ now. subst (λ (a : Act). Among (Made.Moves asked) (made_by a)) now.0 among)
    (λ first. ⊎_elim (λ (same : Made.GivesUp k ≡ Made.Moves asked). cc) (λ none. none) (subst (λ (a : Act). Among (Made.Moves asked) (made_by a)) first.0 among)) starts)
starts_moves plan been (GiveUp k) sessions line act turn asked spelled (call, reply, is, next) among =
    absurd (⊎_elim (λ (same : Made.GivesUp k ≡ Made.Moves asked). cc) (λ none. none) (subst (λ (a : Act). Among (Made.Moves asked) (made_by a)) is among))
starts_moves plan been End sessions line act turn asked spelled starts among = absurd starts

pub begun_moves : (plan : Plan) (been : List Act) (old new : List Session) (line : List ℕ) (acts : List Act) (outputs : List (List Entry)) (turn : Turn) (asked : ClusterOrder)
    → (begun : IsBegun plan been old line acts outputs turn new) → Among (Made.Moves asked) (flat_map made_by acts) → IsMoved plan been line begun.first asked
begun_moves plan been old new line acts outputs turn asked begun among = ⊎_elim
    (λ here. starts_moves plan been begun.order old line begun.first begun.next asked begun.spelled begun.starts here)
    (λ later. absurd (goes_moves plan begun.next turn begun.mid new begun.more begun.others asked begun.goes later))
    (among_split (Made.Moves asked) (made_by begun.first) (flat_map made_by begun.more) (subst (λ (l : List Act). Among (Made.Moves asked) (flat_map made_by l)) begun.acts_are among))

-- a line of these has the order
abbrev pub HasOrder : List (List ℕ) → ClusterOrder → Type 0
HasOrder lines asked = (line : List ℕ) × Among line lines × (tape_order line ≡ Some (Order.Moves asked))

split_acts : (acts : List Act) (by_line : List (List Act)) (one : Made) → Among one (flat_map made_by (acts ++ flat_map (λ a. a) by_line)) → Among one (flat_map made_by acts) ⊎ Among one (flat_map made_by (flat_map (λ a. a) by_line))
split_acts acts by_line one among =
    among_split one (flat_map made_by acts) (flat_map made_by (flat_map (λ a. a) by_line)) (subst (Among one) (flat_map-append made_by acts (flat_map (λ a. a) by_line)) among)

handled_order : (plan : Plan) (been : List Act) (old new : List Session) (lines : List (List ℕ)) (by_line : List (List Act)) (outputs : List (List (List Entry))) (asked : ClusterOrder)
    → AreHandled plan been old lines by_line outputs new → Among (Made.Moves asked) (flat_map made_by (flat_map (λ a. a) by_line)) → HasOrder lines asked
handled_order plan been old new [] [] outputs asked are among = absurd among
handled_order plan been old new [] (x ∷ xs) [] asked are among = absurd are
handled_order plan been old new [] (x ∷ xs) (y ∷ outputs) asked are among = absurd are
handled_order plan been old new (line ∷ lines) [] outputs asked are among = absurd among
handled_order plan been old new (line ∷ lines) (acts ∷ by_line) [] asked are among = absurd are
handled_order plan been old new (line ∷ lines) (acts ∷ by_line) (says ∷ outputs) asked (mid, one, more) among = ⊎_elim
    (λ here. (line, inl refl, (begun_moves plan been old mid line acts says one.last asked one.begun here).spelled))
    (λ later. let found = handled_order plan (been ++ acts) mid new lines by_line outputs asked more later in (found.0, inr found.1, found.2))
    (split_acts acts by_line (Made.Moves asked) among)

left_order : (plan : Plan) (been : List Act) (stop : Stop) (old new : List Session) (left : List (List ℕ)) (by_line : List (List Act)) (tail : List Entry) (extra : List Made) (asked : ClusterOrder)
    → IsLeftOff plan been stop old left by_line tail extra new → Among (Made.Moves asked) (flat_map made_by (flat_map (λ a. a) by_line)) → HasOrder left asked
left_order plan been stop old new [] [] tail extra asked off among = absurd among
left_order plan been stop old new (line ∷ []) ([] ∷ []) tail extra asked off among = absurd among
left_order plan been stop old new (line ∷ []) ((act ∷ acts) ∷ []) tail extra asked (turn, cut, may) among =
    (line, inl refl, (begun_moves plan been old new line (act ∷ acts) (cut.before ++ cut.says ∷ []) turn asked cut.begun (subst (λ (l : List Act). Among (Made.Moves asked) (flat_map made_by l)) (append-nil (act ∷ acts)) among)).spelled)
left_order plan been stop old new left by_line tail extra asked off among = absurd off

order_front : (lines more : List (List ℕ)) (asked : ClusterOrder) → HasOrder lines asked → HasOrder (lines ++ more) asked
order_front lines more asked found = (found.0, among_more found.0 lines more found.1, found.2)

order_behind : (lines more : List (List ℕ)) (asked : ClusterOrder) → HasOrder more asked → HasOrder (lines ++ more) asked
order_behind lines more asked found = (found.0, among_behind found.0 lines more found.1, found.2)

module _ (plan : Plan) (stop : Stop) (handled left : List (List ℕ)) (acts others : List (List Act)) (made : List Made) (entries : List Entry) (last : List Session)
    (driven : IsDriven plan stop handled left acts others made entries last) where
  -- those of the acts, and those beside
  made_split : (one : Made) → Among one made → Among one (flat_map made_by (flat_map (λ a. a) (acts ++ others))) ⊎ Among one driven.extra
  made_split one among = among_split one (flat_map made_by (flat_map (λ a. a) (acts ++ others))) driven.extra (subst (Among one) driven.steps among)

  acts_split : (one : Made) → Among one (flat_map made_by (flat_map (λ a. a) (acts ++ others))) → Among one (flat_map made_by (flat_map (λ a. a) acts)) ⊎ Among one (flat_map made_by (flat_map (λ a. a) others))
  acts_split one among =
      among_split one (flat_map made_by (flat_map (λ a. a) acts)) (flat_map made_by (flat_map (λ a. a) others))
      (subst (Among one) (ap (flat_map made_by) (flat_map-append (λ (a : List Act). a) acts others) ∙ flat_map-append made_by (flat_map (λ a. a) acts) (flat_map (λ a. a) others)) among)

  -- a call that was begun is one that the acts ask
  pub begun_is_asked : (k : ℕ) (call : Call) → Among (Made.Begins k call) made → AmongAsked (record { session = k; call = call }) (flat_map asked_by (flat_map (λ a. a) (acts ++ others)))
  begun_is_asked k call among = ⊎_elim
      (λ own. acts_begin (flat_map (λ a. a) (acts ++ others)) k call own)
      (λ beside. absurd ((left_extra plan (flat_map (λ a. a) acts) stop driven.mid last left others driven.tail driven.extra (Made.Begins k call) driven.off beside).begins k call refl))
      (made_split (Made.Begins k call) among)

  -- an order that was followed is that of a line
  pub moved_by_line : (asked : ClusterOrder) → Among (Made.Moves asked) made → HasOrder (handled ++ left) asked
  moved_by_line asked among = ⊎_elim
      (λ own. ⊎_elim
      (λ early. order_front handled left asked (handled_order plan [] [] driven.mid handled acts driven.outputs asked driven.are early))
      (λ late. order_behind handled left asked (left_order plan (flat_map (λ a. a) acts) stop driven.mid last left others driven.tail driven.extra asked driven.off late))
      (acts_split (Made.Moves asked) own))
      (λ beside. order_behind handled left asked ((left_extra plan (flat_map (λ a. a) acts) stop driven.mid last left others driven.tail driven.extra (Made.Moves asked) driven.off beside).moves asked refl).1)
      (made_split (Made.Moves asked) among)
