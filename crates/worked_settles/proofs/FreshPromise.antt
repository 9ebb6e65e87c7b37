-- What is promised of the freshly ended tape: its listing is what stands.
use Rattle.std.proofs.Common.{◌≡◌, ℕ, List, [], ◌∷◌, get_or, map, flat_map, Option, Some, Result, Ok, refl, sym, ap, ◌∙◌, subst, codes}
use Rattle.mail_model.specs.Names.{lower}
use Rattle.mail_model.specs.Pop.{Command, Fault, pop_command_of}
use Rattle.mail_model.specs.Pop.Command.{User}
use Rattle.mail_model.specs.PopReplies.{Item}
use Rattle.mail_model.specs.Record.{Record}
use Rattle.mail_model.specs.Tape.{Order, tape_order}
use Rattle.mail_model.specs.Tape.Order.{Say}
use Rattle.session_model.specs.Talk.{Exchange}
use Rattle.session_model.specs.Sessions.{Session, session_at}
use Rattle.standing_model.specs.Standing.{AreStanding}
use Rattle.fresh_sessions.specs.Tapes.{IsFreshlyEnded, FreshListsAll}
use Rattle.worked_sessions.proofs.WrongStores.{same_end}
use Rattle.worked_settles.specs.FreshTape.{worked_plan, three_members, told_lines, reader_lines, fresh_lines, fresh_acts, fresh_sessions, reader, asking}
use Rattle.worked_settles.proofs.Formed.{quiet_front, opening_members}
use Rattle.worked_settles.proofs.Standing.{alice}

-- what a line says, and to which session
abbrev session_of : Option Order → ℕ
session_of (Some (Say k text)) = k
session_of order = 0

abbrev text_of : Option Order → List ℕ
text_of (Some (Say k text)) = text
text_of order = []

-- whom a command names
abbrev user_of : Result Command Fault → List ℕ
user_of (Ok (User name)) = name
user_of command = []

-- Whoever says that the tape is freshly ended says so of these members, of session 2 and of alice.
pub record IsOfReader (members : List ℕ) (k : ℕ) (name : List ℕ) : Type 0 where
  pub members_are : three_members ≡ members
  pub second : 2 ≡ k
  pub named : alice ≡ name

module _ (items : List Item) where
  pub of_reader : (members : List ℕ) (k : ℕ) (name : List ℕ) (session : Session) (asked : Exchange) → IsFreshlyEnded worked_plan fresh_lines (fresh_acts items) members k name session asked
      → IsOfReader members k name
  of_reader members k name session asked ended = record {
    members_are = sym (opening_members worked_plan (flat_map (λ a. a) ended.settled.front) members
        (quiet_front (fresh_acts items) ended.settled.front ended.since _ ended.settled.split refl) ended.settled.shown);
    second = ap session_of says;
    named = ap user_of (ap pop_command_of (ap text_of says) ∙ ended.commands.0);
  }
    where
      last : codes "settle" ∷ reader_lines
          ≡ ended.ends.settles ∷ ended.ends.opens ∷ ended.ends.names ∷ ended.ends.proves ∷ ended.ends.flows ∷ ended.ends.asks ∷ []
      last = same_end told_lines ended.ends.before _ _ ended.ends.are refl

      says : Some (Say 2 (codes "USER alice")) ≡ Some (Say k ended.naming)
      says = ap (λ (l : List (List ℕ)). tape_order (get_or l 2 [])) last ∙ ended.ends.name

  -- where the listing is what stands the promise is kept
  pub lists_all : (disks : List (List Record)) → AreStanding disks three_members alice (map (λ (item : Item). item.id) items)
      → FreshListsAll worked_plan fresh_lines (fresh_acts items) disks (fresh_sessions items)
  lists_all disks stand members k name session asked at ended = (
    items,
    subst (λ (m : List ℕ). AreStanding disks m (lower name) (map (λ (item : Item). item.id) items)) is.members_are
        (subst (λ (n : List ℕ). AreStanding disks three_members (lower n) (map (λ (item : Item). item.id) items)) is.named stand),
    ap (λ (one : Exchange). one.reply) (sym the_asked),
  )
    where
      is : IsOfReader members k name
      is = of_reader members k name session asked ended

      the_session : Some (reader items) ≡ Some session
      the_session = ap (session_at (fresh_sessions items)) is.second ∙ at

      the_asked : asking items ≡ asked
      the_asked =
          let same : reader items ≡ session = cc the_session in
          ap (λ (l : List Exchange). get_or l 2 (asking items)) (ap (λ (s : Session). s.whole) same ∙ ended.are)
