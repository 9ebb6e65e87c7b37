-- What replies are, said without how they are read and written.
use Rattle.std.specs.Prelude.{◌≡◌, ◌<◌, ⊤, ℕ, Bool, true, ◌&&◌, List, ◌++◌, length, Option, Some, None, is_some}
use Rattle.std.specs.List.{list_all}
use Rattle.pop_wire.specs.Replies.{is_reply_text, reply_octets, BeginsWithReply, HasNoReply, BreaksReply}

-- the texts of further lines, which only a good reply has
abbrev pub AreFurther : Bool → Option (List (List ℕ)) → Type 0
AreFurther good None = ⊤
AreFurther good (Some texts) = (good ≡ true) × (list_all is_reply_text texts ≡ true)

-- what a reply may have
pub record IsReply (good : Bool) (text : List ℕ) (texts : Option (List (List ℕ))) : Type 0 where
  pub first : is_reply_text text ≡ true
  pub further : AreFurther good texts

-- What is written of a reply, with anything behind it, begins with that reply, where its reader was told rightly whether a good one has several lines.
abbrev pub RepliesAreReadBack : Type 0
RepliesAreReadBack = (several good : Bool) (text : List ℕ) (texts : Option (List (List ℕ))) (behind : List ℕ) → IsReply good text texts → (good && several) ≡ is_some texts
    → BeginsWithReply several (reply_octets good text texts ++ behind) good text texts behind

-- Octets begin with one reply at most.
abbrev pub RepliesAreOne : Type 0
RepliesAreOne = (several : Bool) (octets : List ℕ) (good bad : Bool) (text other : List ℕ) (texts others : Option (List (List ℕ))) (behind rest : List ℕ)
    → BeginsWithReply several octets good text texts behind → BeginsWithReply several octets bad other others rest → (good ≡ bad) × (text ≡ other) × (texts ≡ others) × (behind ≡ rest)

-- Of a reply, no reply yet and none of a reply one at most is true.
pub record IsOneAnswer (several : Bool) (octets : List ℕ) : Type 0 where
  pub waits : HasNoReply several octets → BreaksReply several octets → ⊥
  pub given : (good : Bool) (text : List ℕ) (texts : Option (List (List ℕ))) (behind : List ℕ) → BeginsWithReply several octets good text texts behind → HasNoReply several octets → ⊥
  pub broken : (good : Bool) (text : List ℕ) (texts : Option (List (List ℕ))) (behind : List ℕ) → BeginsWithReply several octets good text texts behind → BreaksReply several octets → ⊥

abbrev pub AnswersAreOne : Type 0
AnswersAreOne = (several : Bool) (octets : List ℕ) → IsOneAnswer several octets

-- What follows a reply, or a line that is none of one, changes nothing.
pub record IsLasting (several : Bool) (octets more : List ℕ) : Type 0 where
  pub given : (good : Bool) (text : List ℕ) (texts : Option (List (List ℕ))) (behind : List ℕ) → BeginsWithReply several octets good text texts behind
      → BeginsWithReply several (octets ++ more) good text texts (behind ++ more)
  pub broken : BreaksReply several octets → BreaksReply several (octets ++ more)

abbrev pub AnswersLast : Type 0
AnswersLast = (several : Bool) (octets more : List ℕ) → IsLasting several octets more

-- A reply that is cut short is no reply, and has no line that is none of one.
pub record IsBegun (several : Bool) (octets : List ℕ) : Type 0 where
  pub no_reply : (good : Bool) (text : List ℕ) (texts : Option (List (List ℕ))) (behind : List ℕ) → BeginsWithReply several octets good text texts behind → ⊥
  pub no_fault : BreaksReply several octets → ⊥

abbrev pub BegunRepliesAreNone : Type 0
BegunRepliesAreNone = (several good : Bool) (text : List ℕ) (texts : Option (List (List ℕ))) (front more : List ℕ) → IsReply good text texts → (good && several) ≡ is_some texts
    → front ++ more ≡ reply_octets good text texts → 0 < length more → IsBegun several front
