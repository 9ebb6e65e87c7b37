-- What replies are, said without how they are read and written.
use Rattle.std.specs.Prelude.{◌≡◌, ◌<◌, ℕ, true, List, ◌++◌, length}
use Rattle.std.specs.List.{list_all}
use Rattle.smtp_wire.specs.Replies.{is_code, is_reply_text, reply_octets, BeginsWithReply, HasNoReply, BreaksReply}

-- a code and texts that a reply may have
pub record IsReply (code : ℕ) (texts : List (List ℕ)) : Type 0 where
  pub known : is_code code ≡ true
  pub some : 0 < length texts
  pub are : list_all is_reply_text texts ≡ true

-- What is written of a reply, with anything behind it, begins with that reply.
abbrev pub RepliesAreReadBack : Type 0
RepliesAreReadBack = (code : ℕ) (texts : List (List ℕ)) (behind : List ℕ) → IsReply code texts → BeginsWithReply (reply_octets code texts ++ behind) code texts behind

-- Octets begin with one reply at most.
abbrev pub RepliesAreOne : Type 0
RepliesAreOne = (octets : List ℕ) (code other : ℕ) (texts others : List (List ℕ)) (behind rest : List ℕ) → BeginsWithReply octets code texts behind
    → BeginsWithReply octets other others rest → (code ≡ other) × (texts ≡ others) × (behind ≡ rest)

-- Of a reply, no reply yet and none of a reply one at most is true.
pub record IsOneAnswer (octets : List ℕ) : Type 0 where
  pub waits : HasNoReply octets → BreaksReply octets → ⊥
  pub given : (code : ℕ) (texts : List (List ℕ)) (behind : List ℕ) → BeginsWithReply octets code texts behind → HasNoReply octets → ⊥
  pub broken : (code : ℕ) (texts : List (List ℕ)) (behind : List ℕ) → BeginsWithReply octets code texts behind → BreaksReply octets → ⊥

abbrev pub AnswersAreOne : Type 0
AnswersAreOne = (octets : List ℕ) → IsOneAnswer octets

-- What follows a reply, or a line that is none of one, changes nothing.
pub record IsLasting (octets more : List ℕ) : Type 0 where
  pub given : (code : ℕ) (texts : List (List ℕ)) (behind : List ℕ) → BeginsWithReply octets code texts behind → BeginsWithReply (octets ++ more) code texts (behind ++ more)
  pub broken : BreaksReply octets → BreaksReply (octets ++ more)

abbrev pub AnswersLast : Type 0
AnswersLast = (octets more : List ℕ) → IsLasting octets more

-- A reply that is cut short is no reply, and has no line that is none of one.
pub record IsBegun (octets : List ℕ) : Type 0 where
  pub no_reply : (code : ℕ) (texts : List (List ℕ)) (behind : List ℕ) → BeginsWithReply octets code texts behind → ⊥
  pub no_fault : BreaksReply octets → ⊥

abbrev pub BegunRepliesAreNone : Type 0
BegunRepliesAreNone = (code : ℕ) (texts : List (List ℕ)) (front more : List ℕ) → IsReply code texts → front ++ more ≡ reply_octets code texts → 0 < length more → IsBegun front
