-- A reply that is written after a later call was answered.
use Rattle.std.specs.Prelude.{◌≡◌, ℕ, List, [], ◌∷◌, Some}
use Rattle.mail_model.specs.Lines.{sent_line}
use Rattle.session_model.specs.Calls.{Answer}
use Rattle.session_model.specs.Talk.{Exchange}
use Rattle.session_gate.specs.InTime.{WritesInTime}

-- Two exchanges were answered, the first was replied to, and only the greeting was written: that is not in time.
abbrev pub LateRepliesAreRefused : Type 0
LateRepliesAreRefused = (greeting line : List ℕ) (more : List (List ℕ)) (one other : Exchange) (a b : Answer) → one.answer ≡ Some a → other.answer ≡ Some b → one.reply ≡ line ∷ more
    → ¬ (WritesInTime greeting (sent_line greeting) (one ∷ other ∷ []))
