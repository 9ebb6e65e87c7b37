-- That what an answer gave is written before a later call is answered.
use Rattle.std.specs.Prelude.{◌≡◌, ◌⊎◌, ℕ, List, [], ◌∷◌, ◌++◌, flat_map, ⊤, None}
use Rattle.mail_model.specs.Lines.{sent_line}
use Rattle.session_model.specs.Talk.{Exchange, replies}

-- none of these was answered by the node
abbrev pub NoneAnswered : List Exchange → Type 0
NoneAnswered [] = ⊤
NoneAnswered (one ∷ more) = (one.answer ≡ None) × NoneAnswered more

-- none but the first
abbrev pub FirstAnswered : List Exchange → Type 0
FirstAnswered [] = ⊤
FirstAnswered (one ∷ more) = NoneAnswered more

-- The greeting and the replies of the first exchanges were written, and of those after them only the first was answered.
pub record IsWrittenTo (greeting wrote : List ℕ) (exchanges : List Exchange) : Type 0 where
  pub written : List Exchange
  pub late : List Exchange
  pub are : exchanges ≡ written ++ late
  pub rest : List ℕ
  pub begins : wrote ≡ (sent_line greeting ++ flat_map sent_line (replies written)) ++ rest
  pub first : FirstAnswered late

-- each reply was written before a later call was answered
abbrev pub WritesInTime : List ℕ → List ℕ → List Exchange → Type 0
WritesInTime greeting wrote exchanges = NoneAnswered exchanges ⊎ IsWrittenTo greeting wrote exchanges
