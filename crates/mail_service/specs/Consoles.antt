-- Why a console may end, and which lines were read of it.
use Rattle.std.specs.Prelude.{◌≡◌, ◌<◌, ◌+◌, ◌-◌, ◌^◌, min, ℕ, Bool, true, false, ◌||◌, nat_eq, List, [], ◌∷◌, ◌++◌, length, flat_map, All, ⊤, Option, Some, None, Result, Ok, Err, codes}
use Rattle.std.specs.Cmp.Lexicographic.{pointwise}
use Rattle.std.specs.Io.KnownBytes.{Consumes, IsAtEnd}
use Rattle.mail_model.specs.Lines.{HasNoLf, ended}
use Rattle.mail_service.specs.declared.console.Heard.{Heard}
use Rattle.mail_service.specs.declared.console.Heard.TheVariants as heard
use Rattle.mail_service.specs.declared.console.ConsoleEnd.{ConsoleEnd}
use Rattle.mail_service.specs.declared.console.ConsoleEnd.TheVariants.{Stopped, Early, ReadFault, WriteFault, NoMemory}

-- it ends, since the source failed
abbrev pub IsReadFault : Option ConsoleEnd → Type 0
IsReadFault end = end ≡ Some ReadFault

-- or since the sink failed
abbrev pub IsWriteFault : Option ConsoleEnd → Type 0
IsWriteFault end = end ≡ Some WriteFault

-- the line that ends it, with or without a CR
abbrev pub is_stop : List ℕ → Bool
is_stop line = pointwise nat_eq line (codes "stop") || pointwise nat_eq line (codes "stop" ++ 13 ∷ [])

-- a line that does not end it
pub record GoesOn (line : List ℕ) : Type 0 where
  pub one : HasNoLf line
  pub no_stop : is_stop line ≡ false

-- How it ended, in the line of this number, by what was taken of that line.
abbrev pub EndsAt : ConsoleEnd → Option (List ℕ) → ℕ → List ℕ → Type 0
EndsAt Stopped left number taken = (line : List ℕ) × (taken ≡ ended line) × (is_stop line ≡ true)
EndsAt (Early line) left number taken = (line ≡ number) × HasNoLf taken × IsAtEnd left
EndsAt ReadFault left number taken = HasNoLf taken
EndsAt WriteFault left number taken = (line : List ℕ) × (taken ≡ ended line) × GoesOn line
EndsAt NoMemory left number taken = ⊤

-- the number of the line behind so many lines; it stays at its type's end
abbrev pub next_number : ℕ → ℕ
next_number count = min (count + 1) (2 ^ 64 - 1)

-- What was read of a console until it ended: lines that do not end it, and what was taken of the line in which it ended.
pub record HasListened (left0 left1 : Option (List ℕ)) (end : ConsoleEnd) : Type 0 where
  pub lines : List (List ℕ)
  pub taken : List ℕ
  pub took : Consumes left0 left1 (flat_map ended lines ++ taken)
  pub each : All GoesOn lines
  pub ends : EndsAt end left1 (next_number (length lines)) taken

-- one octet was taken; or none, at the end and where the source failed
abbrev pub TakesOctet : {E : Type 0} → Option (List ℕ) → Option (List ℕ) → Result (Option ℕ) E → Type 0
TakesOctet left0 left1 (Ok (Some octet)) = Consumes left0 left1 (octet ∷ [])
TakesOctet left0 left1 (Ok None) = Consumes left0 left1 [] × IsAtEnd left1
TakesOctet left0 left1 (Err _) = Consumes left0 left1 []

-- what was taken of a line is kept, or is too long to be
abbrev pub IsKept : Bool → List ℕ → List ℕ → Type 0
IsKept false taken line = taken ≡ line
IsKept true taken line = 65535 < length taken

-- how a line was read that is whole
abbrev pub whole_line : Bool → Heard
whole_line false = heard.Line
whole_line true = heard.Long

-- how a line was read, by what was taken and what of it is kept
abbrev pub HasHeard : Heard → Option (List ℕ) → List ℕ → List ℕ → Type 0
HasHeard heard.Line left taken line = (taken ≡ ended line) × HasNoLf line
HasHeard heard.Long left taken line = (long : List ℕ) × (taken ≡ ended long) × HasNoLf long × (65535 < length long)
HasHeard heard.Ended left taken line = HasNoLf taken × IsAtEnd left
HasHeard heard.ReadFault left taken line = HasNoLf taken
HasHeard heard.NoMemory left taken line = ⊤

-- how it may end as the answer to a line is written
abbrev pub MayEndSaying : Option ConsoleEnd → Type 0
MayEndSaying None = ⊤
MayEndSaying (Some Stopped) = ⊥
MayEndSaying (Some (Early line)) = ⊥
MayEndSaying (Some ReadFault) = ⊥
MayEndSaying (Some WriteFault) = ⊤
MayEndSaying (Some NoMemory) = ⊤

-- one line: it goes on, or it ends in the line of this number
abbrev pub HasTurned : Option ConsoleEnd → Option (List ℕ) → ℕ → List ℕ → Type 0
HasTurned None left number taken = (line : List ℕ) × (taken ≡ ended line) × GoesOn line
HasTurned (Some end) left number taken = EndsAt end left number taken
