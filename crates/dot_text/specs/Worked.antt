-- The definitions at texts that were worked by hand.
use Rattle.std.specs.Prelude.{ℕ, List, [], ◌∷◌}
use Rattle.dot_text.specs.Texts.{IsText}
use Rattle.dot_text.specs.Dots.{Dots}

-- two periods, a period and `a`, and `x`, LF, a period, LF and `y`, each a line, and the line that is one period
abbrev pub received : List ℕ
received = 0x2e ∷ 0x2e ∷ 0x0d ∷ 0x0a ∷ 0x2e ∷ 0x61 ∷ 0x0d ∷ 0x0a ∷ 0x78 ∷ 0x0a ∷ 0x2e ∷ 0x0a ∷ 0x79 ∷ 0x0d ∷ 0x0a ∷ 0x2e ∷ 0x0d ∷ 0x0a ∷ []

-- a period, `a`, and `x`, LF, a period, LF and `y`, each a line
abbrev pub read : List ℕ
read = 0x2e ∷ 0x0d ∷ 0x0a ∷ 0x61 ∷ 0x0d ∷ 0x0a ∷ 0x78 ∷ 0x0a ∷ 0x2e ∷ 0x0a ∷ 0x79 ∷ 0x0d ∷ 0x0a ∷ []

-- a period and `b` in a line, a period and CR, and no CRLF after it; and as it is sent
abbrev pub written : List ℕ
written = 0x2e ∷ 0x62 ∷ 0x0d ∷ 0x0a ∷ 0x2e ∷ 0x0d ∷ []

abbrev pub sent_octets : List ℕ
sent_octets = 0x2e ∷ 0x2e ∷ 0x62 ∷ 0x0d ∷ 0x0a ∷ 0x2e ∷ 0x2e ∷ 0x0d ∷ 0x0d ∷ 0x0a ∷ 0x2e ∷ 0x0d ∷ 0x0a ∷ []

abbrev pub Received : Type 0
Received = IsText received read

abbrev pub Sent : Type 0
Sent = Dots written sent_octets
