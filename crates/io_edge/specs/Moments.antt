-- What a stop of the machine may leave on a disk: now, and at any moment of a call.
use Rattle.std.specs.Prelude.{◌≡◌, ◌≤◌, ◌⊎◌, ℕ, List, Option, None, Some, MatchOption}
use Rattle.io_edge.specs.Octets.{Torn}

-- The images of a disk, which are the octets that a stop may leave: those of now, the number of the moment, and those that a stop at some moment since might have left.
pub record Clock (D : Type 0) : Type 1 where
  pub is_image : D → List ℕ → Type 0
  pub moment : D → ℕ
  pub was_image : D → ℕ → List ℕ → Type 0

-- From old to new each image, at any moment, has P.
pub record Passed {D : Type 0} (clock : Clock D) (old new : D) (P : List ℕ → Type 0) : Type 0 where
  pub later : clock.moment old ≤ clock.moment new
  pub since : (t : ℕ) (c : List ℕ) → t ≤ clock.moment old → clock.was_image new t c → clock.was_image old t c ⊎ P c
  pub now : (c : List ℕ) → clock.is_image new c → P c

-- nothing was written: at each moment an image is one of old
abbrev pub Keeps : {D : Type 0} → Clock D → D → D → Type 0
Keeps clock old new = Passed clock old new (clock.is_image old)

-- an image of old with any octets in a range, and past its end up to that of the range
pub record IsTornFrom {D : Type 0} (clock : Clock D) (old : D) (at n : ℕ) (c : List ℕ) : Type 0 where
  pub base : List ℕ
  pub was : clock.is_image old base
  pub torn : Torn at n base c

-- n octets were written from this offset on: at each moment an image is one of old that is torn there
abbrev pub Tears : {D : Type 0} → Clock D → D → D → ℕ → ℕ → Type 0
Tears clock old new at n = Passed clock old new (IsTornFrom clock old at n)

-- these octets are the one image
abbrev pub IsOnly : {D : Type 0} → Clock D → D → List ℕ → Type 0
IsOnly clock disk c = (d : List ℕ) → clock.is_image disk d → d ≡ c

-- a restart left one image of old, and reads give it
pub record Restarted {D : Type 0} (clock : Clock D) (old : D) (seen : Option (List ℕ)) : Type 0 where
  pub image : List ℕ
  pub was : clock.is_image old image
  pub reads : seen ≡ Some image

-- what a restart leaves where the disk tells its octets; a disk that tells nothing goes on telling nothing
abbrev pub Restarts : {D : Type 0} → Clock D → D → Option (List ℕ) → Option (List ℕ) → Type 0
Restarts clock old before now = MatchOption before (now ≡ None) (λ _. Restarted clock old now)
