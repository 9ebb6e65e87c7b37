-- What lines and texts are, said without how they are read and written.
use Rattle.std.specs.Prelude.{◌≡◌, ℕ, List, ◌++◌, map}
use Rattle.mail_model.specs.Lines.{HasNoCrlf}
use Rattle.dot_text.specs.Cuts.{Taken, Cuts, asked_length}
use Rattle.dot_text.specs.Cuts.Taken.{Given}
use Rattle.dot_text.specs.Texts.{IsText, IsTextBegun}
use Rattle.mail_model.specs.Lines.{closed}
use Rattle.dot_text.specs.Dots.{Dots}

-- However the octets came, the same takes off them give the same lines and leave the same rest.
abbrev pub LinesAreOne : Type 0
LinesAreOne = (fed : List ℕ) (taken others : List Taken) (rest other : List ℕ) → Cuts fed taken rest → Cuts fed others other
    → map asked_length taken ≡ map asked_length others → (taken ≡ others) × (rest ≡ other)

-- Where nothing was skipped and no whole line is left, the lines are those of the octets, and all of them.
abbrev pub LinesAreAll : Type 0
LinesAreAll = (fed : List ℕ) (lines others : List (List ℕ)) (rest other : List ℕ) → Cuts fed (map Given lines) rest → Cuts fed (map Given others) other
    → HasNoCrlf rest → HasNoCrlf other → (lines ≡ others) × (rest ≡ other)

-- Octets begin with one text at most.
abbrev pub TextsAreOne : Type 0
TextsAreOne = (octets others text other after behind : List ℕ) → IsText octets text → IsText others other → octets ++ after ≡ others ++ behind
    → (octets ≡ others) × (text ≡ other)

-- Octets of a text that has not ended begin with no whole text.
abbrev pub BegunHasNoText : Type 0
BegunHasNoText = (fed line given octets text after : List ℕ) → IsTextBegun fed line given → IsText octets text → octets ++ after ≡ fed → ⊥

-- A text that is sent, with anything after it, is read back: just its octets are used, and they give the text, closed with CRLF.
pub record ReadsBack (text octets : List ℕ) : Type 0 where
  pub is : IsText octets (closed text)
  pub used : (after others other behind : List ℕ) → IsText others other → others ++ behind ≡ octets ++ after → (others ≡ octets) × (other ≡ closed text)
  pub ends : (after line given : List ℕ) → IsTextBegun (octets ++ after) line given → ⊥

abbrev pub RoundTrips : Type 0
RoundTrips = (text octets : List ℕ) → Dots text octets → ReadsBack text octets

-- A text is sent in one way.
abbrev pub DotsAreOne : Type 0
DotsAreOne = (text octets others : List ℕ) → Dots text octets → Dots text others → octets ≡ others
