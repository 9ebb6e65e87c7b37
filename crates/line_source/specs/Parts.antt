-- Parts of lines, as they are taken from a source.
use Rattle.std.specs.Prelude.{◌≡◌, ℕ, ◌<◌, ◌≤◌, List, [], ◌∷◌, take, drop, Result, Ok, Err, length}
use Rattle.mail_model.specs.Lines.{HasNoLf, ended}
use Rattle.line_source.specs.declared.source.LinePart.{LinePart}
use Rattle.line_source.specs.declared.source.LinePart.TheVariants.{Whole, Open, End}
use Rattle.line_source.specs.declared.source.PartFault.{PartFault}

-- of these octets that were taken, at most so many, `more` is what belongs to the line
abbrev pub IsPart : ℕ → List ℕ → List ℕ → Result LinePart PartFault → Type 0
IsPart most taken more (Ok Whole) = (taken ≡ ended more) × HasNoLf more × (length taken ≤ most)
IsPart most taken more (Ok Open) = (taken ≡ more) × HasNoLf more × (0 < length more) × (length taken ≤ most)
IsPart most taken more (Ok End) = (taken ≡ []) × (more ≡ [])
IsPart most taken more (Err why) = (taken ≡ []) × (more ≡ [])

-- of these octets so many come before the first LF, or all where there is none
abbrev pub IsCut : List ℕ → ℕ → LinePart → Type 0
IsCut held count Whole = (rest : List ℕ) × (drop count held ≡ 10 ∷ rest) × HasNoLf (take count held) × (count < length held)
IsCut held count Open = HasNoLf held × (0 < length held) × (count ≡ length held)
IsCut held count End = (held ≡ []) × (count ≡ 0)

-- how many octets a part takes beside those of the line
abbrev pub lf_of : LinePart → ℕ
lf_of Whole = 1
lf_of Open = 0
lf_of End = 0
