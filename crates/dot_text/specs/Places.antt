-- Where in its line an undotter stands.
use Rattle.std.specs.Prelude.{◌≡◌, ◌≢◌, ◌<◌, ◌≤◌, ⊤, ℕ, List, [], ◌∷◌, ◌++◌, length, take, nat_eq, true, false, Option, Some, None, if◌then◌else◌}
use Rattle.std.specs.List.{list_any}
use Rattle.mail_model.specs.Session.{is_period}
use Rattle.mail_model.specs.Told.{HasNoUnit}
use Rattle.dot_text.specs.Texts.{IsText, IsTextBegun}
use Rattle.dot_text.specs.declared.undotter.Place.{Place}
use Rattle.dot_text.specs.declared.undotter.Place.TheVariants.{LineStart, Period, PeriodCr, Inside, Cr}
use Rattle.dot_text.specs.declared.undotter.Undotter.{Undotter}
use Rattle.dot_text.specs.declared.undotter.Cut.{Cut}
use Rattle.dot_text.specs.declared.undotter.Cut.TheVariants.{More, Ended}

-- where the line so far ends
abbrev pub IsAt : Place → List ℕ → Type 0
IsAt LineStart line = line ≡ []
IsAt Period line = line ≡ 46 ∷ []
IsAt PeriodCr line = line ≡ 46 ∷ 13 ∷ []
IsAt Inside line = (front : List ℕ) × (x : ℕ) × (line ≡ front ++ x ∷ []) × (x ≢ 13) × (is_period line ≡ false)
IsAt Cr line = (front : List ℕ) × (line ≡ front ++ 13 ∷ []) × (is_period front ≡ false)

-- the place after an octet that does not end a line
abbrev pub plain_place : ℕ → Place
plain_place x = if nat_eq x 13 then Cr else Inside

-- the place after the octet; none where it ends the line that is one period
abbrev pub next_place : Place → ℕ → Option Place
next_place LineStart x = Some (if nat_eq x 46 then Period else plain_place x)
next_place Period x = Some (if nat_eq x 13 then PeriodCr else Inside)
next_place PeriodCr x = if nat_eq x 10 then None else Some (plain_place x)
next_place Inside x = Some (plain_place x)
next_place Cr x = Some (if nat_eq x 10 then LineStart else plain_place x)

-- what the octet gives to the text
abbrev pub told : Place → ℕ → List ℕ
told LineStart x = if nat_eq x 46 then [] else x ∷ []
told Period x = if nat_eq x 13 then [] else x ∷ []
told PeriodCr x = if nat_eq x 10 then [] else 13 ∷ x ∷ []
told Inside x = x ∷ []
told Cr x = x ∷ []

-- octets that are given as they are at this place, and leave it: inside a line those that are no CR
abbrev pub IsRun : Place → List ℕ → Type 0
IsRun Inside octets = list_any (λ x. nat_eq x 13) octets ≡ false
IsRun LineStart octets = octets ≡ []
IsRun Period octets = octets ≡ []
IsRun PeriodCr octets = octets ≡ []
IsRun Cr octets = octets ≡ []

-- At this place the octets so far are no whole text, and they have given so much of it.
abbrev pub UndotsAt : Place → List ℕ → List ℕ → Type 0
UndotsAt place fed given = (line : List ℕ) × IsAt place line × IsTextBegun fed line given

-- The undotter was fed these octets of a text, which are not the whole text, and has given so much of it.
abbrev pub Undots : Undotter → List ℕ → List ℕ → Type 0
Undots undotter fed given = UndotsAt undotter.place fed given

-- after a piece the text goes on, or it ended at one of the octets, and what comes next is a new text
abbrev pub Behind : Cut → Place → List ℕ → List ℕ → List ℕ → Type 0
Behind More place fed piece given = UndotsAt place (fed ++ piece) given
Behind (Ended used) place fed piece given = IsText (fed ++ take used piece) given × UndotsAt place [] []

-- the same of an undotter; where the text goes on, none is whole in the octets so far
abbrev pub Feeds : Cut → Undotter → List ℕ → List ℕ → List ℕ → Type 0
Feeds More undotter fed piece given = Undots undotter (fed ++ piece) given × HasNoUnit true (fed ++ piece)
Feeds (Ended used) undotter fed piece given = IsText (fed ++ take used piece) given × Undots undotter [] []

-- at least one octet of the piece was used, and no more than it has
abbrev pub IsWithin : Cut → List ℕ → Type 0
IsWithin More piece = ⊤
IsWithin (Ended used) piece = (0 < used) × (used ≤ length piece)
