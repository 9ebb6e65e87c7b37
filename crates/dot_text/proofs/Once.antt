-- Octets are cut into lines in one way, and so are those of a text.
use Rattle.std.proofs.Common.{◌≡◌, ℕ, true, false, List, [], ◌∷◌, ◌++◌, length, map, flat_map, refl, sym, ap, ap₂, ◌∙◌, arith, append_assoc}
use Rattle.mail_model.specs.Lines.{HasNoCrlf, sent_line}
use Rattle.mail_model.specs.Session.{is_period, undotted}
use Rattle.mail_model.specs.Session.Unit.{Line, Text}
use Rattle.mail_model.specs.Told.{AreTextLines, HasNoUnit, unit_octets}
use Rattle.dot_text.specs.Cuts.{Taken, taken_octets, AreTaken, asked_length}
use Rattle.dot_text.specs.Cuts.Taken.{Given, Skipped}
use Rattle.dot_text.specs.Laws.{LinesAreOne, LinesAreAll, TextsAreOne, BegunHasNoText}
use Rattle.dot_text.specs.Texts.{IsTextBegun}
use Rattle.dot_text.specs.Places.{Behind, Feeds}
use Rattle.dot_text.specs.declared.undotter.Undotter.{Undotter}
use Rattle.dot_text.specs.declared.undotter.Cut.{Cut}
use Rattle.dot_text.specs.declared.undotter.Cut.TheVariants.{More, Ended}
use Rattle.dot_text.proofs.Crlf.{none_one, one_sent_line, no_line}

-- two lists that begin with as many octets
same_front : (a b x y : List ℕ) → length a ≡ length b → a ++ x ≡ b ++ y → (a ≡ b) × (x ≡ y)
same_front [] [] x y len same = (refl, same)
same_front [] (d ∷ b) x y len same = absurd (omega (arith, len))
same_front (c ∷ a) [] x y len same = absurd (omega (arith, len))
same_front (c ∷ a) (d ∷ b) x y len same =
    let first : c ≡ d = cc in
    let later : a ++ x ≡ b ++ y = cc in
    let shorter : length a ≡ length b = omega (arith, len) in
    let rest = same_front a b x y shorter later in
    (ap₂ ◌∷◌ first rest.0, rest.1)

-- after the first of what was taken
behind_first : (first : Taken) (taken : List Taken) (rest : List ℕ) → flat_map taken_octets (first ∷ taken) ++ rest ≡ taken_octets first ++ (flat_map taken_octets taken ++ rest)
behind_first first taken rest = append_assoc (taken_octets first) (flat_map taken_octets taken) rest

-- the same takes off the same octets
one_taking : (taken others : List Taken) (rest other : List ℕ) → AreTaken taken → AreTaken others → map asked_length taken ≡ map asked_length others
    → flat_map taken_octets taken ++ rest ≡ flat_map taken_octets others ++ other → (taken ≡ others) × (rest ≡ other)
one_taking [] [] rest other are_a are_b same is = (refl, is)
one_taking [] (b ∷ others) rest other are_a are_b same is = cc
one_taking (a ∷ taken) [] rest other are_a are_b same is = cc
one_taking (Given a ∷ taken) (Given b ∷ others) rest other are_a are_b same is =
    let later : map asked_length taken ≡ map asked_length others = cc in
    let first = one_sent_line a b (flat_map taken_octets taken ++ rest) (flat_map taken_octets others ++ other) are_a.0 are_b.0
    (sym (behind_first (Given a) taken rest) ∙ is ∙ behind_first (Given b) others other) in
    let more = one_taking taken others rest other are_a.1 are_b.1 later first.1 in
    (ap₂ (λ (l : List ℕ) (ls : List Taken). Given l ∷ ls) first.0 more.0, more.1)
one_taking (Given a ∷ taken) (Skipped b ∷ others) rest other are_a are_b same is = cc
one_taking (Skipped a ∷ taken) (Given b ∷ others) rest other are_a are_b same is = cc
one_taking (Skipped a ∷ taken) (Skipped b ∷ others) rest other are_a are_b same is =
    let later : map asked_length taken ≡ map asked_length others = cc in
    let len : length a ≡ length b = cc in
    let first = same_front a b (flat_map taken_octets taken ++ rest) (flat_map taken_octets others ++ other) len
    (sym (behind_first (Skipped a) taken rest) ∙ is ∙ behind_first (Skipped b) others other) in
    let more = one_taking taken others rest other are_a are_b later first.1 in
    (ap₂ (λ (l : List ℕ) (ls : List Taken). Skipped l ∷ ls) first.0 more.0, more.1)

pub lines_one : LinesAreOne
lines_one fed taken others rest other first second same =
    one_taking taken others rest other first.lines second.lines same (sym first.whole ∙ second.whole)

-- all lines
all_lines : (lines others : List (List ℕ)) (rest other : List ℕ) → AreTaken (map Given lines) → AreTaken (map Given others) → HasNoCrlf rest → HasNoCrlf other
    → flat_map taken_octets (map Given lines) ++ rest ≡ flat_map taken_octets (map Given others) ++ other → (lines ≡ others) × (rest ≡ other)
all_lines [] [] rest other are_a are_b none_a none_b is = (refl, is)
all_lines [] (b ∷ others) rest other are_a are_b none_a none_b is =
    absurd (no_line b (flat_map taken_octets (map Given others) ++ other) rest none_a (sym (behind_first (Given b) (map Given others) other) ∙ sym is))
all_lines (a ∷ lines) [] rest other are_a are_b none_a none_b is =
    absurd (no_line a (flat_map taken_octets (map Given lines) ++ rest) other none_b (sym (behind_first (Given a) (map Given lines) rest) ∙ is))
all_lines (a ∷ lines) (b ∷ others) rest other are_a are_b none_a none_b is =
    let first = one_sent_line a b (flat_map taken_octets (map Given lines) ++ rest) (flat_map taken_octets (map Given others) ++ other) are_a.0 are_b.0
    (sym (behind_first (Given a) (map Given lines) rest) ∙ is ∙ behind_first (Given b) (map Given others) other) in
    let more = all_lines lines others rest other are_a.1 are_b.1 none_a none_b first.1 in
    (ap₂ ◌∷◌ first.0 more.0, more.1)

pub lines_all : LinesAreAll
lines_all fed lines others rest other first second none_a none_b =
    all_lines lines others rest other first.lines second.lines none_a none_b (sym first.whole ∙ second.whole)

-- the octets of a text
abbrev text_octets : List (List ℕ) → List ℕ
text_octets lines = unit_octets (Text lines)

-- after the first line of a text, and of one that has begun
behind_line : (line : List ℕ) (lines : List (List ℕ)) (x : List ℕ) → text_octets (line ∷ lines) ++ x ≡ sent_line line ++ (text_octets lines ++ x)
behind_line line lines x =
    ap (λ (l : List ℕ). l ++ x) (append_assoc (sent_line line) (flat_map sent_line lines) (sent_line (46 ∷ [])))
    ∙ append_assoc (sent_line line) (text_octets lines) x

behind_begun : (line : List ℕ) (lines : List (List ℕ)) (x : List ℕ) → flat_map sent_line (line ∷ lines) ++ x ≡ sent_line line ++ (flat_map sent_line lines ++ x)
behind_begun line lines x = append_assoc (sent_line line) (flat_map sent_line lines) x

-- a line of a text is not the period that ends it
no_period : (line : List ℕ) → is_period line ≡ false → 46 ∷ [] ≡ line → ⊥
no_period line other e =
    let both : is_period (46 ∷ []) ≡ false = ap is_period e ∙ other in cc

-- a text ends at its first period
pub one_text : (lines others : List (List ℕ)) (x y : List ℕ) → AreTextLines lines → AreTextLines others → text_octets lines ++ x ≡ text_octets others ++ y
    → (lines ≡ others) × (x ≡ y)
one_text [] [] x y are_a are_b same = (refl, (one_sent_line (46 ∷ []) (46 ∷ []) x y (none_one 46) (none_one 46) same).1)
one_text [] (line ∷ others) x y are_a are_b same =
    absurd (no_period line are_b.1
    (one_sent_line (46 ∷ []) line x (text_octets others ++ y) (none_one 46) are_b.0 (same ∙ behind_line line others y)).0)
one_text (line ∷ lines) [] x y are_a are_b same =
    absurd (no_period line are_a.1
    (one_sent_line (46 ∷ []) line y (text_octets lines ++ x) (none_one 46) are_a.0 (sym same ∙ behind_line line lines x)).0)
one_text (line ∷ lines) (other ∷ others) x y are_a are_b same =
    let first = one_sent_line line other (text_octets lines ++ x) (text_octets others ++ y) are_a.0 are_b.0
    (sym (behind_line line lines x) ∙ same ∙ behind_line other others y) in
    let rest = one_text lines others x y are_a.2 are_b.2 first.1 in
    (ap₂ ◌∷◌ first.0 rest.0, rest.1)

pub texts_one : TextsAreOne
texts_one octets others text other after behind first second same =
    let lines = one_text first.lines second.lines after behind first.are second.are
    (ap (λ (l : List ℕ). l ++ after) (sym first.whole) ∙ same ∙ ap (λ (l : List ℕ). l ++ behind) second.whole) in
    (first.whole ∙ ap text_octets lines.0 ∙ sym second.whole, first.gives ∙ ap undotted lines.0 ∙ sym second.gives)

-- a text that has begun has no whole text before
none_begun : (lines others : List (List ℕ)) (line x : List ℕ) → AreTextLines lines → AreTextLines others → HasNoCrlf line
    → text_octets lines ++ x ≡ flat_map sent_line others ++ line → ⊥
none_begun [] [] line x are_a are_b none same = no_line (46 ∷ []) x line none same
none_begun [] (other ∷ others) line x are_a are_b none same =
    no_period other are_b.1
    (one_sent_line (46 ∷ []) other x (flat_map sent_line others ++ line) (none_one 46) are_b.0 (same ∙ behind_begun other others line)).0
none_begun (first ∷ lines) [] line x are_a are_b none same =
    no_line first (text_octets lines ++ x) line none (sym (behind_line first lines x) ∙ same)
none_begun (first ∷ lines) (other ∷ others) line x are_a are_b none same =
    let heads = one_sent_line first other (text_octets lines ++ x) (flat_map sent_line others ++ line) are_a.0 are_b.0
    (sym (behind_line first lines x) ∙ same ∙ behind_begun other others line) in
    none_begun lines others line x are_a.2 are_b.2 none heads.1

pub begun_none : BegunHasNoText
begun_none fed line given octets text after begun is same =
    none_begun is.lines begun.lines line after is.are begun.are begun.no_end
    (ap (λ (l : List ℕ). l ++ after) (sym is.whole) ∙ same ∙ begun.whole)

-- nor has it a whole unit
no_unit : (fed line given : List ℕ) → IsTextBegun fed line given → HasNoUnit true fed
no_unit fed line given begun (Line other) more is same = is
no_unit fed line given begun (Text lines) more is same = none_begun lines begun.lines line more is begun.are begun.no_end (sym same ∙ begun.whole)

-- an undotter after a piece
pub feeds : (cut : Cut) (undotter : Undotter) (fed piece given : List ℕ) → Behind cut undotter.place fed piece given → Feeds cut undotter fed piece given
feeds More undotter fed piece given here = (here, no_unit (fed ++ piece) here.0 given here.2)
feeds (Ended used) undotter fed piece given here = here
