-- The lines of a message as they are sent, and that no line of a reply has a CRLF in it.
use Rattle.std.proofs.Common.{◌≡◌, ◌+◌, ◌<◌, ℕ, Bool, true, false, not, nat_eq, zero, suc, List, [], ◌∷◌, ◌++◌, length, map, flat_map, refl, sym, ◌∙◌, ap, arith, append_assoc, if◌then◌else◌}
use Rattle.std.specs.Prelude.{slice_index, All, codes, Option, Some, None, Result, Ok, Err, OnOk}
use Rattle.std.specs.List.{list_all}
use Rattle.std.specs.Fmt.{decimal}
use Rattle.std.proofs.lemmas.List.Elements.{All-cons, All-nil, All-append, All-get_or}
use Rattle.mail_model.specs.Lines.{HasNoLf, HasNoCrlf, sent_line, closed}
use Rattle.mail_model.specs.PopReplies.{octets_text, shown_part, shown_text, dotted_line, last_line}
use Rattle.mail_model.proofs.OneLine.{IsNoLf, by_test, decimal_no_lf}
use Rattle.dot_text.specs.Dots.{Dots, AreLines, dotted}
use Rattle.pop_session.specs.Messages.{ShowsPartIn}

none_nil : HasNoCrlf []
none_nil k within = absurd (omega arith)

-- a period leads no CRLF
none_behind : (line : List ℕ) → HasNoCrlf line → HasNoCrlf (46 ∷ line)
none_behind line none zero within cr lf = absurd (omega (arith, cr))
none_behind line none (suc k) within cr lf =
    let one : suc k + 1 ≡ suc (k + 1) = omega arith in
    let inside : k + 1 < length line = omega arith in
    none k inside cr (sym (ap (slice_index (46 ∷ line)) one) ∙ lf)

dotted_none : (line : List ℕ) → HasNoCrlf line → HasNoCrlf (dotted_line line)
dotted_none [] none = none
dotted_none (x ∷ line) none = by_test_of (nat_eq x 46)
  where
    by_test_of : (b : Bool) → HasNoCrlf (if b then 46 ∷ x ∷ line else x ∷ line)
    by_test_of true = none_behind (x ∷ line) none
    by_test_of false = none

-- octets with no LF
pub none_of : (line : List ℕ) → HasNoLf line → HasNoCrlf line
none_of line none k within cr = All-get_or IsNoLf line (k + 1) 0 within none

-- a text that is written out
pub text : (line : List ℕ) → list_all (λ x. not (nat_eq x 10)) line ≡ true → HasNoCrlf line
text line h = none_of line (by_test line h)

pub all_lines : (lines : List (List ℕ)) → AreLines lines → All HasNoCrlf lines
all_lines [] are = All-nil HasNoCrlf
all_lines (line ∷ lines) are = All-cons HasNoCrlf line lines are.0 (all_lines lines are.1)

-- the dotted lines, and the one that is one period
all_dotted : (lines : List (List ℕ)) → AreLines lines → All HasNoCrlf (map dotted_line lines ++ last_line)
all_dotted [] are = All-cons HasNoCrlf (46 ∷ []) [] (none_behind [] none_nil) (All-nil HasNoCrlf)
all_dotted (line ∷ lines) are = All-cons HasNoCrlf (dotted_line line) (map dotted_line lines ++ last_line) (dotted_none line are.0) (all_dotted lines are.1)

dotted_octets : (lines : List (List ℕ)) → dotted lines ++ sent_line (46 ∷ []) ≡ flat_map sent_line (map dotted_line lines ++ last_line)
dotted_octets [] = refl
dotted_octets (line ∷ lines) =
    append_assoc (sent_line (dotted_line line)) (dotted lines) (sent_line (46 ∷ [])) ∙ ap (λ (l : List ℕ). sent_line (dotted_line line) ++ l) (dotted_octets lines)

octets_none : (size : ℕ) → HasNoCrlf (octets_text size)
octets_none size =
    none_of (octets_text size) (All-append IsNoLf (codes "+OK " ++ decimal size) (codes " octets")
    (All-append IsNoLf (codes "+OK ") (decimal size) (by_test (codes "+OK ") refl) (decimal_no_lf size)) (by_test (codes " octets") refl))

shown_none : (asked : Option ℕ) (size : ℕ) → HasNoCrlf (shown_text asked size)
shown_none None size = octets_none size
shown_none (Some lines) size = text (codes "+OK top") refl

-- the first line, and then the message as it is sent
pub shows_part : (asked : Option ℕ) (octets part old first sent new : List ℕ) → part ≡ shown_part asked octets → first ≡ old ++ sent_line (shown_text asked (length octets)) → new ≡ first ++ sent → Dots part sent
    → ShowsPartIn asked octets old new
shows_part asked octets part old first sent new shown starts is dots = record {
  reply = shown_text asked (length octets) ∷ map dotted_line dots.lines ++ last_line;
  shows = record { lines = dots.lines; are = all_lines dots.lines dots.are; whole = sym dots.whole ∙ ap closed shown; says = refl };
  says =
      is ∙ ap (λ (l : List ℕ). l ++ sent) starts ∙ append_assoc old (sent_line (shown_text asked (length octets))) sent
      ∙ ap (λ (l : List ℕ). old ++ (sent_line (shown_text asked (length octets)) ++ l)) (dots.sends ∙ dotted_octets dots.lines);
  lines = All-cons HasNoCrlf (shown_text asked (length octets)) (map dotted_line dots.lines ++ last_line) (shown_none asked (length octets)) (all_dotted dots.lines dots.are);
}

pub part_done : (asked : Option ℕ) (octets part old first new : List ℕ) (E : Type 0) (done : Result (Unit {0}) E) → part ≡ shown_part asked octets
    → first ≡ old ++ sent_line (shown_text asked (length octets)) → OnOk done ((sent : List ℕ) × (new ≡ first ++ sent) × Dots part sent) → OnOk done (ShowsPartIn asked octets old new)
part_done asked octets part old first new E (Ok x) shown starts did = shows_part asked octets part old first did.0 new shown starts did.1 did.2
part_done asked octets part old first new E (Err error) shown starts did = tt
