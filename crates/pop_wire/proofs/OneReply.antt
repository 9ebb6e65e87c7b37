-- Octets are read as one reply at most.
use Rattle.std.proofs.Common.{◌≡◌, ◌<◌, ◌⊎◌, inl, inr, ◌&&◌, ℕ, Bool, true, false, List, [], ◌∷◌, ◌++◌, length, map, flat_map, Option, Some, None, refl, sym, ap, ap₂, ◌∙◌, subst, arith, append_assoc, append-nil}
use Rattle.std.specs.Prelude.{All, is_some}
use Rattle.std.proofs.lemmas.List.{length-append}
use Rattle.std.proofs.lemmas.List.Elements.{All-head, All-tail}
use Rattle.mail_model.specs.Lines.{HasNoCrlf, sent_line}
use Rattle.dot_text.proofs.Crlf.{one_sent_line, no_line, none_one}
use Rattle.pop_wire.specs.Replies.{FirstPart, Further, Ends, Says, BeginsSeveral, BeginsOne, BeginsWithReply, BreaksFirst, BreaksFurther, HasNoReply, BreaksReply, first_says, further_says, says_text, reply_octets}
use Rattle.pop_wire.specs.ReplyLaws.{RepliesAreOne, AnswersAreOne, AnswersLast, BegunRepliesAreNone}
use Rattle.pop_wire.proofs.Hearing.{more_several}
use Rattle.pop_wire.proofs.ReadBack.{read_back}

-- a line that has no text for a reply
abbrev Stops : List ℕ → Type 0
Stops line = (t : List ℕ) → further_says line ≡ says_text t → ⊥

one_text : (t u : List ℕ) → says_text t ≡ says_text u → t ≡ u
one_text t u e = let further : Says t ≡ Says u = cc in cc

period_stops : Stops (46 ∷ [])
period_stops t e = let other : ◌≡◌ {A = Further} Ends (Says t) = cc in cc

none_stops : (line : List ℕ) → further_says line ≡ None → Stops line
none_stops line none t e = let both : ◌≡◌ {A = Option Further} None (Some (Says t)) = sym none ∙ e in cc

-- the lines before the one that ends a reply, or breaks it, are the same
stops : (la lb : List (List ℕ)) (a b x y : List ℕ) (texts others : List (List ℕ)) → All HasNoCrlf la → All HasNoCrlf lb → HasNoCrlf a → HasNoCrlf b
    → map further_says la ≡ map says_text texts → map further_says lb ≡ map says_text others → Stops a → Stops b
    → flat_map sent_line la ++ (sent_line a ++ x) ≡ flat_map sent_line lb ++ (sent_line b ++ y) → (la ≡ lb) × (a ≡ b) × (x ≡ y)
stops [] [] a b x y texts others all_a all_b none_a none_b say_a say_b stop_a stop_b same = let e = one_sent_line a b x y none_a none_b same in (refl, e.0, e.1)
stops [] (m ∷ lb) a b x y texts [] all_a all_b none_a none_b say_a say_b stop_a stop_b same = cc
stops [] (m ∷ lb) a b x y texts (u ∷ others) all_a all_b none_a none_b say_a say_b stop_a stop_b same =
    let e = one_sent_line a m x (flat_map sent_line lb ++ (sent_line b ++ y)) none_a (All-head HasNoCrlf m lb all_b) (same ∙ append_assoc (sent_line m) (flat_map sent_line lb) (sent_line b ++ y)) in
    let first : further_says m ≡ says_text u = cc in
    absurd (stop_a u (ap further_says e.0 ∙ first))
stops (l ∷ la) [] a b x y [] others all_a all_b none_a none_b say_a say_b stop_a stop_b same = cc
stops (l ∷ la) [] a b x y (t ∷ texts) others all_a all_b none_a none_b say_a say_b stop_a stop_b same =
    let e = one_sent_line b l y (flat_map sent_line la ++ (sent_line a ++ x)) none_b (All-head HasNoCrlf l la all_a) (sym same ∙ append_assoc (sent_line l) (flat_map sent_line la) (sent_line a ++ x)) in
    let first : further_says l ≡ says_text t = cc in
    absurd (stop_b t (ap further_says e.0 ∙ first))
stops (l ∷ la) (m ∷ lb) a b x y [] others all_a all_b none_a none_b say_a say_b stop_a stop_b same = cc
stops (l ∷ la) (m ∷ lb) a b x y (t ∷ texts) [] all_a all_b none_a none_b say_a say_b stop_a stop_b same = cc
stops (l ∷ la) (m ∷ lb) a b x y (t ∷ texts) (u ∷ others) all_a all_b none_a none_b say_a say_b stop_a stop_b same =
    let e = one_sent_line l m (flat_map sent_line la ++ (sent_line a ++ x)) (flat_map sent_line lb ++ (sent_line b ++ y)) (All-head HasNoCrlf l la all_a) (All-head HasNoCrlf m lb all_b)
    (sym (append_assoc (sent_line l) (flat_map sent_line la) (sent_line a ++ x)) ∙ same ∙ append_assoc (sent_line m) (flat_map sent_line lb) (sent_line b ++ y)) in
    let later_a : map further_says la ≡ map says_text texts = cc in
    let later_b : map further_says lb ≡ map says_text others = cc in
    let rest = stops la lb a b x y texts others (All-tail HasNoCrlf l la all_a) (All-tail HasNoCrlf m lb all_b) none_a none_b later_a later_b stop_a stop_b e.1 in
    (ap₂ (λ (k : List ℕ) (ks : List (List ℕ)). k ∷ ks) e.0 rest.0, rest.1, rest.2)

-- octets with no whole line that stops
no_stop : (la lb : List (List ℕ)) (a x rest : List ℕ) (texts others : List (List ℕ)) → All HasNoCrlf la → All HasNoCrlf lb → HasNoCrlf a → HasNoCrlf rest
    → map further_says la ≡ map says_text texts → map further_says lb ≡ map says_text others → Stops a → flat_map sent_line la ++ (sent_line a ++ x) ≡ flat_map sent_line lb ++ rest → ⊥
no_stop [] [] a x rest texts others all_a all_b none_a none say_a say_b stop same = no_line a x rest none same
no_stop [] (m ∷ lb) a x rest texts [] all_a all_b none_a none say_a say_b stop same = cc
no_stop [] (m ∷ lb) a x rest texts (u ∷ others) all_a all_b none_a none say_a say_b stop same =
    let e = one_sent_line a m x (flat_map sent_line lb ++ rest) none_a (All-head HasNoCrlf m lb all_b) (same ∙ append_assoc (sent_line m) (flat_map sent_line lb) rest) in
    let first : further_says m ≡ says_text u = cc in
    stop u (ap further_says e.0 ∙ first)
no_stop (l ∷ la) [] a x rest texts others all_a all_b none_a none say_a say_b stop same =
    no_line l (flat_map sent_line la ++ (sent_line a ++ x)) rest none (sym (append_assoc (sent_line l) (flat_map sent_line la) (sent_line a ++ x)) ∙ same)
no_stop (l ∷ la) (m ∷ lb) a x rest [] others all_a all_b none_a none say_a say_b stop same = cc
no_stop (l ∷ la) (m ∷ lb) a x rest (t ∷ texts) [] all_a all_b none_a none say_a say_b stop same = cc
no_stop (l ∷ la) (m ∷ lb) a x rest (t ∷ texts) (u ∷ others) all_a all_b none_a none say_a say_b stop same =
    let e = one_sent_line l m (flat_map sent_line la ++ (sent_line a ++ x)) (flat_map sent_line lb ++ rest) (All-head HasNoCrlf l la all_a) (All-head HasNoCrlf m lb all_b)
    (sym (append_assoc (sent_line l) (flat_map sent_line la) (sent_line a ++ x)) ∙ same ∙ append_assoc (sent_line m) (flat_map sent_line lb) rest) in
    let later_a : map further_says la ≡ map says_text texts = cc in
    let later_b : map further_says lb ≡ map says_text others = cc in
    no_stop la lb a x rest texts others (All-tail HasNoCrlf l la all_a) (All-tail HasNoCrlf m lb all_b) none_a none later_a later_b stop e.1

-- the texts of the lines are the same
same_texts : (texts others : List (List ℕ)) → map says_text texts ≡ map says_text others → texts ≡ others
same_texts [] [] e = refl
same_texts [] (u ∷ others) e = cc
same_texts (t ∷ texts) [] e = cc
same_texts (t ∷ texts) (u ∷ others) e =
    let first : says_text t ≡ says_text u = cc in
    let later : map says_text texts ≡ map says_text others = cc in
    ap₂ (λ (k : List ℕ) (ks : List (List ℕ)). k ∷ ks) (one_text t u first) (same_texts texts others later)

-- the first line of a reply of several lines, and what is behind it
first_of : {octets text behind : List ℕ} {texts : List (List ℕ)} (b : BeginsSeveral octets text texts behind) → octets ≡ sent_line b.first ++ (flat_map sent_line b.lines ++ behind)
first_of {behind = behind} b = b.whole ∙ append_assoc (sent_line b.first) (flat_map sent_line b.lines) behind

-- the same line says the same
one_part : (a b : List ℕ) (p q : FirstPart) → first_says a ≡ Some p → first_says b ≡ Some q → a ≡ b → p ≡ q
one_part a b p q says_a says_b same = let both : ◌≡◌ {A = Option FirstPart} (Some p) (Some q) = sym says_a ∙ ap first_says same ∙ says_b in cc

never : (a b : List ℕ) (p : FirstPart) → first_says a ≡ Some p → first_says b ≡ None → a ≡ b → ⊥
never a b p says none same = let both : ◌≡◌ {A = Option FirstPart} (Some p) None = sym says ∙ ap first_says same ∙ none in cc

-- a good reply of one line is none of several
one_or_several : (good several : Bool) (a b text other : List ℕ) → (good && several) ≡ false → several ≡ true → first_says a ≡ Some (record { good = good; text = text })
    → first_says b ≡ Some (record { good = true; text = other }) → a ≡ b → ⊥
one_or_several good several a b text other one is says_a says_b same =
    let part = one_part a b (record { good = good; text = text }) (record { good = true; text = other }) says_a says_b same in
    let yes : good ≡ true = ap (λ (p : FirstPart). p.good) part in
    let both : true ≡ false = ap₂ (λ (x y : Bool). x && y) (sym yes) (sym is) ∙ one in cc

one_line : {octets text other behind rest : List ℕ} {good bad : Bool} → BeginsOne octets good text behind → BeginsOne octets bad other rest → (good ≡ bad) × (text ≡ other) × (behind ≡ rest)
one_line {octets = octets} {text = text} {other = other} {behind = behind} {rest = rest} {good = good} {bad = bad} a b =
    let e = one_sent_line a.line b.line behind rest a.line_whole b.line_whole (sym a.whole ∙ b.whole) in
    let part = one_part a.line b.line (record { good = good; text = text }) (record { good = bad; text = other }) a.says b.says e.0 in
    (ap (λ (p : FirstPart). p.good) part, ap (λ (p : FirstPart). p.text) part, e.1)

-- two readings of a reply of several lines, each up to a line that stops
several_lines : (a b x y : List ℕ) {octets text other : List ℕ} {texts others : List (List ℕ)} → HasNoCrlf a → HasNoCrlf b → Stops a → Stops b → BeginsSeveral octets text texts (sent_line a ++ x)
    → BeginsSeveral octets other others (sent_line b ++ y) → (text ≡ other) × (texts ≡ others) × (a ≡ b) × (x ≡ y)
several_lines a b x y {text = text} {other = other} {texts = texts} {others = others} none_a none_b stop_a stop_b m n =
    let e = one_sent_line m.first n.first (flat_map sent_line m.lines ++ (sent_line a ++ x)) (flat_map sent_line n.lines ++ (sent_line b ++ y)) m.first_whole n.first_whole (sym (first_of m) ∙ first_of n) in
    let part = one_part m.first n.first (record { good = true; text = text }) (record { good = true; text = other }) m.good n.good e.0 in
    let s = stops m.lines n.lines a b x y texts others m.are n.are none_a none_b m.say n.say stop_a stop_b e.1 in
    (ap (λ (p : FirstPart). p.text) part, same_texts texts others (sym m.say ∙ ap (map further_says) s.0 ∙ n.say), s.1, s.2)

pub one_reply : RepliesAreOne
one_reply several octets good bad text other None None behind rest a b = let e = one_line a.1 b.1 in (e.0, e.1, refl, e.2)
one_reply several octets good bad text other None (Some others) behind rest a b =
    let e = one_sent_line a.1.line b.2.first behind (flat_map sent_line b.2.lines ++ (sent_line (46 ∷ []) ++ rest)) a.1.line_whole b.2.first_whole (sym a.1.whole ∙ first_of b.2) in
    absurd (one_or_several good several a.1.line b.2.first text other a.0 b.0 a.1.says b.2.good e.0)
one_reply several octets good bad text other (Some texts) None behind rest a b =
    let e = one_sent_line b.1.line a.2.first rest (flat_map sent_line a.2.lines ++ (sent_line (46 ∷ []) ++ behind)) b.1.line_whole a.2.first_whole (sym b.1.whole ∙ first_of a.2) in
    absurd (one_or_several bad several b.1.line a.2.first other text b.0 a.0 b.1.says a.2.good e.0)
one_reply several octets good bad text other (Some texts) (Some others) behind rest a b =
    let e = several_lines (46 ∷ []) (46 ∷ []) behind rest (none_one 46) (none_one 46) period_stops period_stops a.2 b.2 in
    (a.1 ∙ sym b.1, e.0, ap (λ (l : List (List ℕ)). Some l) e.1, e.3)

-- a reply of several lines that has not ended has no line that stops
not_ended : (a x rest : List ℕ) {octets text other : List ℕ} {texts others : List (List ℕ)} → HasNoCrlf a → HasNoCrlf rest → Stops a → BeginsSeveral octets text texts (sent_line a ++ x)
    → BeginsSeveral octets other others rest → ⊥
not_ended a x rest {texts = texts} {others = others} none_a none stop m n =
    let e = one_sent_line m.first n.first (flat_map sent_line m.lines ++ (sent_line a ++ x)) (flat_map sent_line n.lines ++ rest) m.first_whole n.first_whole (sym (first_of m) ∙ first_of n) in
    no_stop m.lines n.lines a x rest texts others m.are n.are none_a none m.say n.say stop e.1

waits_or_breaks : (several : Bool) (octets : List ℕ) → HasNoReply several octets → BreaksReply several octets → ⊥
waits_or_breaks several octets (inl none) (inl b) = no_line b.line b.behind octets none (sym b.whole)
waits_or_breaks several octets (inl none) (inr (is, b)) = no_line b.begins.first (flat_map sent_line b.begins.lines ++ (sent_line b.line ++ b.behind)) octets none (sym (first_of b.begins))
waits_or_breaks several octets (inr (is, text, texts, behind, w, none)) (inl b) =
    let e = one_sent_line w.first b.line (flat_map sent_line w.lines ++ behind) b.behind w.first_whole b.line_whole (sym (first_of w) ∙ b.whole) in
    never w.first b.line (record { good = true; text = text }) w.good b.breaks e.0
waits_or_breaks several octets (inr (is, text, texts, behind, w, none)) (inr (also, b)) = not_ended b.line b.behind behind b.line_whole none (none_stops b.line b.breaks) b.begins w

given_or_waits : (several : Bool) (octets : List ℕ) (good : Bool) (text : List ℕ) (texts : Option (List (List ℕ))) (behind : List ℕ) → BeginsWithReply several octets good text texts behind
    → HasNoReply several octets → ⊥
given_or_waits several octets good text None behind a (inl none) = no_line a.1.line behind octets none (sym a.1.whole)
given_or_waits several octets good text None behind a (inr (is, other, others, rest, w, none)) =
    let e = one_sent_line a.1.line w.first behind (flat_map sent_line w.lines ++ rest) a.1.line_whole w.first_whole (sym a.1.whole ∙ first_of w) in
    one_or_several good several a.1.line w.first text other a.0 is a.1.says w.good e.0
given_or_waits several octets good text (Some texts) behind a (inl none) =
    no_line a.2.first (flat_map sent_line a.2.lines ++ (sent_line (46 ∷ []) ++ behind)) octets none (sym (first_of a.2))
given_or_waits several octets good text (Some texts) behind a (inr (is, other, others, rest, w, none)) = not_ended (46 ∷ []) behind rest (none_one 46) none period_stops a.2 w

given_or_breaks : (several : Bool) (octets : List ℕ) (good : Bool) (text : List ℕ) (texts : Option (List (List ℕ))) (behind : List ℕ) → BeginsWithReply several octets good text texts behind
    → BreaksReply several octets → ⊥
given_or_breaks several octets good text None behind a (inl b) =
    let e = one_sent_line a.1.line b.line behind b.behind a.1.line_whole b.line_whole (sym a.1.whole ∙ b.whole) in
    never a.1.line b.line (record { good = good; text = text }) a.1.says b.breaks e.0
given_or_breaks several octets good text None behind a (inr (is, b)) =
    let e = one_sent_line a.1.line b.begins.first behind (flat_map sent_line b.begins.lines ++ (sent_line b.line ++ b.behind)) a.1.line_whole b.begins.first_whole (sym a.1.whole ∙ first_of b.begins) in
    one_or_several good several a.1.line b.begins.first text b.text a.0 is a.1.says b.begins.good e.0
given_or_breaks several octets good text (Some texts) behind a (inl b) =
    let e = one_sent_line a.2.first b.line (flat_map sent_line a.2.lines ++ (sent_line (46 ∷ []) ++ behind)) b.behind a.2.first_whole b.line_whole (sym (first_of a.2) ∙ b.whole) in
    never a.2.first b.line (record { good = true; text = text }) a.2.good b.breaks e.0
given_or_breaks several octets good text (Some texts) behind a (inr (is, b)) =
    let e = several_lines (46 ∷ []) b.line behind b.behind (none_one 46) b.line_whole period_stops (none_stops b.line b.breaks) a.2 b.begins in
    let both : ◌≡◌ {A = Option Further} (Some Ends) None = ap further_says e.2 ∙ b.breaks in cc

pub one_answer : AnswersAreOne
one_answer several octets = record { waits = waits_or_breaks several octets; given = given_or_waits several octets; broken = given_or_breaks several octets }

-- more octets behind
given_more : (several : Bool) (octets more : List ℕ) (good : Bool) (text : List ℕ) (texts : Option (List (List ℕ))) (behind : List ℕ) → BeginsWithReply several octets good text texts behind
    → BeginsWithReply several (octets ++ more) good text texts (behind ++ more)
given_more several octets more good text None behind (one, a) =
    (one, record { line = a.line; line_whole = a.line_whole; says = a.says; whole = ap (λ (l : List ℕ). l ++ more) a.whole ∙ append_assoc (sent_line a.line) behind more })
given_more several octets more good text (Some texts) behind (is, good_is, a) =
    (is, good_is, subst (BeginsSeveral (octets ++ more) text texts) (append_assoc (sent_line (46 ∷ [])) behind more) (more_several octets more text texts (sent_line (46 ∷ []) ++ behind) a))

breaks_more : (several : Bool) (octets more : List ℕ) → BreaksReply several octets → BreaksReply several (octets ++ more)
breaks_more several octets more (inl b) = inl (record {
  line = b.line;
  line_whole = b.line_whole;
  breaks = b.breaks;
  behind = b.behind ++ more;
  whole = ap (λ (l : List ℕ). l ++ more) b.whole ∙ append_assoc (sent_line b.line) b.behind more;
})
breaks_more several octets more (inr (is, b)) = inr (
  is,
  record {
    text = b.text;
    texts = b.texts;
    line = b.line;
    behind = b.behind ++ more;
    begins = subst (BeginsSeveral (octets ++ more) b.text b.texts) (append_assoc (sent_line b.line) b.behind more)
        (more_several octets more b.text b.texts (sent_line b.line ++ b.behind) b.begins);
    line_whole = b.line_whole;
    breaks = b.breaks;
  },
)

pub answers_last : AnswersLast
answers_last several octets more = record { given = given_more several octets more; broken = breaks_more several octets more }

-- a reply that is cut short
pub begun_none : BegunRepliesAreNone
begun_none several good text texts front more reply rightly whole some =
    let all : BeginsWithReply several (front ++ more) good text texts [] =
    subst (λ (l : List ℕ). BeginsWithReply several l good text texts []) (append-nil (reply_octets good text texts) ∙ sym whole) (read_back several good text texts [] reply rightly) in
    record {
      no_reply = λ g t ts b is.
          let rest = (one_reply several (front ++ more) g good t text ts texts (b ++ more) [] (given_more several front more g t ts b is) all).3 in
          omega (arith, some, length-append b more, ap (λ (l : List ℕ). length l) rest);
      no_fault = λ is. given_or_breaks several (front ++ more) good text texts [] all (breaks_more several front more is);
    }
