-- Octets are read as one reply at most.
use Rattle.std.proofs.Common.{◌≡◌, ◌<◌, ◌⊎◌, inl, inr, ℕ, Bool, true, false, List, [], ◌∷◌, ◌++◌, length, map, flat_map, Option, Some, None, refl, sym, ap, ap₂, ◌∙◌, subst, arith, append_assoc, append-nil}
use Rattle.std.specs.Prelude.{All}
use Rattle.std.proofs.lemmas.Bool.{eq-eqb}
use Rattle.std.proofs.lemmas.List.{length-append}
use Rattle.std.proofs.lemmas.List.Elements.{All-head, All-tail}
use Rattle.mail_model.specs.Lines.{HasNoCrlf, sent_line}
use Rattle.dot_text.proofs.Crlf.{one_sent_line, no_line}
use Rattle.smtp_wire.specs.Replies.{ReplyPart, BeginReply, BeginsWithReply, HasNoReply, BreaksReply, line_says, says_more, may_follow, reply_octets}
use Rattle.smtp_wire.specs.ReplyLaws.{RepliesAreOne, AnswersAreOne, AnswersLast, BegunRepliesAreNone}
use Rattle.smtp_wire.proofs.Hearing.{more_begin}
use Rattle.smtp_wire.proofs.ReadBack.{read_back}

one_code : (code other : ℕ) (t u : List ℕ) (ends : Bool) → ◌≡◌ {A = Option ReplyPart} (Some (record { code = code; ends = ends; text = t })) (Some (record { code = other; ends = ends; text = u })) → (code ≡ other) × (t ≡ u)
one_code code other t u ends e =
    let part : ◌≡◌ {A = ReplyPart} (record { code = code; ends = ends; text = t }) (record { code = other; ends = ends; text = u }) = cc in
    (ap (λ (p : ReplyPart). p.code) part, ap (λ (p : ReplyPart). p.text) part)

-- a line that another reply has not before its last
abbrev Stops : Option ReplyPart → ℕ → List (List ℕ) → ℕ → Type 0
Stops said code texts other = (t : List ℕ) → (texts ≡ []) ⊎ (code ≡ other) → said ≡ says_more other t → ⊥

no_texts : (code : ℕ) (texts : List (List ℕ)) → ◌≡◌ {A = List (Option ReplyPart)} [] (map (says_more code) texts) → texts ≡ []
no_texts code [] e = refl
no_texts code (t ∷ texts) e = cc

-- the lines before the one that ends a reply, or breaks it, are the same
stops : (la lb : List (List ℕ)) (a b x y : List ℕ) (code other : ℕ) (texts others : List (List ℕ)) → All HasNoCrlf la → All HasNoCrlf lb → HasNoCrlf a → HasNoCrlf b
    → map line_says la ≡ map (says_more code) texts → map line_says lb ≡ map (says_more other) others
    → Stops (line_says a) code texts other → Stops (line_says b) other others code
    → flat_map sent_line la ++ (sent_line a ++ x) ≡ flat_map sent_line lb ++ (sent_line b ++ y) → (la ≡ lb) × (a ≡ b) × (x ≡ y)
stops [] [] a b x y code other texts others all_a all_b none_a none_b say_a say_b stop_a stop_b same =
    let e = one_sent_line a b x y none_a none_b same in
    (refl, e.0, e.1)
stops [] (m ∷ lb) a b x y code other texts [] all_a all_b none_a none_b say_a say_b stop_a stop_b same = cc
stops [] (m ∷ lb) a b x y code other texts (u ∷ others) all_a all_b none_a none_b say_a say_b stop_a stop_b same =
    let e = one_sent_line a m x (flat_map sent_line lb ++ (sent_line b ++ y)) none_a (All-head HasNoCrlf m lb all_b) (same ∙ append_assoc (sent_line m) (flat_map sent_line lb) (sent_line b ++ y)) in
    let first : line_says m ≡ says_more other u = cc in
    absurd (stop_a u (inl (no_texts code texts say_a)) (ap line_says e.0 ∙ first))
stops (l ∷ la) [] a b x y code other [] others all_a all_b none_a none_b say_a say_b stop_a stop_b same = cc
stops (l ∷ la) [] a b x y code other (t ∷ texts) others all_a all_b none_a none_b say_a say_b stop_a stop_b same =
    let e = one_sent_line b l y (flat_map sent_line la ++ (sent_line a ++ x)) none_b (All-head HasNoCrlf l la all_a) (sym same ∙ append_assoc (sent_line l) (flat_map sent_line la) (sent_line a ++ x)) in
    let first : line_says l ≡ says_more code t = cc in
    absurd (stop_b t (inl (no_texts other others say_b)) (ap line_says e.0 ∙ first))
stops (l ∷ la) (m ∷ lb) a b x y code other [] others all_a all_b none_a none_b say_a say_b stop_a stop_b same = cc
stops (l ∷ la) (m ∷ lb) a b x y code other (t ∷ texts) [] all_a all_b none_a none_b say_a say_b stop_a stop_b same = cc
stops (l ∷ la) (m ∷ lb) a b x y code other (t ∷ texts) (u ∷ others) all_a all_b none_a none_b say_a say_b stop_a stop_b same =
    let e = one_sent_line l m (flat_map sent_line la ++ (sent_line a ++ x)) (flat_map sent_line lb ++ (sent_line b ++ y)) (All-head HasNoCrlf l la all_a) (All-head HasNoCrlf m lb all_b)
    (sym (append_assoc (sent_line l) (flat_map sent_line la) (sent_line a ++ x)) ∙ same ∙ append_assoc (sent_line m) (flat_map sent_line lb) (sent_line b ++ y)) in
    let first : line_says l ≡ says_more code t = cc in
    let second : line_says m ≡ says_more other u = cc in
    let later_a : map line_says la ≡ map (says_more code) texts = cc in
    let later_b : map line_says lb ≡ map (says_more other) others = cc in
    let codes = (one_code code other t u false (sym first ∙ ap line_says e.0 ∙ second)).0 in
    let rest = stops la lb a b x y code other texts others (All-tail HasNoCrlf l la all_a) (All-tail HasNoCrlf m lb all_b) none_a none_b later_a later_b
    (λ k _ s. stop_a k (inr codes) s) (λ k _ s. stop_b k (inr (sym codes)) s) e.1 in
    (ap₂ (λ (k : List ℕ) (ks : List (List ℕ)). k ∷ ks) e.0 rest.0, rest.1, rest.2)

-- octets with no whole line that stops
no_stop : (la lb : List (List ℕ)) (a x rest : List ℕ) (code other : ℕ) (texts others : List (List ℕ)) → All HasNoCrlf la → All HasNoCrlf lb → HasNoCrlf a → HasNoCrlf rest
    → map line_says la ≡ map (says_more code) texts → map line_says lb ≡ map (says_more other) others → Stops (line_says a) code texts other
    → flat_map sent_line la ++ (sent_line a ++ x) ≡ flat_map sent_line lb ++ rest → ⊥
no_stop [] [] a x rest code other texts others all_a all_b none_a none say_a say_b stop same = no_line a x rest none same
no_stop [] (m ∷ lb) a x rest code other texts [] all_a all_b none_a none say_a say_b stop same = cc
no_stop [] (m ∷ lb) a x rest code other texts (u ∷ others) all_a all_b none_a none say_a say_b stop same =
    let e = one_sent_line a m x (flat_map sent_line lb ++ rest) none_a (All-head HasNoCrlf m lb all_b) (same ∙ append_assoc (sent_line m) (flat_map sent_line lb) rest) in
    let first : line_says m ≡ says_more other u = cc in
    stop u (inl (no_texts code texts say_a)) (ap line_says e.0 ∙ first)
no_stop (l ∷ la) [] a x rest code other texts others all_a all_b none_a none say_a say_b stop same =
    no_line l (flat_map sent_line la ++ (sent_line a ++ x)) rest none (sym (append_assoc (sent_line l) (flat_map sent_line la) (sent_line a ++ x)) ∙ same)
no_stop (l ∷ la) (m ∷ lb) a x rest code other [] others all_a all_b none_a none say_a say_b stop same = cc
no_stop (l ∷ la) (m ∷ lb) a x rest code other (t ∷ texts) [] all_a all_b none_a none say_a say_b stop same = cc
no_stop (l ∷ la) (m ∷ lb) a x rest code other (t ∷ texts) (u ∷ others) all_a all_b none_a none say_a say_b stop same =
    let e = one_sent_line l m (flat_map sent_line la ++ (sent_line a ++ x)) (flat_map sent_line lb ++ rest) (All-head HasNoCrlf l la all_a) (All-head HasNoCrlf m lb all_b)
    (sym (append_assoc (sent_line l) (flat_map sent_line la) (sent_line a ++ x)) ∙ same ∙ append_assoc (sent_line m) (flat_map sent_line lb) rest) in
    let first : line_says l ≡ says_more code t = cc in
    let second : line_says m ≡ says_more other u = cc in
    let later_a : map line_says la ≡ map (says_more code) texts = cc in
    let later_b : map line_says lb ≡ map (says_more other) others = cc in
    let codes = (one_code code other t u false (sym first ∙ ap line_says e.0 ∙ second)).0 in
    no_stop la lb a x rest code other texts others (All-tail HasNoCrlf l la all_a) (All-tail HasNoCrlf m lb all_b) none_a none later_a later_b (λ k _ s. stop k (inr codes) s) e.1

-- the texts before the last are the same, and so is the code where there are any
agree : (code other : ℕ) (texts others : List (List ℕ)) → map (says_more code) texts ≡ map (says_more other) others → (texts ≡ others) × ((texts ≡ []) ⊎ (code ≡ other))
agree code other [] [] e = (refl, inl refl)
agree code other [] (u ∷ others) e = cc
agree code other (t ∷ texts) [] e = cc
agree code other (t ∷ texts) (u ∷ others) e =
    let first : says_more code t ≡ says_more other u = cc in
    let later : map (says_more code) texts ≡ map (says_more other) others = cc in
    let one = one_code code other t u false first in
    (ap₂ (λ (k : List ℕ) (ks : List (List ℕ)). k ∷ ks) one.1 (agree code other texts others later).0, inr one.0)

-- the last line of a reply is not before the last of another
last_stops : (code other : ℕ) (text : List ℕ) (said : Option ReplyPart) (t : List ℕ) → said ≡ Some (record { code = code; ends = true; text = text }) → said ≡ says_more other t → ⊥
last_stops code other text said t last more =
    let both : ◌≡◌ {A = Option ReplyPart} (Some (record { code = code; ends = true; text = text })) (Some (record { code = other; ends = false; text = t })) = sym last ∙ more in
    let part : ◌≡◌ {A = ReplyPart} (record { code = code; ends = true; text = text }) (record { code = other; ends = false; text = t }) = cc in
    let ends : true ≡ false = ap (λ (p : ReplyPart). p.ends) part in cc

-- a line of the code of those before it may follow
follows : (code : ℕ) (texts : List (List ℕ)) (part : ReplyPart) → may_follow code texts (Some part) ≡ false → (texts ≡ []) ⊎ (code ≡ part.code) → ⊥
follows code [] part wrong either = cc
follows code (t ∷ texts) part wrong (inl none) = cc
follows code (t ∷ texts) part wrong (inr same) = let yes = eq-eqb part.code code (sym same) in let both : true ≡ false = sym yes ∙ wrong in cc

breaks_stop : (code other : ℕ) (texts : List (List ℕ)) (said : Option ReplyPart) → may_follow code texts said ≡ false → Stops said code texts other
breaks_stop code other texts said wrong t either is =
    follows code texts (record { code = other; ends = false; text = t }) (subst (λ (s : Option ReplyPart). may_follow code texts s ≡ false) is wrong) either

pub one_reply : RepliesAreOne
one_reply octets code other texts others behind rest a b =
    let s = stops a.begins.lines b.begins.lines a.line b.line behind rest code other a.before b.before a.begins.are b.begins.are a.whole b.whole a.begins.say b.begins.say
    (λ t _ more. last_stops code other a.text (line_says a.line) t a.says more) (λ t _ more. last_stops other code b.text (line_says b.line) t b.says more) (sym a.begins.whole ∙ b.begins.whole) in
    let last = one_code code other a.text b.text true (sym a.says ∙ ap line_says s.1 ∙ b.says) in
    let before = (agree code other a.before b.before (sym a.begins.say ∙ ap (map line_says) s.0 ∙ b.begins.say)).0 in
    (last.0, a.are ∙ ap₂ (λ (ts : List (List ℕ)) (t : List ℕ). ts ++ t ∷ []) before last.1 ∙ sym b.are, s.2)

waits_or_breaks : (octets : List ℕ) → HasNoReply octets → BreaksReply octets → ⊥
waits_or_breaks octets w b =
    no_stop b.begins.lines w.begins.lines b.line b.behind w.behind b.code w.code b.texts w.texts b.begins.are w.begins.are b.whole w.none b.begins.say w.begins.say
    (breaks_stop b.code w.code b.texts (line_says b.line) b.breaks) (sym b.begins.whole ∙ w.begins.whole)

given_or_waits : (octets : List ℕ) (code : ℕ) (texts : List (List ℕ)) (behind : List ℕ) → BeginsWithReply octets code texts behind → HasNoReply octets → ⊥
given_or_waits octets code texts behind a w =
    no_stop a.begins.lines w.begins.lines a.line behind w.behind code w.code a.before w.texts a.begins.are w.begins.are a.whole w.none a.begins.say w.begins.say
    (λ t _ more. last_stops code w.code a.text (line_says a.line) t a.says more) (sym a.begins.whole ∙ w.begins.whole)

given_or_breaks : (octets : List ℕ) (code : ℕ) (texts : List (List ℕ)) (behind : List ℕ) → BeginsWithReply octets code texts behind → BreaksReply octets → ⊥
given_or_breaks octets code texts behind a b =
    let s = stops b.begins.lines a.begins.lines b.line a.line b.behind behind b.code code b.texts a.before b.begins.are a.begins.are b.whole a.whole b.begins.say a.begins.say
    (breaks_stop b.code code b.texts (line_says b.line) b.breaks) (λ t _ more. last_stops code b.code a.text (line_says a.line) t a.says more) (sym b.begins.whole ∙ a.begins.whole) in
    let either = (agree b.code code b.texts a.before (sym b.begins.say ∙ ap (map line_says) s.0 ∙ a.begins.say)).1 in
    follows b.code b.texts (record { code = code; ends = true; text = a.text }) (ap (may_follow b.code b.texts) (sym a.says ∙ ap line_says (sym s.1)) ∙ b.breaks) either

pub one_answer : AnswersAreOne
one_answer octets = record { waits = waits_or_breaks octets; given = given_or_waits octets; broken = given_or_breaks octets }

-- more octets behind
given_more : (octets more : List ℕ) (code : ℕ) (texts : List (List ℕ)) (behind : List ℕ) → BeginsWithReply octets code texts behind
    → BeginsWithReply (octets ++ more) code texts (behind ++ more)
given_more octets more code texts behind a = record {
  before = a.before;
  text = a.text;
  line = a.line;
  are = a.are;
  begins = subst (BeginReply (octets ++ more) code a.before) (append_assoc (sent_line a.line) behind more)
      (more_begin octets more (sent_line a.line ++ behind) code a.before a.begins);
  whole = a.whole;
  says = a.says;
}

breaks_more : (octets more : List ℕ) → BreaksReply octets → BreaksReply (octets ++ more)
breaks_more octets more b = record {
  code = b.code;
  texts = b.texts;
  line = b.line;
  behind = b.behind ++ more;
  begins = subst (BeginReply (octets ++ more) b.code b.texts) (append_assoc (sent_line b.line) b.behind more)
      (more_begin octets more (sent_line b.line ++ b.behind) b.code b.texts b.begins);
  whole = b.whole;
  breaks = b.breaks;
}

pub answers_last : AnswersLast
answers_last octets more = record { given = given_more octets more; broken = breaks_more octets more }

-- a reply that is cut short
pub begun_none : BegunRepliesAreNone
begun_none code texts front more reply whole some =
    let all : BeginsWithReply (front ++ more) code texts [] =
    subst (λ (l : List ℕ). BeginsWithReply l code texts []) (append-nil (reply_octets code texts) ∙ sym whole) (read_back code texts [] reply) in
    record {
      no_reply = λ c ts b is.
          let rest = (one_reply (front ++ more) c code ts texts (b ++ more) [] (given_more front more c ts b is) all).2 in
          omega (arith, some, length-append b more, ap (λ (l : List ℕ). length l) rest);
      no_fault = λ is. given_or_breaks (front ++ more) code texts [] all (breaks_more front more is);
    }
