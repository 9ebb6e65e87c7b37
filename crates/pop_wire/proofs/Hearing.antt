-- What a line leads to that a reader of replies hears.
use Rattle.std.proofs.Common.{◌≡◌, ◌≤◌, ◌<◌, ◌+◌, ◌&&◌, ◌||◌, ◌⊎◌, inl, inr, ℕ, Bool, true, false, List, [], ◌∷◌, ◌++◌, length, map, flat_map, take, drop, Option, Some, None, refl, sym, ap, ap₂, ◌∙◌, subst, arith, append_assoc, append-nil, nat_eq}
use Rattle.std.specs.Prelude.{All, ⊤, Result, Ok, Err, IfOk, option_and_then}
use Rattle.std.specs.Option.{option_map}
use Rattle.std.proofs.lemmas.Bool.{eqb-true}
use Rattle.std.proofs.lemmas.List.{map-append, length-drop}
use Rattle.std.proofs.lemmas.List.Concat.{flat_map-append}
use Rattle.std.proofs.lemmas.List.Elements.{All-nil, All-cons, All-append}
use Rattle.mail_model.specs.Lines.{HasNoCrlf, sent_line}
use Rattle.mail_model.specs.Session.{is_period}
use Rattle.dot_text.specs.Shown.{Shown, Pending, Gives, IsLine, Finds, FindsNone, behind_line, line_length}
use Rattle.dot_text.specs.declared.cutter.Line.{Line}
use Rattle.dot_text.specs.declared.cutter.Line.TheVariants.{Whole}
use Rattle.pop_wire.specs.Replies.{FirstPart, Further, Ends, Says, BeginsSeveral, BeginsOne, BeginsWithReply, HasNoReply, BreaksReply, first_says, further_says, says_text, reply_text, undoubled}
use Rattle.pop_wire.specs.Readers.{BeginsUnderWay, Hears}

-- what is behind a line that was taken
pub starts : (limit : ℕ) (rest : List ℕ) → Pending (record { limit = limit; past = false; rest = rest }) rest
starts limit rest = record { gone = []; whole = refl; none = λ k within. absurd (omega arith); seam = λ k e. absurd (omega (arith, e)); long = refl }

-- nothing is under way
rests : (cutter : Shown) (text rest : List ℕ) (limit : ℕ) → cutter ≡ record { limit = limit; past = false; rest = rest } → limit ≡ 1024 → Hears cutter false text [] rest
rests cutter text rest limit is enough = subst (λ (c : Shown). Hears c false text [] rest) (sym is) (record {
  behind = rest;
  begins = (refl, refl);
  pends = starts limit rest;
  limit = enough;
})

-- nothing was fed
pub nothing : (cutter : Shown) (text : List ℕ) → cutter ≡ record { limit = 1024; past = false; rest = [] } → Hears cutter false text [] []
nothing cutter text is = rests cutter text [] 1024 is refl

-- more octets come
pub more_several : (octets piece text : List ℕ) (texts : List (List ℕ)) (behind : List ℕ) → BeginsSeveral octets text texts behind
    → BeginsSeveral (octets ++ piece) text texts (behind ++ piece)
more_several octets piece text texts behind b = record {
  first = b.first;
  first_whole = b.first_whole;
  good = b.good;
  lines = b.lines;
  are = b.are;
  say = b.say;
  whole = ap (λ (l : List ℕ). l ++ piece) b.whole ∙ append_assoc (flat_map sent_line (b.first ∷ b.lines)) behind piece;
}

more_begin : (begun : Bool) (octets piece text : List ℕ) (texts : List (List ℕ)) (behind : List ℕ) → BeginsUnderWay begun octets text texts behind
    → BeginsUnderWay begun (octets ++ piece) text texts (behind ++ piece)
more_begin true octets piece text texts behind b = more_several octets piece text texts behind b
more_begin false octets piece text texts behind b = (ap (λ (l : List ℕ). l ++ piece) b.0, b.1)

pub fed : (old new : Shown) (begun : Bool) (text : List ℕ) (texts : List (List ℕ)) (octets piece : List ℕ) → new.limit ≡ old.limit
    → ((pending : List ℕ) → Pending old pending → Pending new (pending ++ piece)) → Hears old begun text texts octets → Hears new begun text texts (octets ++ piece)
fed old new begun text texts octets piece same pends h = record {
  behind = h.behind ++ piece;
  begins = more_begin begun octets piece text texts h.behind h.begins;
  pends = pends h.behind h.pends;
  limit = same ∙ h.limit;
}

-- no line is whole
no_reply : (begun several : Bool) (octets text : List ℕ) (texts : List (List ℕ)) (behind : List ℕ) → BeginsUnderWay begun octets text texts behind → HasNoCrlf behind
    → HasNoReply (begun || several) octets
no_reply true several octets text texts behind b none = inr (refl, text, texts, behind, b, none)
no_reply false several octets text texts behind b none = inl (subst HasNoCrlf (sym b.0) none)

pub waits : (old new : Shown) (begun several : Bool) (text : List ℕ) (texts : List (List ℕ)) (octets : List ℕ) → FindsNone old new → Hears old begun text texts octets
    → HasNoReply (begun || several) octets × Hears new begun text texts octets
waits old new begun several text texts octets finds h =
    let stays = finds.stays h.behind h.pends in (
      no_reply begun several octets text texts h.behind h.begins stays.none,
      record { behind = h.behind; begins = h.begins; pends = stays.pends; limit = finds.limit ∙ h.limit },
    )

-- what is said of the line that was found
abbrev pub SaysFirst : Shown → Line → Option FirstPart → Type 0
SaysFirst cutter found said = (line : List ℕ) → cutter.limit ≡ 1024 → IsLine cutter found line → said ≡ first_says line

abbrev pub SaysFurther : Shown → Line → Option Further → Type 0
SaysFurther cutter found said = (line : List ℕ) → cutter.limit ≡ 1024 → IsLine cutter found line → said ≡ further_says line

-- the line is none of the reply
pub breaks_first : (old : Shown) (found : Line) (several : Bool) (text : List ℕ) (texts : List (List ℕ)) (octets : List ℕ) → Finds old found old → SaysFirst old found None
    → Hears old false text texts octets → BreaksReply several octets
breaks_first old found several text texts octets finds says h =
    let g = finds.gives h.behind h.pends in
    inl (record {
      line = g.line;
      line_whole = g.first;
      breaks = sym (says g.line h.limit g.is);
      behind = drop (line_length found + 2) old.rest;
      whole = h.begins.0 ∙ g.octets;
    })

pub breaks_further : (old : Shown) (found : Line) (several : Bool) (text : List ℕ) (texts : List (List ℕ)) (octets : List ℕ) → several ≡ true → Finds old found old → SaysFurther old found None
    → Hears old true text texts octets → BreaksReply several octets
breaks_further old found several text texts octets is finds says h =
    let g = finds.gives h.behind h.pends in
    inr (
      is,
      record {
        text = text;
        texts = texts;
        line = g.line;
        behind = drop (line_length found + 2) old.rest;
        begins = subst (BeginsSeveral octets text texts) g.octets h.begins;
        line_whole = g.first;
        breaks = sym (says g.line h.limit g.is);
      },
    )

-- a good reply of several lines begins
pub goes_on_first : (old new : Shown) (found : Line) (text : List ℕ) (texts : List (List ℕ)) (octets : List ℕ) (part : FirstPart) → Finds old found old → SaysFirst old found (Some part)
    → part.good ≡ true → texts ≡ [] → new ≡ behind_line old found → Hears old false text texts octets → Hears new true part.text [] octets
goes_on_first old new found text texts octets part finds says good none cut h =
    let g = finds.gives h.behind h.pends in
    let rest : List ℕ = drop (line_length found + 2) old.rest in
    let said : first_says g.line ≡ Some (record { good = true; text = part.text }) = sym (says g.line h.limit g.is) ∙ ap (λ (b : Bool). Some (record { good = b; text = part.text })) good in
    subst (λ (c : Shown). Hears c true part.text [] octets) (sym cut) (record {
      behind = rest;
      begins = record {
        first = g.line;
        first_whole = g.first;
        good = said;
        lines = [];
        are = All-nil HasNoCrlf;
        say = refl;
        whole = h.begins.0 ∙ g.octets ∙ ap (λ (l : List ℕ). l ++ rest) (sym (append-nil (sent_line g.line)));
      };
      pends = starts old.limit rest;
      limit = h.limit;
    })

-- a reply of one line
pub gives_first : (old new : Shown) (found : Line) (text after : List ℕ) (texts : List (List ℕ)) (octets : List ℕ) (part : FirstPart) → Finds old found old → SaysFirst old found (Some part)
    → new ≡ behind_line old found → Hears old false text texts octets → (behind : List ℕ) × BeginsOne octets part.good part.text behind × Hears new false after [] behind
gives_first old new found text after texts octets part finds says cut h =
    let g = finds.gives h.behind h.pends in
    let rest : List ℕ = drop (line_length found + 2) old.rest in (
      rest,
      record { line = g.line; line_whole = g.first; says = sym (says g.line h.limit g.is); whole = h.begins.0 ∙ g.octets },
      rests new after rest old.limit cut h.limit,
    )

-- a further line
pub goes_on_further : (old new : Shown) (found : Line) (text : List ℕ) (texts : List (List ℕ)) (octets more : List ℕ) → Finds old found old → SaysFurther old found (Some (Says more))
    → new ≡ behind_line old found → Hears old true text texts octets → Hears new true text (texts ++ more ∷ []) octets
goes_on_further old new found text texts octets more finds says cut h =
    let g = finds.gives h.behind h.pends in
    let b = h.begins in
    let rest : List ℕ = drop (line_length found + 2) old.rest in
    let said : further_says g.line ≡ says_text more = sym (says g.line h.limit g.is) in
    subst (λ (c : Shown). Hears c true text (texts ++ more ∷ []) octets) (sym cut) (record {
      behind = rest;
      begins = record {
        first = b.first;
        first_whole = b.first_whole;
        good = b.good;
        lines = b.lines ++ g.line ∷ [];
        are = All-append HasNoCrlf b.lines (g.line ∷ []) b.are (All-cons HasNoCrlf g.line [] g.first (All-nil HasNoCrlf));
        say = map-append further_says b.lines (g.line ∷ []) ∙ ap₂ (λ (xs ys : List (Option Further)). xs ++ ys) b.say (ap (λ (o : Option Further). o ∷ []) said)
            ∙ sym (map-append says_text texts (more ∷ []));
        whole = b.whole ∙ ap (λ (l : List ℕ). flat_map sent_line (b.first ∷ b.lines) ++ l) g.octets
            ∙ sym (append_assoc (flat_map sent_line (b.first ∷ b.lines)) (sent_line g.line) rest)
            ∙ ap (λ (l : List ℕ). (flat_map sent_line (b.first ∷ b.lines) ++ l) ++ rest) (sym (append-nil (sent_line g.line)))
            ∙ ap (λ (l : List ℕ). l ++ rest) (sym (flat_map-append sent_line (b.first ∷ b.lines) (g.line ∷ [])));
      };
      pends = starts old.limit rest;
      limit = h.limit;
    })

-- the line that is one period
period : (line : List ℕ) → is_period line ≡ true → line ≡ 46 ∷ []
period [] is = cc
period (x ∷ []) is = ap (λ (y : ℕ). y ∷ []) (eqb-true x 46 (and_left (nat_eq x 46) true is))
  where
    and_left : (a b : Bool) → (a && b) ≡ true → a ≡ true
    and_left true b e = refl
    and_left false b e = e
period (x ∷ y ∷ line) is = absurd (never (nat_eq x 46) is)
  where
    never : (a : Bool) → (a && false) ≡ true → ⊥
    never true e = cc
    never false e = cc

pub only_period_ends : (line : List ℕ) → further_says line ≡ Some Ends → line ≡ 46 ∷ []
only_period_ends line says = by_test (is_period line) refl
  where
    no_text : (o : Option (List ℕ)) → option_map Says o ≡ Some Ends → ⊥
    no_text None e = cc
    no_text (Some t) e = cc

    by_test : (b : Bool) → is_period line ≡ b → line ≡ 46 ∷ []
    by_test true e = period line e
    by_test false e =
        let other : further_says line ≡ option_map Says (option_and_then reply_text (undoubled line)) = rw e refl in
        absurd (no_text (option_and_then reply_text (undoubled line)) (sym other ∙ says))

-- the reply's end
pub gives_further : (old new : Shown) (found : Line) (text after : List ℕ) (texts : List (List ℕ)) (octets : List ℕ) → Finds old found old → SaysFurther old found (Some Ends)
    → new ≡ behind_line old found → Hears old true text texts octets
    → (behind : List ℕ) × BeginsSeveral octets text texts (sent_line (46 ∷ []) ++ behind) × Hears new false after [] behind
gives_further old new found text after texts octets finds says cut h =
    let g = finds.gives h.behind h.pends in
    let rest : List ℕ = drop (line_length found + 2) old.rest in
    let is : g.line ≡ 46 ∷ [] = only_period_ends g.line (sym (says g.line h.limit g.is)) in (
      rest,
      subst (BeginsSeveral octets text texts) (g.octets ∙ ap (λ (l : List ℕ). sent_line l ++ rest) is) h.begins,
      rests new after rest old.limit cut h.limit,
    )

-- what a line says that was found whole
pub whole_says : {X E S : Type 0} (seen : X → S) (says : List ℕ → Option S) (cutter : Shown) (found : Line) (count : ℕ) (given : List ℕ) (result : Result (Option X) E)
    → found ≡ Whole count → given ≡ take count cutter.rest → IfOk result (λ part. option_map seen part ≡ says given)
    → IfOk result (λ part. (line : List ℕ) → cutter.limit ≡ 1024 → IsLine cutter found line → option_map seen part ≡ says line)
whole_says seen says cutter found count given (Ok part) is same said = λ line limit line_is.
    said ∙ ap says (same ∙ sym (subst (λ (f : Line). IsLine cutter f line) is line_is).0)
whole_says seen says cutter found count given (Err fault) is same said = tt
