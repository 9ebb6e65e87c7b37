-- What a line leads to that a reader of replies hears.
use Rattle.std.proofs.Common.{◌≡◌, ◌≤◌, ◌<◌, ◌+◌, ℕ, Bool, true, false, List, [], ◌∷◌, ◌++◌, length, map, flat_map, take, drop, Option, Some, None, refl, sym, ap, ap₂, ◌∙◌, subst, arith, append_assoc, append-nil, nat_eq}
use Rattle.std.specs.Prelude.{All, ⊤, Result, Ok, Err, IfOk}
use Rattle.std.specs.Option.{option_map}
use Rattle.std.proofs.lemmas.Bool.{eqb-true}
use Rattle.std.proofs.lemmas.Option.{none-some}
use Rattle.std.proofs.lemmas.List.{map-append, length-drop}
use Rattle.std.proofs.lemmas.List.Concat.{flat_map-append}
use Rattle.std.proofs.lemmas.List.Elements.{All-nil, All-cons, All-append}
use Rattle.mail_model.specs.Lines.{HasNoCrlf, sent_line}
use Rattle.dot_text.specs.Shown.{Shown, Pending, Gives, IsLine, Finds, FindsNone, behind_line, line_length}
use Rattle.dot_text.specs.declared.cutter.Line.{Line}
use Rattle.dot_text.specs.declared.cutter.Line.TheVariants.{Whole}
use Rattle.smtp_wire.specs.Replies.{ReplyPart, BeginReply, BeginsWithReply, HasNoReply, BreaksReply, line_says, says_more, may_follow}
use Rattle.smtp_wire.specs.Readers.{Hears, HasHeard, part_seen, IsStep, IsTaken, Falls}
use Rattle.smtp_wire.specs.declared.reply_state.ReplyReader.{ReplyReader}
use Rattle.smtp_wire.specs.declared.reply_state.Part.{Part}
use Rattle.smtp_wire.specs.declared.reply_reader.ReplyFault.{ReplyFault}
use Rattle.smtp_wire.specs.declared.reply_reader.ReplyFault.TheVariants.{BadReply, NoMemory}
use Rattle.smtp_wire.specs.declared.reply_reader.Step.{Step}
use Rattle.smtp_wire.specs.declared.reply_reader.Step.TheVariants.{More, Waits, Given}

-- what is behind a line that was taken
pub starts : (limit : ℕ) (rest : List ℕ) → Pending (record { limit = limit; past = false; rest = rest }) rest
starts limit rest = record { gone = []; whole = refl; none = λ k within. absurd (omega arith); seam = λ k e. absurd (omega (arith, e)); long = refl }

-- nothing was fed
pub nothing : (cutter : Shown) (code : ℕ) → cutter ≡ record { limit = 1024; past = false; rest = [] } → Hears cutter code [] []
nothing cutter code is = subst (λ (c : Shown). Hears c code [] []) (sym is) (record {
  behind = [];
  begins = record { lines = []; are = All-nil HasNoCrlf; whole = refl; say = refl };
  pends = starts 1024 [];
  limit = refl;
})

-- more octets come
pub more_begin : (octets piece behind : List ℕ) (code : ℕ) (texts : List (List ℕ)) → BeginReply octets code texts behind → BeginReply (octets ++ piece) code texts (behind ++ piece)
more_begin octets piece behind code texts b =
    record { lines = b.lines; are = b.are; whole = ap (λ (l : List ℕ). l ++ piece) b.whole ∙ append_assoc (flat_map sent_line b.lines) behind piece; say = b.say }

pub fed : (old new : Shown) (code : ℕ) (texts : List (List ℕ)) (octets piece : List ℕ) → new.limit ≡ old.limit
    → ((pending : List ℕ) → Pending old pending → Pending new (pending ++ piece)) → Hears old code texts octets → Hears new code texts (octets ++ piece)
fed old new code texts octets piece same pends h = record {
  behind = h.behind ++ piece;
  begins = more_begin octets piece h.behind code texts h.begins;
  pends = pends h.behind h.pends;
  limit = same ∙ h.limit;
}

-- no line is whole
pub waits : (old new : Shown) (code : ℕ) (texts : List (List ℕ)) (octets : List ℕ) → FindsNone old new → Hears old code texts octets → HasNoReply octets × Hears new code texts octets
waits old new code texts octets finds h =
    let stays = finds.stays h.behind h.pends in (
      record { code = code; texts = texts; behind = h.behind; begins = h.begins; none = stays.none },
      record { behind = h.behind; begins = h.begins; pends = stays.pends; limit = finds.limit ∙ h.limit },
    )

-- what is said of the line that was found
abbrev pub SaysOf : Shown → Line → Option ReplyPart → Type 0
SaysOf cutter found said = (line : List ℕ) → cutter.limit ≡ 1024 → IsLine cutter found line → said ≡ line_says line

-- the line is none of the reply
pub breaks : (old : Shown) (found : Line) (code : ℕ) (texts : List (List ℕ)) (octets : List ℕ) (said : Option ReplyPart) → Finds old found old → SaysOf old found said
    → may_follow code texts said ≡ false → Hears old code texts octets → BreaksReply octets
breaks old found code texts octets said finds says wrong h =
    let g = finds.gives h.behind h.pends in
    record {
      code = code;
      texts = texts;
      line = g.line;
      behind = drop (line_length found + 2) old.rest;
      begins = subst (BeginReply octets code texts) g.octets h.begins;
      whole = g.first;
      breaks = ap (may_follow code texts) (sym (says g.line h.limit g.is)) ∙ wrong;
    }

-- a line that may follow has the code of those before it
recoded : (octets behind : List ℕ) (code : ℕ) (texts : List (List ℕ)) (part : ReplyPart) → may_follow code texts (Some part) ≡ true → BeginReply octets code texts behind
    → BeginReply octets part.code texts behind
recoded octets behind code [] part may b = record { lines = b.lines; are = b.are; whole = b.whole; say = b.say }
recoded octets behind code (text ∷ texts) part may b = subst (λ (n : ℕ). BeginReply octets n (text ∷ texts) behind) (sym (eqb-true part.code code may)) b

-- a line that is not the last
pub goes_on : (old new : Shown) (found : Line) (code : ℕ) (texts : List (List ℕ)) (octets : List ℕ) (part : ReplyPart) → Finds old found old → SaysOf old found (Some part)
    → may_follow code texts (Some part) ≡ true → part.ends ≡ false → new ≡ behind_line old found → Hears old code texts octets → Hears new part.code (texts ++ part.text ∷ []) octets
goes_on old new found code texts octets part finds says may more cut h =
    let g = finds.gives h.behind h.pends in
    let b = recoded octets h.behind code texts part may h.begins in
    let rest : List ℕ = drop (line_length found + 2) old.rest in
    let said : line_says g.line ≡ says_more part.code part.text = sym (says g.line h.limit g.is) ∙ ap (λ (e : Bool). Some (record { code = part.code; ends = e; text = part.text })) more in
    subst (λ (c : Shown). Hears c part.code (texts ++ part.text ∷ []) octets) (sym cut) (record {
      behind = rest;
      begins = record {
        lines = b.lines ++ g.line ∷ [];
        are = All-append HasNoCrlf b.lines (g.line ∷ []) b.are (All-cons HasNoCrlf g.line [] g.first (All-nil HasNoCrlf));
        whole = b.whole ∙ ap (λ (l : List ℕ). flat_map sent_line b.lines ++ l) g.octets ∙ sym (append_assoc (flat_map sent_line b.lines) (sent_line g.line) rest)
            ∙ ap (λ (l : List ℕ). (flat_map sent_line b.lines ++ l) ++ rest) (sym (append-nil (sent_line g.line)))
            ∙ ap (λ (l : List ℕ). l ++ rest) (sym (flat_map-append sent_line b.lines (g.line ∷ [])));
        say = map-append line_says b.lines (g.line ∷ []) ∙ ap₂ (λ (xs ys : List (Option ReplyPart)). xs ++ ys) b.say (ap (λ (o : Option ReplyPart). o ∷ []) said)
            ∙ sym (map-append (says_more part.code) texts (part.text ∷ []));
      };
      pends = starts old.limit rest;
      limit = h.limit;
    })

-- the last
pub gives : (old new : Shown) (found : Line) (code after : ℕ) (texts : List (List ℕ)) (octets : List ℕ) (part : ReplyPart) → Finds old found old → SaysOf old found (Some part)
    → may_follow code texts (Some part) ≡ true → part.ends ≡ true → new ≡ behind_line old found → Hears old code texts octets
    → (behind : List ℕ) × BeginsWithReply octets part.code (texts ++ part.text ∷ []) behind × Hears new after [] behind
gives old new found code after texts octets part finds says may last cut h =
    let g = finds.gives h.behind h.pends in
    let b = recoded octets h.behind code texts part may h.begins in
    let rest : List ℕ = drop (line_length found + 2) old.rest in (
      rest,
      record {
        before = texts;
        text = part.text;
        line = g.line;
        are = refl;
        begins = subst (BeginReply octets part.code texts) g.octets b;
        whole = g.first;
        says = sym (says g.line h.limit g.is) ∙ ap (λ (e : Bool). Some (record { code = part.code; ends = e; text = part.text })) last;
      },
      subst (λ (c : Shown). Hears c after [] rest) (sym cut) (record {
        behind = rest;
        begins = record { lines = []; are = All-nil HasNoCrlf; whole = refl; say = refl };
        pends = starts old.limit rest;
        limit = h.limit;
      }),
    )

-- what was taken
pub taken : (old new : ReplyReader) (found : Line) (part : Part) (result : Result Step ReplyFault) (octets : List ℕ) → Finds old.cutter found old.cutter
    → SaysOf old.cutter found (Some (part_seen part)) → may_follow old.code old.lines.items (Some (part_seen part)) ≡ true → IsTaken old found part result new
    → HasHeard old octets → IsStep octets result new
taken old new found part (Ok More) octets finds says may (more, cut, code, lines) h =
    subst (λ (n : ℕ). Hears new.cutter n new.lines.items octets) (sym code)
    (subst (λ (t : List (List ℕ)). Hears new.cutter part.code t octets) (sym lines)
    (goes_on old.cutter new.cutter found old.code old.lines.items octets (part_seen part) finds says may more cut h))
taken old new found part (Ok Waits) octets finds says may is h = absurd is
taken old new found part (Ok (Given reply)) octets finds says may (last, cut, none, code, lines) h =
    let g = gives old.cutter new.cutter found old.code new.code old.lines.items octets (part_seen part) finds says may last cut h in (
      g.0,
      subst (λ (n : ℕ). BeginsWithReply octets n reply.lines.items g.0) (sym code) (subst (λ (t : List (List ℕ)). BeginsWithReply octets part.code t g.0) (sym lines) g.1),
      subst (λ (t : List (List ℕ)). Hears new.cutter new.code t g.0) (sym none) g.2,
    )
taken old new found part (Err BadReply) octets finds says may is h = absurd is
taken old new found part (Err NoMemory) octets finds says may (cutter, code, lines) h =
    subst (λ (c : Shown). Hears c new.code new.lines.items octets) (sym cutter)
    (subst (λ (n : ℕ). Hears old.cutter n new.lines.items octets) (sym code) (subst (λ (t : List (List ℕ)). Hears old.cutter old.code t octets) (sym lines) h))

-- so less is left
pub taken_less : (old new : ReplyReader) (found : Line) (part : Part) (result : Result Step ReplyFault) → line_length found + 2 ≤ length old.cutter.rest → IsTaken old found part result new
    → Falls result (length new.cutter.rest) (length old.cutter.rest)
taken_less old new found part (Ok More) within (more, cut, code, lines) =
    omega (arith, within, ap (λ (c : Shown). length c.rest) cut, length-drop (line_length found + 2) old.cutter.rest)
taken_less old new found part (Ok Waits) within is = tt
taken_less old new found part (Ok (Given reply)) within is = tt
taken_less old new found part (Err fault) within is = tt

-- what a line says that was found whole
pub whole_says : {E : Type 0} (cutter : Shown) (found : Line) (count : ℕ) (given : List ℕ) (result : Result (Option Part) E) → found ≡ Whole count → given ≡ take count cutter.rest
    → IfOk result (λ part. option_map part_seen part ≡ line_says given)
    → IfOk result (λ part. (line : List ℕ) → cutter.limit ≡ 1024 → IsLine cutter found line → option_map part_seen part ≡ line_says line)
whole_says cutter found count given (Ok part) is same says = λ line limit line_is.
    says ∙ ap line_says (same ∙ sym (subst (λ (f : Line). IsLine cutter f line) is line_is).0)
whole_says cutter found count given (Err fault) is same says = tt
