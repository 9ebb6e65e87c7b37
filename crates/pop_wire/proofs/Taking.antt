-- What a reader of replies is once it has taken a line.
use Rattle.std.proofs.Common.{◌≡◌, ◌≤◌, ◌<◌, ◌+◌, ◌&&◌, ◌||◌, ℕ, Bool, true, false, List, [], ◌∷◌, ◌++◌, length, take, Option, Some, None, refl, sym, ap, ◌∙◌, subst, arith}
use Rattle.std.specs.Prelude.{Result, Ok, Err}
use Rattle.std.proofs.lemmas.List.{length-drop}
use Rattle.dot_text.specs.Shown.{Shown, Finds, behind_line, line_length}
use Rattle.dot_text.specs.declared.cutter.Line.{Line}
use Rattle.pop_wire.specs.Replies.{Ends, Says, BeginsSeveral, BeginsOne, BeginsWithReply, texts_of}
use Rattle.pop_wire.specs.Readers.{Hears, HasHeard, awaits_several, first_seen, heard_seen, IsNext, IsStep, IsFirstTaken, IsFurtherTaken, Falls}
use Rattle.pop_wire.specs.declared.reply.PopReply.{PopReply}
use Rattle.pop_wire.specs.declared.reply_state.ReplyReader.{ReplyReader}
use Rattle.pop_wire.specs.declared.reply_state.First.{First}
use Rattle.pop_wire.specs.declared.reply_state.Heard.{Heard}
use Rattle.pop_wire.specs.declared.reply_state.Heard.TheVariants as heard
use Rattle.pop_wire.specs.declared.reply_reader.ReplyFault.{ReplyFault}
use Rattle.pop_wire.specs.declared.reply_reader.ReplyFault.TheVariants.{BadReply, NoMemory}
use Rattle.pop_wire.specs.declared.reply_reader.Step.{Step}
use Rattle.pop_wire.specs.declared.reply_reader.Step.TheVariants.{More, Waits, Given}
use Rattle.pop_wire.proofs.Hearing.{SaysFirst, SaysFurther, goes_on_first, gives_first, goes_on_further, gives_further}

-- what is awaited where nothing is under way, and where something is
pub awaits_told : (reader : ReplyReader) → reader.begun ≡ false → awaits_several reader ≡ reader.several
awaits_told reader rests = ap (λ (b : Bool). b || reader.several) rests

pub awaits_more : (reader : ReplyReader) → reader.begun ≡ true → awaits_several reader ≡ true
awaits_more reader begun = ap (λ (b : Bool). b || reader.several) begun

-- the same, by whether something is under way
pub heard_as : (reader : ReplyReader) (begun : Bool) (octets : List ℕ) → reader.begun ≡ begun → HasHeard reader octets → Hears reader.cutter begun reader.text reader.lines.items octets
heard_as reader begun octets is h = subst (λ (b : Bool). Hears reader.cutter b reader.text reader.lines.items octets) is h

pub hears : (reader : ReplyReader) (begun : Bool) (text : List ℕ) (texts : List (List ℕ)) (octets : List ℕ) → reader.begun ≡ begun → reader.text ≡ text → reader.lines.items ≡ texts
    → Hears reader.cutter begun text texts octets → HasHeard reader octets
hears reader begun text texts octets is text_is texts_is h =
    subst (λ (b : Bool). Hears reader.cutter b reader.text reader.lines.items octets) (sym is)
    (subst (λ (t : List ℕ). Hears reader.cutter begun t reader.lines.items octets) (sym text_is) (subst (λ (ts : List (List ℕ)). Hears reader.cutter begun text ts octets) (sym texts_is) h))

and_left : (a b : Bool) → (a && b) ≡ true → a ≡ true
and_left true b e = refl
and_left false b e = e

and_right : (a b : Bool) → (a && b) ≡ true → b ≡ true
and_right true b e = e
and_right false b e = cc

-- a reply of these parts
gives_one : (several : Bool) (octets : List ℕ) (reply : PopReply) (good : Bool) (text behind : List ℕ) → reply.good ≡ good → reply.text ≡ text → texts_of reply.lines ≡ None
    → (good && several) ≡ false → BeginsOne octets good text behind → BeginsWithReply several octets reply.good reply.text (texts_of reply.lines) behind
gives_one several octets reply good text behind good_is text_is none one begins =
    subst (λ (g : Bool). BeginsWithReply several octets g reply.text (texts_of reply.lines) behind) (sym good_is)
    (subst (λ (t : List ℕ). BeginsWithReply several octets good t (texts_of reply.lines) behind) (sym text_is)
    (subst (λ (o : Option (List (List ℕ))). BeginsWithReply several octets good text o behind) (sym none) (one, begins)))

gives_several : (several : Bool) (octets : List ℕ) (reply : PopReply) (text : List ℕ) (texts : List (List ℕ)) (behind : List ℕ) → reply.good ≡ true → reply.text ≡ text
    → texts_of reply.lines ≡ Some texts → several ≡ true → BeginsWithReply true octets true text (Some texts) behind
    → BeginsWithReply several octets reply.good reply.text (texts_of reply.lines) behind
gives_several several octets reply text texts behind good_is text_is some is begins =
    subst (λ (s : Bool). BeginsWithReply s octets reply.good reply.text (texts_of reply.lines) behind) (sym is)
    (subst (λ (g : Bool). BeginsWithReply true octets g reply.text (texts_of reply.lines) behind) (sym good_is)
    (subst (λ (t : List ℕ). BeginsWithReply true octets true t (texts_of reply.lines) behind) (sym text_is)
    (subst (λ (o : Option (List (List ℕ))). BeginsWithReply true octets true text o behind) (sym some) begins)))

-- the first line was taken
pub first_taken : (old new : ReplyReader) (found : Line) (first : First) (step : Step) (octets : List ℕ) → Finds old.cutter found old.cutter
    → SaysFirst old.cutter found (Some (first_seen first)) → old.begun ≡ false → IsFirstTaken old found first step new → HasHeard old octets
    → IsStep (awaits_several old) octets (Ok step) new
first_taken old new found first More octets finds says rests (goes, begun, text, lines, cut) h =
    let was = heard_as old false octets rests h in
    let is : old.several ≡ true = and_right first.good old.several goes in (
      awaits_more new begun ∙ sym (awaits_told old rests ∙ is),
      hears new true first.text [] octets begun text (lines ∙ was.begins.1)
          (goes_on_first old.cutter new.cutter found old.text old.lines.items octets (first_seen first) finds says (and_left first.good old.several goes) was.begins.1 cut was),
    )
first_taken old new found first Waits octets finds says rests is h = absurd is
first_taken old new found first (Given reply) octets finds says rests (one, none, lines, cut, good, text, no_lines) h =
    let was = heard_as old false octets rests h in
    let g = gives_first old.cutter new.cutter found old.text new.text old.lines.items octets (first_seen first) finds says cut was in (
      none,
      g.0,
      gives_one (awaits_several old) octets reply first.good first.text g.0 good text no_lines (ap (λ (b : Bool). first.good && b) (awaits_told old rests) ∙ one) g.1,
      hears new false new.text [] g.0 none refl (lines ∙ was.begins.1) g.2,
    )

pub first_less : (old new : ReplyReader) (found : Line) (first : First) (step : Step) → line_length found + 2 ≤ length old.cutter.rest → IsFirstTaken old found first step new
    → Falls (Ok step) (length new.cutter.rest) (length old.cutter.rest)
first_less old new found first More within (goes, begun, text, lines, cut) =
    omega (arith, within, ap (λ (c : Shown). length c.rest) cut, length-drop (line_length found + 2) old.cutter.rest)
first_less old new found first Waits within is = tt
first_less old new found first (Given reply) within is = tt

-- a further line was taken
pub further_taken : (old new : ReplyReader) (found : Line) (said : Heard) (result : Result Step ReplyFault) (octets : List ℕ) → Finds old.cutter found old.cutter
    → SaysFurther old.cutter found (Some (heard_seen said)) → old.begun ≡ true → IsFurtherTaken old found said result new → HasHeard old octets
    → IsStep (awaits_several old) octets result new
further_taken old new found (heard.Says more) (Ok More) octets finds says begun (still, text, lines, cut) h =
    let was = heard_as old true octets begun h in (
      awaits_more new still ∙ sym (awaits_more old begun),
      hears new true old.text (old.lines.items ++ more ∷ []) octets still text lines (goes_on_further old.cutter new.cutter found old.text old.lines.items octets more finds says cut was),
    )
further_taken old new found (heard.Says more) (Ok Waits) octets finds says begun is h = absurd is
further_taken old new found (heard.Says more) (Ok (Given reply)) octets finds says begun is h = absurd is
further_taken old new found heard.Ends (Ok More) octets finds says begun is h = absurd is
further_taken old new found heard.Ends (Ok Waits) octets finds says begun is h = absurd is
further_taken old new found heard.Ends (Ok (Given reply)) octets finds says begun (none, lines, cut, good, text, some) h =
    let was = heard_as old true octets begun h in
    let g = gives_further old.cutter new.cutter found old.text new.text old.lines.items octets finds says cut was in (
      none,
      g.0,
      gives_several (awaits_several old) octets reply old.text old.lines.items g.0 good text some (awaits_more old begun) (refl, refl, g.1),
      hears new false new.text [] g.0 none refl lines g.2,
    )
further_taken old new found (heard.Says more) (Err BadReply) octets finds says begun is h = absurd is
further_taken old new found heard.Ends (Err BadReply) octets finds says begun is h = absurd is
further_taken old new found (heard.Says more) (Err NoMemory) octets finds says begun (still, text, lines, cut) h = (
  awaits_more new still ∙ sym (awaits_more old begun),
  hears new true old.text old.lines.items octets still text lines (subst (λ (c : Shown). Hears c true old.text old.lines.items octets) (sym cut) (heard_as old true octets begun h)),
)
further_taken old new found heard.Ends (Err NoMemory) octets finds says begun (still, text, lines, cut) h = (
  awaits_more new still ∙ sym (awaits_more old begun),
  hears new true old.text old.lines.items octets still text lines (subst (λ (c : Shown). Hears c true old.text old.lines.items octets) (sym cut) (heard_as old true octets begun h)),
)

pub further_less : (old new : ReplyReader) (found : Line) (said : Heard) (result : Result Step ReplyFault) → line_length found + 2 ≤ length old.cutter.rest
    → IsFurtherTaken old found said result new → Falls result (length new.cutter.rest) (length old.cutter.rest)
further_less old new found (heard.Says more) (Ok More) within (still, text, lines, cut) =
    omega (arith, within, ap (λ (c : Shown). length c.rest) cut, length-drop (line_length found + 2) old.cutter.rest)
further_less old new found heard.Ends (Ok More) within is = absurd is
further_less old new found said (Ok Waits) within is = tt
further_less old new found said (Ok (Given reply)) within is = tt
further_less old new found said (Err fault) within is = tt

-- a fault of a step is one of `next`
pub fault_next : (several : Bool) (octets : List ℕ) (fault : ReplyFault) (new : ReplyReader) → IsStep several octets (Err fault) new → IsNext several octets (Err fault) new
fault_next several octets BadReply new is = is
fault_next several octets NoMemory new is = is
