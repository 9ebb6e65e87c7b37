-- What is read of a console: octets of a line, a line, and lines until it ends.
use Rattle.std.proofs.Common.{◌≡◌, ◌≢◌, ◌≤◌, ◌<◌, ◌+◌, ◌-◌, ◌^◌, ◌||◌, ◌&&◌, ℕ, Bool, true, false, List, [], ◌∷◌, ◌++◌, length, Option, Some, None, refl, sym, ap, ◌∙◌, subst, append-nil, append_assoc, arith}
use Rattle.std.specs.Prelude.{min, flat_map, All, codes, nat_eq}
use Rattle.std.specs.Cmp.Lexicographic.{pointwise}
use Rattle.std.specs.Io.KnownBytes.{Consumes, IsAtEnd}
use Rattle.std.proofs.lemmas.List.{length-append}
use Rattle.std.proofs.lemmas.List.Concat.{flat_map-append}
use Rattle.std.proofs.lemmas.List.Elements.{All-nil, All-push}
use Rattle.io_edge.proofs.Known.{consumes_more, consumes_none}
use Rattle.mail_model.specs.Lines.{HasNoLf, ended}
use Rattle.mail_service.specs.Consoles.{is_stop, GoesOn, EndsAt, next_number, HasListened, IsKept, whole_line, HasHeard, MayEndSaying, HasTurned}
use Rattle.mail_service.specs.declared.console.Heard.{Heard}
use Rattle.mail_service.specs.declared.console.ConsoleEnd.{ConsoleEnd}
use Rattle.mail_service.specs.declared.console.ConsoleEnd.TheVariants as ends

-- What was taken of a line that has no LF yet.
pub record IsUnderway (left0 left1 : Option (List ℕ)) (long : Bool) (line : List ℕ) : Type 0 where
  pub taken : List ℕ
  pub took : Consumes left0 left1 taken
  pub one : HasNoLf taken
  pub kept : IsKept long taken line

pub begun : (left : Option (List ℕ)) → IsUnderway left left false []
begun left = record { taken = []; took = consumes_none left; one = All-nil (λ x. x ≢ 10); kept = refl }

pub underway_more : (left0 mid left1 : Option (List ℕ)) (long long' : Bool) (line line' : List ℕ) (octet : ℕ) (old : IsUnderway left0 mid long line) → octet ≢ 10 → Consumes mid left1 (octet ∷ [])
    → IsKept long' (old.taken ++ octet ∷ []) line' → IsUnderway left0 left1 long' line'
underway_more left0 mid left1 long long' line line' octet old other took kept = record {
  taken = old.taken ++ octet ∷ [];
  took = consumes_more left0 mid left1 old.taken (octet ∷ []) old.took took;
  one = All-push (λ x. x ≢ 10) old.taken octet old.one other;
  kept = kept;
}

-- its LF was read
pub whole_heard : (left : Option (List ℕ)) (long : Bool) (taken line : List ℕ) → IsKept long taken line → HasNoLf taken → HasHeard (whole_line long) left (ended taken) line
whole_heard left false taken line kept one = (ap ended kept, subst HasNoLf kept one)
whole_heard left true taken line kept one = (taken, refl, one, kept)

-- a line that is too long is none that ends a console
no_short_stop : (a b c d e : Bool) → a && (b && (c && (d && false))) ≡ false
no_short_stop false b c d e = refl
no_short_stop true false c d e = refl
no_short_stop true true false d e = refl
no_short_stop true true true false e = refl
no_short_stop true true true true e = refl

no_long_stop : (a b c d e : Bool) → a && (b && (c && (d && (e && false)))) ≡ false
no_long_stop false b c d e = refl
no_long_stop true false c d e = refl
no_long_stop true true false d e = refl
no_long_stop true true true false e = refl
no_long_stop true true true true false = refl
no_long_stop true true true true true = refl

pub long_goes_on : (line : List ℕ) → 65535 < length line → is_stop line ≡ false
long_goes_on [] long = absurd (omega arith)
long_goes_on (a ∷ []) long = absurd (omega arith)
long_goes_on (a ∷ b ∷ []) long = absurd (omega arith)
long_goes_on (a ∷ b ∷ c ∷ []) long = absurd (omega arith)
long_goes_on (a ∷ b ∷ c ∷ d ∷ []) long = absurd (omega arith)
long_goes_on (a ∷ b ∷ c ∷ d ∷ e ∷ []) long = absurd (omega arith)
long_goes_on (a ∷ b ∷ c ∷ d ∷ e ∷ f ∷ line) long =
    rw (no_short_stop (nat_eq a 115) (nat_eq b 116) (nat_eq c 111) (nat_eq d 112) false, no_long_stop (nat_eq a 115) (nat_eq b 116) (nat_eq c 111) (nat_eq d 112) (nat_eq e 13)) refl

-- the answer to a line was written, or not
pub said : (result : Option ConsoleEnd) (left : Option (List ℕ)) (number : ℕ) (line : List ℕ) → MayEndSaying result → GoesOn line → HasTurned result left number (ended line)
said None left number line may goes = (line, refl, goes)
said (Some ends.Stopped) left number line may goes = absurd may
said (Some (ends.Early other)) left number line may goes = absurd may
said (Some ends.ReadFault) left number line may goes = absurd may
said (Some ends.WriteFault) left number line may goes = (line, refl, goes)
said (Some ends.NoMemory) left number line may goes = tt

-- Lines that do not end a console, of which the last has this number.
pub record HasRead (left0 left1 : Option (List ℕ)) (number : ℕ) : Type 0 where
  pub lines : List (List ℕ)
  pub took : Consumes left0 left1 (flat_map ended lines)
  pub each : All GoesOn lines
  pub numbered : number ≡ min (length lines) (2 ^ 64 - 1)

pub none_read : (left : Option (List ℕ)) → HasRead left left 0
none_read left = record { lines = []; took = consumes_none left; each = All-nil GoesOn; numbered = refl }

-- one line more
joined : (lines : List (List ℕ)) (line : List ℕ) → flat_map ended (lines ++ line ∷ []) ≡ flat_map ended lines ++ ended line
joined lines line = flat_map-append ended lines (line ∷ []) ∙ ap (λ l. flat_map ended lines ++ l) (append-nil (ended line))

counted : (n next count : ℕ) → n ≡ min count (2 ^ 64 - 1) → next ≡ min (n + 1) (2 ^ 64 - 1) → next ≡ min (count + 1) (2 ^ 64 - 1)
counted n next count is then = omega arith

pub read_more : (left0 mid left1 : Option (List ℕ)) (number next : ℕ) (taken : List ℕ) → HasRead left0 mid number → next ≡ min (number + 1) (2 ^ 64 - 1) → Consumes mid left1 taken → HasTurned None left1 next taken → HasRead left0 left1 next
read_more left0 mid left1 number next taken read is took (line, whole, goes) = record {
  lines = read.lines ++ line ∷ [];
  took = subst (λ (l : List ℕ). Consumes left0 left1 l) (ap (λ l. flat_map ended read.lines ++ l) whole ∙ sym (joined read.lines line))
      (consumes_more left0 mid left1 (flat_map ended read.lines) taken read.took took);
  each = All-push GoesOn read.lines line read.each goes;
  numbered = let e : length (read.lines ++ line ∷ []) ≡ length read.lines + 1 = length-append read.lines (line ∷ []) in
      counted number next (length read.lines) read.numbered is ∙ ap (λ n. min n (2 ^ 64 - 1)) (sym e);
}

-- and the line in which it ended
pub listened : (left0 mid left1 : Option (List ℕ)) (number next : ℕ) (end : ConsoleEnd) (taken : List ℕ) → HasRead left0 mid number → next ≡ min (number + 1) (2 ^ 64 - 1) → Consumes mid left1 taken → EndsAt end left1 next taken
    → HasListened left0 left1 end
listened left0 mid left1 number next end taken read is took at = record {
  lines = read.lines;
  taken = taken;
  took = consumes_more left0 mid left1 (flat_map ended read.lines) taken read.took took;
  each = read.each;
  ends = subst (λ n. EndsAt end left1 n taken) (counted number next (length read.lines) read.numbered is) at;
}
