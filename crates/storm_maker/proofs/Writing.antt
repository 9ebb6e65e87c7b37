-- A tape that is written part by part.
use Rattle.std.proofs.Common.{◌≡◌, ◌+◌, ◌-◌, ◌<◌, suc, ℕ, List, ◌++◌, Option, Some, None, Result, Ok, Err, refl, ap, ◌∙◌, append_assoc, arith, length-append}
use Rattle.std.specs.Io.KnownBytes.{Appends}
use Rattle.io_edge.specs.Octets.{Writes}
use Rattle.rand_pcg.specs.Lcg.{Lcg}
use Rattle.storm_maker.specs.Storm.{happens, down_after, session_after}
use Rattle.storm_maker.specs.Tape.{text_of, lines_of, rounds_from}

appends_more : (a b c : Option (List ℕ)) (xs ys : List ℕ) → Appends a b xs → Appends b c ys → Appends a c (xs ++ ys)
appends_more None b c xs ys h k = tt
appends_more (Some all) None c xs ys h k = absurd h
appends_more (Some all) (Some mid) None xs ys h k = absurd k
appends_more (Some all) (Some mid) (Some held) xs ys h k = k ∙ ap (λ (l : List ℕ). l ++ ys) h ∙ append_assoc all xs ys

-- so much of the tape stands in the sink, and this is left of it
pub record Follows (start now : Option (List ℕ)) (tape left : List ℕ) : Type 0 where
  pub front : List ℕ
  pub is : tape ≡ front ++ left
  pub stands : Appends start now front

-- the first part
pub begins : (start now : Option (List ℕ)) (part left : List ℕ) → Appends start now part → Follows start now (part ++ left) left
begins start now part left h = record { front = part; is = refl; stands = h }

-- one part more
pub goes_on : {start mid : Option (List ℕ)} (now : Option (List ℕ)) {tape left : List ℕ} (part more : List ℕ) → Follows start mid tape left → left ≡ part ++ more → Appends mid now part → Follows start now tape more
goes_on {start} {mid} now part more f e h = record {
  front = f.front ++ part;
  is = rw append_assoc (f.is ∙ ap (λ (l : List ℕ). f.front ++ l) e);
  stands = appends_more start mid now f.front part f.stands h;
}

-- the last part
pub ends : {E : Type 0} {start mid : Option (List ℕ)} (now : Option (List ℕ)) {tape left : List ℕ} (result : Result (Unit {0}) E) → Follows start mid tape left → Writes mid now result left → Writes start now result tape
ends {start = start} {mid} now (Ok u) f h = rw f.is (appends_more start mid now f.front _ f.stands h)
ends {start = start} {mid} now (Err e) f (front, missing, some, is, stands) =
    (f.front ++ front, missing, some, rw append_assoc (f.is ∙ ap (λ (l : List ℕ). f.front ++ l) is), appends_more start mid now f.front front f.stands stands)

-- a part that was not written whole
pub stops : {E : Type 0} {start mid : Option (List ℕ)} (now : Option (List ℕ)) {tape left : List ℕ} (part more : List ℕ) (e : E) → Follows start mid tape left → left ≡ part ++ more → Writes {E = E} mid now (Err e) part → Writes {E = E} start now (Err e) tape
stops {start = start} {mid} now part more e f is (front, missing, some, parts, stands) = (
  f.front ++ front,
  missing ++ more,
  simp length-append (omega arith),
  rw append_assoc (f.is ∙ ap (λ (l : List ℕ). f.front ++ l) (is ∙ ap (λ (l : List ℕ). l ++ more) parts ∙ append_assoc front missing more)),
  appends_more start mid now f.front front f.stands stands,
)

-- the first part, where it was not written whole
pub stops_first : {E : Type 0} (start now : Option (List ℕ)) (part more : List ℕ) (e : E) → Writes {E = E} start now (Err e) part → Writes {E = E} start now (Err e) (part ++ more)
stops_first start now part more e (front, missing, some, parts, stands) =
    (front, missing ++ more, simp length-append (omega arith), rw parts (append_assoc front missing more), stands)

-- one round more
pub round_is : (rounds i : ℕ) (down : Option ℕ) (session : ℕ) (draws : Lcg) → i < rounds
    → rounds_from (rounds - i) down session draws
    ≡ text_of (lines_of session (happens down draws).0) ++ rounds_from (rounds - (i + 1)) (down_after (happens down draws).0 down) (session_after (happens down draws).0 session) (happens down draws).1
round_is rounds i down session draws h =
    let left : rounds - i ≡ suc (rounds - (i + 1)) = omega arith in
    rw left refl
