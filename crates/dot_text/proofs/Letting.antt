-- Octets of a line that is too long, which are let go.
use Rattle.std.proofs.Common.{◌≡◌, ◌+◌, ◌-◌, ◌<◌, ◌≤◌, ℕ, Bool, true, false, nat_lt, nat_eq, List, [], ◌∷◌, ◌++◌, length, take, drop, refl, sym, ap, ap₂, subst, ◌∙◌, arith, append_assoc, inl, inr}
use Rattle.std.specs.Prelude.{slice_index, slice_set, MatchBool, ◌⊎◌, ◌&&◌}
use Rattle.std.proofs.lemmas.List.{append-nil, drop_more, get_or_append_left, get_or-append_right, get_or-take, length-take-le, length-append, take-append-drop}
use Rattle.std.proofs.lemmas.Bool.{cases_lt, ltb-true, lt-ltb, eqb-true}
use Rattle.std.proofs.Math.Seq.{drop-length}
use Rattle.mail_model.specs.Lines.{HasNoCrlf, sent_line}
use Rattle.dot_text.specs.Cuts.{IsFirstCrlf}
use Rattle.dot_text.specs.Cuts.Taken.{Given}
use Rattle.dot_text.specs.Shown.{Shown, Pending, Gives, Finds, IsKind, IsLine, Stays, LetsGo, line_length, ends_in_cr}
use Rattle.dot_text.specs.declared.cutter.Line.{Line}
use Rattle.dot_text.specs.declared.cutter.Line.TheVariants.{Whole, Long}
use Rattle.dot_text.proofs.Crlf.{none_front, no_line}
use Rattle.dot_text.proofs.Cutting.{first_line, first_none, cuts_taken}

-- where the prefix ends in a CR, the octets after it begin with one
abbrev pub IsSeam : List ℕ → List ℕ → Type 0
IsSeam front behind = (k : ℕ) → k + 1 ≡ length front → slice_index front k ≡ 13 → slice_index behind 0 ≡ 13

-- no CRLF stands across the seam
pub joined : (front behind : List ℕ) → HasNoCrlf front → IsSeam front behind → HasNoCrlf behind → HasNoCrlf (front ++ behind)
joined front behind none seam other k within cr lf = by_place (cases_lt (k + 1) (length front)) (cases_lt k (length front))
  where
    total : length (front ++ behind) ≡ length front + length behind
    total = length-append front behind

    at_left : k < length front → slice_index front k ≡ 13
    at_left inside = sym (get_or_append_left front behind 0 k inside) ∙ cr

    by_place : (k + 1 < length front) ⊎ (length front ≤ k + 1) → (k < length front) ⊎ (length front ≤ k) → ⊥
    by_place (inl inside) here = none k inside (at_left (omega (arith, inside))) (sym (get_or_append_left front behind 0 (k + 1) inside) ∙ lf)
    by_place (inr past) (inl here) =
        let last : k + 1 ≡ length front = omega (arith, past, here) in
        let none_left : k + 1 - length front ≡ 0 = omega (arith, last) in
        let cr_behind = seam k last (at_left here) in
        let lf_behind : slice_index behind 0 ≡ 10 =
        ap (slice_index behind) (sym none_left) ∙ sym (get_or-append_right front behind (length front) (k + 1) 0 refl past) ∙ lf in
        let both : 13 ≡ 10 = sym cr_behind ∙ lf_behind in
        omega (arith, both)
    by_place (inr past) (inr behind_it) =
        let one : k + 1 - length front ≡ k - length front + 1 = omega (arith, behind_it) in
        other (k - length front) (omega (arith, total, within, behind_it))
        (sym (get_or-append_right front behind (length front) k 0 refl behind_it) ∙ cr)
        (ap (slice_index behind) (sym one) ∙ sym (get_or-append_right front behind (length front) (k + 1) 0 refl past) ∙ lf)

-- what is fed changes no seam
first_is_some : (behind : List ℕ) → slice_index behind 0 ≡ 13 → 0 < length behind
first_is_some [] is = absurd (omega (arith, is))
first_is_some (x ∷ xs) is = omega arith

-- what is fed is pending too
pub pending_fed : (limit : ℕ) (past : Bool) (rest piece pending : List ℕ) → Pending (record { limit = limit; past = past; rest = rest }) pending
    → Pending (record { limit = limit; past = past; rest = rest ++ piece }) (pending ++ piece)
pending_fed limit past rest piece pending was = record {
  gone = was.gone;
  whole = ap (λ (l : List ℕ). l ++ piece) was.whole ∙ append_assoc was.gone rest piece;
  none = was.none;
  seam = λ k last cr. let first = was.seam k last cr in get_or_append_left rest piece 0 0 (first_is_some rest first) ∙ first;
  long = was.long;
}

-- the last octet is none of a CRLF
not_cr : (octets : List ℕ) → ends_in_cr octets ≡ false → (k : ℕ) → k + 1 ≡ length octets → slice_index octets k ≡ 13 → ⊥
not_cr octets other k last cr =
    let some : nat_lt 0 (length octets) ≡ true = lt-ltb 0 (length octets) (omega (arith, last)) in
    let at : length octets - 1 ≡ k = omega (arith, last) in
    let same : slice_index octets (length octets - 1) ≡ 13 = ap (slice_index octets) at ∙ cr in
    let is_cr : ends_in_cr octets ≡ true = ap₂ (λ (a : Bool) (x : ℕ). a && nat_eq x 13) some same in
    let clash : true ≡ false = sym is_cr ∙ other in
    cc

-- of what is long already
grown : (limit : ℕ) (past : Bool) (gone more : List ℕ) (count : ℕ) → count ≤ length more + 1 → (past ≡ true) ⊎ (limit ≤ count) → MatchBool past (limit ≤ length gone + 1) (gone ≡ [])
    → limit ≤ length (gone ++ more) + 1
grown limit true gone more count enough how long = omega (arith, long, length-append gone more)
grown limit false gone more count enough (inl is) long = cc
grown limit false gone more count enough (inr is) long = omega (arith, is, enough, length-append gone more)

-- all octets are let go
pub all_gone : (limit : ℕ) (past : Bool) (rest pending : List ℕ) → HasNoCrlf rest → ends_in_cr rest ≡ false → (past ≡ true) ⊎ (limit ≤ length rest)
    → Pending (record { limit = limit; past = past; rest = rest }) pending → Pending (record { limit = limit; past = true; rest = [] }) pending
all_gone limit past rest pending none_in other how was = record {
  gone = was.gone ++ rest;
  whole = was.whole ∙ sym (append-nil (was.gone ++ rest));
  none = joined was.gone rest was.none was.seam none_in;
  seam = λ k last cr. absurd (by_rest k last cr (cases_lt k (length was.gone)));
  long = grown limit past was.gone rest (length rest) (omega arith) how was.long;
}
  where
    by_rest : (k : ℕ) → k + 1 ≡ length (was.gone ++ rest) → slice_index (was.gone ++ rest) k ≡ 13 → (k < length was.gone) ⊎ (length was.gone ≤ k) → ⊥
    by_rest k last cr (inl inside) =
        let all = length-append was.gone rest in
        let here : k + 1 ≡ length was.gone = omega (arith, all, last, inside) in
        let first = was.seam k here (sym (get_or_append_left was.gone rest 0 k inside) ∙ cr) in
        let some = first_is_some rest first in
        omega (arith, all, last, inside, some)
    by_rest k last cr (inr behind) =
        let all = length-append was.gone rest in
        not_cr rest other (k - length was.gone) (omega (arith, all, last, behind)) (sym (get_or-append_right was.gone rest (length was.gone) k 0 refl behind) ∙ cr)

-- octets that end in a CR
cr_last : (octets : List ℕ) → ends_in_cr octets ≡ true → (front : List ℕ) × (octets ≡ front ++ 13 ∷ [])
cr_last octets is = by_test (nat_lt 0 (length octets)) (nat_eq (slice_index octets (length octets - 1)) 13) refl refl is
  where
    by_test : (some cr : Bool) → nat_lt 0 (length octets) ≡ some → nat_eq (slice_index octets (length octets - 1)) 13 ≡ cr → some && cr ≡ true
        → (front : List ℕ) × (octets ≡ front ++ 13 ∷ [])
    by_test false cr none at both = cc
    by_test true false some at both = cc
    by_test true true some at both =
        let within : 0 < length octets = ltb-true 0 (length octets) some in
        let inside : length octets - 1 < length octets = omega (arith, within) in
        let past : length octets - 1 + 1 ≡ length octets = omega (arith, within) in
        let is_cr : slice_index octets (length octets - 1) ≡ 13 = eqb-true _ _ at in
        let last : drop (length octets - 1) octets ≡ slice_index octets (length octets - 1) ∷ drop (length octets - 1 + 1) octets =
        drop_more octets (length octets - 1) 0 inside in (
          take (length octets - 1) octets,
          sym (take-append-drop (length octets - 1) octets)
              ∙ ap (λ (l : List ℕ). take (length octets - 1) octets ++ l)
              (last ∙ ap₂ (λ (x : ℕ) (l : List ℕ). x ∷ l) is_cr (ap (λ (n : ℕ). drop n octets) past ∙ drop-length octets)),
        )

-- all but a CR are let go
pub gone_but_cr : (limit : ℕ) (past : Bool) (rest pending : List ℕ) → HasNoCrlf rest → ends_in_cr rest ≡ true → (past ≡ true) ⊎ (limit ≤ length rest)
    → Pending (record { limit = limit; past = past; rest = rest }) pending → Pending (record { limit = limit; past = true; rest = 13 ∷ [] }) pending
gone_but_cr limit past rest pending none_in is how was = record {
  gone = was.gone ++ front;
  whole = was.whole ∙ ap (λ (l : List ℕ). was.gone ++ l) cut ∙ sym (append_assoc was.gone front (13 ∷ []));
  none = none_front (was.gone ++ front) (13 ∷ []) (subst HasNoCrlf (ap (λ (l : List ℕ). was.gone ++ l) cut ∙ sym (append_assoc was.gone front (13 ∷ []))) (joined was.gone rest was.none was.seam none_in));
  seam = λ k last cr. refl;
  long = grown limit past was.gone front (length rest) (omega (arith, ap (λ (l : List ℕ). length l) cut, length-append front (13 ∷ []))) how was.long;
}
  where
    front : List ℕ
    front = (cr_last rest is).0

    cut : rest ≡ front ++ 13 ∷ []
    cut = (cr_last rest is).1

-- no line is whole
pub stays : (old new : Shown) (pending : List ℕ) → HasNoCrlf old.rest → Pending old pending → Pending new pending → Stays new pending
stays old new pending none_in was now =
    let none = subst HasNoCrlf (sym was.whole) (joined was.gone old.rest was.none was.seam none_in) in
    record { pends = now; none = none; no_line = λ line more same. no_line line more pending none (sym same) }

-- a line of which nothing was let go, and one that is too long already
none_gone : (limit : ℕ) (past : Bool) (gone : List ℕ) → past ≡ false → MatchBool past (limit ≤ length gone + 1) (gone ≡ []) → gone ≡ []
none_gone limit true gone is long = cc
none_gone limit false gone is long = long

is_long : (limit : ℕ) (past : Bool) (gone : List ℕ) → past ≡ true → MatchBool past (limit ≤ length gone + 1) (gone ≡ []) → limit ≤ length gone + 1
is_long limit true gone is long = long
is_long limit false gone is long = cc

-- so many octets of it are held
at_place : (place limit : ℕ) (past : Bool) (kind : Line) → IsKind kind place limit past → line_length kind ≡ place
at_place place limit past (Whole count) how = how.0
at_place place limit past (Long count) how = how.0

-- The first line, which ends at this place of the octets that are held.
module _ (limit : ℕ) (past : Bool) (rest : List ℕ) (place : ℕ) (is : IsFirstCrlf rest place) (pending : List ℕ)
    (was : Pending (record { limit = limit; past = past; rest = rest }) pending) where
  abbrev line : List ℕ
  line = was.gone ++ take place rest

  seam_here : 0 < place → IsSeam was.gone (take place rest)
  seam_here some k last cr = get_or-take place rest 0 0 some ∙ was.seam k last cr

  first : HasNoCrlf line
  first = by_place (cases_lt 0 place)
    where
      by_place : (0 < place) ⊎ (place ≤ 0) → HasNoCrlf line
      by_place (inl some) = joined was.gone (take place rest) was.none (seam_here some) (first_none rest place is)
      by_place (inr none) =
          let zero_place : place ≡ 0 = omega (arith, none) in
          subst HasNoCrlf (sym (ap (λ (n : ℕ). was.gone ++ take n rest) zero_place ∙ append-nil was.gone)) was.none

  octets : pending ≡ sent_line line ++ drop (place + 2) rest
  octets =
      was.whole ∙ ap (λ (l : List ℕ). was.gone ++ l) (first_line rest place is)
      ∙ sym (append_assoc was.gone (sent_line (take place rest)) (drop (place + 2) rest))
      ∙ ap (λ (l : List ℕ). l ++ drop (place + 2) rest) (sym (append_assoc was.gone (take place rest) (13 ∷ 10 ∷ [])))

  count_of : length (sent_line line) ≡ length was.gone + place + 2
  count_of =
      let within : place ≤ length rest = omega (arith, is.within) in
      length-append line (13 ∷ 10 ∷ []) ∙ omega (arith, length-append was.gone (take place rest), length-take-le place rest within)

  line_is : (kind : Line) → IsKind kind place limit past → IsLine (record { limit = limit; past = past; rest = rest }) kind line
  line_is (Whole count) how =
      let gone : was.gone ≡ [] = none_gone limit past was.gone how.1 was.long in (
        ap (λ (l : List ℕ). l ++ take place rest) gone ∙ ap (λ (n : ℕ). take n rest) (sym how.0),
        omega (arith, count_of, ap (λ (l : List ℕ). length l) gone, how.2),
      )
  line_is (Long count) (same, inl long) = omega (arith, count_of, is_long limit past was.gone long was.long)
  line_is (Long count) (same, inr long) = omega (arith, count_of, long)

  pub gives : (kind : Line) → IsKind kind place limit past → Gives (record { limit = limit; past = past; rest = rest }) kind pending
  gives kind how =
      let behind : drop (place + 2) rest ≡ drop (line_length kind + 2) rest = ap (λ (n : ℕ). drop (n + 2) rest) (sym (at_place place limit past kind how)) in
      let cut : pending ≡ sent_line line ++ drop (line_length kind + 2) rest = octets ∙ ap (λ (l : List ℕ). sent_line line ++ l) behind in
      record {
        line = line;
        first = first;
        octets = cut;
        is = line_is kind how;
        shows = λ fed taken cuts. cuts_taken fed taken (Given line) pending (drop (line_length kind + 2) rest) cut (first, tt) cuts;
      }

-- the same of a cutter
abbrev pub cutter_of : ℕ → Bool → List ℕ → Shown
cutter_of limit past rest = record { limit = limit; past = past; rest = rest }

-- octets that end in a CR are some
pub ends_within : (octets : List ℕ) → ends_in_cr octets ≡ true → 0 < length octets
ends_within octets is =
    let cut = cr_last octets is in
    omega (arith, ap (λ (l : List ℕ). length l) cut.1, length-append cut.0 (13 ∷ []))

pub lets_all_go : (limit : ℕ) (past : Bool) (rest now : List ℕ) (old : Shown) → 2 ≤ limit → cutter_of limit past rest ≡ old → HasNoCrlf old.rest → ends_in_cr rest ≡ false
    → (past ≡ true) ⊎ (limit ≤ length rest) → now ≡ [] → LetsGo old (cutter_of limit true now)
lets_all_go limit past rest now old some is none_in other how empty =
    let At : Shown → Type 0 = λ s. LetsGo s (cutter_of limit true now) in
    let Behind : List ℕ → Type 0 = λ l. LetsGo (cutter_of limit past rest) (cutter_of limit true l) in
    let none : HasNoCrlf rest = subst HasNoCrlf (ap (λ (s : Shown). s.rest) (sym is)) none_in in
    subst At is (subst Behind (sym empty) (record { limit = refl; short = omega (arith, some); fewer = omega arith; pends = λ pending was. all_gone limit past rest pending none other how was }))

pub lets_go_but_cr : (limit : ℕ) (past : Bool) (rest now : List ℕ) (old : Shown) → 2 ≤ limit → cutter_of limit past rest ≡ old → HasNoCrlf old.rest → ends_in_cr rest ≡ true
    → (past ≡ true) ⊎ (limit ≤ length rest) → now ≡ 13 ∷ [] → LetsGo old (cutter_of limit true now)
lets_go_but_cr limit past rest now old some is none_in cr how one =
    let At : Shown → Type 0 = λ s. LetsGo s (cutter_of limit true now) in
    let Behind : List ℕ → Type 0 = λ l. LetsGo (cutter_of limit past rest) (cutter_of limit true l) in
    let none : HasNoCrlf rest = subst HasNoCrlf (ap (λ (s : Shown). s.rest) (sym is)) none_in in
    subst At is (subst Behind (sym one) (record { limit = refl; short = omega (arith, some); fewer = omega (arith, ends_within rest cr); pends = λ pending was. gone_but_cr limit past rest pending none cr how was }))

-- a line was found
pub found_at : (limit : ℕ) (past : Bool) (rest : List ℕ) (place : ℕ) → IsFirstCrlf rest place → (kind : Line) → IsKind kind place limit past
    → Finds (cutter_of limit past rest) kind (cutter_of limit past rest)
found_at limit past rest place is kind how = record {
  same = refl;
  within = omega (arith, at_place place limit past kind how, is.within);
  gives = λ pending was. gives limit past rest place is pending was kind how;
}

-- the first octet was set to a CR, and is alone
pub set_first : (octets : List ℕ) → 0 < length octets → take 1 (slice_set octets 0 13) ≡ 13 ∷ []
set_first [] some = absurd (omega (arith, some))
set_first (x ∷ xs) some = refl

-- octets more were fed
pub fed_pends : (limit : ℕ) (past : Bool) (rest piece now : List ℕ) (old new : Shown) (pending : List ℕ) → cutter_of limit past rest ≡ old → new ≡ cutter_of limit past now → now ≡ rest ++ piece
    → Pending old pending → Pending new (pending ++ piece)
fed_pends limit past rest piece now old new pending from is grew was =
    let From : Shown → Type 0 = λ s. Pending s pending in
    let To : Shown → Type 0 = λ s. Pending s (pending ++ piece) in
    subst To (sym (is ∙ ap (cutter_of limit past) grew)) (pending_fed limit past rest piece pending (subst From (sym from) was))
