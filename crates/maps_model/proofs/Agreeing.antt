-- How a row and what its node says of a user go on agreeing.
use Rattle.std.proofs.Common.{◌≡◌, ◌⊎◌, inl, inr, ⊎_elim, ℕ, ◌<◌, ◌≤◌, Bool, true, false, List, ◌++◌, Option, Some, refl, sym, ◌∙◌, subst, true≢false, arith}
use Rattle.mail_model.specs.Identity.{EpochId}
use Rattle.object_model.specs.Lists.{Among}
use Rattle.object_model.specs.Letters.{Row, Letter}
use Rattle.maps_model.specs.Words.{IsOneOf, IsReport, IsAck, RowFits, HasAtLeast, IsUntold, IsLatest, Agrees}
use Rattle.maps_model.proofs.Lists.{among_either, same_some}

-- what a node says of a user: as before, or with a greater version
abbrev pub SaysOn : ℕ → ℕ → Bool → Bool → Type 0
SaysOn old new full fuller = ((new ≡ old) × (fuller ≡ full)) ⊎ (old < new)

pub fits_on : (row : Row) (old new : ℕ) (full fuller : Bool) → SaysOn old new full fuller → RowFits row old full → RowFits row new fuller
fits_on row old new full fuller (inl e) f = record {
  bounded = omega (arith, f.bounded, e.0);
  same = λ h. f.same (h ∙ e.0) ∙ sym e.1;
}
fits_on row old new full fuller (inr lt) f = record { bounded = omega (arith, f.bounded, lt); same = λ h. absurd (omega (arith, f.bounded, lt, h)) }

module _ (flying : List Letter) (n own : ℕ) (user : List ℕ) (a b : EpochId) where
  -- a Report of the node that is on its way
  pub record OnItsWay (row : Row) : Type 0 where
    pub letter : Letter
    pub inside : Among letter flying
    pub from : letter.from ≡ n
    pub same : IsOneOf a b letter.epoch
    pub is : IsReport letter user own row

  -- what the manager does with the row
  pub data RowOn (old new : Option Row) (version : ℕ) (full : Bool) : Type 0 where
    Stays : new ≡ old → RowOn old new version full
    Takes : (row : Row) → OnItsWay row → new ≡ Some row → ((stood : Row) → old ≡ Some stood → stood.version ≤ row.version) → RowOn old new version full
    Tells : (row : Row) → new ≡ Some row → row.version ≡ version → row.full ≡ full → RowOn old new version full

  pub record AckOnItsWay (version : ℕ) : Type 0 where
    pub letter : Letter
    pub inside : Among letter flying
    pub to : letter.to ≡ n
    pub same : IsOneOf a b letter.epoch
    pub is : IsAck letter user version

  -- why the node has no mark
  pub data QuietOn (row : Option Row) (old new : ℕ) (full fuller marked : Bool) : Type 0 where
    Was : marked ≡ false → new ≡ old → fuller ≡ full → QuietOn row old new full fuller marked
    Acked : AckOnItsWay new → new ≡ old → fuller ≡ full → QuietOn row old new full fuller marked
    Latest : IsLatest row new → QuietOn row old new full fuller marked

module _ (flying out : List Letter) (n own : ℕ) (user : List ℕ) (x y a b : EpochId) (row0 row1 : Option Row) (v0 v1 : ℕ) (h0 h1 m0 m1 : Bool)
    (had : Agrees flying n user x y row0 v0 h0 m0)
    (reports_in : (letter : Letter) → Among letter flying → letter.from ≡ n → IsOneOf a b letter.epoch → (boot : ℕ) (row : Row) → IsReport letter user boot row → IsOneOf x y letter.epoch)
    (acks_in : (letter : Letter) → Among letter flying → letter.to ≡ n → IsOneOf a b letter.epoch → (told : ℕ) → IsAck letter user told → IsOneOf x y letter.epoch)
    (reports : (row : Row) → OnItsWay flying n own user x y row → RowFits row v0 h0)
    (says : SaysOn v0 v1 h0 h1)
    (manager : RowOn flying n own user x y row0 row1 v1 h1)
    (quiet : m1 ≡ false → QuietOn flying n own user x y row1 v0 v1 h0 h1 m0)
    (new_reports : (letter : Letter) → Among letter out → letter.from ≡ n → IsOneOf a b letter.epoch → (boot : ℕ) (row : Row) → IsReport letter user boot row → m1 ≡ true)
    (new_acks : (letter : Letter) → Among letter out → letter.to ≡ n → IsOneOf a b letter.epoch → (told : ℕ) → IsAck letter user told → HasAtLeast row1 told) where
  fits : RowOn flying n own user x y row0 row1 v1 h1 → (row : Row) → row1 ≡ Some row → RowFits row v1 h1
  fits (Stays e) row h = fits_on row v0 v1 h0 h1 says (had.fits row (sym e ∙ h))
  fits (Takes taken way e newer) row h = subst (λ r. RowFits r v1 h1) (same_some row1 taken row e h) (fits_on taken v0 v1 h0 h1 says (reports taken way))
  fits (Tells own e v f) row h = subst (λ r. RowFits r v1 h1) (same_some row1 own row e h) (record { bounded = omega (arith, v); same = λ s. f })

  risen : SaysOn v0 v1 h0 h1 → v0 ≤ v1
  risen (inl e) = omega (arith, e.0)
  risen (inr lt) = omega (arith, lt)

  at_least : RowOn flying n own user x y row0 row1 v1 h1 → (told : ℕ) → HasAtLeast row0 told → HasAtLeast row1 told
  at_least (Stays e) told h = record { found = h.found; is = e ∙ h.is; not_below = h.not_below }
  at_least (Takes taken way e newer) told h = record { found = taken; is = e; not_below = omega (arith, h.not_below, newer h.found h.is) }
  at_least (Tells own e v f) told h = record { found = own; is = e; not_below = omega (arith, v, h.not_below, (had.fits h.found h.is).bounded, risen says) }

  module _ (unmarked : m1 ≡ false) where
    silent : (row : Option Row) (full : Bool) → IsUntold flying n user x y row full → (letter : Letter) → Among letter (flying ++ out) → letter.from ≡ n → IsOneOf a b letter.epoch
        → (boot : ℕ) (told : Row) → IsReport letter user boot told → ⊥
    silent row full u letter m from same boot told h = ⊎_elim
        (λ old. u.silent letter old from (reports_in letter old from same boot told h) boot told h)
        (λ new. true≢false (sym (new_reports letter new from same boot told h) ∙ unmarked))
        (among_either letter flying out m)

    latest : RowOn flying n own user x y row0 row1 v1 h1 → v1 ≡ v0 → IsLatest row0 v0 → IsLatest row1 v1
    latest (Stays e) same l = record { found = l.found; is = e ∙ l.is; latest = l.latest ∙ sym same }
    latest (Takes taken way e newer) same l = record { found = taken; is = e; latest = omega (arith, newer l.found l.is, (reports taken way).bounded, l.latest, same) }
    latest (Tells own e v f) same l = record { found = own; is = e; latest = v }

    untold : RowOn flying n own user x y row0 row1 v1 h1 → h1 ≡ h0 → IsUntold flying n user x y row0 h0 → IsUntold (flying ++ out) n user a b row1 h1 ⊎ IsLatest row1 v1
    untold (Stays e) same u = inl (record { missing = e ∙ u.missing; empty = same ∙ u.empty; silent = silent row0 h0 u })
    untold (Takes taken way e newer) same u = absurd (u.silent way.letter way.inside way.from way.same own taken way.is)
    untold (Tells own e v f) same u = inr (record { found = own; is = e; latest = v })

    reached : (told : ℕ) → v1 ≡ v0 → told ≡ v1 → HasAtLeast row0 told → IsLatest row0 v0
    reached told same is h = record { found = h.found; is = h.is; latest = omega (arith, h.not_below, (had.fits h.found h.is).bounded, same, is) }

    why : QuietOn flying n own user x y row1 v0 v1 h0 h1 m0 → IsUntold (flying ++ out) n user a b row1 h1 ⊎ IsLatest row1 v1
    why (Was none version full) = ⊎_elim (λ u. untold manager full u) (λ l. inr (latest manager version l)) (had.unmarked none)
    why (Acked way version full) = inr (latest manager version (reached v1 version refl (had.acked way.letter way.inside way.to way.same v1 way.is)))
    why (Latest l) = inr l

  pub agrees_on : Agrees (flying ++ out) n user a b row1 v1 h1 m1
  agrees_on = record {
    fits = fits manager;
    acked = λ letter m to same told h. ⊎_elim
        (λ old. at_least manager told (had.acked letter old to (acks_in letter old to same told h) told h))
        (λ new. new_acks letter new to same told h)
        (among_either letter flying out m);
    unmarked = λ none. why none (quiet none);
  }
