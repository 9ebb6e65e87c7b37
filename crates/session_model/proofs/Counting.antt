-- No more copies are gone than were marked.
use Rattle.std.proofs.Common.{◌≡◌, ◌⊎◌, inl, inr, ⊎_elim, ◌≤◌, ℕ, zero, suc, List, [], ◌∷◌, ◌++◌, length, flat_map, map, Option, Some, refl, sym, ap, ◌∙◌, subst, arith, slice_get}
use Rattle.std.proofs.lemmas.Option.{none-some}
use Rattle.std.proofs.lemmas.List.Concat.{flat_map-append}
use Rattle.mail_model.specs.Identity.{Id}
use Rattle.mail_model.specs.Deleted.{IsCopyOf}
use Rattle.mail_model.proofs.GoneCopies.{copy_front, copy_behind}
use Rattle.mail_model.proofs.Sessions.{by_number}
use Rattle.session_model.specs.Calls.{Call}
use Rattle.session_model.specs.Facts.{IsIn, IsGoneIn}
use Rattle.session_model.specs.Talk.{Exchange}
use Rattle.session_model.specs.Sessions.{Session, session_at}
use Rattle.session_model.specs.Promises.{GoneAtMostMarked, AreOnce, strikes, struck_of}

abbrev Copies : Type 0
Copies = List (List ℕ × Id)

-- a copy of a deletion
copy_in : (user : List ℕ) (id : Id) (ids : List Id) → IsIn id ids → IsCopyOf user id (map (λ (i : Id). (user, i)) ids)
copy_in user id [] is = absurd is
copy_in user id (first ∷ ids) is = ⊎_elim (λ same. inl (ap (λ (i : Id). (user, i)) same)) (λ later. inr (copy_in user id ids later)) is

-- what is left of some copies without one of them
record Without (user : List ℕ) (id : Id) (all : Copies) : Type 0 where
  pub rest : Copies
  pub one_less : length all ≡ suc (length rest)
  pub others : (name : List ℕ) (other : Id) → IsCopyOf name other all → ◌≡◌ {A = List ℕ × Id} (user, id) (name, other) ⊎ IsCopyOf name other rest

without : (user : List ℕ) (id : Id) (all : Copies) → IsCopyOf user id all → Without user id all
without user id [] is = absurd is
without user id (copy ∷ all) is = ⊎_elim
    (λ (same : copy ≡ (user, id)). record { rest = all; one_less = refl; others = λ name other h. ⊎_elim (λ here. inl (sym same ∙ here)) (λ later. inr later) h })
    (λ (later : IsCopyOf user id all).
    let r = without user id all later in
    record { rest = copy ∷ r.rest; one_less = ap suc r.one_less; others = λ name other h. ⊎_elim (λ here. inr (inl here)) (λ behind. ⊎_elim (λ same. inl same) (λ rest. inr (inr rest)) (r.others name other behind)) h })
    is

-- copies that are each once among others are no more than these
no_more_than : (copies all : Copies) → AreOnce copies → ((user : List ℕ) (id : Id) → IsCopyOf user id copies → IsCopyOf user id all) → length copies ≤ length all
no_more_than [] all once within = omega arith
no_more_than ((user, id) ∷ copies) all once within =
    let r = without user id all (within user id (inl refl)) in
    let later = no_more_than copies r.rest once.1 (λ name other h. ⊎_elim
    (λ (same : ◌≡◌ {A = List ℕ × Id} (user, id) (name, other)). absurd (once.0 (subst (λ (c : List ℕ × Id). IsCopyOf c.0 c.1 copies) (sym same) h)))
    (λ rest. rest) (r.others name other (within name other (inr h)))) in
    omega (arith, later, r.one_less)

-- the deletions of one session are among those of all
of_session : (user : List ℕ) (id : Id) (sessions : List Session) (k : ℕ) (session : Session) → session_at sessions k ≡ Some session → IsCopyOf user id (struck_of session)
    → IsCopyOf user id (flat_map struck_of sessions)
of_session user id sessions zero session at is = absurd (none-some session at)
of_session user id sessions (suc n) session at is = by sessions n (sym (by_number sessions n) ∙ at)
  where
    by : (all : List Session) (n : ℕ) → slice_get all n ≡ Some session → IsCopyOf user id (flat_map struck_of all)
    by [] n there = absurd (none-some session there)
    by (first ∷ all) zero there =
        let same : first ≡ session = cc in copy_front user id (struck_of first) (flat_map struck_of all) (subst (λ (s : Session). IsCopyOf user id (struck_of s)) (sym same) is)
    by (first ∷ all) (suc m) there = copy_behind user id (struck_of first) (flat_map struck_of all) (by all m there)

pub gone_at_most_marked : GoneAtMostMarked
gone_at_most_marked plan entries disks sessions copies deleted once gone =
    no_more_than copies (flat_map struck_of sessions) once (λ user id h. struck user id (gone user id h))
  where
    struck : (user : List ℕ) (id : Id) → (n : ℕ) × IsGoneIn disks n user id → IsCopyOf user id (flat_map struck_of sessions)
    struck user id (n, is) =
        let (k, session, ids, quit, at, pop, deletes, within) = deleted.only n user id is in
        let own : IsCopyOf user id (strikes quit.call ++ []) = subst (λ (c : Option Call). IsCopyOf user id (strikes c ++ [])) (sym deletes.asks)
        (copy_front user id (map (λ (i : Id). (user, i)) ids) [] (copy_in user id ids within)) in
        of_session user id sessions k session at
        (subst (λ (l : List Exchange). IsCopyOf user id (flat_map (λ (one : Exchange). strikes one.call) l)) (sym deletes.are)
        (subst (IsCopyOf user id) (sym (flat_map-append (λ (one : Exchange). strikes one.call) deletes.before (quit ∷ [])))
        (copy_behind user id (flat_map (λ (one : Exchange). strikes one.call) deletes.before) (strikes quit.call ++ []) own)))
