-- The promise of a right map is false of wrong maps, and where members disagree.
use Rattle.std.proofs.Common.{◌≡◌, ◌↔◌, ◌<◌, inl, inr, ℕ, List, [], ◌∷◌, AllPairs, Some, None, refl, sym, ap, subst, arith}
use Rattle.std.proofs.lemmas.List.Elements.{All-nil}
use Rattle.std.proofs.lemmas.List.Kept.{AllPairs-cons}
use Rattle.std.proofs.lemmas.Option.{none-some}
use Rattle.mail_model.specs.Identity.Key.{Message}
use Rattle.mail_model.specs.Record.{Record}
use Rattle.mail_model.specs.Record.Record.{Boot}
use Rattle.mail_model.specs.Site.{nth_id}
use Rattle.object_model.specs.Lists.{Among}
use Rattle.standing_model.specs.Standing.{OnDisk, HasFragment, NamesFragments, SaysAlike, MembersAgree}
use Rattle.worked_settles.specs.FreshTape.{three_members}
use Rattle.worked_settles.specs.MapsTape.{maps_disks}
use Rattle.worked_settles.specs.WrongMaps.{RefusesOneTooMany, RefusesOneTooFew, RefusesFalling, RefusesStranger, RefusesNobody, RefusesSilentTarget, silent_disks}
use Rattle.worked_settles.proofs.MapsEnd.{with_copy, copy_state, copy_fragment, no_fragment, there}
use Rattle.worked_settles.proofs.MapsBack.{AreDigits, refuses_map}
use Rattle.worked_settles.proofs.Standing.{alice}

-- digits up to three
up_to_three : AreDigits (1 ∷ 2 ∷ 3 ∷ [])
up_to_three n (inl is) = omega (arith, is)
up_to_three n (inr (inl is)) = omega (arith, is)
up_to_three n (inr (inr (inl is))) = omega (arith, is)
up_to_three n (inr (inr (inr none))) = absurd none

both : AreDigits (1 ∷ 2 ∷ [])
both n (inl is) = omega (arith, is)
both n (inr (inl is)) = omega (arith, is)
both n (inr (inr none)) = absurd none

falling : AreDigits (2 ∷ 1 ∷ [])
falling n (inl is) = omega (arith, is)
falling n (inr (inl is)) = omega (arith, is)
falling n (inr (inr none)) = absurd none

first_alone : AreDigits (1 ∷ [])
first_alone n (inl is) = omega (arith, is)
first_alone n (inr none) = absurd none

-- what is told names these nodes, by this manager
module _ (disks : List (List Record)) (manager : ℕ) (nodes : List ℕ) (names : NamesFragments disks three_members alice (Some (manager, nodes))) where
  nodes_are : names.nodes ≡ nodes
  nodes_are = let e : Some (manager, nodes) ≡ Some (names.manager, names.nodes) = names.tells in let same : (manager, nodes) ≡ (names.manager, names.nodes) = cc e in sym (ap (λ (p : ℕ × List ℕ). p.1) same)

  manager_is : names.manager ≡ manager
  manager_is = let e : Some (manager, nodes) ≡ Some (names.manager, names.nodes) = names.tells in let same : (manager, nodes) ≡ (names.manager, names.nodes) = cc e in sym (ap (λ (p : ℕ × List ℕ). p.0) same)

  -- a node that it names has a fragment
  named_has : (n : ℕ) → Among n nodes → OnDisk disks n (HasFragment alice)
  named_has n among = ((names.exact n).0 (subst (Among n) (sym nodes_are) among)).1

  -- and one that has is named
  has_named : (n : ℕ) → Among n three_members → OnDisk disks n (HasFragment alice) → Among n nodes
  has_named n member on = subst (Among n) nodes_are ((names.exact n).1 (member, on))

pub one_too_many_is_refused : RefusesOneTooMany
one_too_many_is_refused = refuses_map maps_disks (Some (1, 1 ∷ 2 ∷ 3 ∷ [])) (omega arith, up_to_three)
    (λ names agree. no_fragment (there (HasFragment alice) (Boot 1 ∷ []) (named_has maps_disks 1 (1 ∷ 2 ∷ 3 ∷ []) names 3 (inr (inr (inl refl))))))

pub one_too_few_is_refused : RefusesOneTooFew
one_too_few_is_refused = refuses_map maps_disks (Some (1, 1 ∷ [])) (omega arith, first_alone)
    (λ names agree. absent (has_named maps_disks 1 (1 ∷ []) names 2 (inr (inl refl)) (with_copy, refl, copy_fragment)))
  where
    absent : Among {X = ℕ} 2 (1 ∷ []) → ⊥
    absent (inl is) = omega (arith, is)
    absent (inr none) = none

pub falling_is_refused : RefusesFalling
falling_is_refused = refuses_map maps_disks (Some (1, 2 ∷ 1 ∷ [])) (omega arith, falling)
    (λ names agree. let rising : AllPairs (λ (a b : ℕ). a < b) (2 ∷ 1 ∷ []) = subst (AllPairs (λ (a b : ℕ). a < b)) (nodes_are maps_disks 1 (2 ∷ 1 ∷ []) names) names.rising in
    omega (arith, rising 0 1 0 (omega arith) (omega arith)))

pub stranger_is_refused : RefusesStranger
stranger_is_refused = refuses_map maps_disks (Some (4, 1 ∷ 2 ∷ [])) (omega arith, both)
    (λ names agree. no_member (subst (λ (m : ℕ). Among m three_members) (manager_is maps_disks 4 (1 ∷ 2 ∷ []) names) names.member))
  where
    no_member : Among 4 three_members → ⊥
    no_member (inl is) = omega (arith, is)
    no_member (inr (inl is)) = omega (arith, is)
    no_member (inr (inr (inl is))) = omega (arith, is)
    no_member (inr (inr (inr none))) = none

pub nobody_is_refused : RefusesNobody
nobody_is_refused = refuses_map maps_disks None tt (λ names agree. none-some (names.manager, names.nodes) names.tells)

-- node 1 alone has a fragment
silent_exactly : (n : ℕ) → Among n (1 ∷ []) ↔ (Among n three_members × OnDisk silent_disks n (HasFragment alice))
silent_exactly n = (named n, has_it n)
  where
    named : (n : ℕ) → Among n (1 ∷ []) → Among n three_members × OnDisk silent_disks n (HasFragment alice)
    named n (inl is) = (inl is, subst (λ (k : ℕ). OnDisk silent_disks k (HasFragment alice)) is (with_copy, refl, copy_fragment))
    named n (inr none) = absurd none

    has_it : (n : ℕ) → Among n three_members × OnDisk silent_disks n (HasFragment alice) → Among n (1 ∷ [])
    has_it n (inl is, on) = inl is
    has_it n (inr (inl is), on) = absurd (no_fragment (there (HasFragment alice) (Boot 1 ∷ []) (subst (λ (k : ℕ). OnDisk silent_disks k (HasFragment alice)) (sym is) on)))
    has_it n (inr (inr (inl is)), on) = absurd (no_fragment (there (HasFragment alice) (Boot 1 ∷ []) (subst (λ (k : ℕ). OnDisk silent_disks k (HasFragment alice)) (sym is) on)))
    has_it n (inr (inr (inr none)), on) = absurd none

-- node 2 would have to say what node 1 says
disagree : MembersAgree silent_disks three_members → ⊥
disagree agree =
    let alike = there (SaysAlike (Message alice (nth_id 1)) copy_state) (Boot 1 ∷ [])
    (agree 1 2 (inl refl) (inr (inl refl)) (Message alice (nth_id 1)) copy_state (with_copy, refl, refl) refl) in
    none-some alike.other alike.says

pub silent_target_is_refused : RefusesSilentTarget
silent_target_is_refused = record {
  names = record {
    manager = 1;
    nodes = 1 ∷ [];
    tells = refl;
    member = inl refl;
    rising = AllPairs-cons (λ (a b : ℕ). a < b) 1 [] (All-nil _) (λ i j d low high. absurd (omega (arith, high)));
    exact = silent_exactly;
  };
  refuses = refuses_map silent_disks (Some (1, 1 ∷ [])) (omega arith, first_alone) (λ names agree. disagree agree);
}
