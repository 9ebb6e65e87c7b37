-- A ticket is fair from its beginning to its answer.
use Rattle.std.proofs.Common.{◌≡◌, ◌≢◌, ◌⊎◌, inl, inr, ⊎_elim, ◌<◌, ◌≤◌, ◌+◌, ◌-◌, ◌^◌, ℕ, zero, suc, Bool, true, false, cond, not, ◌&&◌, ◌||◌, List, [], ◌∷◌, map, Option, Some, None, refl, sym, ap, ◌∙◌, subst, arith, true≢false, bit_or, if◌then◌else◌, le_trans}
use Rattle.std.specs.Prelude.{nat_le, nat_lt}
use Rattle.std.specs.List.{list_all}
use Rattle.std.proofs.lemmas.Bool.{and_from}
use Rattle.std.proofs.lemmas.Bool.Decides.{nat_tests}
use Rattle.object_model.specs.Lists.{Among}
use Rattle.object_model.specs.Sets.{has, with_node, without_node, count_in}
use Rattle.object_model.specs.Letters.{Body}
use Rattle.object_model.specs.Mishaps.{MishapKind, Mishaps, one_more, counted, mishaps_of}
use Rattle.object_model.specs.Mishaps.MishapKind.{FewMembers, Year, Dropped as WasDropped, Stale, Down, Disk, Crowded}
use Rattle.cluster_model.specs.Cluster.{NodeFiling, AskedOfNodes, Want, CallKind, Ticket}
use Rattle.cluster_model.specs.Cluster.AskedOfNodes.{Copies, Deletion}
use Rattle.cluster_model.specs.Rules.{StrikeItem, tells, new_want, told_want, told_ticket, failed_want}
use Rattle.cluster_model.specs.Progress.{is_confirmed, can_be_confirmed, has_failed, answer_once_confirmed, pending_of_call, ask_of_wants, ask_of}
use Rattle.cluster_model.specs.Progress.NodeAnswer.{Failed}
use Rattle.cluster_model.specs.Progress.Ask.{Done}
use Rattle.cluster_model.specs.RuleLaws.{IsNodeAsked}
use Rattle.cluster_model.specs.TicketLaws.{all_asked, IsFair, delivery_ticket, deletion_ticket}
use Rattle.object_model.proofs.SetLaws.{or_has, has_left, has_right, left_in, has_none}
use Rattle.cluster_model.proofs.Filing.{among_map}
use Rattle.cluster_model.proofs.Counting.{count_le}
use Rattle.cluster_model.proofs.Ruled.{asked_told, asked_failed, begins_asked}

-- whoever is asked is in the set of all asked, and the other way round
in_all : (want : Want) (m : ℕ) → IsNodeAsked want m → has (all_asked want) m ≡ true
in_all want m asked = ⊎_elim
    (λ c. has_left want.confirmed (bit_or want.waiting want.failed) m c)
    (λ other. has_right want.confirmed (bit_or want.waiting want.failed) m (⊎_elim (λ w. has_left want.waiting want.failed m w) (λ f. has_right want.waiting want.failed m f) other))
    asked

of_all : (want : Want) (m : ℕ) → has (all_asked want) m ≡ true → IsNodeAsked want m
of_all want m h = ⊎_elim (λ c. inl c) (λ other. inr (or_has want.waiting want.failed m other)) (or_has want.confirmed (bit_or want.waiting want.failed) m h)

no_fewer : (confirm : ℕ) (old new : Want) → ((m : ℕ) → IsNodeAsked old m → IsNodeAsked new m) → confirm ≤ count_in (all_asked old) → confirm ≤ count_in (all_asked new)
no_fewer confirm old new more le = le_trans le (count_le (all_asked old) (all_asked new) (λ m h. in_all new m (more m (of_all old m h))) 64)

-- a count of mishaps that rose is above 0
pub counted_some : (kind : MishapKind) (m : Mishaps) → 0 < mishaps_of (counted kind m)
counted_some kind m = by kind
  where
    some : (c : ℕ) → 0 < one_more c
    some c = by (nat_lt c (2 ^ 64 - 1)) refl
      where
        by : (b : Bool) → nat_lt c (2 ^ 64 - 1) ≡ b → 0 < cond b (c + 1) c
        by true e = omega arith
        by false e = above c e
          where
            above : (c : ℕ) → nat_lt c (2 ^ 64 - 1) ≡ false → 0 < c
            above zero f = absurd (true≢false f)
            above (suc k) f = omega arith

    by : (kind : MishapKind) → 0 < mishaps_of (counted kind m)
    by FewMembers = let s = some m.few_members in omega (arith, s)
    by Year = let s = some m.year in omega (arith, s)
    by WasDropped = let s = some m.dropped in omega (arith, s)
    by Stale = let s = some m.stale in omega (arith, s)
    by Down = let s = some m.down in omega (arith, s)
    by Disk = let s = some m.disk in omega (arith, s)
    by Crowded = let s = some m.crowded in omega (arith, s)

not_empty : {X Y : Type 0} (f : X → Y) (xs : List X) → map f xs ≡ [] → xs ≡ []
not_empty f [] e = refl
not_empty f (x ∷ xs) e = absurd (cc e)

pub begin_fair : (confirm own : ℕ)
    → ((filing : NodeFiling) (targets : ℕ) → confirm ≤ count_in targets → IsFair confirm (delivery_ticket own filing targets))
    × ((user : List ℕ) (items : List StrikeItem) → items ≢ [] → ((item : StrikeItem) → Among item items → confirm ≤ count_in item.asks) → IsFair confirm (deletion_ticket own user items))
    × ((kind : CallKind) (mishaps : Mishaps) → 0 < mishaps_of mishaps → IsFair confirm (record { kind = kind; wants = []; mishaps = mishaps }))
begin_fair confirm own = (
  λ filing targets le. record {
    enough = λ want m. ⊎_elim (λ is. subst (λ (w : Want). confirm ≤ count_in (all_asked w)) is (begins (Copies filing) targets le)) (λ none. absurd none) m;
    caused = λ want m n h. ⊎_elim (λ is. absurd (true≢false (sym (subst (λ (w : Want). has w.failed n ≡ true) (sym is) h) ∙ has_none n))) (λ none. absurd none) m;
    at_once = λ e. absurd (cc e);
  },
  λ user items some each. record {
    enough = λ want m. let r = among_map (λ (item : StrikeItem). new_want own (Deletion user item.mark.id) item.asks) want items m in
        subst (λ (w : Want). confirm ≤ count_in (all_asked w)) r.2 (begins (Deletion user r.0.mark.id) r.0.asks (each r.0 r.1));
    caused = λ want m n h. let r = among_map (λ (item : StrikeItem). new_want own (Deletion user item.mark.id) item.asks) want items m in
        absurd (true≢false (sym (subst (λ (w : Want). has w.failed n ≡ true) (sym r.2) h) ∙ has_none n));
    at_once = λ e. absurd (some (not_empty (λ (item : StrikeItem). new_want own (Deletion user item.mark.id) item.asks) items e));
  },
  λ kind mishaps above. record { enough = λ want m. absurd m; caused = λ want m. absurd m; at_once = λ e. above },
)
  where
    begins : (asked : AskedOfNodes) (targets : ℕ) → confirm ≤ count_in targets → confirm ≤ count_in (all_asked (new_want own asked targets))
    begins asked targets le = le_trans le (count_le targets (all_asked (new_want own asked targets)) (λ m h. in_all (new_want own asked targets) m (begins_asked own asked targets m h)) 64)

told_failed : (body : Body) (from : ℕ) (want : Want) (m : ℕ) → has (told_want body from want).failed m ≡ true → has want.failed m ≡ true
told_failed body from want m h = by (tells body want.asked && (has want.waiting from || has want.failed from)) h
  where
    by : (b : Bool) → has ((λ (w : Want). w.failed) (if b then record want { confirmed = with_node want.confirmed from; waiting = without_node want.waiting from; failed = without_node want.failed from } else want)) m ≡ true → has want.failed m ≡ true
    by true g = (left_in want.failed from m g).0
    by false g = g

pub stay_fair : (confirm : ℕ) (ticket : Ticket) → IsFair confirm ticket
    → ((body : Body) (from : ℕ) → IsFair confirm (told_ticket body from ticket))
    × ((kind : MishapKind) (at : ℕ) → IsFair confirm (record ticket { wants = map (failed_want at) ticket.wants; mishaps = counted kind ticket.mishaps }))
stay_fair confirm ticket fair = (
  λ body from. record {
    enough = λ want m. let r = among_map (told_want body from) want ticket.wants m in
        subst (λ (w : Want). confirm ≤ count_in (all_asked w)) r.2 (no_fewer confirm r.0 (told_want body from r.0) (λ n a. asked_told body from r.0 n a) (fair.enough r.0 r.1));
    caused = λ want m n h. let r = among_map (told_want body from) want ticket.wants m in
        fair.caused r.0 r.1 n (told_failed body from r.0 n (subst (λ (w : Want). has w.failed n ≡ true) (sym r.2) h));
    at_once = λ e. fair.at_once (not_empty (told_want body from) ticket.wants e);
  },
  λ kind at. record {
    enough = λ want m. let r = among_map (failed_want at) want ticket.wants m in
        subst (λ (w : Want). confirm ≤ count_in (all_asked w)) r.2 (no_fewer confirm r.0 (failed_want at r.0) (λ n a. asked_failed at r.0 n a) (fair.enough r.0 r.1));
    caused = λ want m n h. counted_some kind ticket.mishaps;
    at_once = λ e. counted_some kind ticket.mishaps;
  },
)

le_of : (a b : ℕ) → a ≤ b → nat_le a b ≡ true
le_of a b le = grind (arith, nat_tests)

-- where no node has failed, all may still be confirmed
can_all : (confirm : ℕ) (wants : List Want) → ((want : Want) → Among want wants → (confirm ≤ count_in (all_asked want)) × ((m : ℕ) → has want.failed m ≡ true → ⊥)) → list_all (can_be_confirmed confirm) wants ≡ true
can_all confirm [] each = refl
can_all confirm (want ∷ wants) each =
    let e = each want (inl refl) in
    and_from (can_be_confirmed confirm want) (list_all (can_be_confirmed confirm) wants)
    (le_of confirm (count_in (bit_or want.confirmed want.waiting)) (le_trans e.0 (count_le (all_asked want) (bit_or want.confirmed want.waiting) (λ m h. ⊎_elim
    (λ c. has_left want.confirmed want.waiting m c)
    (λ other. ⊎_elim (λ w. has_right want.confirmed want.waiting m w) (λ f. absurd (e.1 m f)) other)
    (of_all want m h)) 64)))
    (can_all confirm wants (λ w k. each w (inr k)))

-- a call fails only where it had a mishap
pub failed_cause : (confirm : ℕ) (ticket : Ticket) (mishaps : Mishaps) → IsFair confirm ticket → ask_of confirm ticket ≡ Done (Failed mishaps) → 0 < mishaps_of mishaps
failed_cause confirm ticket mishaps fair e = by e (nat_lt 0 (mishaps_of ticket.mishaps)) refl
  where
    done_same : (a b : Mishaps) → Done (Failed a) ≡ Done (Failed b) → a ≡ b
    done_same a b f = cc

    stored_not : (wants : List Want) (want : Want) (asked : AskedOfNodes) (m : Mishaps) → Done (answer_once_confirmed wants want asked) ≡ Done (Failed m) → ⊥
    stored_not wants want (Copies filing) m f = cc
    stored_not wants want (Deletion user id) m f = cc

    pending_not : (wants : List Want) (want : Want) (asked : AskedOfNodes) (m : Mishaps) → pending_of_call confirm wants want asked ≡ Done (Failed m) → ⊥
    pending_not wants want (Copies filing) m f = cc
    pending_not wants want (Deletion user id) m f = cc

    not_both : (b : Bool) → b ≡ true → not b ≡ true → ⊥
    not_both true p q = absurd (true≢false (sym q))
    not_both false p q = absurd (true≢false (sym p))

    -- an ask that says so comes of this ticket's mishaps, and where it had none there is no such ask
    goes : (wants : List Want) → ticket.wants ≡ wants → ask_of_wants confirm ticket.mishaps wants ≡ Done (Failed mishaps) → (ticket.mishaps ≡ mishaps) × ((wants ≡ []) ⊎ (list_all (can_be_confirmed confirm) wants ≡ false))
    goes [] is f = (done_same ticket.mishaps mishaps f, inl refl)
    goes (want ∷ wants) is f = pick (list_all (is_confirmed confirm) (want ∷ wants)) (list_all (can_be_confirmed confirm) (want ∷ wants)) refl f
      where
        pick : (a c : Bool) → list_all (can_be_confirmed confirm) (want ∷ wants) ≡ c
            → (if a then Done (answer_once_confirmed (want ∷ wants) want want.asked) else (if not c then Done (Failed ticket.mishaps) else pending_of_call confirm (want ∷ wants) want want.asked)) ≡ Done (Failed mishaps)
            → (ticket.mishaps ≡ mishaps) × (((want ∷ wants) ≡ []) ⊎ (list_all (can_be_confirmed confirm) (want ∷ wants) ≡ false))
        pick true c p g = absurd (stored_not (want ∷ wants) want want.asked mishaps g)
        pick false true p g = absurd (pending_not (want ∷ wants) want want.asked mishaps g)
        pick false false p g = (done_same ticket.mishaps mishaps g, inr p)

    above : (n : ℕ) → nat_lt 0 n ≡ true → 0 < n
    above n f = grind (arith, nat_tests)

    none : (n : ℕ) → nat_lt 0 n ≡ false → 0 < n → ⊥
    none n f lt = true≢false (sym (grind (arith, nat_tests)) ∙ f)

    by : ask_of_wants confirm ticket.mishaps ticket.wants ≡ Done (Failed mishaps) → (b : Bool) → nat_lt 0 (mishaps_of ticket.mishaps) ≡ b → 0 < mishaps_of mishaps
    by e true f = subst (λ (m : Mishaps). 0 < mishaps_of m) (goes ticket.wants refl e).0 (above (mishaps_of ticket.mishaps) f)
    by e false f = absurd (⊎_elim
        (λ empty. none (mishaps_of ticket.mishaps) f (fair.at_once empty))
        (λ few. true≢false (sym (can_all confirm ticket.wants (λ want m. (fair.enough want m, λ n h. none (mishaps_of ticket.mishaps) f (fair.caused want m n h)))) ∙ few))
        (goes ticket.wants refl e).1)

-- where all have answered and none failed, all are confirmed
confirmed_all : (confirm : ℕ) (wants : List Want) → ((want : Want) → Among want wants → (confirm ≤ count_in (all_asked want)) × (want.waiting ≡ 0) × (want.failed ≡ 0)) → list_all (is_confirmed confirm) wants ≡ true
confirmed_all confirm [] each = refl
confirmed_all confirm (want ∷ wants) each =
    let e = each want (inl refl) in
    and_from (is_confirmed confirm want) (list_all (is_confirmed confirm) wants)
    (le_of confirm (count_in want.confirmed) (le_trans e.0 (count_le (all_asked want) want.confirmed (λ m h. ⊎_elim
    (λ c. c)
    (λ other. ⊎_elim (λ w. absurd (nobody want.waiting m e.1 w)) (λ f. absurd (nobody want.failed m e.2 f)) other)
    (of_all want m h)) 64)))
    (confirmed_all confirm wants (λ w k. each w (inr k)))
  where
    nobody : (mask m : ℕ) → mask ≡ 0 → has mask m ≡ true → ⊥
    nobody mask m is h = true≢false (sym h ∙ ap (λ s. has s m) is ∙ has_none m)

pub heard_done : (confirm : ℕ) (ticket : Ticket) (want : Want) (wants : List Want) → IsFair confirm ticket → ticket.wants ≡ want ∷ wants
    → ((one : Want) → Among one ticket.wants → (one.waiting ≡ 0) × (one.failed ≡ 0)) → ask_of confirm ticket ≡ Done (answer_once_confirmed (want ∷ wants) want want.asked)
heard_done confirm ticket want wants fair is heard = ap (ask_of_wants confirm ticket.mishaps) is
    ∙ ap (λ b. if b then Done (answer_once_confirmed (want ∷ wants) want want.asked) else (if has_failed confirm (want ∷ wants) then Done (Failed ticket.mishaps) else pending_of_call confirm (want ∷ wants) want want.asked))
    (confirmed_all confirm (want ∷ wants) (λ one m. let there = subst (Among one) (sym is) m in let h = heard one there in (fair.enough one there, h.0, h.1)))
