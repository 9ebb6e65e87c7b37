-- The freshly ended tape with the right listing: what is owed of its end is given, and the promises are kept.
use Rattle.std.proofs.Common.{◌≡◌, inl, inr, ◌+◌, ℕ, Bool, true, false, List, [], ◌∷◌, ◌++◌, length, get_or, map, flat_map, All, Option, Some, refl, sym, ap, ◌∙◌, subst, codes, append_assoc}
use Rattle.std.specs.List.{list_all}
use Rattle.std.proofs.lemmas.List.Concat.{flat_map-append}
use Rattle.mail_model.specs.Maildrop.{Given}
use Rattle.mail_model.specs.PopReplies.{Item}
use Rattle.mail_model.specs.Tape.{tape_order}
use Rattle.mail_model.specs.Tape.Protocol.{Pop}
use Rattle.mail_model.specs.Tape.Order.{Say, Moves}
use Rattle.mail_model.specs.Tape.ClusterOrder.{Settle, Maps}
use Rattle.session_model.specs.Calls.{Call, Answer}
use Rattle.session_model.specs.Calls.Call.{Login}
use Rattle.session_model.specs.Calls.Answer.{Listed}
use Rattle.session_model.specs.Acts.{Act, opened_by}
use Rattle.session_model.specs.Acts.Act.{Opens, Makes}
use Rattle.session_model.specs.Books.{AmongAnswers}
use Rattle.session_model.specs.Events.ClusterEvent.{HasSettled, HasMapped}
use Rattle.session_model.specs.Logs.{Answered, answered_by}
use Rattle.standing_model.specs.Standing.{AreStanding}
use Rattle.fresh_sessions.specs.Acts.{IsReaderAct, ShowsMembers, OwesSettled}
use Rattle.fresh_sessions.specs.Tapes.{SettledAgrees}
use Rattle.worked_sessions.proofs.WrongStores.{same_end}
use Rattle.object_model.specs.Lists.{Among}
use Rattle.worked_settles.specs.FreshTape.{FreshTapeIsMet, worked_plan, three_members, told_lines, fresh_lines, fresh_acts, fresh_disks, right_items, ids_reply}
use Rattle.worked_settles.proofs.Formed.{is_quiet, none_formed, opening_members}
use Rattle.worked_settles.proofs.Standing.{alice, both_stand}
use Rattle.worked_settles.proofs.FreshEnd.{is_fresh_run}
use Rattle.worked_settles.proofs.FreshPromise.{lists_all}
use Rattle.std.specs.Fmt.{decimal}
use Rattle.worked_settles.proofs.Passes.{passes_inside}
use Rattle.worked_settles.proofs.Digits.{digit_one, digit_two}

-- an answer behind others is one of all
answered_behind : (one : Answered) (front back : List Answered) → AmongAnswers one back → AmongAnswers one (front ++ back)
answered_behind one [] back is = is
answered_behind one (other ∷ front) back is = inr (answered_behind one front back is)

-- an act that tells no map
abbrev tells_no_map : Act → Bool
tells_no_map (Makes (Maps user) event) = false
tells_no_map act = true

abbrev acts : List Act
acts = flat_map (λ a. a) (fresh_acts right_items)

-- whom a login lets in, and what it lists
abbrev user_in : Call → List ℕ
user_in (Login user given) = user
user_in call = []

abbrev items_in : Answer → List Item
items_in (Listed items) = items
items_in answer = []

-- the one login
one_login : (session : ℕ) (user : List ℕ) (given : Given) (items : List Item) → AmongAnswers (record { session = session; call = Login user given; answer = Listed items }) (flat_map answered_by acts)
    → (alice ≡ user) × (right_items ≡ items)
one_login session user given items (inl is) = let never = ap (λ (one : Answered). one.call) is in cc
one_login session user given items (inr (inl is)) = let never = ap (λ (one : Answered). one.call) is in cc
one_login session user given items (inr (inr (inl is))) = (ap (λ (one : Answered). user_in one.call) is, ap (λ (one : Answered). items_in one.answer) is)
one_login session user given items (inr (inr (inr none))) = absurd none

owes_fresh : (before behind : List Act) (members : List ℕ) (node : ℕ) (greeting : List ℕ) → acts ≡ before ++ Makes Settle HasSettled ∷ Opens Pop node greeting ∷ behind
    → All IsReaderAct behind → ShowsMembers worked_plan before members → Among node members → (user : List ℕ) (given : Given) (items : List Item)
    → AmongAnswers (record { session = length (flat_map opened_by before) + 1; call = Login user given; answer = Listed items }) (flat_map answered_by behind)
    → AreStanding fresh_disks members user (map (λ (item : Item). item.id) items)
owes_fresh before behind members node greeting are readers shown member user given items among =
    let one : Answered = record { session = length (flat_map opened_by before) + 1; call = Login user given; answer = Listed items } in
    let in_all : AmongAnswers one (flat_map answered_by acts) =
    subst (λ (l : List Act). AmongAnswers one (flat_map answered_by l)) (sym are)
    (subst (AmongAnswers one) (sym (flat_map-append answered_by before (Makes Settle HasSettled ∷ Opens Pop node greeting ∷ behind)))
    (answered_behind one (flat_map answered_by before) (flat_map answered_by behind) among)) in
    let login_is = one_login (length (flat_map opened_by before) + 1) user given items in_all in
    let quiet : list_all is_quiet before ≡ true = (passes_inside is_quiet before (Opens Pop node greeting ∷ behind) (Makes Settle HasSettled) (ap (list_all is_quiet) (sym are))).0 in
    let all_nodes : members ≡ three_members = opening_members worked_plan before members (none_formed before quiet) shown in
    subst (λ (m : List ℕ). AreStanding fresh_disks m user (map (λ (item : Item). item.id) items)) (sym all_nodes)
    (subst (λ (n : List ℕ). AreStanding fresh_disks three_members n (map (λ (item : Item). item.id) items)) login_is.0
    (subst (λ (l : List Item). AreStanding fresh_disks three_members alice (map (λ (item : Item). item.id) l)) login_is.1 both_stand))

owes : OwesSettled worked_plan fresh_disks acts
owes = record {
  fresh = owes_fresh;
  maps = λ before members user told are shown.
      let never : false ≡ true = (passes_inside tells_no_map (before ++ Makes Settle HasSettled ∷ []) [] (Makes (Maps user) (HasMapped user told)) (tells_none before user told are)).1 in cc;
}
  where
    tells_none : (before : List Act) (user : List ℕ) (told : Option (ℕ × List ℕ)) → acts ≡ before ++ Makes Settle HasSettled ∷ Makes (Maps user) (HasMapped user told) ∷ []
        → list_all tells_no_map ((before ++ Makes Settle HasSettled ∷ []) ++ Makes (Maps user) (HasMapped user told) ∷ []) ≡ true
    tells_none before user told are = ap (list_all tells_no_map) (append_assoc before (Makes Settle HasSettled ∷ []) (Makes (Maps user) (HasMapped user told) ∷ []) ∙ sym are)

-- it ends in no map
no_map : SettledAgrees worked_plan fresh_lines (fresh_acts right_items) fresh_disks
no_map members user told ends =
    let last : codes "flow" ∷ codes "say 2 UIDL" ∷ [] ≡ ends.settles ∷ ends.asks ∷ [] =
    same_end (told_lines ++ codes "settle" ∷ codes "open pop 1" ∷ codes "say 2 USER alice" ∷ codes "say 2 PASS tanstaaf" ∷ []) ends.before _ _ ends.are refl in
    let never : Some (Say 2 (codes "UIDL")) ≡ Some (Moves (Maps user)) = ap (λ (l : List (List ℕ)). tape_order (get_or l 1 [])) last ∙ ends.ask in
    cc

-- the lines of the reply, where digits are spelt so
abbrev lines_with : List ℕ → List ℕ → List (List ℕ)
lines_with d e =
    codes "+OK unique ids" ∷ (d ++ codes " " ++ (d ++ 46 ∷ [] ++ d ++ 46 ∷ [] ++ d)) ∷ (e ++ codes " " ++ (d ++ 46 ∷ [] ++ d ++ 46 ∷ [] ++ e)) ∷ codes "." ∷ []

shows_both : ids_reply right_items ≡ codes "+OK unique ids" ∷ codes "1 1.1.1" ∷ codes "2 1.1.2" ∷ codes "." ∷ []
shows_both = ap (λ (d : List ℕ). lines_with d (decimal 2)) digit_one ∙ ap (lines_with (codes "1")) digit_two

pub fresh_tape_is_met : FreshTapeIsMet
fresh_tape_is_met = record {
  runs = is_fresh_run;
  stand = both_stand;
  shows = shows_both;
  owes = owes;
  kept = record { fresh_lists_all = lists_all right_items fresh_disks both_stand; settled_agrees = no_map };
}
