-- What is promised of a tape that ends in a map: where the map names what the disks of the members have, and these agree, the promises are kept.
use Rattle.std.proofs.Common.{◌≡◌, ℕ, Bool, true, false, List, [], ◌∷◌, ◌++◌, get_or, flat_map, Some, None, refl, sym, ap, ◌∙◌, subst, codes, append_assoc}
use Rattle.std.specs.List.{list_all}
use Rattle.std.proofs.lemmas.List.Concat.{flat_map-append}
use Rattle.mail_model.specs.Record.{Record}
use Rattle.mail_model.specs.Tape.{tape_order}
use Rattle.mail_model.specs.Tape.Order.{Say, Moves}
use Rattle.mail_model.specs.Tape.Protocol.{Pop}
use Rattle.mail_model.specs.Tape.ClusterOrder.{Settle, Maps}
use Rattle.session_model.specs.Acts.{Act}
use Rattle.session_model.specs.Acts.Act.{Opens, Makes}
use Rattle.session_model.specs.Events.ClusterEvent.{HasSettled, HasMapped}
use Rattle.session_model.specs.Sessions.{Session}
use Rattle.session_model.proofs.Cuts.{one_end}
use Rattle.standing_model.specs.Standing.{NamesFragments, MembersAgree}
use Rattle.fresh_sessions.specs.Acts.{ShowsMembers, OwesSettled}
use Rattle.fresh_sessions.specs.Kept.{KeepsSettled}
use Rattle.fresh_sessions.specs.Tapes.{FreshListsAll, SettledAgrees}
use Rattle.worked_settles.specs.FreshTape.{worked_plan}
use Rattle.worked_settles.specs.MapsTape.{ToldMap}
use Rattle.worked_settles.proofs.Formed.{members_are_one}
use Rattle.worked_settles.proofs.Passes.{passes_inside, both_pass}
use Rattle.worked_settles.proofs.Standing.{alice}

-- the map that an act tells
abbrev map_in : Act → ToldMap
map_in (Makes order (HasMapped user told)) = told
map_in act = None

-- and whose it is
abbrev user_in : Act → List ℕ
user_in (Makes (Maps user) event) = user
user_in act = []

-- an act that begins no session which reads mail
abbrev pub opens_no_reader : Act → Bool
opens_no_reader (Opens Pop node greeting) = false
opens_no_reader act = true

-- the acts of the last two lines
abbrev settles : Act
settles = Makes Settle HasSettled

abbrev maps : List ℕ → ToldMap → Act
maps user told = Makes (Maps user) (HasMapped user told)

module _ (before : List (List ℕ)) (front : List (List Act)) (members : List ℕ) (told : ToldMap) where
  -- all lines, and the acts of each
  abbrev lines : List (List ℕ)
  lines = before ++ codes "settle" ∷ codes "maps alice" ∷ []

  abbrev by_line : List (List Act)
  by_line = front ++ (settles ∷ []) ∷ (maps alice told ∷ []) ∷ []

  abbrev done : List Act
  done = flat_map (λ a. a) front

  acts_are : flat_map (λ a. a) by_line ≡ done ++ settles ∷ maps alice told ∷ []
  acts_are = flat_map-append (λ a. a) front ((settles ∷ []) ∷ (maps alice told ∷ []) ∷ [])

  last_line : (others : List (List ℕ)) (line : List ℕ) → lines ≡ others ++ line ∷ [] → codes "maps alice" ≡ line
  last_line others line are = (one_end (before ++ codes "settle" ∷ []) others _ _ (append_assoc before (codes "settle" ∷ []) (codes "maps alice" ∷ []) ∙ are)).1

  -- it is not freshly ended
  not_fresh : (disks : List (List Record)) (sessions : List Session) → FreshListsAll worked_plan lines by_line disks sessions
  not_fresh disks sessions members_too k name session asked at ended =
      let e = ended.ends in
      let last = last_line (e.before ++ e.settles ∷ e.opens ∷ e.names ∷ e.proves ∷ e.flows ∷ []) e.asks
      (e.are ∙ sym (append_assoc e.before (e.settles ∷ e.opens ∷ e.names ∷ e.proves ∷ e.flows ∷ []) (e.asks ∷ []))) in
      let never : Some (Moves (Maps alice)) ≡ Some (Say k ended.asking) = ap tape_order last ∙ e.ask in
      absurd cc

  module _ (shown : ShowsMembers worked_plan done members) (disks : List (List Record)) (named : NamesFragments disks members alice told) (agreed : MembersAgree disks members) where
    -- whoever says that the tape ends in a map says so of these members, of alice, and of what was told
    moved : (acts : List Act) (others : List ℕ) (user : List ℕ) (other : ToldMap) → done ≡ acts → ShowsMembers worked_plan acts others → alice ≡ user → told ≡ other
        → NamesFragments disks others user other × MembersAgree disks others
    moved acts others user other same shown_too same_user same_map =
        subst (λ (m : List ℕ). NamesFragments disks m user other × MembersAgree disks m)
        (members_are_one worked_plan done members others shown (subst (λ (l : List Act). ShowsMembers worked_plan l others) (sym same) shown_too))
        (subst (λ (u : List ℕ). NamesFragments disks members u other) same_user (subst (NamesFragments disks members alice) same_map named), agreed)

    agrees_where : SettledAgrees worked_plan lines by_line disks
    agrees_where others user other ends =
        let asked : Some (Moves (Maps alice)) ≡ Some (Moves (Maps user)) =
        ap tape_order (last_line (ends.before ++ ends.settles ∷ []) ends.asks (ends.are ∙ sym (append_assoc ends.before (ends.settles ∷ []) (ends.asks ∷ [])))) ∙ ends.ask in
        let line = one_end (front ++ (settles ∷ []) ∷ []) (ends.settled.front ++ (settles ∷ []) ∷ []) (maps alice told ∷ []) (maps user other ∷ [])
        (append_assoc front ((settles ∷ []) ∷ []) ((maps alice told ∷ []) ∷ []) ∙ ends.settled.split ∙ sym (append_assoc ends.settled.front ((settles ∷ []) ∷ []) ((maps user other ∷ []) ∷ []))) in
        let fronts = (one_end front ends.settled.front (settles ∷ []) (settles ∷ []) line.0).0 in
        let last = ap (λ (l : List Act). get_or l 0 (maps alice told)) line.1 in
        moved (flat_map (λ a. a) ends.settled.front) others user other (ap (flat_map (λ a. a)) fronts) ends.settled.shown (ap user_in last) (ap map_in last)

    pub keeps_where : (sessions : List Session) → KeepsSettled worked_plan lines by_line disks sessions
    keeps_where sessions = record { fresh_lists_all = not_fresh disks sessions; settled_agrees = agrees_where }

    pub owes_where : list_all opens_no_reader done ≡ true → OwesSettled worked_plan disks (flat_map (λ a. a) by_line)
    owes_where none_reads = record {
      fresh = λ first behind others node greeting are.
          let never : false ≡ true = (passes_inside opens_no_reader (first ++ settles ∷ []) behind (Opens Pop node greeting) (opens_none first behind node greeting are)).1 in cc;
      maps = λ first others user other are shown_too.
          let ends = one_end (done ++ settles ∷ []) (first ++ settles ∷ []) (maps alice told) (maps user other) (in_two first user other are) in
          moved first others user other (one_end done first settles settles ends.0).0 shown_too (ap user_in ends.1) (ap map_in ends.1);
    }
      where
        opens_none : (first behind : List Act) (node : ℕ) (greeting : List ℕ) → flat_map (λ a. a) by_line ≡ first ++ settles ∷ Opens Pop node greeting ∷ behind
            → list_all opens_no_reader ((first ++ settles ∷ []) ++ Opens Pop node greeting ∷ behind) ≡ true
        opens_none first behind node greeting are =
            ap (list_all opens_no_reader) (append_assoc first (settles ∷ []) (Opens Pop node greeting ∷ behind) ∙ sym are ∙ acts_are)
            ∙ both_pass opens_no_reader done (settles ∷ maps alice told ∷ []) none_reads refl

        in_two : (first : List Act) (user : List ℕ) (other : ToldMap) → flat_map (λ a. a) by_line ≡ first ++ settles ∷ maps user other ∷ []
            → (done ++ settles ∷ []) ++ maps alice told ∷ [] ≡ (first ++ settles ∷ []) ++ maps user other ∷ []
        in_two first user other are =
            append_assoc done (settles ∷ []) (maps alice told ∷ []) ∙ sym acts_are ∙ are ∙ sym (append_assoc first (settles ∷ []) (maps user other ∷ []))
