-- Run lines that are accepted one after another, whatever comes of each, as long as no node failed and nobody waits where one node is all there is.
use Rattle.std.proofs.Common.{◌≡◌, ◌≤◌, ℕ, List, [], ◌∷◌, ◌++◌, length, flat_map, refl, sym, ◌∙◌, subst, append_assoc, append-nil}
use Rattle.std.specs.Prelude.{⊤}
use Rattle.std.proofs.lemmas.List.Concat.{flat_map-append}
use Rattle.mail_model.specs.Plan.{Plan}
use Rattle.mail_model.specs.Transcript.{Entry}
use Rattle.object_model.specs.Letters.{MapRow}
use Rattle.session_model.specs.Sessions.{Session}
use Rattle.session_model.specs.Acts.{Act}
use Rattle.session_model.specs.Lives.{failed_by, failed_in}
use Rattle.session_model.specs.Run.{IsHandled, AreHandled}
use Rattle.cluster_model.specs.Room.{Flight}
use Rattle.cluster_model.specs.Starts.{first_membership}
use Rattle.maps_model.specs.Words.{ManagersAreMembers}
use Rattle.joint_world.specs.World.{World}
use Rattle.joint_world.specs.First.{first_world}
use Rattle.accepted_tapes.specs.Follows.{Standing, FollowsAll}
use Rattle.accepted_tapes.specs.Accepted.{IsAccepted}
use Rattle.accepted_tapes.proofs.OneSession.{Idles}
use Rattle.accepted_tapes.proofs.Flown.{Keeps}

-- What is known before a line: nothing was done, and there is no session; there is just this one, and no call has begun; there is one that idles, and these letters are in flight
-- with some octets of a message, the last of this number; there is one that idles; or nothing.
pub data Stage : Type 0 where
  Fresh : Stage
  One : (session : Session) → Stage
  Flown : (flying : List ℕ → List Flight) (sent : ℕ) → Stage
  On : Stage
  Unknown : Stage

-- the cluster has just opened, and members alone manage users
abbrev pub HasOpened : Plan → World → Type 0
HasOpened plan w = (map : List MapRow) × ManagersAreMembers (first_membership plan.nodes map) × (w ≡ first_world plan.nodes map)

abbrev pub Meets : Plan → Stage → List Act → List Session → List Standing → World → Type 0
Meets plan Fresh been sessions calls w = (been ≡ []) × (sessions ≡ []) × (calls ≡ []) × HasOpened plan w
Meets plan (One session) been sessions calls w = (sessions ≡ session ∷ []) × (calls ≡ []) × HasOpened plan w
Meets plan (Flown flying sent) been sessions calls w = (session : Session) × (sessions ≡ session ∷ []) × Idles session
    × ((octets : List ℕ) × (length octets ≤ 4096) × Keeps plan (flying octets) sent w)
Meets plan On been sessions calls w = (session : Session) × (sessions ≡ session ∷ []) × Idles session
Meets plan Unknown been sessions calls w = ⊤

-- The line is accepted where this much is known, and leads to what is known then. The run lines of the tape are `all`.
pub record Leads (plan : Plan) (all : List (List ℕ)) (line : List ℕ) (before after : Stage) : Type 0 where
  pub accepts : (been : List Act) (sessions : List Session) (calls : List Standing) (w : World) → Meets plan before been sessions calls w → IsAccepted plan been sessions calls w line
  pub moves : (been : List Act) (sessions : List Session) (calls : List Standing) (w : World) (acts : List Act) (outputs : List (List Entry)) (new : List Session) (left : List Standing) (next : World)
      → Meets plan before been sessions calls w → IsHandled plan been sessions line acts outputs new → FollowsAll plan all acts calls w left next → failed_in acts ≡ []
      → Meets plan after (been ++ acts) new left next

-- lines, one after another
abbrev pub Chained : Plan → List (List ℕ) → List (List ℕ) → Stage → Type 0
Chained plan all [] before = ⊤
Chained plan all (line ∷ lines) before = (after : Stage) × Leads plan all line before after × Chained plan all lines after

no_line : (front : List (List ℕ)) (line : List ℕ) (rest : List (List ℕ)) → [] ≡ front ++ line ∷ rest → ⊥
no_line [] line rest e = cc
no_line (x ∷ front) line rest e = cc

both_empty : (xs ys : List ℕ) → xs ++ ys ≡ [] → (xs ≡ []) × (ys ≡ [])
both_empty [] ys e = (sym (append-nil []), e)
both_empty (x ∷ xs) ys e = absurd (some x (xs ++ ys) e)
  where
    some : (y : ℕ) (more : List ℕ) → y ∷ more ≡ [] → ⊥
    some y more is = cc

-- what follows of acts, and then of more
record Apart (plan : Plan) (all : List (List ℕ)) (acts more : List Act) (calls : List Standing) (w : World) (left : List Standing) (last : World) : Type 0 where
  between : List Standing
  mid : World
  first : FollowsAll plan all acts calls w between mid
  rest : FollowsAll plan all more between mid left last

apart : (plan : Plan) (all : List (List ℕ)) (acts more : List Act) (calls : List Standing) (w : World) (left : List Standing) (last : World) → FollowsAll plan all (acts ++ more) calls w left last
    → Apart plan all acts more calls w left last
apart plan all [] more calls w left last follows = record { between = calls; mid = w; first = (refl, refl); rest = follows }
apart plan all (act ∷ acts) more calls w left last (between, mid, one, follows) =
    let a = apart plan all acts more between mid left last follows in
    record { between = a.between; mid = a.mid; first = (between, mid, one, a.first); rest = a.rest }

pub chain_accepts : (plan : Plan) (all lines : List (List ℕ)) (before : Stage) → Chained plan all lines before → (been : List Act) (sessions : List Session) (calls : List Standing) (w : World)
    → Meets plan before been sessions calls w
    → (front : List (List ℕ)) (line : List ℕ) (rest : List (List ℕ)) (acts : List (List Act)) (outputs : List (List (List Entry))) (last : List Session) (left : List Standing) (next : World)
    → lines ≡ front ++ line ∷ rest → AreHandled plan been sessions front acts outputs last → FollowsAll plan all (flat_map (λ a. a) acts) calls w left next → failed_in (flat_map (λ a. a) acts) ≡ []
    → IsAccepted plan (been ++ flat_map (λ a. a) acts) last left next line
chain_accepts plan all [] before chain been sessions calls w meets front line rest acts outputs last left next split runs follows sound = absurd (no_line front line rest split)
chain_accepts plan all (l ∷ lines) before chain been sessions calls w meets [] line rest [] [] last left next split runs follows sound =
    let same : l ≡ line = cc in
    subst (λ (x : List ℕ). IsAccepted plan (been ++ []) last left next x) same
    (subst (λ (b : List Act). IsAccepted plan b last left next l) (sym (append-nil been))
    (subst (λ (s : List Session). IsAccepted plan been s left next l) (sym runs)
    (subst (λ (c : List Standing). IsAccepted plan been sessions c next l) (sym follows.0)
    (subst (λ (v : World). IsAccepted plan been sessions calls v l) (sym follows.1) (chain.1.accepts been sessions calls w meets)))))
chain_accepts plan all (l ∷ lines) before chain been sessions calls w meets (x ∷ front) line rest (a ∷ acts) (o ∷ outputs) last left next split runs follows sound =
    let same : l ≡ x = cc in
    let later : lines ≡ front ++ line ∷ rest = cc in
    let parts = both_empty (failed_in a) (failed_in (flat_map (λ b. b) acts)) (sym (flat_map-append failed_by a (flat_map (λ b. b) acts)) ∙ sound) in
    let handled : IsHandled plan been sessions l a o runs.0 = subst (λ (v : List ℕ). IsHandled plan been sessions v a o runs.0) (sym same) runs.1 in
    let p = apart plan all a (flat_map (λ b. b) acts) calls w left next follows in
    let met = chain.1.moves been sessions calls w a o runs.0 p.between p.mid meets handled p.first parts.0 in
    subst (λ (b : List Act). IsAccepted plan b last left next line) (append_assoc been a (flat_map (λ b. b) acts))
    (chain_accepts plan all lines chain.0 chain.2 (been ++ a) runs.0 p.between p.mid met front line rest acts outputs last left next later runs.2 p.rest parts.1)
chain_accepts plan all (l ∷ lines) before chain been sessions calls w meets front line rest acts outputs last left next split runs follows sound = absurd runs
