-- What was made before an outcome, what it was, and what was made behind it.
use Rattle.std.proofs.Common.{◌≡◌, ◌⊎◌, inl, inr, ℕ, Bool, true, List, [], ◌∷◌, ◌++◌, refl}
use Rattle.object_model.proofs.Lists.{among_front, among_behind}
use Rattle.node_store.specs.Disks.{View}
use Rattle.cluster_world.specs.Outcomes.{Outcome, Awaited, Came, Makes}
use Rattle.cluster_world.specs.Owing.{IsOfBlind, AllBlind, AreOfSessions}
use Rattle.cluster_world.specs.declared.world.World.{World}

-- Disks tell, or these outcomes are of steps that need nothing of that.
abbrev pub IsKnown : Bool → ℕ → List Outcome → Type 0
IsKnown told nodes outcomes = (told ≡ true) ⊎ AllBlind nodes outcomes

blind_front : (nodes : ℕ) (front more : List Outcome) → AllBlind nodes (front ++ more) → AllBlind nodes front
blind_front nodes [] more blind = tt
blind_front nodes (one ∷ front) more blind = (blind.0, blind_front nodes front more blind.1)

blind_behind : (nodes : ℕ) (front more : List Outcome) → AllBlind nodes (front ++ more) → AllBlind nodes more
blind_behind nodes [] more blind = blind
blind_behind nodes (one ∷ front) more blind = blind_behind nodes front more blind.1

pub known_front : (told : Bool) (nodes : ℕ) (front more : List Outcome) → IsKnown told nodes (front ++ more) → IsKnown told nodes front
known_front told nodes front more (inl t) = inl t
known_front told nodes front more (inr b) = inr (blind_front nodes front more b)

pub known_behind : (told : Bool) (nodes : ℕ) (front more : List Outcome) → IsKnown told nodes (front ++ more) → IsKnown told nodes more
known_behind told nodes front more (inl t) = inl t
known_behind told nodes front more (inr b) = inr (blind_behind nodes front more b)

pub known_first : (told : Bool) (nodes : ℕ) (one : Outcome) (more : List Outcome) → IsKnown told nodes (one ∷ more) → (told ≡ true) ⊎ IsOfBlind nodes one
known_first told nodes one more (inl t) = inl t
known_first told nodes one more (inr b) = inr b.0

pub known_others : (told : Bool) (nodes : ℕ) (one : Outcome) (more : List Outcome) → IsKnown told nodes (one ∷ more) → IsKnown told nodes more
known_others told nodes one more (inl t) = inl t
known_others told nodes one more (inr b) = inr b.1

pub sessions_front : (lines : List (List ℕ)) (front more : List Outcome) → AreOfSessions lines (front ++ more) → AreOfSessions lines front
sessions_front lines front more of one m = of one (among_front one front more m)

pub sessions_behind : (lines : List (List ℕ)) (front more : List Outcome) → AreOfSessions lines (front ++ more) → AreOfSessions lines more
sessions_behind lines front more of one m = of one (among_behind one front more m)

module _ {D : Type 0} (on : View D) where
  pub record Parted (front : List Outcome) (one : Outcome) (behind : List Outcome) (awaited left : List Awaited) (old new : World D) : Type 0 where
    pub between : List Awaited
    pub mid : World D
    pub before : Makes on front awaited old between mid
    pub after : List Awaited
    pub next : World D
    pub came : Came on one between mid after next
    pub more : Makes on behind after next left new

  pub parted : (front behind : List Outcome) (one : Outcome) (awaited left : List Awaited) (old new : World D) → Makes on (front ++ one ∷ behind) awaited old left new → Parted front one behind awaited left old new
  parted [] behind one awaited left old new (after, next, came, more) = record { between = awaited; mid = old; before = (refl, refl); after = after; next = next; came = came; more = more }
  parted (first ∷ front) behind one awaited left old new (after, next, came, more) =
      let rest = parted front behind one after left next new more in
      record { between = rest.between; mid = rest.mid; before = (after, next, came, rest.before); after = rest.after; next = rest.next; came = rest.came; more = rest.more }
