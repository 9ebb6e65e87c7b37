-- Histories that were shared out by hand.
use Rattle.std.specs.Prelude.{ℕ, [], ◌∷◌}
use Rattle.turnstile.specs.Shares.{AreShares}

pub record OneEntryServesOne : Type 0 where
  pub shared : AreShares {X = ℕ} [] ((1 ∷ 3 ∷ []) ∷ (2 ∷ []) ∷ []) (1 ∷ 2 ∷ 3 ∷ [])
  pub once : ¬ (AreShares {X = ℕ} [] ((1 ∷ []) ∷ (1 ∷ []) ∷ []) (1 ∷ []))
  pub none_left : ¬ (AreShares {X = ℕ} [] ((1 ∷ []) ∷ []) [])
