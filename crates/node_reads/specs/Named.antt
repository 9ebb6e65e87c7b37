-- The lists that a login asks for.
use Rattle.std.specs.Prelude.{ℕ, List}
use Rattle.login_model.specs.Readings.{ToldList}

-- the nodes that a manager named, those that have not told yet, and what the others told
pub record NamedLists : Type 0 where
  pub named : ℕ
  pub waiting : ℕ
  pub told : List ToldList
