-- What noting a mishap does to the lives of nodes.
use Rattle.std.specs.Prelude.{◌≡◌, ◌⊎◌, ℕ, ◌+◌, List, length, ◌<◌, Option, Some, None, slice_get, slice_set, ⊤}
use Rattle.object_model.specs.Letters.{Number, Letter}
use Rattle.object_model.specs.Mishaps.{MishapKind}
use Rattle.cluster_model.specs.World.{other_end}
use Rattle.node_tickets.specs.Standing.{befell_in}
use Rattle.node_core.specs.Nodes.{node_seen}
use Rattle.node_core.specs.Standing.{ticket_standing}
use Rattle.cluster_world.specs.Asking.{HasTickets}
use Rattle.cluster_world.specs.declared.life.Life.{Life}
use Rattle.cluster_world.specs.declared.life.Life.TheVariants.{Up, Down, Lost}

-- a node that is up counts it at the ticket, if that stands
abbrev pub LifeNoted : MishapKind → ℕ → Number → Life → Life → Type 0
LifeNoted kind at number (Up old) (Up new) = HasTickets (befell_in kind at number.seq (ticket_standing old.mail number) (node_seen old.mail).tickets) old new
LifeNoted kind at number Down Down = ⊤
LifeNoted kind at number Lost Lost = ⊤
LifeNoted kind at number old new = ⊥

-- the life of node n is changed so
pub record LifeChanges (P : Life → Life → Type 0) (n : ℕ) (old new : List Life) : Type 0 where
  pub place : ℕ
  pub at : place + 1 ≡ n
  pub from : Life
  pub to : Life
  pub was : slice_get old place ≡ Some from
  pub becomes : new ≡ slice_set old place to
  pub step : P from to

-- the ticket's node counts it, where there is one
abbrev pub LivesNoted : MishapKind → ℕ → Number → List Life → List Life → Type 0
LivesNoted kind at number old new = ((length old < number.node) × (new ≡ old)) ⊎ LifeChanges (LifeNoted kind at number) number.node old new

-- so a mishap of a letter is noted, where it has a ticket
abbrev pub NotedUnder : MishapKind → Letter → Option Number → List Life → List Life → Type 0
NotedUnder kind letter None old new = new ≡ old
NotedUnder kind letter (Some number) old new = LivesNoted kind (other_end letter number) number old new

abbrev pub LettersNoted : MishapKind → Letter → List Life → List Life → Type 0
LettersNoted kind letter old new = NotedUnder kind letter letter.ticket old new
