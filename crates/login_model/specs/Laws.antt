-- What holds of a cluster whatever moves are made.
use Rattle.std.specs.Prelude.{◌≡◌, ℕ, List}
use Rattle.object_model.specs.Lists.{Among}
use Rattle.object_model.specs.Letters.{Number, ToldPart}
use Rattle.login_model.specs.Readings.{ToldList, Login, Fetch}
use Rattle.login_model.specs.Readings.LoginStage.{AsksNodes}
use Rattle.login_model.specs.Readings.FetchStage.{IsAnswered}
use Rattle.login_model.specs.Readings.Reading.{LogsIn, Fetches}
use Rattle.login_model.specs.Cluster.{Cluster, NodesRead}
use Rattle.login_model.specs.Facts.{WasTrue, AnswerAwaited, NodesWait, Covered}
use Rattle.login_model.specs.Facts.Fact.{Manages, Names, Lists, Says}
use Rattle.login_model.specs.Moves.{Move, after_moves, MayMoves}
use Rattle.login_model.specs.Parts.{Sound}

-- whatever moves are made, a sound cluster stays sound
abbrev pub MovesKeepSound : Type 0
MovesKeepSound = (w : Cluster) (moves : List Move) → MayMoves moves w → Sound w → Sound (after_moves moves w)

-- What a login was told: the nodes that it asks were named by the manager at a moment since it began, who managed the user by its own node at one, and each list was that of its node.
pub record LoginKnows (w : Cluster) (number : Number) (login : Login) (named : ℕ) (told : List ToldList) : Type 0 where
  pub managed : WasTrue w.story number number.node (Manages login.user login.manager)
  pub names : WasTrue w.story number login.manager (Names login.user named)
  pub lists : (one : ToldList) → Among one told → WasTrue w.story number one.node (Lists login.user one.items)

abbrev pub LoginsKnow : Type 0
LoginsKnow = (w : Cluster) → Sound w → (number : Number) (login : Login) → NodesRead w.slots number (LogsIn login)
    → (named waiting : ℕ) (told : List ToldList) → login.stage ≡ AsksNodes named waiting told → LoginKnows w number login named told

-- A part is what a holder had at a moment since the fetch began.
abbrev pub FetchesKnow : Type 0
FetchesKnow = (w : Cluster) → Sound w → (number : Number) (fetch : Fetch) → NodesRead w.slots number (Fetches fetch) → (holder : ℕ) (part : ToldPart) → fetch.stage ≡ IsAnswered holder part
    → WasTrue w.story number holder (Says fetch.user fetch.id fetch.at fetch.most part)

-- Whoever is waited for has a letter of the ticket in flight, to it or from it.
abbrev pub AwaitedFly : Type 0
AwaitedFly = (w : Cluster) → Sound w → (number : Number) (m : ℕ) (what : AnswerAwaited) → NodesWait w.slots number m what → Covered w.flying number m what
