-- What a rule of membership and maps leaves of a node's boot, and what it says.
use Rattle.std.proofs.Common.{◌≡◌, ◌<◌, ◌+◌, ℕ, Bool, true, false, cond, nat_eq, List, [], ◌∷◌, map, Option, Some, None, refl, sym, ap, ◌∙◌, subst, arith, true≢false}
use Rattle.std.specs.Prelude.{All}
use Rattle.std.proofs.lemmas.List.Elements.{All-nil, All-cons}
use Rattle.mail_model.specs.Identity.{EpochId}
use Rattle.mail_model.specs.Grammar.{IsNodeNumber}
use Rattle.object_model.specs.Letters.{Claim, Membership, Row, Body, Letter}
use Rattle.object_model.specs.Letters.Body.{Group, Join, Install, Report, ReportAck}
use Rattle.maps_model.specs.Cluster as maps
use Rattle.maps_model.specs.Rules as rules
use Rattle.maps_model.specs.Rules.{letter_to, ack_letter, others}
use Rattle.maps_model.specs.Rules.HearsGroup.{Rises, Again, Old as OldGroup}
use Rattle.maps_model.specs.Rules.HearsJoin.{Late, Above, Joins}
use Rattle.maps_model.specs.Rules.HearsInstall.{Old as OldInstall, NotPromised, NotMember, Enters}
use Rattle.maps_model.specs.Rules.HearsReport.{Stale as StaleReport, Takes, Older}
use Rattle.maps_model.specs.Rules.HearsAck.{Stale as StaleAck, Clears, Other}
use Rattle.whole_model.specs.Rules.{IsMapsBody}
use Rattle.node_core.specs.Spelling.{CanBeTaken, AllCanBeTaken}
use Rattle.node_core.proofs.Sending.{one_fits, none_fit}
use Rattle.whole_node.specs.Hearing.{FitsMaps, is_install}

-- letters that fit
pub none_says : All FitsMaps []
none_says = All-nil FitsMaps

pub more_says : (letter : Letter) (letters : List Letter) → FitsMaps letter → All FitsMaps letters → All FitsMaps (letter ∷ letters)
more_says letter letters fits all = All-cons FitsMaps letter letters fits all

pub more_taken : (letter : Letter) (letters : List Letter) → CanBeTaken letter.body → AllCanBeTaken letters → AllCanBeTaken (letter ∷ letters)
more_taken letter letters fits all = All-cons (λ (l : Letter). CanBeTaken l.body) letter letters fits all

-- what a node says to a letter
pub record AreSaid (out : List Letter) : Type 0 where
  pub fits : All FitsMaps out
  pub taken : AllCanBeTaken out

module _ (own : ℕ) (node : maps.Node) (disk : maps.Disk) (letter : Letter) (did : rules.Reaction) where
  pub hears_boot : (body : Body) → IsMapsBody body → rules.Hears own node disk letter body did → did.node.boot ≡ node.boot
  hears_boot (Group epoch) of (Rises below e) = ap (λ (x : rules.Reaction). x.node.boot) e
  hears_boot (Group epoch) of (Again same e) = ap (λ (x : rules.Reaction). x.node.boot) e
  hears_boot (Group epoch) of (OldGroup below e) = ap (λ (x : rules.Reaction). x.node.boot) e
  hears_boot (Join epoch promise boot was claims) of (Late n e) = ap (λ (x : rules.Reaction). x.node.boot) e
  hears_boot (Join epoch promise boot was claims) of (Above g a b c e) = ap (λ (x : rules.Reaction). x.node.boot) e
  hears_boot (Join epoch promise boot was claims) of (Joins g a b c e) = ap (λ (x : rules.Reaction). x.node.boot) e
  hears_boot (Install g) of (OldInstall w e) = ap (λ (x : rules.Reaction). x.node.boot) e
  hears_boot (Install g) of (NotPromised w e) = ap (λ (x : rules.Reaction). x.node.boot) e
  hears_boot (Install g) of (NotMember w e) = ap (λ (x : rules.Reaction). x.node.boot) e
  hears_boot (Install g) of (Enters a b c marked rows entering e) = ap (λ (x : rules.Reaction). x.node.boot) e
  hears_boot (Report row) of (StaleReport n e) = ap (λ (x : rules.Reaction). x.node.boot) e
  hears_boot (Report row) of (Takes g a b c e) = ap (λ (x : rules.Reaction). x.node.boot) e
  hears_boot (Report row) of (Older g a b s c d e) = ap (λ (x : rules.Reaction). x.node.boot) e
  hears_boot (ReportAck user version) of (StaleAck n e) = ap (λ (x : rules.Reaction). x.node.boot) e
  hears_boot (ReportAck user version) of (Clears g a b c e) = ap (λ (x : rules.Reaction). x.node.boot) e
  hears_boot (ReportAck user version) of (Other g a b c e) = ap (λ (x : rules.Reaction). x.node.boot) e
  hears_boot other of h = absurd of

  pub hears_epoch : (body : Body) → IsMapsBody body → is_install body ≡ false → rules.Hears own node disk letter body did → did.node.installed ≡ node.installed
  hears_epoch (Group epoch) of none (Rises below e) = ap (λ (x : rules.Reaction). x.node.installed) e
  hears_epoch (Group epoch) of none (Again same e) = ap (λ (x : rules.Reaction). x.node.installed) e
  hears_epoch (Group epoch) of none (OldGroup below e) = ap (λ (x : rules.Reaction). x.node.installed) e
  hears_epoch (Join epoch promise boot was claims) of none (Late n e) = ap (λ (x : rules.Reaction). x.node.installed) e
  hears_epoch (Join epoch promise boot was claims) of none (Above g a b c e) = ap (λ (x : rules.Reaction). x.node.installed) e
  hears_epoch (Join epoch promise boot was claims) of none (Joins g a b c e) = ap (λ (x : rules.Reaction). x.node.installed) e
  hears_epoch (Install g) of none h = absurd (true≢false none)
  hears_epoch (Report row) of none (StaleReport n e) = ap (λ (x : rules.Reaction). x.node.installed) e
  hears_epoch (Report row) of none (Takes g a b c e) = ap (λ (x : rules.Reaction). x.node.installed) e
  hears_epoch (Report row) of none (Older g a b s c d e) = ap (λ (x : rules.Reaction). x.node.installed) e
  hears_epoch (ReportAck user version) of none (StaleAck n e) = ap (λ (x : rules.Reaction). x.node.installed) e
  hears_epoch (ReportAck user version) of none (Clears g a b c e) = ap (λ (x : rules.Reaction). x.node.installed) e
  hears_epoch (ReportAck user version) of none (Other g a b c e) = ap (λ (x : rules.Reaction). x.node.installed) e
  hears_epoch other of none h = absurd of

  nothing : (r : rules.Reaction) → did ≡ r → r.out ≡ [] → AreSaid did.out
  nothing r e none = subst AreSaid (sym (ap (λ (x : rules.Reaction). x.out) e ∙ none)) (record { fits = none_says; taken = none_fit })

  one : (answer : Letter) → FitsMaps answer → CanBeTaken answer.body → (r : rules.Reaction) → did ≡ r → r.out ≡ answer ∷ [] → AreSaid did.out
  one answer fits taken r e is = subst AreSaid (sym (ap (λ (x : rules.Reaction). x.out) e ∙ is)) (record { fits = more_says answer [] fits none_says; taken = one_fits answer taken })

  pub are_said : (body : Body) → IsMapsBody body → rules.Hears own node disk letter body did → AreSaid did.out
  are_said (Group epoch) of (Rises below e) = one _ (tt, tt) tt _ e refl
  are_said (Group epoch) of (Again same e) = one _ (tt, tt) tt _ e refl
  are_said (Group epoch) of (OldGroup below e) = one _ (tt, tt) tt _ e refl
  are_said (Join epoch promise boot was claims) of (Late n e) = nothing _ e refl
  are_said (Join epoch promise boot was claims) of (Above g a b c e) = nothing _ e refl
  are_said (Join epoch promise boot was claims) of (Joins g a b c e) = nothing _ e refl
  are_said (Install g) of (OldInstall w e) = nothing _ e refl
  are_said (Install g) of (NotPromised w e) = nothing _ e refl
  are_said (Install g) of (NotMember w e) = nothing _ e refl
  are_said (Install g) of (Enters a b c marked rows entering e) = nothing _ e refl
  are_said (Report row) of (StaleReport n e) = nothing _ e refl
  are_said (Report row) of (Takes g a b c e) = one (ack_letter letter row.user row) (tt, tt) tt _ e refl
  are_said (Report row) of (Older g a b s c d e) = one (ack_letter letter row.user row) (tt, tt) tt _ e refl
  are_said (ReportAck user version) of (StaleAck n e) = nothing _ e refl
  are_said (ReportAck user version) of (Clears g a b c e) = nothing _ e refl
  are_said (ReportAck user version) of (Other g a b c e) = nothing _ e refl
  are_said other of h = absurd of
