-- What the parts of a call found, joined to what the machine does.
use Rattle.std.proofs.Common.{◌≡◌, ◌+◌, ℕ, Bool, true, ◌&&◌, nat_eq, List, [], ◌∷◌, map, Option, Some, None, Result, Ok, Err, IfOk, OnOk, refl, sym, ap, ◌∙◌, subst}
use Rattle.std.specs.Cmp.Lexicographic.{pointwise}
use Rattle.std.proofs.lemmas.Bool.{eq-eqb}
use Rattle.mail_model.specs.Identity.{EpochId}
use Rattle.object_model.specs.Letters.{Claim, Member, Membership, Row, Letter}
use Rattle.object_model.specs.Letters.Body.{Join, Report}
use Rattle.maps_model.specs.Rules.{set_row}
use Rattle.membership.specs.Groups.{Group as Kept}
use Rattle.membership.specs.Rounds as rounds
use Rattle.map_rebuild.specs.Rows.{version_of, SetsVersion, KeepsMarks, due_users}
use Rattle.map_rebuild.specs.declared.reports.Reports.{Reports}
use Rattle.mail_map.specs.Rows.{rows_of}
use Rattle.mail_map.specs.declared.map.MailMap.{MailMap}
use Rattle.node_maps.specs.declared.maps.NodeMaps.{NodeMaps}
use Rattle.node_maps.specs.Nodes.{own_of, row_of, is_within}
use Rattle.node_maps.specs.Hearing.{HearsBody}
use Rattle.node_maps.specs.Rounds.{ReportsIn, ReportsAs, TellsOwn}
use Rattle.node_maps.proofs.Rounds.{with_group, heard_with, heard_join}
use Rattle.node_maps.proofs.Reported.{sends_reports}
use Rattle.node_maps.proofs.Noted.{tells_own}

-- the test of the epoch, of the letter that was passed
pub within_is : (t : Bool) (old : NodeMaps) (letter l : Letter) (o : Option Membership) → o ≡ old.group.installed → l ≡ letter → t ≡ is_within o l.epoch → is_within old.group.installed letter.epoch ≡ t
within_is t old letter l o is same e = sym (e ∙ ap (λ x. is_within x l.epoch) is ∙ ap (λ (x : Letter). is_within old.group.installed x.epoch) same)

abbrev pub member_with : ℕ → ℕ → EpochId → Member
member_with node boot was = record { node = node; boot = boot; was = was }

pub joined : (old : NodeMaps) (letter l : Letter) (epoch promise : EpochId) (boot : ℕ) (was : EpochId) (claims : List Claim) (g : Kept) (member : Member) → l ≡ letter → member ≡ member_with l.from boot was
    → rounds.HearsJoin (Ok tt) epoch promise (record { member = member; claims = claims }) old.group g → HearsBody old letter (Join epoch promise boot was claims) (heard_with []) (with_group old g)
joined old letter l epoch promise boot was claims g member same is heard =
    heard_join old letter epoch promise boot was claims g
    (subst (λ (m : Member). rounds.HearsJoin (Ok tt) epoch promise (record { member = m; claims = claims }) old.group g) (is ∙ ap (λ (x : Letter). member_with x.from boot was) same) heard)

-- a last call whose result is returned as it is
pub reports_as : {E : Type 0} (maps : NodeMaps) (membership : Membership) (to most : ℕ) (r : Result (List Letter) E) → maps.group.installed ≡ Some membership → (to ≡ own_of maps → ⊥)
    → IfOk r (λ letters. letters ≡ map (λ user. record { from = own_of maps; to = to; epoch = membership.epoch; ticket = None; body = Report (row_of (own_of maps) maps.group.boot maps.reports maps.fragments user) }) (due_users membership.map to most maps.reports))
    → ReportsAs to most r maps
reports_as maps membership to most (Ok letters) installed other sent = subst (λ (o : Option Membership). ReportsIn o to most letters maps) (sym installed) (sends_reports maps membership to most letters installed other sent)
reports_as maps membership to most (Err refused) installed other sent = tt

pointwise_self : (u : List ℕ) → pointwise nat_eq u u ≡ true
pointwise_self [] = refl
pointwise_self (x ∷ xs) = ap (λ t. t && pointwise nat_eq xs xs) (eq-eqb x x refl) ∙ pointwise_self xs

pub told_own : {E : Type 0} (old : NodeMaps) (user : List ℕ) (r : Result (Unit {0}) E) (reports : Reports) (rows : MailMap) (row : Row) → row ≡ row_of (own_of old) old.group.boot reports old.fragments user
    → SetsVersion old.reports reports user (version_of old.reports user + 1) → KeepsMarks old.reports reports
    → OnOk r ((n b : ℕ) (u : List ℕ) → rows_of rows n b u ≡ set_row (rows_of old.rows) row.node row.boot row.user row n b u)
    → OnOk r (TellsOwn user old (record old { reports = reports; rows = rows }))
told_own old user (Ok done) reports rows row is sets marks told =
    tells_own old user reports rows (pointwise_self user) sets marks (subst (λ (x : Row). (n b : ℕ) (u : List ℕ) → rows_of rows n b u ≡ set_row (rows_of old.rows) x.node x.boot x.user x n b u) is told)
told_own old user (Err refused) reports rows row is sets marks told = tt
