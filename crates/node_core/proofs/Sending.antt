-- The letters that a node sends.
use Rattle.std.proofs.Common.{◌≡◌, ◌≤◌, ◌<◌, ℕ, zero, suc, ◌+◌, List, [], ◌∷◌, ◌++◌, length, map, Bool, true, false, cond, not, ◌&&◌, nat_eq, Option, Some, None, refl, arith}
use Rattle.std.proofs.lemmas.List.Elements.{All-nil, All-cons}
use Rattle.mail_model.specs.Identity.{EpochId, Key, State}
use Rattle.object_model.specs.Sets.{has}
use Rattle.object_model.specs.Letters.{Number, Body, Letter}
use Rattle.object_model.specs.Letters.Body.{File, Filed, LoginAsk, LoginTold, ListAsk, ListTold, FetchAsk, FetchTold, Strike, StrikeTold, Unlock, Push, PushAck, Retire, Group, Join, Install, Report, ReportAck}
use Rattle.cluster_model.specs.Rules.{answer, receivers, letters_to}
use Rattle.node_core.specs.Spelling.{CanBeTaken, AllCanBeTaken}
use Rattle.node_core.specs.Answering.{answers_to}

-- one letter that its receiver can take
pub one_fits : (letter : Letter) → CanBeTaken letter.body → AllCanBeTaken (letter ∷ [])
one_fits letter fits = All-cons (λ (l : Letter). CanBeTaken l.body) letter [] fits (All-nil (λ (l : Letter). CanBeTaken l.body))

pub none_fit : AllCanBeTaken []
none_fit = All-nil (λ (l : Letter). CanBeTaken l.body)

pub letters_fit : (own : ℕ) (epoch : EpochId) (ticket : Option Number) (to : List ℕ) (body : Body) → CanBeTaken body → AllCanBeTaken (letters_to own epoch ticket to body)
letters_fit own epoch ticket [] body fits = none_fit
letters_fit own epoch ticket (m ∷ ms) body fits =
    All-cons (λ (l : Letter). CanBeTaken l.body) (record { from = own; to = m; epoch = epoch; ticket = ticket; body = body }) (letters_to own epoch ticket ms body) fits
    (letters_fit own epoch ticket ms body fits)

-- what is answered to a letter that could be taken
pub answers_fit : (letter : Letter) (body : Body) → CanBeTaken body → AllCanBeTaken (answers_to letter body)
answers_fit letter (File id stamp targets users octets) fits = one_fits (answer letter (Filed id)) tt
answers_fit letter (Strike user marks) fits = one_fits (answer letter (StrikeTold user (map (λ mark. mark.id) marks))) tt
answers_fit letter (Push key state None) fits = one_fits (answer letter (PushAck key state)) fits
answers_fit letter (Push key state (Some octets)) fits = one_fits (answer letter (PushAck key state)) fits.0
answers_fit letter (Filed id) fits = none_fit
answers_fit letter (LoginAsk user proof) fits = none_fit
answers_fit letter (LoginTold word) fits = none_fit
answers_fit letter (ListAsk user) fits = none_fit
answers_fit letter (ListTold items) fits = none_fit
answers_fit letter (FetchAsk user id at most) fits = none_fit
answers_fit letter (FetchTold part) fits = none_fit
answers_fit letter (StrikeTold user ids) fits = none_fit
answers_fit letter (Unlock user login) fits = none_fit
answers_fit letter (PushAck key state) fits = none_fit
answers_fit letter (Retire key state) fits = none_fit
answers_fit letter (Group epoch) fits = none_fit
answers_fit letter (Join epoch promise boot was claims) fits = none_fit
answers_fit letter (Install membership) fits = none_fit
answers_fit letter (Report row) fits = none_fit
answers_fit letter (ReportAck user version) fits = none_fit
