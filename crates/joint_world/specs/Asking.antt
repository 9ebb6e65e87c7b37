-- What an ask of a call that reads says, in the words of an ask of any ticket.
use Rattle.std.specs.Prelude.{◌≡◌, ℕ, List, map}
use Rattle.object_model.specs.Letters.{Number, LoginWord, ToldPart}
use Rattle.object_model.specs.Letters.LoginWord.{Named, Wrong, InUse as IsInUse, NoProfile as HasNoProfile}
use Rattle.object_model.specs.Letters.ToldPart.{Octets, Gone}
use Rattle.cluster_model.specs.Reads.{Found}
use Rattle.cluster_model.specs.Reads.Found.{Listed, WrongSecret, InUse, NoProfile, PartOf, NotThere}
use Rattle.cluster_model.specs.Progress.{NodeAnswer}
use Rattle.cluster_model.specs.Progress.NodeAnswer.{Read, Failed}
use Rattle.login_model.specs.Progress.{ReadAnswer}
use Rattle.login_model.specs.Progress.ReadAnswer.{Lists, Denies, Gives, Fails}
use Rattle.login_model.specs.Listing.{LoginItem, IsMergeOfTold, as_copy}

-- what a manager says that denies a login; one that names nodes denies nobody
abbrev pub DeniesAs : ℕ → LoginWord → Found → Type 0
DeniesAs manager (Named nodes) found = ⊥
DeniesAs manager (Wrong stamp) found = found ≡ WrongSecret stamp
DeniesAs manager (IsInUse by) found = found ≡ InUse by
DeniesAs manager HasNoProfile found = found ≡ NoProfile manager

abbrev pub part_found : ToldPart → Found
part_found (Octets octets whole) = PartOf octets whole
part_found (Gone stamp) = NotThere

-- What was told is joined to a listing, which has the number of the ticket.
abbrev pub AnswersAs : Number → ReadAnswer → NodeAnswer → Type 0
AnswersAs number (Lists manager named told) answer = (items : List LoginItem) × IsMergeOfTold told items × (answer ≡ Read (Listed number manager named (map as_copy items)))
AnswersAs number (Denies manager word) answer = (found : Found) × DeniesAs manager word found × (answer ≡ Read found)
AnswersAs number (Gives part) answer = answer ≡ Read (part_found part)
AnswersAs number (Fails mishaps) answer = answer ≡ Failed mishaps
