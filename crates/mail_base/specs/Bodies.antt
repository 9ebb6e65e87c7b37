-- A letter's body in the plain words of the definitions.
use Rattle.std.specs.Prelude.{ℕ, List, length, Option, Some, None}
use Rattle.mail_model.specs.Plan as plan
use Rattle.object_model.specs.Letters as plain
use Rattle.mail_base.specs.Seen.{key_seen}
use Rattle.mail_base.specs.declared.proof.Proof.{Proof}
use Rattle.mail_base.specs.declared.proof.Proof.TheVariants.{Pass, Apop}
use Rattle.mail_base.specs.declared.told.LoginWord.{LoginWord}
use Rattle.mail_base.specs.declared.told.LoginWord.TheVariants.{Named, Wrong, InUse, NoProfile}
use Rattle.mail_base.specs.declared.told.ToldPart.{ToldPart}
use Rattle.mail_base.specs.declared.told.ToldPart.TheVariants as part
use Rattle.mail_base.specs.declared.body.Body.{Body}
use Rattle.mail_base.specs.declared.body.Body.TheVariants.{File, Filed, LoginAsk, LoginTold, ListAsk, ListTold, FetchAsk, FetchTold, Strike, StrikeTold, Unlock, Push, PushAck, Retired, Group, Join, Install, Report, ReportAck}

abbrev pub proof_seen : Proof → plan.Proof
proof_seen (Pass octets) = plan.Proof.Pass octets
proof_seen (Apop banner digest) = plan.Proof.Apop banner digest

abbrev pub word_seen : LoginWord → plain.LoginWord
word_seen (Named nodes) = plain.LoginWord.Named nodes
word_seen (Wrong stamp) = plain.LoginWord.Wrong stamp
word_seen (InUse by) = plain.LoginWord.InUse by
word_seen NoProfile = plain.LoginWord.NoProfile

abbrev pub part_seen : ToldPart → plain.ToldPart
part_seen (part.Octets octets whole) = plain.ToldPart.Octets octets whole
part_seen (part.Gone stamp) = plain.ToldPart.Gone stamp

abbrev pub body_seen : Body → plain.Body
body_seen (File id stamp targets users octets) = plain.Body.File id stamp targets users octets
body_seen (Filed id) = plain.Body.Filed id
body_seen (LoginAsk user proof) = plain.Body.LoginAsk user (proof_seen proof)
body_seen (LoginTold word) = plain.Body.LoginTold (word_seen word)
body_seen (ListAsk user) = plain.Body.ListAsk user
body_seen (ListTold items) = plain.Body.ListTold items
body_seen (FetchAsk user id from most) = plain.Body.FetchAsk user id from most
body_seen (FetchTold told) = plain.Body.FetchTold (part_seen told)
body_seen (Strike user marks) = plain.Body.Strike user marks
body_seen (StrikeTold user ids) = plain.Body.StrikeTold user ids
body_seen (Unlock user login) = plain.Body.Unlock user login
body_seen (Push key state octets) = plain.Body.Push (key_seen key) state octets
body_seen (PushAck key state) = plain.Body.PushAck (key_seen key) state
body_seen (Retired key state) = plain.Body.Retire (key_seen key) state
body_seen (Group epoch) = plain.Body.Group epoch
body_seen (Join epoch promise boot was claims) = plain.Body.Join epoch promise boot was claims
body_seen (Install epoch members map) = plain.Body.Install (record { epoch = epoch; members = members; map = map })
body_seen (Report row) = plain.Body.Report row
body_seen (ReportAck user version) = plain.Body.ReportAck user version

abbrev pub length_of : Option (List ℕ) → ℕ
length_of None = 0
length_of (Some octets) = length octets

abbrev pub part_length : ToldPart → ℕ
part_length (part.Octets octets whole) = length octets
part_length (part.Gone stamp) = 0

-- how many message octets a body carries
abbrev pub carried : Body → ℕ
carried (File id stamp targets users octets) = length octets
carried (Push key state octets) = length_of octets
carried (FetchTold told) = part_length told
carried (Filed id) = 0
carried (LoginAsk user proof) = 0
carried (LoginTold word) = 0
carried (ListAsk user) = 0
carried (ListTold items) = 0
carried (FetchAsk user id from most) = 0
carried (Strike user marks) = 0
carried (StrikeTold user ids) = 0
carried (Unlock user login) = 0
carried (PushAck key state) = 0
carried (Retired key state) = 0
carried (Group epoch) = 0
carried (Join epoch promise boot was claims) = 0
carried (Install epoch members map) = 0
carried (Report row) = 0
carried (ReportAck user version) = 0
