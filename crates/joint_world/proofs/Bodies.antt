-- What is said of letters of calls that read, in the words of each machine.
use Rattle.std.proofs.Common.{◌≡◌, true, false, refl, sym, ◌∙◌, true≢false}
use Rattle.object_model.specs.Letters.{Body, is_read_body}
use Rattle.object_model.specs.Letters.Body.{LoginAsk, LoginTold, ListAsk, ListTold, FetchAsk, FetchTold, Unlock, Group, Join, Install, Report, ReportAck}
use Rattle.cluster_model.specs.Makes.{IsFetchAsk}
use Rattle.whole_model.specs.Rules.{IsMailBody}
use Rattle.login_model.specs.Facts.{IsReadBody}

pub body_reads : (body : Body) → IsReadBody body → is_read_body body ≡ true
body_reads (LoginAsk user proof) of = refl
body_reads (LoginTold word) of = refl
body_reads (ListAsk user) of = refl
body_reads (ListTold items) of = refl
body_reads (FetchAsk user id at most) of = refl
body_reads (FetchTold part) of = refl
body_reads (Unlock user login) of = refl
body_reads body of = absurd of

pub read_body : (body : Body) → is_read_body body ≡ true → IsReadBody body
read_body (LoginAsk user proof) of = tt
read_body (LoginTold word) of = tt
read_body (ListAsk user) of = tt
read_body (ListTold items) of = tt
read_body (FetchAsk user id at most) of = tt
read_body (FetchTold part) of = tt
read_body (Unlock user login) of = tt
read_body body of = absurd (true≢false (sym of))

pub unread : (body : Body) → is_read_body body ≡ false → IsReadBody body → ⊥
unread body other of = true≢false (sym (body_reads body of) ∙ other)

pub asks_read : (body : Body) → IsFetchAsk body → is_read_body body ≡ true
asks_read (FetchAsk user id at most) of = refl
asks_read body of = absurd of

pub read_is_mail : (body : Body) → is_read_body body ≡ true → IsMailBody body
read_is_mail (Group epoch) of = absurd (true≢false (sym of))
read_is_mail (Join epoch promise boot was claims) of = absurd (true≢false (sym of))
read_is_mail (Install membership) of = absurd (true≢false (sym of))
read_is_mail (Report row) of = absurd (true≢false (sym of))
read_is_mail (ReportAck user version) of = absurd (true≢false (sym of))
read_is_mail body of = tt
