-- How long the trace lines of a message are.
use Rattle.std.proofs.Common.{◌≡◌, ℕ, ◌+◌, ◌<◌, ◌≤◌, ◌^◌, Bool, true, false, List, [], ◌∷◌, ◌++◌, length, take, ap, arith, length-append, codes}
use Rattle.std.proofs.lemmas.List.{length-take}
use Rattle.std.proofs.lemmas.Fmt.{length-decimal-le}
use Rattle.std.specs.Fmt.{decimal}
use Rattle.httpdate.specs.Date.{date_text}
use Rattle.mail_model.specs.Identity.{Id, id_text}
use Rattle.mail_model.specs.Grammar.{IsId}
use Rattle.mail_model.specs.Lines.{sent_line}
use Rattle.mail_model.specs.Told.{Mail}
use Rattle.mail_model.specs.Mail.{IsDate, protocol_of, trace_lines}
use Rattle.trace_lines.specs.Trace.{by_line}

length-sent : (line : List ℕ) → length (sent_line line) ≡ length line + 2
length-sent line = length-append line (13 ∷ 10 ∷ [])

length-three : (a b c : List ℕ) → length (a ++ b ++ c) ≡ length a + length b + length c
length-three a b c = omega (arith, length-append (a ++ b) c, length-append a b)

length-five : (a b c d e : List ℕ) → length (a ++ b ++ c ++ d ++ e) ≡ length a + length b + length c + length d + length e
length-five a b c d e = omega (arith, length-append (a ++ b ++ c ++ d) e, length-append (a ++ b ++ c) d, length-three a b c)

length-nine : (a b c d e f g h i : List ℕ) → length (a ++ b ++ c ++ d ++ e ++ f ++ g ++ h ++ i) ≡ length a + length b + length c + length d + length e + length f + length g + length h + length i
length-nine a b c d e f g h i = omega (arith, length-five (a ++ b ++ c ++ d ++ e) f g h i, length-five a b c d e)

length-path : (sender : List ℕ) → length (sent_line (codes "Return-Path: <" ++ sender ++ codes ">")) ≡ length sender + 17
length-path sender = omega (arith, length-sent (codes "Return-Path: <" ++ sender ++ codes ">"), length-three (codes "Return-Path: <") sender (codes ">"))

length-from : (helo : List ℕ) → length (sent_line (codes "Received: from " ++ helo)) ≡ length helo + 17
length-from helo = omega (arith, length-sent (codes "Received: from " ++ helo), length-append (codes "Received: from ") helo)

short_protocol : (extended : Bool) → length (protocol_of extended) ≤ 5
short_protocol true = omega arith
short_protocol false = omega arith

short_decimal : (n : ℕ) → n < 2 ^ 64 → length (decimal n) ≤ 20
short_decimal n small = length-decimal-le 20 n (omega arith) (omega arith) small

short_id : (id : Id) → IsId id → length (id_text id) ≤ 62
short_id id fits = omega (
  arith,
  length-five (decimal id.node) (46 ∷ []) (decimal id.boot) (46 ∷ []) (decimal id.seq),
  short_decimal id.node (omega (arith, fits.node.1)),
  short_decimal id.boot (omega (arith, fits.boot.1)),
  short_decimal id.seq fits.seq.1,
)

short_by : (node : ℕ) (protocol id : List ℕ) → node < 2 ^ 64 → length protocol ≤ 5 → length id ≤ 62 → length (by_line node protocol id) ≤ 200
short_by node protocol id small small_protocol small_id =
    let whole = length-nine (codes " by node") (decimal node) (codes " with ") protocol (codes " id <") id (codes "@node") (decimal node) (codes ">;") in
    omega (arith, whole, length-sent (codes " by node" ++ decimal node ++ codes " with " ++ protocol ++ codes " id <" ++ id ++ codes "@node" ++ decimal node ++ codes ">;"), short_decimal node small)

short_date : (seconds : ℕ) (date : List ℕ) → IsDate seconds date → length (sent_line (codes " " ++ date)) ≤ 40
short_date seconds date dated =
    let front = take 26 (date_text dated.0) in
    omega (arith, length-sent (codes " " ++ date), length-append (codes " ") date, ap length dated.2, length-append front (codes "+0000"), length-take 26 (date_text dated.0))

-- they leave room for the text in a record
pub short_lines : (mail : Mail) (id : Id) (seconds : ℕ) (date : List ℕ) → IsId id → IsDate seconds date → length mail.sender ≤ 512 → length mail.helo ≤ 255
    → length (trace_lines mail id date) ≤ 60_000
short_lines mail id seconds date fits dated sender helo =
    let path = sent_line (codes "Return-Path: <" ++ mail.sender ++ codes ">") in
    let from = sent_line (codes "Received: from " ++ mail.helo) in
    let by = by_line id.node (protocol_of mail.extended) (id_text id) in
    let at = sent_line (codes " " ++ date) in
    omega (
      arith,
      length-append (path ++ from ++ by) at,
      length-three path from by,
      length-path mail.sender,
      length-from mail.helo,
      short_by id.node (protocol_of mail.extended) (id_text id) (omega (arith, fits.node.1)) (short_protocol mail.extended) (short_id id fits),
      short_date seconds date dated,
    )
