-- The lines of a reply, written one after another.
use Rattle.std.proofs.Common.{ap₂, ◌-◌, ◌≡◌, ◌≢◌, ◌+◌, ◌<◌, ◌++◌, ℕ, zero, suc, arith, List, [], ◌∷◌, length, take, drop, flat_map, All, Option, Ok, Err, Result, refl, sym, ap, ◌∙◌, subst, append_assoc}
use Rattle.std.specs.Prelude.{slice_index}
use Rattle.std.proofs.lemmas.List.Elements.{All-head, All-tail}
use Rattle.std.proofs.lemmas.List.{map-append}
use Rattle.mail_model.specs.Transcript.{said_lines, Entry, entry_line, written_of}
use Rattle.mail_model.specs.Transcript.Entry.{Said}
use Rattle.mail_model.proofs.Units.{one_sent_line}
use Rattle.drive_tape.specs.Replies.{HasWritten}
use Rattle.drive_tape.proofs.Writes.{some_line}
use Rattle.std.specs.Io.KnownBytes.{Appends}
use Rattle.std.proofs.lemmas.List.{append-nil, length-drop}
use Rattle.std.proofs.Math.Seq.{take-length}
use Rattle.std.proofs.lemmas.Grind.{flat_map-append}
use Rattle.io_edge.proofs.Known.{appends_more, appends_none}
use Rattle.mail_model.specs.Lines.{HasNoCrlf, sent_line, ended}
use Rattle.drive_tape.specs.declared.entry.WriteStop.{WriteStop}
use Rattle.drive_tape.specs.Entries.{WritesEntries}
use Rattle.drive_tape.specs.Replies.{IsFirstCrlf}

-- the lines of two lists of entries
pub written_more : (xs ys : List Entry) → written_of (xs ++ ys) ≡ written_of xs ++ written_of ys
written_more xs ys = flat_map-append (λ entry. ended (entry_line entry)) xs ys

-- some entries were written, and then others, or a part of them
pub writes_behind : (old mid new : Option (List ℕ)) (before entries : List Entry) (result : Result (Unit {0}) WriteStop)
    → Appends old mid (written_of before) → WritesEntries mid new result entries → WritesEntries old new result (before ++ entries)
writes_behind old mid new before entries (Ok done) wrote more = subst (Appends old new) (sym (written_more before entries)) (appends_more _ _ _ _ _ wrote more)
writes_behind old mid new before entries (Err why) wrote more = (
  before ++ more.0,
  more.1,
  more.2,
  ap (λ (es : List Entry). before ++ es) more.3 ∙ sym (append_assoc before more.0 more.1),
  more.4,
  subst (Appends old new) (sym (append_assoc (written_of before) (written_of more.0) more.2) ∙ ap (λ (l : List ℕ). l ++ more.2) (sym (written_more before more.0)))
      (appends_more _ _ _ _ _ wrote more.5),
)

-- nothing was written
pub writes_none : (old : Option (List ℕ)) (entry : Entry) (entries : List Entry) (why : WriteStop) → WritesEntries {E = WriteStop} old old (Err why) (entry ∷ entries)
writes_none old entry entries why =
    ([], entry ∷ entries, [], refl, record { entry = entry; more = entries; rest = ended (entry_line entry); are = refl; some = some_line entry; whole = refl }, appends_none old)

-- some were, and of those after them none, or a part
pub writes_part : (old new : Option (List ℕ)) (entries others : List Entry) (why : WriteStop) → WritesEntries {E = WriteStop} old new (Err why) entries
    → WritesEntries {E = WriteStop} old new (Err why) (entries ++ others)
writes_part old new entries others why wrote =
    let part = wrote.4 in (
      wrote.0,
      wrote.1 ++ others,
      wrote.2,
      ap (λ (es : List Entry). es ++ others) wrote.3 ∙ append_assoc wrote.0 wrote.1 others,
      record { entry = part.entry; more = part.more ++ others; rest = part.rest; are = ap (λ (es : List Entry). es ++ others) part.are; some = part.some; whole = part.whole },
      wrote.5,
    )

-- the first line of octets in which a CRLF begins
starts : (octets : List ℕ) → IsFirstCrlf octets 0 → octets ≡ 13 ∷ 10 ∷ drop 2 octets
starts [] is = absurd (omega (arith, is.within))
starts (x ∷ []) is = absurd (omega (arith, is.within))
starts (x ∷ y ∷ xs) is = ap₂ (λ (a b : ℕ). a ∷ b ∷ xs) is.cr is.lf

onward : (x : ℕ) (xs : List ℕ) (at : ℕ) → IsFirstCrlf (x ∷ xs) (suc at) → IsFirstCrlf xs at
onward x xs at is = record {
  within = omega (arith, is.within);
  cr = is.cr;
  lf = let e : suc at + 1 ≡ suc (at + 1) = omega arith in subst (λ (n : ℕ). slice_index (x ∷ xs) n ≡ 10) e is.lf;
  first = λ k below cr lf. is.first (suc k) (omega (arith, below)) cr (let e : suc (k + 1) ≡ suc k + 1 = omega arith in subst (λ (n : ℕ). slice_index (x ∷ xs) n ≡ 10) e lf);
}

no_crlf : (octets : List ℕ) (at : ℕ) → IsFirstCrlf octets at → (k : ℕ) → k + 1 < length (take at octets) → slice_index (take at octets) k ≡ 13 → slice_index (take at octets) (k + 1) ≢ 10
no_crlf octets zero is k within cr lf = absurd (omega (arith, within))
no_crlf [] (suc at) is k within cr lf = absurd (omega (arith, within))
no_crlf (x ∷ xs) (suc zero) is k within cr lf = absurd (omega (arith, within))
no_crlf (x ∷ []) (suc (suc at)) is k within cr lf = absurd (omega (arith, is.within))
no_crlf (x ∷ y ∷ xs) (suc (suc at)) is zero within cr lf = is.first 0 (omega arith) cr lf
no_crlf (x ∷ y ∷ xs) (suc (suc at)) is (suc k) within cr lf = no_crlf (y ∷ xs) (suc at) (onward x (y ∷ xs) (suc at) is) k (omega (arith, within)) cr
    (let e : suc k + 1 ≡ suc (k + 1) = omega arith in subst (λ (n : ℕ). slice_index (take (suc (suc at)) (x ∷ y ∷ xs)) n ≡ 10) e lf)

whole_line : (octets : List ℕ) (at : ℕ) → IsFirstCrlf octets at → octets ≡ sent_line (take at octets) ++ drop (at + 2) octets
whole_line octets zero is = starts octets is
whole_line [] (suc at) is = absurd (omega (arith, is.within))
whole_line (x ∷ xs) (suc at) is =
    let e : suc (at + 2) ≡ suc at + 2 = omega arith in
    subst (λ (n : ℕ). x ∷ xs ≡ sent_line (take (suc at) (x ∷ xs)) ++ drop n (x ∷ xs)) e (ap (λ (l : List ℕ). x ∷ l) (whole_line xs at (onward x xs at is)))

pub first_line : (octets : List ℕ) (at : ℕ) → IsFirstCrlf octets at → HasNoCrlf (take at octets) × (octets ≡ sent_line (take at octets) ++ drop (at + 2) octets)
first_line octets at is = (no_crlf octets at is, whole_line octets at is)

-- a line with its CRLF has one
has_crlf : (line more : List ℕ) → HasNoCrlf (line ++ 13 ∷ 10 ∷ more) → ⊥
has_crlf [] more none = none 0 (omega arith) refl refl
has_crlf (x ∷ line) more none = has_crlf line more (λ k within cr lf. none (suc k) (omega (arith, within)) cr
    (let e : suc (k + 1) ≡ suc k + 1 = omega arith in subst (λ (n : ℕ). slice_index (x ∷ (line ++ 13 ∷ 10 ∷ more)) n ≡ 10) e lf))

none_left : (left : List (List ℕ)) (rest : List ℕ) → rest ≡ flat_map sent_line left → HasNoCrlf rest → left ≡ []
none_left [] rest whole none = refl
none_left (line ∷ left) rest whole none =
    absurd (has_crlf line (flat_map sent_line left) (subst HasNoCrlf (whole ∙ append_assoc line (13 ∷ 10 ∷ []) (flat_map sent_line left)) none))

-- nothing is written yet
pub written_first : (old : Option (List ℕ)) (k : ℕ) (lines : List (List ℕ)) (reply : List ℕ) → All HasNoCrlf lines → reply ≡ flat_map sent_line lines → HasWritten old old k lines reply
written_first old k lines reply all whole = record { done = []; left = lines; are = refl; rest = whole; each = all; gave = appends_none old }

module _ (old now : Option (List ℕ)) (k : ℕ) (lines : List (List ℕ)) (rest : List ℕ) where
  -- all is written
  pub written_last : HasWritten old now k lines rest → HasNoCrlf rest → (done : Unit {0}) → WritesEntries {E = WriteStop} old now (Ok done) (said_lines k lines)
  written_last w none done =
      let all : w.done ≡ lines = sym (append-nil w.done) ∙ ap (λ (l : List (List ℕ)). w.done ++ l) (sym (none_left w.left rest w.rest none)) ∙ sym w.are in
      subst (λ (l : List (List ℕ)). Appends old now (written_of (said_lines k l))) all w.gave

  -- one line more is written, or a part of it
  step : (left : List (List ℕ)) (at : ℕ) → All HasNoCrlf left → rest ≡ flat_map sent_line left → IsFirstCrlf rest at
      → (more : List (List ℕ)) × (left ≡ take at rest ∷ more) × (drop (at + 2) rest ≡ flat_map sent_line more) × All HasNoCrlf more
  step [] at all whole is = absurd (omega (arith, is.within, ap length whole))
  step (line ∷ left) at all whole is =
      let first = first_line rest at is in
      let same = one_sent_line (take at rest) line (drop (at + 2) rest) (flat_map sent_line left) first.0 (All-head HasNoCrlf line left all) (sym first.1 ∙ whole) in
      (left, ap (λ (l : List ℕ). l ∷ left) (sym same.0), same.1, All-tail HasNoCrlf line left all)

  pub written_next : (new : Option (List ℕ)) (at : ℕ) → HasWritten old now k lines rest → IsFirstCrlf rest at → Appends now new (ended (entry_line (Said k (take at rest))))
      → HasWritten old new k lines (drop (at + 2) rest)
  written_next new at w is gave =
      let s = step w.left at w.each w.rest is in
      record {
        done = w.done ++ take at rest ∷ [];
        left = s.0;
        are = w.are ∙ ap (λ (l : List (List ℕ)). w.done ++ l) s.1 ∙ sym (append_assoc w.done (take at rest ∷ []) s.0);
        rest = s.2;
        each = s.3;
        gave = subst (Appends old new)
            (ap (λ (l : List ℕ). written_of (said_lines k w.done) ++ l) (sym (append-nil (ended (entry_line (Said k (take at rest))))))
            ∙ sym (written_more (said_lines k w.done) (said_lines k (take at rest ∷ [])))
            ∙ ap written_of (sym (map-append (Said k) w.done (take at rest ∷ []))))
            (appends_more _ _ _ _ _ w.gave gave);
      }

  behind : HasWritten old now k lines rest → (w : HasWritten old now k lines rest) → said_lines k lines ≡ said_lines k w.done ++ said_lines k w.left
  behind unused w = ap (said_lines k) w.are ∙ map-append (Said k) w.done w.left

  pub written_none : (why : WriteStop) (at : ℕ) → HasWritten old now k lines rest → IsFirstCrlf rest at → WritesEntries {E = WriteStop} old now (Err why) (said_lines k lines)
  written_none why at w is =
      let s = step w.left at w.each w.rest is in
      subst (λ (es : List Entry). WritesEntries {E = WriteStop} old now (Err why) es) (ap (λ (es : List Entry). said_lines k w.done ++ es) (sym (ap (said_lines k) s.1)) ∙ sym (behind w w))
      (writes_behind old now now (said_lines k w.done) (said_lines k (take at rest ∷ s.0)) (Err why) w.gave (writes_none now (Said k (take at rest)) (said_lines k s.0) why))

  pub written_part : (why : WriteStop) (new : Option (List ℕ)) (at : ℕ) (front missing : List ℕ) → HasWritten old now k lines rest → IsFirstCrlf rest at
      → 0 < length missing → ended (entry_line (Said k (take at rest))) ≡ front ++ missing → Appends now new front → WritesEntries {E = WriteStop} old new (Err why) (said_lines k lines)
  written_part why new at front missing w is some parts gave =
      let s = step w.left at w.each w.rest is in
      subst (λ (es : List Entry). WritesEntries {E = WriteStop} old new (Err why) es) (sym (behind w w))
      (writes_behind old now new (said_lines k w.done) (said_lines k w.left) (Err why) w.gave
      ([], said_lines k w.left, front, refl, record { entry = Said k (take at rest); more = said_lines k s.0; rest = missing; are = ap (said_lines k) s.1; some = some; whole = parts }, gave))

-- all that is after a place
pub all_taken : (n : ℕ) (octets : List ℕ) → take (length octets - n) (drop n octets) ≡ drop n octets
all_taken n octets = subst (λ (k : ℕ). take k (drop n octets) ≡ drop n octets) (length-drop n octets) (take-length (drop n octets))
