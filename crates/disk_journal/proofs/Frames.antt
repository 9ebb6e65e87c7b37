-- How the octets of a journal are cut into records.
use Rattle.std.proofs.Common.{◌≡◌, ◌≢◌, ℕ, ◌+◌, ◌-◌, ◌<◌, ◌≤◌, ◌^◌, List, [], ◌∷◌, ◌++◌, length, flat_map, take, drop, get_or, Option, Some, None, IfSome, Err, refl, sym, ap, ap₂, subst, ◌∙◌, arith, append_assoc, length-append, w32}
use Rattle.std.specs.Int.{to_be_bytes, from_be_bytes}
use Rattle.std.proofs.lemmas.List.{append-nil, append_cancel_left, drop_more, drop_at, drop-drop, take-append-drop, length-drop, length-take-le}
use Rattle.std.proofs.lemmas.List.Concat.{flat_map-append}
use Rattle.std.proofs.lemmas.Grind.{common_steps}
use Rattle.std.proofs.lemmas.Nat.{from_be_bytes-to_be_bytes_4}
use Rattle.mail_model.specs.Record.{journal_of, header_of, framed, AreShort}
use Rattle.disk_journal.specs.Reading.{LieInRow, AreAt, IsNoJournal, IsOpened, IsClosedAt, IsRecordAt, IsCutAt, LiesAtPlace, FoundAt, JournalOpened}
use Rattle.disk_journal.specs.declared.fault.JournalFault.{JournalFault}
use Rattle.disk_journal.specs.declared.fault.JournalFault.TheVariants.{DiskFault, NotAJournal, TooLarge, NoMemory}
use Rattle.disk_journal.specs.declared.place.Place.{Place}

-- two texts of one length, and what follows each
same_fronts : (a b x y : List ℕ) → length a ≡ length b → a ++ x ≡ b ++ y → (a ≡ b) × (x ≡ y)
same_fronts [] [] x y size same = (refl, same)
same_fronts [] (c ∷ b) x y size same = absurd (omega (arith, size))
same_fronts (c ∷ a) [] x y size same = absurd (omega (arith, size))
same_fronts (c ∷ a) (d ∷ b) x y size same =
    let first : c ≡ d = cc in
    let later : a ++ x ≡ b ++ y = cc in
    let shorter : length a ≡ length b = omega (arith, size) in
    let rest = same_fronts a b x y shorter later in
    (ap₂ ◌∷◌ first rest.0, rest.1)

-- a length below 2 ^ 32 is read back from its octets
same_size : (m n : ℕ) → m < 2 ^ 32 → n < 2 ^ 32 → to_be_bytes w32 m ≡ to_be_bytes w32 n → m ≡ n
same_size m n short_m short_n e = sym (from_be_bytes-to_be_bytes_4 m short_m) ∙ ap (from_be_bytes w32) e ∙ from_be_bytes-to_be_bytes_4 n short_n

-- the first record, and what follows it
same_frames : (p q more others : List ℕ) → length p < 2 ^ 32 → length q < 2 ^ 32 → framed p ++ more ≡ framed q ++ others → (p ≡ q) × (more ≡ others)
same_frames p q more others short_p short_q same =
    let behind : (to_be_bytes w32 (length p) ++ p) ++ more ≡ (to_be_bytes w32 (length q) ++ q) ++ others = ap (drop 1) same in
    let sizes = same_fronts (to_be_bytes w32 (length p)) (to_be_bytes w32 (length q)) (p ++ more) (q ++ others) refl
    (sym (append_assoc (to_be_bytes w32 (length p)) p more) ∙ behind ∙ append_assoc (to_be_bytes w32 (length q)) q others) in
    same_fronts p q more others (same_size (length p) (length q) short_p short_q sizes.0) sizes.1

-- a gate that is closed begins no record
closed_gate : (gate : ℕ) (payload more octets : List ℕ) → gate ≢ 0xA5 → gate ∷ octets ≡ framed payload ++ more → ⊥
closed_gate gate payload more octets closed e = closed (ap (λ (l : List ℕ). get_or l 0 0) e)

-- the records that are left, and the closed gate
pub record IsLeft (tail : List ℕ) (gate : ℕ) (others : List ℕ) : Type 0 where
  pub more : List (List ℕ)
  pub short : AreShort more
  pub are : tail ≡ flat_map framed more ++ gate ∷ others

-- octets that begin with records and are records up to a closed gate have this gate after what follows the first ones
left_behind : (p q : List (List ℕ)) (tail : List ℕ) (gate : ℕ) (others : List ℕ) → AreShort p → AreShort q → gate ≢ 0xA5
    → flat_map framed p ++ tail ≡ flat_map framed q ++ gate ∷ others → IsLeft tail gate others
left_behind [] q tail gate others short_p short_q closed same = record { more = q; short = short_q; are = same }
left_behind (x ∷ p) [] tail gate others short_p short_q closed same =
    absurd (closed_gate gate x (flat_map framed p ++ tail) others closed (sym same ∙ append_assoc (framed x) (flat_map framed p) tail))
left_behind (x ∷ p) (y ∷ q) tail gate others short_p short_q closed same =
    let parts = same_frames x y (flat_map framed p ++ tail) (flat_map framed q ++ gate ∷ others) short_p.0 short_q.0
    (sym (append_assoc (framed x) (flat_map framed p) tail) ∙ same ∙ append_assoc (framed y) (flat_map framed q) (gate ∷ others)) in
    left_behind p q tail gate others short_p.1 short_q.1 closed parts.1

never_left : (held : List ℕ) (at : ℕ) (gate : ℕ) (others : List ℕ) → gate ≢ 0xA5 → IsCutAt held at → (more : List (List ℕ)) → AreShort more
    → drop at held ≡ flat_map framed more ++ gate ∷ others → ⊥
never_left held at gate others closed cut [] short are = cut.no_gate gate others are closed
never_left held at gate others closed cut (first ∷ more) short are =
    cut.no_record first (flat_map framed more ++ gate ∷ others) short.0 (are ∙ append_assoc (framed first) (flat_map framed more) (gate ∷ others))

-- The octets begin with these records, which lie at these places, and have an octet or an end after them.
pub record HasRead (node : ℕ) (held : List ℕ) (end : ℕ) (places : List Place) : Type 0 where
  pub payloads : List (List ℕ)
  pub whole : held ≡ journal_of node payloads ++ drop end held
  pub at_gate : end ≡ length (journal_of node payloads)
  pub short : AreShort payloads
  pub are : AreAt 16 places payloads

-- where neither a closed gate nor a record follows, there is no journal
pub no_journal : (node : ℕ) (held : List ℕ) (end : ℕ) (places : List Place) → HasRead node held end places → IsCutAt held end → IsNoJournal node held
no_journal node held end places read cut = λ payloads journal.
    let rest = append_cancel_left (header_of node) _ _
    (sym (append_assoc (header_of node) (flat_map framed read.payloads) (drop end held)) ∙ sym read.whole ∙ journal.whole
    ∙ append_assoc (header_of node) (flat_map framed payloads) (journal.gate ∷ journal.others)) in
    let left = left_behind read.payloads payloads (drop end held) journal.gate journal.others read.short journal.short journal.closed rest in
    never_left held end journal.gate journal.others journal.closed cut left.more left.short left.are

-- a header alone
pub header_read : (node : ℕ) (held : List ℕ) → 16 ≤ length held → take 16 held ≡ header_of node → HasRead node held 16 []
header_read node held long is = record {
  payloads = [];
  whole = sym (take-append-drop 16 held) ∙ ap (λ (l : List ℕ). l ++ drop 16 held) (is ∙ sym (append-nil (header_of node)));
  at_gate = refl;
  short = tt;
  are = tt;
}

are_short-append : (payloads : List (List ℕ)) (payload : List ℕ) → AreShort payloads → length payload < 2 ^ 32 → AreShort (payloads ++ payload ∷ [])
are_short-append [] payload short small = (small, tt)
are_short-append (first ∷ payloads) payload short small = (short.0, are_short-append payloads payload short.1 small)

length-framed : (payload : List ℕ) → length (framed payload) ≡ 5 + length payload
length-framed payload = omega arith

-- one place more
are_more : (at : ℕ) (places : List Place) (payloads : List (List ℕ)) (place : Place) (payload : List ℕ) → AreAt at places payloads
    → place.at ≡ at + length (flat_map framed payloads) + 5 → place.length ≡ length payload → AreAt at (places ++ place ∷ []) (payloads ++ payload ∷ [])
are_more at [] [] place payload are begins size = (omega (arith, begins), size, tt)
are_more at [] (first ∷ payloads) place payload are begins size = absurd are
are_more at (other ∷ places) [] place payload are begins size = absurd are
are_more at (other ∷ places) (first ∷ payloads) place payload are begins size = (
  are.0,
  are.1,
  are_more (at + 5 + length first) places payloads place payload are.2 (omega (arith, begins, length-append (framed first) (flat_map framed payloads), length-framed first)) size,
)

pub row_more : (at : ℕ) (places : List Place) (place : Place) (end : ℕ) → LieInRow at places end → place.at ≡ end + 5 → LieInRow at (places ++ place ∷ []) (place.at + place.length)
row_more at [] place end row begins = (omega (arith, row, begins), omega (arith, row, begins))
row_more at (first ∷ places) place end row begins = (row.0, row_more (at + 5 + first.length) places place end row.1 begins)

pub row_first : (places : List Place) → places ≡ [] → LieInRow 16 places 16
row_first places none = rw none refl

pub row_next : (places more : List Place) (place : Place) (end : ℕ) → LieInRow 16 places end → more ≡ places ++ place ∷ [] → place.at ≡ end + 5 → LieInRow 16 more (place.at + place.length)
row_next places more place end row are begins = rw are (row_more 16 places place end row begins)

-- one record more
pub record_read : (node : ℕ) (held : List ℕ) (end : ℕ) (places : List Place) (place : Place) → HasRead node held end places → IsRecordAt held end place
    → HasRead node held (place.at + place.length) (places ++ place ∷ [])
record_read node held end places place read here =
    let payload = here.payload in
    let next = place.at + place.length in
    let size : next ≡ end + length (framed payload) = omega (arith, here.begins, here.size, length-framed payload) in
    let behind : drop next held ≡ here.others = ap (λ (n : ℕ). drop n held) size ∙ sym (drop-drop (length (framed payload)) end held) ∙ ap (λ (l : List ℕ). drop (length (framed payload)) l) here.here
    ∙ drop_at (framed payload) here.others (length (framed payload)) refl in
    let more : flat_map framed (read.payloads ++ payload ∷ []) ≡ flat_map framed read.payloads ++ framed payload = flat_map-append framed read.payloads (payload ∷ []) ∙ grind (arith, common_steps) in
    let journal : journal_of node (read.payloads ++ payload ∷ []) ≡ journal_of node read.payloads ++ framed payload =
    ap (λ (l : List ℕ). header_of node ++ l) more ∙ sym (append_assoc (header_of node) (flat_map framed read.payloads) (framed payload)) in
    record {
      payloads = read.payloads ++ payload ∷ [];
      whole = read.whole ∙ ap (λ (l : List ℕ). journal_of node read.payloads ++ l) (here.here ∙ ap (λ (l : List ℕ). framed payload ++ l) (sym behind))
          ∙ sym (append_assoc (journal_of node read.payloads) (framed payload) (drop next held)) ∙ ap (λ (l : List ℕ). l ++ drop next held) (sym journal);
      at_gate = size ∙ omega (arith, read.at_gate, ap length journal, length-append (journal_of node read.payloads) (framed payload));
      short = are_short-append read.payloads payload read.short here.short;
      are = are_more 16 places read.payloads place payload read.are (here.begins ∙ omega (arith, read.at_gate, length-append (header_of node) (flat_map framed read.payloads))) here.size;
    }

-- a closed gate ends it
pub all_read : (node : ℕ) (held : List ℕ) (end : ℕ) (places : List Place) → HasRead node held end places → IsClosedAt held end → IsOpened node held end places
all_read node held end places read here = record {
  payloads = read.payloads;
  ends = record {
    journal = record { gate = here.gate; others = here.others; whole = read.whole ∙ ap (λ (l : List ℕ). journal_of node read.payloads ++ l) here.here; closed = here.closed; short = read.short };
    at_gate = read.at_gate;
  };
  within = omega (arith, ap length here.here, length-drop end held);
  are = read.are;
}

-- an begun gate
opens : (held : List ℕ) (at : ℕ) (first : List ℕ) → first ≡ take 1 (drop at held) → get_or first 0 0 ≡ 0xA5 → at < length held → drop at held ≡ 0xA5 ∷ drop (at + 1) held
opens held at first is gate within =
    let more = drop_more held at 0 within in
    let found : get_or held at 0 ≡ 0xA5 = sym (ap (λ (l : List ℕ). get_or l 0 0) (is ∙ ap (λ (l : List ℕ). take 1 l) more)) ∙ gate in
    more ∙ ap (λ (x : ℕ). x ∷ drop (at + 1) held) found

no_gate_here : (held : List ℕ) (at : ℕ) → drop at held ≡ 0xA5 ∷ drop (at + 1) held → (gate : ℕ) (others : List ℕ) → drop at held ≡ gate ∷ others → gate ≢ 0xA5 → ⊥
no_gate_here held at begun gate others e closed = closed (ap (λ (l : List ℕ). get_or l 0 0) (sym e ∙ begun))

-- fewer than five octets are left
cut_short : (held : List ℕ) (at : ℕ) (first : List ℕ) → first ≡ take 1 (drop at held) → get_or first 0 0 ≡ 0xA5 → at < length held → length held - at < 5 → IsCutAt held at
cut_short held at first is gate within few = record {
  no_gate = no_gate_here held at (opens held at first is gate within);
  no_record = λ payload others short e.
      absurd (omega (arith, few, ap length e, length-drop at held, length-append (framed payload) others, length-framed payload));
}

-- the length of a record that is whole
size_here : (held : List ℕ) (at size : ℕ) (second payload others : List ℕ) → second ≡ take 4 (drop (at + 1) held) → to_be_bytes w32 size ≡ second → size < 2 ^ 32
    → drop at held ≡ 0xA5 ∷ drop (at + 1) held → length payload < 2 ^ 32 → drop at held ≡ framed payload ++ others → size ≡ length payload
size_here held at size second payload others is spelt fits begun short e =
    let behind : drop (at + 1) held ≡ (to_be_bytes w32 (length payload) ++ payload) ++ others = ap (drop 1) (sym begun ∙ e) in
    same_size size (length payload) fits short (spelt ∙ is ∙ ap (take 4) behind)

-- fewer octets are left than the record says
cut_long : (held : List ℕ) (at size : ℕ) (first second : List ℕ) → first ≡ take 1 (drop at held) → get_or first 0 0 ≡ 0xA5 → at < length held
    → second ≡ take 4 (drop (at + 1) held) → to_be_bytes w32 size ≡ second → size < 2 ^ 32 → length held - at - 5 < size → IsCutAt held at
cut_long held at size first second is gate within is_size spelt fits few =
    let begun = opens held at first is gate within in
    record {
      no_gate = no_gate_here held at begun;
      no_record = λ payload others short e.
          let same = size_here held at size second payload others is_size spelt fits begun short e in
          absurd (omega (arith, few, same, ap length e, length-drop at held, length-append (framed payload) others, length-framed payload));
    }

-- a record that is whole
whole_here : (held : List ℕ) (at size : ℕ) (first second : List ℕ) (place : Place) → first ≡ take 1 (drop at held) → get_or first 0 0 ≡ 0xA5 → at < length held
    → second ≡ take 4 (drop (at + 1) held) → to_be_bytes w32 size ≡ second → size < 2 ^ 32 → size ≤ length held - at - 5 → 5 ≤ length held - at
    → place.at ≡ at + 5 → place.length ≡ size → IsRecordAt held at place
whole_here held at size first second place is gate within is_size spelt fits enough five begins sized =
    let begun = opens held at first is gate within in
    let rest = drop (at + 5) held in
    let payload = take size rest in
    let long : length rest ≡ length held - (at + 5) = length-drop (at + 5) held in
    let whole : length payload ≡ size = length-take-le size rest (omega (arith, long, enough)) in
    let behind : drop 4 (drop (at + 1) held) ≡ rest = drop-drop 4 (at + 1) held ∙ ap (λ (n : ℕ). drop n held) (let k : at + 1 + 4 ≡ at + 5 = omega arith in k) in
    let parts : drop (at + 1) held ≡ to_be_bytes w32 size ++ rest = sym (take-append-drop 4 (drop (at + 1) held)) ∙ ap (λ (l : List ℕ). take 4 (drop (at + 1) held) ++ l) behind ∙ ap (λ (l : List ℕ). l ++ rest) (sym is_size ∙ sym spelt) in
    record {
      payload = payload;
      others = drop size rest;
      here = begun ∙ ap (λ (l : List ℕ). 0xA5 ∷ l) (parts ∙ ap (λ (l : List ℕ). to_be_bytes w32 size ++ l) (sym (take-append-drop size rest)) ∙ sym (append_assoc (to_be_bytes w32 size) payload (drop size rest))
          ∙ ap (λ (n : ℕ). (to_be_bytes w32 n ++ payload) ++ drop size rest) (sym whole));
      begins = begins;
      size = sized ∙ sym whole;
      short = omega (arith, whole, fits);
    }

-- the same where the disk tells its octets
pub told_short : (seen : Option (List ℕ)) (total at : ℕ) (first : List ℕ) → IfSome seen (λ held. total ≡ length held) → IfSome seen (λ held. first ≡ take 1 (drop at held))
    → get_or first 0 0 ≡ 0xA5 → at < total → total - at < 5 → IfSome seen (λ held. IsCutAt held at)
told_short None total at first is found gate within few = tt
told_short (Some held) total at first is found gate within few = cut_short held at first found gate (omega (arith, within, is)) (omega (arith, few, is))

pub told_long : (seen mid : Option (List ℕ)) (total at size : ℕ) (first second : List ℕ) → mid ≡ seen → IfSome seen (λ held. total ≡ length held) → IfSome seen (λ held. first ≡ take 1 (drop at held))
    → get_or first 0 0 ≡ 0xA5 → at < total → IfSome mid (λ held. second ≡ take 4 (drop (at + 1) held)) → to_be_bytes w32 size ≡ second → size < 2 ^ 32 → total - at - 5 < size
    → IfSome seen (λ held. IsCutAt held at)
told_long None mid total at size first second same is found gate within found_size spelt fits few = tt
told_long (Some held) mid total at size first second same is found gate within found_size spelt fits few =
    let second_is = subst (λ (o : Option (List ℕ)). IfSome o (λ h. second ≡ take 4 (drop (at + 1) h))) same found_size in
    cut_long held at size first second found gate (omega (arith, within, is)) second_is spelt fits (omega (arith, few, is))

pub told_whole : (seen mid : Option (List ℕ)) (total at size : ℕ) (first second : List ℕ) (place : Place) → mid ≡ seen → IfSome seen (λ held. total ≡ length held)
    → IfSome seen (λ held. first ≡ take 1 (drop at held)) → get_or first 0 0 ≡ 0xA5 → at < total → IfSome mid (λ held. second ≡ take 4 (drop (at + 1) held))
    → to_be_bytes w32 size ≡ second → size < 2 ^ 32 → size ≤ total - at - 5 → 5 ≤ total - at → place.at ≡ at + 5 → place.length ≡ size → IfSome seen (λ held. IsRecordAt held at place)
told_whole None mid total at size first second place same is found gate within found_size spelt fits enough five begins sized = tt
told_whole (Some held) mid total at size first second place same is found gate within found_size spelt fits enough five begins sized =
    let second_is = subst (λ (o : Option (List ℕ)). IfSome o (λ h. second ≡ take 4 (drop (at + 1) h))) same found_size in
    whole_here held at size first second place found gate (omega (arith, within, is)) second_is spelt fits (omega (arith, enough, is)) (omega (arith, five, is)) begins sized

-- the same of a disk that tells its octets, and was read before
pub told_header : (seen mid : Option (List ℕ)) (node : ℕ) (places : List Place) → mid ≡ seen → places ≡ [] → IfSome mid (λ held. (16 ≤ length held) × (take 16 held ≡ header_of node))
    → IfSome seen (λ held. HasRead node held 16 places)
told_header None mid node places same none found = tt
told_header (Some held) mid node places same none found =
    let here = subst (λ (o : Option (List ℕ)). IfSome o (λ h. (16 ≤ length h) × (take 16 h ≡ header_of node))) same found in
    rw none (header_read node held here.0 here.1)

pub told_more : (seen mid : Option (List ℕ)) (node end : ℕ) (places more : List Place) (place : Place) → mid ≡ seen → more ≡ places ++ place ∷ [] → IfSome seen (λ held. HasRead node held end places)
    → IfSome mid (λ held. IsRecordAt held end place) → IfSome seen (λ held. HasRead node held (place.at + place.length) more)
told_more None mid node end places more place same are read found = tt
told_more (Some held) mid node end places more place same are read found =
    rw are (record_read node held end places place read (subst (λ (o : Option (List ℕ)). IfSome o (λ h. IsRecordAt h end place)) same found))

told_closed : (seen mid : Option (List ℕ)) (node end : ℕ) (places : List Place) → mid ≡ seen → IfSome seen (λ held. HasRead node held end places)
    → IfSome mid (λ held. IsClosedAt held end) → IfSome seen (λ held. IsOpened node held end places)
told_closed None mid node end places same read found = tt
told_closed (Some held) mid node end places same read found = all_read node held end places read (subst (λ (o : Option (List ℕ)). IfSome o (λ h. IsClosedAt h end)) same found)

pub told_end : (found : Option Place) (seen mid : Option (List ℕ)) (node end : ℕ) (places : List Place) → ((place : Place) → found ≡ Some place → ⊥) → mid ≡ seen
    → IfSome seen (λ held. HasRead node held end places) → IfSome mid (λ held. LiesAtPlace held end found) → IfSome seen (λ held. IsOpened node held end places)
told_end None seen mid node end places never same read here = told_closed seen mid node end places same read here
told_end (Some place) seen mid node end places never same read here = absurd (never place refl)

told_none : (seen mid : Option (List ℕ)) (node end : ℕ) (places : List Place) → mid ≡ seen → IfSome seen (λ held. HasRead node held end places)
    → IfSome mid (λ held. IsCutAt held end) → IfSome seen (IsNoJournal node)
told_none None mid node end places same read found = tt
told_none (Some held) mid node end places same read found = no_journal node held end places read (subst (λ (o : Option (List ℕ)). IfSome o (λ h. IsCutAt h end)) same found)

-- why an opening failed at a record
pub open_fails : (fault : JournalFault) (seen mid : Option (List ℕ)) (node end before between now : ℕ) (places : List Place) → mid ≡ seen → between ≡ before
    → IfSome seen (λ held. HasRead node held end places) → FoundAt (Err fault) mid end between now → JournalOpened (Err fault) node seen before now
open_fails DiskFault seen mid node end before between now places same quiet read found = rw quiet at found
open_fails NotAJournal seen mid node end before between now places same quiet read found = (told_none seen mid node end places same read found.0, found.1 ∙ quiet)
open_fails TooLarge seen mid node end before between now places same quiet read found = absurd found
open_fails NoMemory seen mid node end before between now places same quiet read found = absurd found
