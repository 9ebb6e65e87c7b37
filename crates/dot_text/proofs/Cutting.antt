-- Lines cut off and octets skipped.
use Rattle.std.proofs.Common.{◌≡◌, ◌≢◌, ◌+◌, ◌-◌, ◌<◌, ◌≤◌, ℕ, List, [], ◌∷◌, ◌++◌, length, take, drop, get_or, flat_map, sym, ap, ap₂, subst, ◌∙◌, arith, append_assoc}
use Rattle.std.specs.Prelude.{slice_index}
use Rattle.std.proofs.lemmas.List.{append-nil, drop_more, length-drop, get_or-drop, get_or_append_left, get_or-take, length-take-le, length-append, drop-drop, take-append-drop, take_all}
use Rattle.std.proofs.lemmas.List.Edits.{take-paste}
use lib.Seq.{paste}
use Rattle.std.proofs.Math.Seq.{take-append_seam}
use Rattle.std.proofs.lemmas.List.Concat.{flat_map-append}
use Rattle.mail_model.specs.Lines.{HasNoCrlf, sent_line}
use Rattle.dot_text.specs.Cuts.{Taken, taken_octets, AreTaken, Cuts, IsFirstCrlf, HasNoneBefore}
use Rattle.dot_text.specs.Cuts.Taken.{Given, Skipped}

-- what was taken, and one take more
are_push : (taken : List Taken) (last : Taken) → AreTaken taken → AreTaken (last ∷ []) → AreTaken (taken ++ last ∷ [])
are_push [] last are one = one
are_push (Given line ∷ taken) last are one = (are.0, are_push taken last are.1 one)
are_push (Skipped octets ∷ taken) last are one = are_push taken last are one

octets_push : (taken : List Taken) (last : Taken) (rest : List ℕ) → flat_map taken_octets (taken ++ last ∷ []) ++ rest ≡ flat_map taken_octets taken ++ (taken_octets last ++ rest)
octets_push taken last rest =
    ap (λ (l : List ℕ). l ++ rest) (flat_map-append taken_octets taken (last ∷ []) ∙ ap (λ (l : List ℕ). flat_map taken_octets taken ++ l) (append-nil (taken_octets last)))
    ∙ append_assoc (flat_map taken_octets taken) (taken_octets last) rest

-- octets more
pub cuts_fed : (fed : List ℕ) (taken : List Taken) (old piece new : List ℕ) → new ≡ old ++ piece → Cuts fed taken old → Cuts (fed ++ piece) taken new
cuts_fed fed taken old piece new is cuts = record {
  whole = ap (λ (l : List ℕ). l ++ piece) cuts.whole ∙ append_assoc (flat_map taken_octets taken) old piece ∙ ap (λ (l : List ℕ). flat_map taken_octets taken ++ l) (sym is);
  lines = cuts.lines;
}

-- a take more
pub cuts_taken : (fed : List ℕ) (taken : List Taken) (last : Taken) (old new : List ℕ) → old ≡ taken_octets last ++ new → AreTaken (last ∷ []) → Cuts fed taken old → Cuts fed (taken ++ last ∷ []) new
cuts_taken fed taken last old new is one cuts = record {
  whole = cuts.whole ∙ ap (λ (l : List ℕ). flat_map taken_octets taken ++ l) is ∙ sym (octets_push taken last new);
  lines = are_push taken last cuts.lines one;
}

-- the first CRLF ends the first line
pub first_line : (octets : List ℕ) (place : ℕ) → IsFirstCrlf octets place → octets ≡ sent_line (take place octets) ++ drop (place + 2) octets
first_line octets place is =
    let within : place < length octets = omega (arith, is.within) in
    let more : drop place octets ≡ get_or octets place 0 ∷ drop (place + 1) octets = drop_more octets place 0 within in
    let further : drop (place + 1) octets ≡ get_or octets (place + 1) 0 ∷ drop (place + 1 + 1) octets = drop_more octets (place + 1) 0 is.within in
    let two : place + 1 + 1 ≡ place + 2 = omega arith in
    sym (take-append-drop place octets)
    ∙ ap (λ (l : List ℕ). take place octets ++ l)
    (more ∙ ap₂ (λ (x : ℕ) (l : List ℕ). x ∷ l) is.cr (further ∙ ap₂ (λ (x : ℕ) (n : ℕ). x ∷ drop n octets) is.lf two))
    ∙ sym (append_assoc (take place octets) (13 ∷ 10 ∷ []) (drop (place + 2) octets))

pub first_none : (octets : List ℕ) (place : ℕ) → IsFirstCrlf octets place → HasNoCrlf (take place octets)
first_none octets place is k within cr lf =
    let all : place ≤ length octets = omega (arith, is.within) in
    let len = length-take-le place octets all in
    let inside : k + 1 < place = omega (arith, len) in
    let before : k < place = omega arith in
    is.first k before (sym (get_or-take place octets k 0 before) ∙ cr) (sym (get_or-take place octets (k + 1) 0 inside) ∙ lf)

-- octets that were looked at, and octets more after them
pub seen_fed : (octets piece : List ℕ) (seen : ℕ) → HasNoneBefore octets seen → HasNoneBefore (octets ++ piece) seen
seen_fed octets piece seen none k before =
    let here = none k before in
    let inside : k < length octets = omega (arith, here.0) in (
      omega (arith, length-append octets piece, here.0),
      λ cr lf. here.1 (sym (get_or_append_left octets piece 0 k inside) ∙ cr) (sym (get_or_append_left octets piece 0 (k + 1) here.0) ∙ lf),
    )

-- and some of them skipped
pub seen_skipped : (octets : List ℕ) (start count seen : ℕ) → HasNoneBefore (drop start octets) seen → HasNoneBefore (drop (start + count) octets) (seen - count)
seen_skipped octets start count seen none k before =
    let later : count + k < seen = omega arith in
    let here = none (count + k) later in
    let split : drop (start + count) octets ≡ drop count (drop start octets) = sym (drop-drop count start octets) in
    let one : count + (k + 1) ≡ count + k + 1 = omega arith in
    let Here : List ℕ → Type 0 = λ l. (k + 1 < length l) × (slice_index l k ≡ 13 → slice_index l (k + 1) ≢ 10) in
    subst Here (sym split) (
      omega (arith, here.0, length-drop count (drop start octets)),
      λ cr lf. here.1 (sym (get_or-drop count (drop start octets) k 0) ∙ cr)
          (ap (λ (n : ℕ). get_or (drop start octets) n 0) (sym one) ∙ sym (get_or-drop count (drop start octets) (k + 1) 0) ∙ lf),
    )

-- all of them
pub seen_all : (octets : List ℕ) → HasNoCrlf octets → HasNoneBefore octets (length octets - 1)
seen_all octets none k before = (omega arith, none k (omega arith))

-- what is left once it was copied to the beginning and the octets after it cut off
pub moved : (octets : List ℕ) (start size left : ℕ) → start ≤ length octets → size ≡ length octets → left ≡ size - start → take left (paste octets 0 (drop start octets) (size - start)) ≡ drop start octets
moved octets start size left within all is =
    let few : size - start ≤ length (drop start octets) = omega (arith, all, length-drop start octets) in
    let most : length (drop start octets) ≤ size - start = omega (arith, all, length-drop start octets) in
    ap (λ (n : ℕ). take n (paste octets 0 (drop start octets) (size - start))) (let same : left ≡ 0 + (size - start) = omega (arith, is) in same)
    ∙ take-paste octets 0 (drop start octets) (size - start) (omega arith) few
    ∙ take_all (size - start) (drop start octets) most

-- the first line of the rest, which begins at this place
module _ (octets : List ℕ) (start len : ℕ) (is : IsFirstCrlf (drop start octets) len) where
  pub next_line : drop start octets ≡ sent_line (take len (drop start octets)) ++ drop (start + (len + 2)) octets
  next_line =
      first_line (drop start octets) len is
      ∙ ap (λ (l : List ℕ). sent_line (take len (drop start octets)) ++ l) (drop-drop (len + 2) start octets)

  pub next_length : len + 2 ≡ length (sent_line (take len (drop start octets)))
  next_length =
      let all : len ≤ length (drop start octets) = omega (arith, is.within) in
      sym (length-append (take len (drop start octets)) (13 ∷ 10 ∷ []) ∙ ap (λ (n : ℕ). n + 2) (length-take-le len (drop start octets) all))

  pub next_last : take (start + (len + 2) - start) (drop start octets) ≡ sent_line (take len (drop start octets))
  next_last =
      let count : start + (len + 2) - start ≡ length (sent_line (take len (drop start octets))) = omega (arith, next_length) in
      ap₂ (λ (n : ℕ) (l : List ℕ). take n l) count (first_line (drop start octets) len is)
      ∙ take-append_seam (sent_line (take len (drop start octets))) (drop (len + 2) (drop start octets))

-- what was taken last is put back
are_front : (taken : List Taken) (last : Taken) → AreTaken (taken ++ last ∷ []) → AreTaken taken
are_front [] last are = tt
are_front (Given line ∷ taken) last are = (are.0, are_front taken last are.1)
are_front (Skipped octets ∷ taken) last are = are_front taken last are

pub cuts_back : (fed : List ℕ) (taken : List Taken) (last : Taken) (old new : List ℕ) → new ≡ taken_octets last ++ old → Cuts fed (taken ++ last ∷ []) old → Cuts fed taken new
cuts_back fed taken last old new is cuts = record {
  whole = cuts.whole ∙ octets_push taken last old ∙ ap (λ (l : List ℕ). flat_map taken_octets taken ++ l) (sym is);
  lines = are_front taken last cuts.lines;
}

pub back : (octets : List ℕ) (last start : ℕ) → last ≤ start → drop last octets ≡ take (start - last) (drop last octets) ++ drop start octets
back octets last start before =
    let all : last + (start - last) ≡ start = omega (arith, before) in
    sym (take-append-drop (start - last) (drop last octets))
    ∙ ap (λ (l : List ℕ). take (start - last) (drop last octets) ++ l) (drop-drop (start - last) last octets ∙ ap (λ (n : ℕ). drop n octets) all)
