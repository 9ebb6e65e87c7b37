-- What is written in time stays so.
use Rattle.std.proofs.Common.{inl, inr, ◌≡◌, ◌++◌, ◌∷◌, ℕ, List, [], None, refl, sym, ap, ◌∙◌, append_assoc}
use Rattle.std.specs.Prelude.{flat_map}
use Rattle.std.proofs.lemmas.List.Concat.{flat_map-append}
use Rattle.mail_model.specs.Lines.{sent_line}
use Rattle.session_model.specs.Talk.{Exchange, replies}
use Rattle.session_gate.specs.InTime.{NoneAnswered, FirstAnswered, WritesInTime}

none_snoc : (xs : List Exchange) (one : Exchange) → NoneAnswered xs → one.answer ≡ None → NoneAnswered (xs ++ one ∷ [])
none_snoc [] one none is = (is, tt)
none_snoc (x ∷ xs) one none is = (none.0, none_snoc xs one none.1 is)

first_snoc : (xs : List Exchange) (one : Exchange) → FirstAnswered xs → one.answer ≡ None → FirstAnswered (xs ++ one ∷ [])
first_snoc [] one first is = tt
first_snoc (x ∷ xs) one first is = none_snoc xs one first is

module _ (greeting : List ℕ) where
  -- a unit more, which was not answered
  pub heard_in_time : (wrote : List ℕ) (xs : List Exchange) (one : Exchange) → WritesInTime greeting wrote xs → one.answer ≡ None → WritesInTime greeting wrote (xs ++ one ∷ [])
  heard_in_time wrote xs one (inl none) is = inl (none_snoc xs one none is)
  heard_in_time wrote xs one (inr w) is = inr (record {
    written = w.written;
    late = w.late ++ one ∷ [];
    are = ap (λ (l : List Exchange). l ++ one ∷ []) w.are ∙ append_assoc w.written w.late (one ∷ []);
    rest = w.rest;
    begins = w.begins;
    first = first_snoc w.late one w.first is;
  })

  -- octets more
  pub more_in_time : (wrote more : List ℕ) (xs : List Exchange) → WritesInTime greeting wrote xs → WritesInTime greeting (wrote ++ more) xs
  more_in_time wrote more xs (inl none) = inl none
  more_in_time wrote more xs (inr w) = inr (record {
    written = w.written;
    late = w.late;
    are = w.are;
    rest = w.rest ++ more;
    begins = ap (λ (l : List ℕ). l ++ more) w.begins ∙ append_assoc (sent_line greeting ++ flat_map sent_line (replies w.written)) w.rest more;
    first = w.first;
  })

  -- whatever comes next, where all that was said before is written
  pub next_in_time : (wrote said more : List ℕ) (lines last : List (List ℕ)) (xs : List Exchange) (one : Exchange) → lines ≡ replies xs ++ last
      → said ≡ sent_line greeting ++ flat_map sent_line lines → wrote ≡ said ++ more → WritesInTime greeting wrote (xs ++ one ∷ [])
  next_in_time wrote said more lines last xs one are says is = inr (record {
    written = xs;
    late = one ∷ [];
    are = refl;
    rest = flat_map sent_line last ++ more;
    begins = is ∙ ap (λ (l : List ℕ). l ++ more) front ∙ append_assoc (sent_line greeting ++ flat_map sent_line (replies xs)) (flat_map sent_line last) more;
    first = tt;
  })
    where
      front : said ≡ (sent_line greeting ++ flat_map sent_line (replies xs)) ++ flat_map sent_line last
      front = says ∙ ap (λ (l : List (List ℕ)). sent_line greeting ++ flat_map sent_line l) are
          ∙ ap (λ (l : List ℕ). sent_line greeting ++ l) (flat_map-append sent_line (replies xs) last)
          ∙ sym (append_assoc (sent_line greeting) (flat_map sent_line (replies xs)) (flat_map sent_line last))
