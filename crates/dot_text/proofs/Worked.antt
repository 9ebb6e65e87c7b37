-- The definitions at texts that were worked by hand.
use Rattle.std.proofs.Common.{◌≢◌, ℕ, List, [], ◌∷◌, refl, arith}
use Rattle.mail_model.specs.Lines.{HasNoCrlf}
use Rattle.dot_text.specs.Worked.{Received, Sent}
use Rattle.dot_text.proofs.Crlf.{none_cons, none_one}

-- no CR is before
no_cr : (x y : ℕ) (l : List ℕ) → x ≢ 13 → HasNoCrlf (y ∷ l) → HasNoCrlf (x ∷ y ∷ l)
no_cr x y l other later = none_cons x y l (λ e. absurd (other e)) later

pub is_received : Received
is_received = record {
  lines = (46 ∷ 46 ∷ []) ∷ (46 ∷ 97 ∷ []) ∷ (120 ∷ 10 ∷ 46 ∷ 10 ∷ 121 ∷ []) ∷ [];
  are = (
    no_cr 46 46 [] (λ e. omega (arith, e)) (none_one 46),
    refl,
    (
      no_cr 46 97 [] (λ e. omega (arith, e)) (none_one 97),
      refl,
      (
        no_cr 120 10 (46 ∷ 10 ∷ 121 ∷ []) (λ e. omega (arith, e))
            (no_cr 10 46 (10 ∷ 121 ∷ []) (λ e. omega (arith, e))
            (no_cr 46 10 (121 ∷ []) (λ e. omega (arith, e))
            (no_cr 10 121 [] (λ e. omega (arith, e)) (none_one 121)))),
        refl,
        tt,
      ),
    ),
  );
  whole = refl;
  gives = refl;
}

pub is_sent : Sent
is_sent = record {
  lines = (46 ∷ 98 ∷ []) ∷ (46 ∷ 13 ∷ []) ∷ [];
  are = (no_cr 46 98 [] (λ e. omega (arith, e)) (none_one 98), (no_cr 46 13 [] (λ e. omega (arith, e)) (none_one 13), tt));
  whole = refl;
  sends = refl;
}
