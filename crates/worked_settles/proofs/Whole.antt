-- A session whose replied units take up all octets that it was fed has no other exchange.
use Rattle.std.proofs.Common.{◌≡◌, ◌≤◌, ◌<◌, ℕ, List, [], ◌∷◌, ◌++◌, length, map, flat_map, refl, sym, ap, ap₂, ◌∙◌, arith, append_assoc, length-append}
use Rattle.mail_model.specs.Lines.{sent_line}
use Rattle.mail_model.specs.Plan.{Plan}
use Rattle.mail_model.specs.Session.{Unit}
use Rattle.mail_model.specs.Session.Unit.{Line, Text}
use Rattle.mail_model.specs.Told.{unit_octets}
use Rattle.session_model.specs.Talk.{Exchange, Standing, TalkGoes, stands_by}
use Rattle.session_model.specs.Talk.Standing.{Hearing, Waiting, EndedByQuit, EndedDown, EndedClosed}
use Rattle.session_model.specs.Readings.{view, views}

-- a unit with its reply
abbrev pub pair : Exchange → Unit × List (List ℕ)
pair one = (one.unit, one.reply)

-- the octets of the units
abbrev pub octets_of : List Exchange → List ℕ
octets_of xs = flat_map (λ (one : Exchange). unit_octets one.unit) xs

abbrev pub seen_octets : List (Unit × List (List ℕ)) → List ℕ
seen_octets vs = flat_map (λ (p : Unit × List (List ℕ)). unit_octets p.0) vs

-- no unit is empty
some_octets : (unit : Unit) → 0 < length (unit_octets unit)
some_octets (Line line) = omega (arith, length-append line (13 ∷ 10 ∷ []))
some_octets (Text lines) = omega (arith, length-append (flat_map sent_line lines) (sent_line (46 ∷ [])))

-- a chain takes its units off the octets
pub chain_octets : (plan : Plan) (node : ℕ) (first : Standing) (octets : List ℕ) (xs : List Exchange) (last : Standing) (rest : List ℕ) → TalkGoes plan node first octets xs last rest
    → octets ≡ octets_of xs ++ rest
chain_octets plan node first octets [] last rest goes = sym goes.1
chain_octets plan node (Hearing state) octets (one ∷ xs) last rest (left, next, goes) =
    next.whole ∙ ap (λ (l : List ℕ). unit_octets one.unit ++ l) (chain_octets plan node (stands_by plan node state one) left xs last rest goes)
    ∙ sym (append_assoc (unit_octets one.unit) (octets_of xs) rest)
chain_octets plan node (Waiting state call) octets (one ∷ xs) last rest goes = absurd goes
chain_octets plan node EndedByQuit octets (one ∷ xs) last rest goes = absurd goes
chain_octets plan node EndedDown octets (one ∷ xs) last rest goes = absurd goes
chain_octets plan node EndedClosed octets (one ∷ xs) last rest goes = absurd goes

-- what is seen is no more than what was fed
seen_within : (xs : List Exchange) → length (seen_octets (views xs)) ≤ length (octets_of xs)
seen_within [] = omega arith
seen_within (one ∷ xs) = by (seen_within xs) one.reply
  where
    by : length (seen_octets (views xs)) ≤ length (octets_of xs) → (r : List (List ℕ)) → length (seen_octets (view one.unit r ++ views xs)) ≤ length (unit_octets one.unit ++ octets_of xs)
    by later [] = omega (arith, later, length-append (unit_octets one.unit) (octets_of xs))
    by later (line ∷ lines) = omega (arith, later, length-append (unit_octets one.unit) (octets_of xs), length-append (unit_octets one.unit) (seen_octets (views xs)))

-- and where it is all, each exchange was replied to
pub all_seen : (xs : List Exchange) → length (octets_of xs) ≤ length (seen_octets (views xs)) → map pair xs ≡ views xs
all_seen [] within = refl
all_seen (one ∷ xs) within = by (all_seen xs) one.reply refl within
  where
    by : ((length (octets_of xs) ≤ length (seen_octets (views xs))) → map pair xs ≡ views xs) → (r : List (List ℕ)) → one.reply ≡ r
        → length (unit_octets one.unit ++ octets_of xs) ≤ length (seen_octets (view one.unit r ++ views xs)) → pair one ∷ map pair xs ≡ view one.unit r ++ views xs
    by later [] is few = absurd (omega (arith, few, seen_within xs, some_octets one.unit, length-append (unit_octets one.unit) (octets_of xs)))
    by later (line ∷ lines) is few =
        ap₂ (λ (r : List (List ℕ)) (l : List (Unit × List (List ℕ))). (one.unit, r) ∷ l) is
        (later (omega (arith, few, length-append (unit_octets one.unit) (octets_of xs), length-append (unit_octets one.unit) (seen_octets (views xs)))))

-- three exchanges
pub record AreThree (xs : List Exchange) (u v w : Unit × List (List ℕ)) : Type 0 where
  pub first : Exchange
  pub second : Exchange
  pub third : Exchange
  pub are : xs ≡ first ∷ second ∷ third ∷ []
  pub first_is : pair first ≡ u
  pub second_is : pair second ≡ v
  pub third_is : pair third ≡ w

pub three : (xs : List Exchange) (u v w : Unit × List (List ℕ)) → map pair xs ≡ u ∷ v ∷ w ∷ [] → AreThree xs u v w
three [] u v w e = cc
three (a ∷ []) u v w e = cc
three (a ∷ b ∷ []) u v w e = cc
three (a ∷ b ∷ c ∷ []) u v w e = record { first = a; second = b; third = c; are = refl; first_is = cc e; second_is = cc e; third_is = cc e }
three (a ∷ b ∷ c ∷ d ∷ more) u v w e = cc
