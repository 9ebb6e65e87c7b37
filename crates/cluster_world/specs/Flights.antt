-- Letters in flight as a list in order of number, and what becomes of letters that are put in flight.
use Rattle.std.specs.Prelude.{◌≡◌, ℕ, ◌+◌, ◌≤◌, ◌<◌, ◌^◌, List, [], ◌∷◌, ◌++◌, length, ⊤, Option, Some, None, slice_get, if◌then◌else◌}
use Rattle.object_model.specs.Letters.{Letter}
use Rattle.cluster_model.specs.Room.{Flight, octets_flying, has_room}
use Rattle.cluster_model.specs.Steps.{letter_at}
use Rattle.cluster_model.specs.Plain.{without_letter}
use Rattle.cluster_world.specs.Hears.{CanBeHeard}

-- what is in flight, and the number of the last letter that was sent
pub record InFlight : Type 0 where
  pub flights : List Flight
  pub sent : ℕ

-- each has a number above n, and they rise
abbrev pub AreAbove : ℕ → List Flight → Type 0
AreAbove n [] = ⊤
AreAbove n (flight ∷ flights) = (n < flight.number) × AreAbove n flights

abbrev pub NumbersRise : List Flight → Type 0
NumbersRise [] = ⊤
NumbersRise (flight ∷ flights) = AreAbove flight.number flights × NumbersRise flights

-- none has a number above this
abbrev pub AreUpTo : ℕ → List Flight → Type 0
AreUpTo n [] = ⊤
AreUpTo n (flight ∷ flights) = (flight.number ≤ n) × AreUpTo n flights

-- Letters in flight have rising numbers, and none is above the last.
pub record AreInOrder (flying : InFlight) : Type 0 where
  pub rising : NumbersRise flying.flights
  pub drawn : AreUpTo flying.sent flying.flights

-- its receiver can hear each
abbrev pub FlightsCanBeHeard : List Flight → Type 0
FlightsCanBeHeard [] = ⊤
FlightsCanBeHeard (flight ∷ flights) = CanBeHeard flight.letter × FlightsCanBeHeard flights

-- The numbers rise and none is above the last; so many octets are in flight; and each letter can be heard.
pub record FlightIsCounted (octets sent : ℕ) (flights : List Flight) : Type 0 where
  pub rising : NumbersRise flights
  pub drawn : AreUpTo sent flights
  pub sum : octets ≡ octets_flying flights
  pub few : octets < 2 ^ 30
  pub heard : FlightsCanBeHeard flights

-- what letters that are put in flight leave: those in flight, and those that found no room
pub record PutDown : Type 0 where
  pub flying : InFlight
  pub left : List Letter

abbrev pub with_flight : InFlight → Letter → InFlight
with_flight flying letter = record { flights = flying.flights ++ record { number = flying.sent + 1; letter = letter } ∷ []; sent = flying.sent + 1 }

-- A letter is put in flight, or left where it finds no room.
abbrev pub put_one : Letter → PutDown → PutDown
put_one letter put =
    if has_room put.flying.flights letter
    then record { flying = with_flight put.flying letter; left = put.left }
    else record { flying = put.flying; left = put.left ++ letter ∷ [] }

-- letters, one by one
abbrev pub put_all : List Letter → PutDown → PutDown
put_all [] put = put
put_all (letter ∷ letters) put = put_all letters (put_one letter put)

abbrev pub put_down : List Letter → InFlight → PutDown
put_down letters flying = put_all letters (record { flying = flying; left = [] })

-- the letter of this number leaves, if one is named
abbrev pub flights_without : Option ℕ → List Flight → List Flight
flights_without None flights = flights
flights_without (Some number) flights = without_letter number flights

abbrev pub taken_out : Option ℕ → InFlight → InFlight
taken_out posted flying = record { flights = flights_without posted flying.flights; sent = flying.sent }

-- the letter of this number stands at this place
pub record HasAt (flights : List Flight) (number k : ℕ) : Type 0 where
  pub letter : Letter
  pub here : slice_get flights k ≡ Some (record { number = number; letter = letter })
  pub found : letter_at number flights ≡ Some letter
  pub front : List Flight
  pub back : List Flight
  pub is : flights ≡ front ++ record { number = number; letter = letter } ∷ back
  pub left : without_letter number flights ≡ front ++ back
  pub count : length front ≡ k

-- the lowest number
abbrev pub first_number : List Flight → Option ℕ
first_number [] = None
first_number (flight ∷ flying) = Some flight.number
