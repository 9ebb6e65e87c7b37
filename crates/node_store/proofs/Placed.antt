-- Where octets lie once more records were added.
use Rattle.std.proofs.Common.{◌≡◌, ℕ, ◌+◌, List, [], ◌∷◌, ◌++◌, length, Bool, true, false, Option, Some, None, nat_eq, refl, sym, ap, ◌∙◌, arith}
use Rattle.std.proofs.lemmas.List.{length-append}
use Rattle.mail_model.specs.Identity.{Id, Key, State}
use Rattle.mail_model.specs.Record.{Record, payload_of, framed}
use Rattle.mail_model.specs.Record.Record.{Stated, Retired}
use Rattle.std.specs.Prelude.{if◌then◌else◌}
use Rattle.object_model.specs.Sets.{without_node}
use Rattle.replica_push.specs.Rules.{records_of}
use Rattle.node_store.specs.Places.{Span, span_at, first, span_in}
use Rattle.node_store.proofs.Journals.{frames_of}

pub first_none : (a : Option Span) → first a None ≡ a
first_none None = refl
first_none (Some span) = refl

first_assoc : (a b c : Option Span) → first (first a b) c ≡ first a (first b c)
first_assoc None b c = refl
first_assoc (Some span) b c = refl

pub span_in-append : (id : Id) (at : ℕ) (records more : List Record) → span_in id at (records ++ more) ≡ first (span_in id at records) (span_in id (at + length (frames_of records)) more)
span_in-append id at [] more = ap (λ (n : ℕ). span_in id n more) (omega arith)
span_in-append id at (one ∷ records) more =
    ap (first (span_at id at one)) (span_in-append id (at + length (framed (payload_of one))) records more
    ∙ ap (λ (n : ℕ). first (span_in id (at + length (framed (payload_of one))) records) (span_in id n more))
    (omega (arith, length-append (framed (payload_of one)) (frames_of records))))
    ∙ sym (first_assoc (span_at id at one) (span_in id (at + length (framed (payload_of one))) records) (span_in id (at + length (frames_of (one ∷ records))) more))

-- records that have no octets
abbrev pub HasNone : List Record → Type 0
HasNone more = (id : Id) (at : ℕ) → span_in id at more ≡ None

pub still_placed : (id : Id) (at : ℕ) (records more : List Record) → HasNone more → span_in id at (records ++ more) ≡ span_in id at records
still_placed id at records more none =
    span_in-append id at records more ∙ ap (first (span_in id at records)) (none id (at + length (frames_of records))) ∙ first_none (span_in id at records)

pub states_have_none : (own : ℕ) (key : Key) (news : Option State) → HasNone (records_of own key news)
states_have_none own key None id at = refl
states_have_none own key (Some state) id at = by (nat_eq (without_node state.targets own) 0)
  where
    by : (b : Bool) → span_in id at (if b then Stated key state ∷ Retired key state ∷ [] else Stated key state ∷ []) ≡ None
    by true = refl
    by false = refl
