-- A letter of a call that reads is dropped.
use Rattle.std.proofs.Common.{◌≡◌, ℕ, ◌+◌, ◌<◌, ◌^◌, ◌&&◌, Bool, true, false, nat_le, length, Option, Some, None, Ok, refl, sym, ap, ◌∙◌, subst, arith, map}
use Rattle.std.specs.Option.{option_map}
use Rattle.object_model.specs.Letters.{Letter, is_read_body}
use Rattle.whole_world.specs.Steps.StepFault.{Fault}
use Rattle.object_model.specs.Mishaps.{MishapKind as plain_kind}
use Rattle.cluster_model.specs.Steps.{letter_at, has_ticket, letters_end}
use Rattle.whole_model.specs.Whole.{mail_slot}
use Rattle.joint_world.specs.World.{mail_world_of}
use Rattle.joint_world.specs.Makes as joint_makes
use Rattle.joint_world.proofs.Putting.{missed_seen}
use Rattle.node_store.specs.Disks.{View}
use Rattle.node_reads.specs.Readings.{listed}
use Rattle.world_book.specs.declared.book.Book.{Book}
use Rattle.cluster_world.specs.Books.{booked_by}
use Rattle.cluster_world.specs.Flights.{InFlight, taken_out}
use Rattle.cluster_world.specs.Reading.{HasBefallen, PutsQueue}
use Rattle.cluster_world.specs.Steps.{StepDid}
use Rattle.cluster_world.specs.Worlds.{state_with, tells_in}
use Rattle.cluster_world.specs.declared.nodes.Nodes.{Nodes}
use Rattle.cluster_world.specs.declared.step.Step.TheVariants as step
use Rattle.cluster_world.specs.declared.step.Said.TheVariants.{Done}
use Rattle.cluster_world.proofs.Dropping.{worn_is}
use Rattle.cluster_world.proofs.Kept.{kept_at}
use Rattle.cluster_world.proofs.Longer.{same_book}
use Rattle.cluster_world.proofs.Posted.{flies_so}
use Rattle.cluster_world.proofs.Queues.{beside_further}
use Rattle.cluster_world.proofs.ReadSteps.{beside_goes, read_did, read_stops, loses_so, puts_same, flying_for, stands_all}

pub dropped_read : {D : Type 0} (on : View D) (nodes mid new : Nodes D) (flying between flying' : InFlight) (seconds : ℕ) (book : Book) (number : ℕ) (letter : Letter) (out : Option Letter)
    → letter_at number flying.flights ≡ Some letter → is_read_body letter.body ≡ true → (has_ticket (Some letter) && nat_le letters_end flying.sent) ≡ false
    → HasBefallen on plain_kind.Dropped letter out nodes mid → between ≡ taken_out (Some number) flying → PutsQueue on (listed out) mid between new flying'
    → StepDid on (Ok Done) (step.Drop number) (state_with nodes flying seconds book) (state_with new flying' seconds book)
dropped_read on nodes mid new flying between flying' seconds book number letter out here read early befell is puts =
    let goes = beside_goes on nodes new (beside_further on nodes mid new befell.beside puts.beside) in
    read_did on nodes new goes flying flying' seconds book book (Ok Done) (step.Drop number) refl refl tt tt (λ n. refl) tt (same_book (booked_by book)) tt
    (λ known ended story v st sound.
    let tells : Bool = tells_in on.seen (state_with nodes flying seconds book) in
    let there : letter_at number (mail_world_of v).flying ≡ Some letter = ap (letter_at number) (sym st.mail.flying) ∙ here in
    let f = flies_so (mail_world_of v) number letter there in
    let (next, now, loses) = loses_so on plain_kind.Dropped number false letter out nodes mid new flying between flying' befell is puts tells v (flying_for on nodes flying seconds book v st) f in
    let (slots, s, b) = puts_same on tells _ _ next loses in
    let seen : map mail_slot (map _ next.slots) ≡ (mail_world_of v).slots = ap (map mail_slot) (slots ∙ (missed_seen tells plain_kind.Dropped v.slots f.flies.letter).same) in
    record {
      next = next;
      stands = stands_all on new flying' seconds book next now (st.mail.seconds ∙ sym s) (st.mail.book ∙ sym b);
      made = (
        ap (option_map Fault) (worn_is nodes.plan (mail_world_of v) number letter false there (ap (λ n. has_ticket (Some letter) && nat_le letters_end n) (sym st.mail.sent) ∙ early)),
        joint_makes.DoesStep.Drops number refl (record { flies = f.flies; read = subst (λ (l : Letter). is_read_body l.body ≡ true) (sym f.letter_is) read; said_is = refl; loses = loses }),
      );
      stops = read_stops on nodes new goes flying flying' seconds book book (mail_world_of v).slots (mail_world_of next).slots st.mail.slots (λ n. ap (λ xs. kept_at (Rattle.cluster_model.specs.Cluster.slot_at xs n)) seen);
    })
    tt

-- one letter more has a number
pub number_left : (letter : Letter) (out : Option Letter) (sent : ℕ) → sent < 2 ^ 64 → (letter.ticket ≡ None → out ≡ None) → (has_ticket (Some letter) && nat_le letters_end sent) ≡ false → sent + length (listed out) < 2 ^ 64
number_left letter out sent within none early = by letter.ticket refl out none
  where
    by : (t : Option Rattle.object_model.specs.Letters.Number) → letter.ticket ≡ t → (o : Option Letter) → (letter.ticket ≡ None → o ≡ None) → sent + length (listed o) < 2 ^ 64
    by t e None h = omega (arith, within)
    by None e (Some one) h = absurd (let never : Some one ≡ None = h e in cc)
    by (Some number) e (Some one) h =
        let late : nat_le letters_end sent ≡ false = sym (ap (λ (o : Option Rattle.object_model.specs.Letters.Number). Rattle.std.specs.Prelude.is_some o && nat_le letters_end sent) e) ∙ early in
        below late
      where
        below : nat_le letters_end sent ≡ false → sent + 1 < 2 ^ 64
        below late = grind arith
