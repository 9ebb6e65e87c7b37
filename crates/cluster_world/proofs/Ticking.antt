-- What the clock is set to: a step in which nothing else changes.
use Rattle.std.proofs.Common.{◌≡◌, ℕ, Ok, Err, refl}
use Rattle.cluster_model.specs.World as machine
use Rattle.node_store.specs.Disks.{View}
use Rattle.world_book.specs.declared.book.Book.{Book}
use Rattle.cluster_world.specs.Flights.{InFlight}
use Rattle.cluster_world.specs.Turns.{seconds_after_step}
use Rattle.cluster_world.specs.Worlds.{state_with, StateStandsFor}
use Rattle.cluster_world.specs.Steps.{StepDid, AreSettled, LeadsMail}
use Rattle.cluster_world.specs.declared.nodes.Nodes.{Nodes}
use Rattle.cluster_world.specs.declared.step.Step.{Step}
use Rattle.cluster_world.specs.declared.step.Step.TheVariants as step
use Rattle.cluster_world.specs.declared.step.Said.TheVariants.{Done}
use Rattle.cluster_world.specs.declared.fault.StepFault.{StepFault}
use Rattle.cluster_world.specs.Books.{booked_by}
use Rattle.cluster_world.proofs.Same.{same_stops, same_told, same_quiet}
use Rattle.cluster_world.proofs.Longer.{same_book}
use Rattle.cluster_world.proofs.Follows.{nothing_follows}
use Rattle.cluster_world.proofs.Wholly.{led, even_of}
use Rattle.cluster_world.proofs.Lifting.{lift, reads_same}

module _ {D : Type 0} (on : View D) (nodes : Nodes D) (flying : InFlight) (book : Book) (was seconds : ℕ) where
  leads : (w : machine.World) → StateStandsFor on (state_with nodes flying was book) w
      → LeadsMail on (Ok Done) (step.Tick seconds) (state_with nodes flying was book) (state_with nodes flying seconds book) w
  leads w st = led on (Ok Done) (step.Tick seconds) (state_with nodes flying was book) (state_with nodes flying seconds book) (even_of nodes) (even_of nodes) w st (record { step_is = refl; said_is = refl; sees = tt })
      (λ v seen sound done. tt) (record {
        next = record w { seconds = seconds };
        stands = record { slots = st.slots; flying = st.flying; sent = st.sent; seconds = refl; book = st.book };
        made = (refl, (refl, refl));
        stops = record { each = (same_stops on (state_with nodes flying was book) w st).each };
        follow = nothing_follows nodes.lives.items w.slots;
      })

  pub ticked_did : StepDid on (Ok Done) (step.Tick seconds) (state_with nodes flying was book) (state_with nodes flying seconds book)
  ticked_did = record {
    plan = refl;
    handed = refl;
    clock = refl;
    passed = tt;
    books = same_book (booked_by book);
    kept = tt;
    refused = refl;
    kind = tt;
    falls = tt;
    lives = λ n. refl;
    told = record { each = (same_told on (state_with nodes flying was book)).each };
    quiet = record { later = (same_quiet on (state_with nodes flying was book)).later; same = (same_quiet on (state_with nodes flying was book)).same };
    leads = λ known ended. lift on _ _ _ _ (even_of nodes) (even_of nodes) tt (λ v stands done. tt) (reads_same nodes.lives.items) leads;
    cause = λ w st. tt;
  }

  pub ticked_settled : (is_settled : D → Type 0) → AreSettled is_settled (state_with nodes flying was book) → AreSettled is_settled (state_with nodes flying seconds book)
  ticked_settled is_settled settled = record { each = settled.each }
