-- A letter is dropped.
use Rattle.std.proofs.Common.{◌≡◌, inl, ℕ, Bool, true, false, ◌&&◌, ◌||◌, nat_le, [], ◌∷◌, length, Option, Some, None, is_some, Ok, Err, refl, sym, ap, ◌∙◌, subst, if◌then◌else◌}
use Rattle.mail_model.specs.Plan.{Plan}
use Rattle.object_model.specs.Letters.{Letter, is_read_body}
use Rattle.object_model.specs.Mishaps.{MishapKind as plain_kind}
use Rattle.cluster_model.specs.World as machine
use Rattle.cluster_model.specs.World.{missed}
use Rattle.cluster_model.specs.Makes.{lost_letter}
use Rattle.cluster_model.specs.Plain.{without_letter}
use Rattle.cluster_model.specs.Steps.{letter_at, has_ticket, letters_end, first_fault, step_fault}
use Rattle.cluster_model.specs.Steps.Step.{DropLetter}
use Rattle.cluster_model.specs.Steps.StepFault.{NoSuchLetter, Worn}
use Rattle.node_store.specs.Disks.{View}
use Rattle.world_book.specs.declared.book.Book.{Book}
use Rattle.cluster_world.specs.Flights.{InFlight, taken_out, AreInOrder}
use Rattle.cluster_world.specs.Missing.{Noticed}
use Rattle.cluster_world.specs.Stands.{SlotsStand}
use Rattle.cluster_world.specs.Steps.{StepDid}
use Rattle.cluster_world.specs.Worlds.{state_with}
use Rattle.cluster_world.specs.declared.nodes.Nodes.{Nodes}
use Rattle.cluster_world.specs.declared.step.Step.TheVariants as step
use Rattle.cluster_world.specs.declared.step.Said.TheVariants.{Done}
use Rattle.cluster_world.specs.declared.fault.StepFault.TheVariants as fault
use Rattle.cluster_world.specs.Books.{booked_by}
use Rattle.cluster_world.proofs.Same.{led_kept, same_stops, same_told, same_quiet, same_unchanged}
use Rattle.cluster_world.proofs.Kept.{missed_kept, stops_on, only_told, only_quiet}
use Rattle.cluster_world.proofs.Posted.{flies_so}
use Rattle.cluster_world.proofs.Longer.{same_book}
use Rattle.cluster_world.proofs.Follows.{tickets_follow, missed_disk}
use Rattle.cluster_world.proofs.Wholly.{led, even_of}
use Rattle.cluster_world.proofs.Lifting.{lift}
use Rattle.cluster_world.proofs.Beside.{tickets_keep}
use Rattle.cluster_world.proofs.Numbers.{one_letter}
use Rattle.joint_world.specs.World.{mail_world_of}

module _ (plan : Plan) (w : machine.World) (number : ℕ) where
  fault_is : (o : Option Letter) → letter_at number w.flying ≡ o
      → step_fault plan (DropLetter number) w
      ≡ first_fault ((if is_some o then None else Some NoSuchLetter) ∷ (if (has_ticket o && nat_le letters_end w.sent) || false then Some Worn else None) ∷ None ∷ [])
  fault_is o e = ap (λ x. first_fault ((if is_some x then None else Some NoSuchLetter) ∷ (if (has_ticket x && nat_le letters_end w.sent) || false then Some Worn else None) ∷ None ∷ [])) e

  pub worn_is : (letter : Letter) (b : Bool) → letter_at number w.flying ≡ Some letter → (has_ticket (Some letter) && nat_le letters_end w.sent) ≡ b
      → step_fault plan (DropLetter number) w ≡ first_fault (None ∷ (if b || false then Some Worn else None) ∷ None ∷ [])
  worn_is letter b e f = fault_is (Some letter) e ∙ ap (λ x. first_fault (None ∷ (if x || false then Some Worn else None) ∷ None ∷ [])) f

module _ {D : Type 0} (on : View D) (nodes : Nodes D) (flying : InFlight) (seconds : ℕ) (book : Book) (number : ℕ) where
  pub no_letter_dropped : letter_at number flying.flights ≡ None
      → StepDid on (Err fault.NoSuchLetter) (step.Drop number) (state_with nodes flying seconds book) (state_with nodes flying seconds book)
  no_letter_dropped e = record {
    plan = refl;
    handed = refl;
    clock = refl;
    passed = tt;
    books = same_book (booked_by book);
    kept = same_unchanged on (state_with nodes flying seconds book) (step.Drop number);
    refused = refl;
    kind = tt;
    falls = tt;
    lives = λ n. refl;
    told = same_told on (state_with nodes flying seconds book);
    quiet = same_quiet on (state_with nodes flying seconds book);
    leads = λ known ended story v s sound. led_kept on (state_with nodes flying seconds book) (Err fault.NoSuchLetter) (step.Drop number) v s (record { step_is = refl; said_is = refl; sees = tt }) tt (λ done. done)
        (inl (inl (fault_is nodes.plan (mail_world_of v) number None (ap (letter_at number) (sym s.mail.flying) ∙ e))), refl);
    cause = λ w s. tt;
  }

  module _ (letter : Letter) (here : letter_at number flying.flights ≡ Some letter) where
    pub worn_dropped : (has_ticket (Some letter) && nat_le letters_end flying.sent) ≡ true
        → StepDid on (Err fault.Worn) (step.Drop number) (state_with nodes flying seconds book) (state_with nodes flying seconds book)
    worn_dropped late = record {
      plan = refl;
      handed = refl;
      clock = refl;
      passed = tt;
      books = same_book (booked_by book);
      kept = same_unchanged on (state_with nodes flying seconds book) (step.Drop number);
      refused = refl;
      kind = tt;
      falls = tt;
      lives = λ n. refl;
      told = same_told on (state_with nodes flying seconds book);
      quiet = same_quiet on (state_with nodes flying seconds book);
      leads = λ known ended story v s sound. led_kept on (state_with nodes flying seconds book) (Err fault.Worn) (step.Drop number) v s (record { step_is = refl; said_is = refl; sees = tt }) tt (λ done. done) (
        inl (inl (worn_is nodes.plan (mail_world_of v) number letter true (ap (letter_at number) (sym s.mail.flying) ∙ here)
            (ap (λ n. has_ticket (Some letter) && nat_le letters_end n) (sym s.mail.sent) ∙ late))),
        refl,
      );
      cause = λ w s. tt;
    }

    pub dropped_did : (new : Nodes D) (flying' : InFlight) → AreInOrder flying → is_read_body letter.body ≡ false → (has_ticket (Some letter) && nat_le letters_end flying.sent) ≡ false
        → Noticed on nodes.plan (λ slots. missed plain_kind.Dropped slots letter) nodes new → flying' ≡ taken_out (Some number) flying
        → StepDid on (Ok Done) (step.Drop number) (state_with nodes flying seconds book) (state_with new flying' seconds book)
    dropped_did new flying' order mail early noted left = record {
      plan = noted.only.plan;
      handed = ap length noted.only.disks;
      clock = refl;
      passed = tt;
      books = same_book (booked_by book);
      kept = tt;
      refused = refl;
      kind = tt;
      falls = tt;
      lives = noted.only.lives;
      told = only_told on (λ slots. missed plain_kind.Dropped slots letter) nodes new noted.only flying flying' seconds seconds book book on.seen;
      quiet = only_quiet on (λ slots. missed plain_kind.Dropped slots letter) nodes new noted.only flying flying' seconds seconds book book on.faults;
      leads = λ known ended. lift on _ _ _ _ (even_of nodes) (even_of new) tt
          (λ v s done f. ap (λ (l : Letter). is_read_body l.body) (one_letter flying number letter order here (mail_world_of v) s.mail.flying f) ∙ mail)
          (tickets_keep on (λ slots. missed plain_kind.Dropped slots letter) nodes new noted.only) (λ w s.
          let f = flies_so w number letter (ap (letter_at number) (sym s.flying) ∙ here) in
          led on (Ok Done) (step.Drop number) (state_with nodes flying seconds book) (state_with new flying' seconds book) (even_of nodes) (even_of new) w s (record { step_is = refl; said_is = refl; sees = tt })
          (λ v seen sound done. tt) (record {
            next = lost_letter plain_kind.Dropped w number f.flies false;
            stands = record {
              slots = subst (λ l. SlotsStand on new.lives.items new.disks.items (missed plain_kind.Dropped w.slots l)) (sym f.letter_is) (noted.only.slots w.slots s.slots);
              flying = ap (λ x. x.flights) left ∙ ap (without_letter number) s.flying ∙ f.left;
              sent = ap (λ x. x.sent) left ∙ s.sent;
              seconds = s.seconds;
              book = s.book;
            };
            made = (
              worn_is nodes.plan w number letter false (ap (letter_at number) (sym s.flying) ∙ here) (ap (λ n. has_ticket (Some letter) && nat_le letters_end n) (sym s.sent) ∙ early),
              inl (record { flies = f.flies; said_is = refl; new_world = refl }, ap (λ (l : Letter). is_read_body l.body) f.letter_is ∙ mail),
            );
            stops = stops_on on (state_with nodes flying seconds book) (state_with nodes flying seconds book) (state_with new flying' seconds book) w.slots w.slots (missed plain_kind.Dropped w.slots f.flies.letter) noted.only.disks
                (λ n. missed_kept plain_kind.Dropped w.slots n f.flies.letter) (same_stops on (state_with nodes flying seconds book) w s);
            follow = tickets_follow on (λ slots. missed plain_kind.Dropped slots letter) nodes new noted.only w.slots (missed plain_kind.Dropped w.slots f.flies.letter)
                (λ m. missed_disk plain_kind.Dropped w.slots m f.flies.letter);
          }));
      cause = λ w s. tt;
    }
