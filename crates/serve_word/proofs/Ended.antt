-- How serving ended, and what was done until then.
use Rattle.std.proofs.Common.{◌≡◌, ◌⊎◌, inl, inr, ⊎_elim, ℕ, List, Option, Some, refl, sym, ap, ◌∙◌, subst, arith}
use Rattle.std.specs.Io.KnownBytes.{Appends}
use Rattle.yard_stores.specs.declared.stores.TakeFault.{TakeFault}
use Rattle.yard_stores.specs.declared.stores.TakeFault.TheVariants as take
use Rattle.cluster_world.specs.declared.fault.OpenFault.{OpenFault}
use Rattle.cluster_world.specs.declared.fault.OpenFault.TheVariants as unopened
use Rattle.mail_service.specs.declared.console.ConsoleEnd.{ConsoleEnd}
use Rattle.mail_service.specs.declared.console.ConsoleEnd.TheVariants as console
use Rattle.mail_service.specs.declared.doors.DoorEnd.TheVariants as doors
use Rattle.mail_service.specs.declared.service.ServiceEnd.{ServiceEnd}
use Rattle.mail_service.specs.declared.service.ServiceEnd.TheVariants as service
use Rattle.mail_service.specs.Services.{console_end}
use Rattle.serve_word.specs.declared.plan_parts.PlanFault.{PlanFault}
use Rattle.serve_word.specs.declared.plan_parts.PlanFault.TheVariants as unread
use Rattle.serve_word.specs.declared.ending.ServeEnd.{ServeEnd}
use Rattle.serve_word.specs.declared.ending.ServeEnd.TheVariants.{Done, Broken, Early, Unread, ReadFault, WriteFault, Store, NoMemory, Doors}
use Rattle.serve_word.specs.Endings.{ending_at, ending_of, ending_unread, ending_untaken, ending_unopened, status_of, line_of, Finishes}
use Rattle.serve_word.specs.Serving.{IsBeforeDoors}
use Rattle.serve_word.specs.Causes.{IsServeStatus}

-- Two endings are never one.
apart : (a b : ServeEnd) → (status_of a ≡ status_of b → ⊥) → a ≡ b → ⊥
apart a b other is = other (ap status_of is)

-- doors that could not be had are told first: only where they were quiet is the console asked
pub by_doors : (answer : ServiceEnd) (ending : ServeEnd) → ending_of answer ≡ ending → (ending ≡ Doors → ⊥) → (ending ≡ NoMemory → ⊥)
    → (end : ConsoleEnd) × (answer ≡ service.Served end doors.Quiet) × (ending_at end ≡ ending)
by_doors (service.Served end doors.Quiet) ending is other more = (end, refl, is)
by_doors (service.Served end doors.Failed) ending is other more = absurd (other (sym is))
by_doors (service.Served end doors.NoMemory) ending is other more = absurd (more (sym is))
by_doors service.Unopened ending is other more = absurd (other (sym is))
by_doors service.NoMemory ending is other more = absurd (more (sym is))

pub done_at : (end : ConsoleEnd) → ending_at end ≡ Done → end ≡ console.Stopped
done_at console.Stopped is = refl
done_at (console.Early line) is = absurd (apart (Early line) Done (λ e. omega (arith, e)) is)
done_at console.ReadFault is = absurd (apart ReadFault Done (λ e. omega (arith, e)) is)
done_at console.WriteFault is = absurd (apart WriteFault Done (λ e. omega (arith, e)) is)
done_at console.NoMemory is = absurd (apart NoMemory Done (λ e. omega (arith, e)) is)

pub early_at : (end : ConsoleEnd) (line : ℕ) → ending_at end ≡ Early line → end ≡ console.Early line
early_at console.Stopped line is = absurd (apart Done (Early line) (λ e. omega (arith, e)) is)
early_at (console.Early other) line is = let same : other ≡ line = cc in ap (λ n. console.Early n) same
early_at console.ReadFault line is = absurd (apart ReadFault (Early line) (λ e. omega (arith, e)) is)
early_at console.WriteFault line is = absurd (apart WriteFault (Early line) (λ e. omega (arith, e)) is)
early_at console.NoMemory line is = absurd (apart NoMemory (Early line) (λ e. omega (arith, e)) is)

pub read_at : (end : ConsoleEnd) → ending_at end ≡ ReadFault → end ≡ console.ReadFault
read_at console.Stopped is = absurd (apart Done ReadFault (λ e. omega (arith, e)) is)
read_at (console.Early line) is = absurd (apart (Early line) ReadFault (λ e. omega (arith, e)) is)
read_at console.ReadFault is = refl
read_at console.WriteFault is = absurd (apart WriteFault ReadFault (λ e. omega (arith, e)) is)
read_at console.NoMemory is = absurd (apart NoMemory ReadFault (λ e. omega (arith, e)) is)

pub write_at : (end : ConsoleEnd) → ending_at end ≡ WriteFault → end ≡ console.WriteFault
write_at console.Stopped is = absurd (apart Done WriteFault (λ e. omega (arith, e)) is)
write_at (console.Early line) is = absurd (apart (Early line) WriteFault (λ e. omega (arith, e)) is)
write_at console.ReadFault is = absurd (apart ReadFault WriteFault (λ e. omega (arith, e)) is)
write_at console.WriteFault is = refl
write_at console.NoMemory is = absurd (apart NoMemory WriteFault (λ e. omega (arith, e)) is)

-- no console ends as a store that fails, or a file that is not read
pub no_store_at : (end : ConsoleEnd) (node : ℕ) → ending_at end ≡ Store node → ⊥
no_store_at console.Stopped node is = apart Done (Store node) (λ e. omega (arith, e)) is
no_store_at (console.Early line) node is = apart (Early line) (Store node) (λ e. omega (arith, e)) is
no_store_at console.ReadFault node is = apart ReadFault (Store node) (λ e. omega (arith, e)) is
no_store_at console.WriteFault node is = apart WriteFault (Store node) (λ e. omega (arith, e)) is
no_store_at console.NoMemory node is = apart NoMemory (Store node) (λ e. omega (arith, e)) is

no_unread_at : (end : ConsoleEnd) → ending_at end ≡ Unread → ⊥
no_unread_at console.Stopped is = apart Done Unread (λ e. omega (arith, e)) is
no_unread_at (console.Early line) is = apart (Early line) Unread (λ e. omega (arith, e)) is
no_unread_at console.ReadFault is = let never : ReadFault ≡ Unread = is in cc
no_unread_at console.WriteFault is = apart WriteFault Unread (λ e. omega (arith, e)) is
no_unread_at console.NoMemory is = apart NoMemory Unread (λ e. omega (arith, e)) is

pub no_store : (answer : ServiceEnd) (node : ℕ) → ending_of answer ≡ Store node → ⊥
no_store answer node is = let at = by_doors answer (Store node) is (apart (Store node) Doors (λ e. omega (arith, e))) (apart (Store node) NoMemory (λ e. omega (arith, e))) in no_store_at at.0 node at.2

pub no_unread : (answer : ServiceEnd) → ending_of answer ≡ Unread → ⊥
no_unread answer is = let at = by_doors answer Unread is (apart Unread Doors (λ e. omega (arith, e))) (apart Unread NoMemory (λ e. omega (arith, e))) in no_unread_at at.0 at.2

-- what is told of the console is how it ended
pub read_end : (answer : ServiceEnd) → ending_of answer ≡ ReadFault → console_end answer ≡ Some console.ReadFault
read_end answer is =
    let at = by_doors answer ReadFault is (apart ReadFault Doors (λ e. omega (arith, e))) (apart ReadFault NoMemory (λ e. omega (arith, e))) in
    ap console_end at.1 ∙ ap Some (read_at at.0 at.2)

pub write_end : (answer : ServiceEnd) → ending_of answer ≡ WriteFault → console_end answer ≡ Some console.WriteFault
write_end answer is =
    let at = by_doors answer WriteFault is (apart WriteFault Doors (λ e. omega (arith, e))) (apart WriteFault NoMemory (λ e. omega (arith, e))) in
    ap console_end at.1 ∙ ap Some (write_at at.0 at.2)

pub done_end : (answer : ServiceEnd) → ending_of answer ≡ Done → answer ≡ service.Served console.Stopped doors.Quiet
done_end answer is =
    let at = by_doors answer Done is (apart Done Doors (λ e. omega (arith, e))) (apart Done NoMemory (λ e. omega (arith, e))) in
    at.1 ∙ ap (λ (end : ConsoleEnd). service.Served end doors.Quiet) (done_at at.0 at.2)

pub early_end : (answer : ServiceEnd) (line : ℕ) → ending_of answer ≡ Early line → console_end answer ≡ Some (console.Early line)
early_end answer line is =
    let at = by_doors answer (Early line) is (apart (Early line) Doors (λ e. omega (arith, e))) (apart (Early line) NoMemory (λ e. omega (arith, e))) in
    ap console_end at.1 ∙ ap Some (early_at at.0 line at.2)

-- where doors are to blame, they could not be opened, or failed
pub doors_end : (answer : ServiceEnd) → ending_of answer ≡ Doors → (answer ≡ service.Unopened) ⊎ ((end : ConsoleEnd) × (answer ≡ service.Served end doors.Failed))
doors_end (service.Served end doors.Quiet) is = absurd (no_doors_at end is)
  where
    no_doors_at : (e : ConsoleEnd) → ending_at e ≡ Doors → ⊥
    no_doors_at console.Stopped so = apart Done Doors (λ e. omega (arith, e)) so
    no_doors_at (console.Early line) so = apart (Early line) Doors (λ e. omega (arith, e)) so
    no_doors_at console.ReadFault so = apart ReadFault Doors (λ e. omega (arith, e)) so
    no_doors_at console.WriteFault so = apart WriteFault Doors (λ e. omega (arith, e)) so
    no_doors_at console.NoMemory so = apart NoMemory Doors (λ e. omega (arith, e)) so
doors_end (service.Served end doors.Failed) is = inr (end, refl)
doors_end (service.Served end doors.NoMemory) is = absurd (apart NoMemory Doors (λ e. omega (arith, e)) is)
doors_end service.Unopened is = inl refl
doors_end service.NoMemory is = absurd (apart NoMemory Doors (λ e. omega (arith, e)) is)

-- an ending before a door was opened is one of two
pub before_untaken : (fault : TakeFault) → IsBeforeDoors (ending_untaken fault)
before_untaken (take.Store node) = tt
before_untaken take.NoMemory = tt

pub before_unopened : (fault : OpenFault) → IsBeforeDoors (ending_unopened fault)
before_unopened (unopened.DiskFault node) = tt
before_unopened unopened.NoMemory = tt

pub store_untaken : (fault : TakeFault) (node : ℕ) → ending_untaken fault ≡ Store node → fault ≡ take.Store node
store_untaken (take.Store number) node is = let same : number ≡ node = cc in ap (λ n. take.Store n) same
store_untaken take.NoMemory node is = absurd (apart NoMemory (Store node) (λ e. omega (arith, e)) is)

pub store_unopened : (fault : OpenFault) (node : ℕ) → ending_unopened fault ≡ Store node → fault ≡ unopened.DiskFault node
store_unopened (unopened.DiskFault number) node is = let same : number ≡ node = cc in ap (λ n. unopened.DiskFault n) same
store_unopened unopened.NoMemory node is = absurd (apart NoMemory (Store node) (λ e. omega (arith, e)) is)

pub only_before : (ending other : ServeEnd) → IsBeforeDoors ending → ending ≡ other → (IsBeforeDoors other → ⊥) → ⊥
only_before ending other before is none = none (subst IsBeforeDoors is before)

-- what no plan was read for
pub unread_only : (fault : PlanFault) → ending_unread fault ≡ Unread → fault ≡ unread.Unread
unread_only (unread.Broken rule) is = absurd (apart (Broken rule) Unread (λ e. omega (arith, e)) is)
unread_only unread.Unread is = refl
unread_only unread.NoMemory is = absurd (apart NoMemory Unread (λ e. omega (arith, e)) is)

pub broken_only : (fault : PlanFault) (rule : ℕ) → ending_unread fault ≡ Broken rule → fault ≡ unread.Broken rule
broken_only (unread.Broken other) rule is = let same : other ≡ rule = cc in ap (λ n. unread.Broken n) same
broken_only unread.Unread rule is = absurd (apart Unread (Broken rule) (λ e. omega (arith, e)) is)
broken_only unread.NoMemory rule is = absurd (apart NoMemory (Broken rule) (λ e. omega (arith, e)) is)

-- and for nothing else
pub unread_plainly : (fault : PlanFault) (ending : ServeEnd) → ending_unread fault ≡ ending → (status_of ending ≡ 2 → ⊥) → (status_of ending ≡ 4 → ⊥) → (status_of ending ≡ 7 → ⊥) → ⊥
unread_plainly (unread.Broken rule) ending is two four seven = two (sym (ap status_of is))
unread_plainly unread.Unread ending is two four seven = four (sym (ap status_of is))
unread_plainly unread.NoMemory ending is two four seven = seven (sym (ap status_of is))

pub no_fault_read : (fault : PlanFault) → ending_unread fault ≡ ReadFault → ⊥
no_fault_read (unread.Broken rule) is = apart (Broken rule) ReadFault (λ e. omega (arith, e)) is
no_fault_read unread.Unread is = let never : Unread ≡ ReadFault = is in cc
no_fault_read unread.NoMemory is = apart NoMemory ReadFault (λ e. omega (arith, e)) is

-- no console ends as a plan file that breaks a rule
no_broken_at : (end : ConsoleEnd) (rule : ℕ) → ending_at end ≡ Broken rule → ⊥
no_broken_at console.Stopped rule is = apart Done (Broken rule) (λ e. omega (arith, e)) is
no_broken_at (console.Early line) rule is = apart (Early line) (Broken rule) (λ e. omega (arith, e)) is
no_broken_at console.ReadFault rule is = apart ReadFault (Broken rule) (λ e. omega (arith, e)) is
no_broken_at console.WriteFault rule is = apart WriteFault (Broken rule) (λ e. omega (arith, e)) is
no_broken_at console.NoMemory rule is = apart NoMemory (Broken rule) (λ e. omega (arith, e)) is

pub no_broken : (answer : ServiceEnd) (rule : ℕ) → ending_of answer ≡ Broken rule → ⊥
no_broken answer rule is = let at = by_doors answer (Broken rule) is (apart (Broken rule) Doors (λ e. omega (arith, e))) (apart (Broken rule) NoMemory (λ e. omega (arith, e))) in no_broken_at at.0 rule at.2

-- each status is that of these endings alone
pub zero_is : (ending : ServeEnd) → status_of ending ≡ 0 → ending ≡ Done
zero_is Done is = refl
zero_is (Broken rule) is = absurd (omega (arith, is))
zero_is (Early line) is = absurd (omega (arith, is))
zero_is Unread is = absurd (omega (arith, is))
zero_is ReadFault is = absurd (omega (arith, is))
zero_is WriteFault is = absurd (omega (arith, is))
zero_is (Store node) is = absurd (omega (arith, is))
zero_is NoMemory is = absurd (omega (arith, is))
zero_is Doors is = absurd (omega (arith, is))

pub two_is : (ending : ServeEnd) → status_of ending ≡ 2 → (rule : ℕ) × (ending ≡ Broken rule)
two_is Done is = absurd (omega (arith, is))
two_is (Broken rule) is = (rule, refl)
two_is (Early line) is = absurd (omega (arith, is))
two_is Unread is = absurd (omega (arith, is))
two_is ReadFault is = absurd (omega (arith, is))
two_is WriteFault is = absurd (omega (arith, is))
two_is (Store node) is = absurd (omega (arith, is))
two_is NoMemory is = absurd (omega (arith, is))
two_is Doors is = absurd (omega (arith, is))

pub three_is : (ending : ServeEnd) → status_of ending ≡ 3 → (line : ℕ) × (ending ≡ Early line)
three_is Done is = absurd (omega (arith, is))
three_is (Broken rule) is = absurd (omega (arith, is))
three_is (Early line) is = (line, refl)
three_is Unread is = absurd (omega (arith, is))
three_is ReadFault is = absurd (omega (arith, is))
three_is WriteFault is = absurd (omega (arith, is))
three_is (Store node) is = absurd (omega (arith, is))
three_is NoMemory is = absurd (omega (arith, is))
three_is Doors is = absurd (omega (arith, is))

pub four_is : (ending : ServeEnd) → status_of ending ≡ 4 → (ending ≡ Unread) ⊎ (ending ≡ ReadFault)
four_is Done is = absurd (omega (arith, is))
four_is (Broken rule) is = absurd (omega (arith, is))
four_is (Early line) is = absurd (omega (arith, is))
four_is Unread is = inl refl
four_is ReadFault is = inr refl
four_is WriteFault is = absurd (omega (arith, is))
four_is (Store node) is = absurd (omega (arith, is))
four_is NoMemory is = absurd (omega (arith, is))
four_is Doors is = absurd (omega (arith, is))

pub six_is : (ending : ServeEnd) → status_of ending ≡ 6 → (node : ℕ) × (ending ≡ Store node)
six_is Done is = absurd (omega (arith, is))
six_is (Broken rule) is = absurd (omega (arith, is))
six_is (Early line) is = absurd (omega (arith, is))
six_is Unread is = absurd (omega (arith, is))
six_is ReadFault is = absurd (omega (arith, is))
six_is WriteFault is = absurd (omega (arith, is))
six_is (Store node) is = (node, refl)
six_is NoMemory is = absurd (omega (arith, is))
six_is Doors is = absurd (omega (arith, is))

pub eight_is : (ending : ServeEnd) → status_of ending ≡ 8 → ending ≡ Doors
eight_is Done is = absurd (omega (arith, is))
eight_is (Broken rule) is = absurd (omega (arith, is))
eight_is (Early line) is = absurd (omega (arith, is))
eight_is Unread is = absurd (omega (arith, is))
eight_is ReadFault is = absurd (omega (arith, is))
eight_is WriteFault is = absurd (omega (arith, is))
eight_is (Store node) is = absurd (omega (arith, is))
eight_is NoMemory is = absurd (omega (arith, is))
eight_is Doors is = refl

pub some_status : (ending : ServeEnd) (status : ℕ) → status ≡ status_of ending → IsServeStatus status
some_status Done status is = inl is
some_status (Broken rule) status is = inr (inl is)
some_status (Early line) status is = inr (inr (inl is))
some_status Unread status is = inr (inr (inr (inl is)))
some_status ReadFault status is = inr (inr (inr (inl is)))
some_status WriteFault status is = inr (inr (inr (inr (inl is))))
some_status (Store node) status is = inr (inr (inr (inr (inr (inl is)))))
some_status NoMemory status is = inr (inr (inr (inr (inr (inr (inl is))))))
some_status Doors status is = inr (inr (inr (inr (inr (inr (inr is))))))

-- the last line was written whole where the status is neither 5 nor 7
pub whole_line : (held0 held1 : Option (List ℕ)) (ending : ServeEnd) (status : ℕ) → Finishes held0 held1 ending status → (status ≡ 5 → ⊥) → (status ≡ 7 → ⊥) → (status ≡ status_of ending) × Appends held0 held1 (line_of ending)
whole_line held0 held1 ending status finishes five seven = ⊎_elim (λ whole. whole) (λ more. absurd (⊎_elim (λ part. five part.0) (λ none. seven none.0) more)) finishes

-- the status is that of the ending, or one of two
pub status_so : (held0 held1 : Option (List ℕ)) (ending : ServeEnd) (status : ℕ) → Finishes held0 held1 ending status → IsServeStatus status
status_so held0 held1 ending status finishes = ⊎_elim (λ whole. some_status ending status whole.0)
    (λ more. ⊎_elim (λ part. inr (inr (inr (inr (inl part.0))))) (λ none. inr (inr (inr (inr (inr (inr (inl none.0))))))) more) finishes
