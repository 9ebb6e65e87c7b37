-- A store that is refused is named in the last line.
use Rattle.std.proofs.Common.{◌≡◌, ⊎_elim, ℕ, List, Option, refl, sym, ap, ◌∙◌, subst, arith, append-nil}
use Rattle.std.specs.Io.KnownBytes.{Appends}
use Rattle.mail_model.specs.Transcript.{written_of}
use Rattle.node_store.specs.Disks.{View}
use Rattle.porcupine_server.specs.declared.ending.Ending.{Ending}
use Rattle.porcupine_server.specs.declared.ending.Ending.TheVariants.{Done, Line, Read, Write, Store, NoMemory}
use Rattle.porcupine_server.specs.Endings.{status_of, last_entries, Finishes}
use Rattle.serve_word.specs.Stores.{store_line}
use Rattle.porcupine_server.specs.Works.{SourceAndSink, Stores, Works, NoPlan, NoStores, ServedStores, NotOpened, Ran}
use Rattle.porcupine_server.proofs.Serving.{no_store_stop}

-- no other ending has this status
store_status : (ending : Ending) → 6 ≡ status_of ending → (node : ℕ) × (ending ≡ Store node)
store_status Done is = absurd (omega (arith, is))
store_status (Line number fault) is = absurd (omega (arith, is))
store_status Read is = absurd (omega (arith, is))
store_status Write is = absurd (omega (arith, is))
store_status (Store node) is = (node, refl)
store_status NoMemory is = absurd (omega (arith, is))

-- the whole of the last line was written
finished_so : (held0 held1 : Option (List ℕ)) (ending : Ending) (status : ℕ) → Finishes held0 held1 ending status → status ≡ 6 → (node : ℕ) × (ending ≡ Store node) × Appends held0 held1 (store_line node)
finished_so held0 held1 ending status finishes six = ⊎_elim
    (λ whole.
    let node = store_status ending (sym six ∙ whole.0) in (
      node.0,
      node.1,
      subst (Appends held0 held1) (ap (λ e. written_of (last_entries e)) node.1 ∙ append-nil (store_line node.0)) whole.1,
    ))
    (λ part. absurd (⊎_elim (λ five. omega (arith, six, five)) (λ seven. omega (arith, six, seven)) part.0))
    finishes

-- and nothing else
unwritten : {D : Type 0} (on : View D) (is_settled : D → Type 0) (stores : Stores D) (ends : SourceAndSink) (ending : Ending) (node : ℕ) → Works on is_settled stores ends ending → ending ≡ Store node → ends.held1 ≡ ends.held0
unwritten on is_settled stores ends ending node works is = ⊎_elim (λ (none : NoPlan stores ends ending). none.none)
    (λ some. ⊎_elim (λ (none : NoStores on stores ends ending). none.none)
    (λ (served : ServedStores on is_settled stores ends ending). ⊎_elim
    (λ (none : NotOpened on (record ends { left0 = served.between }) ending served.disks served.given). none.nothing_written)
    (λ (ran : Ran on is_settled (record ends { left0 = served.between }) served.plan served.count ending served.disks served.given). absurd (no_store_stop ran.answer node (sym ran.is ∙ is)))
    served.serves) some) works

pub named : {D : Type 0} (on : View D) (is_settled : D → Type 0) (stores : Stores D) (ends : SourceAndSink) (middle : Option (List ℕ)) (ending : Ending) (status : ℕ) (failed : ℕ → Type 0)
    → Works on is_settled stores (record ends { held1 = middle }) ending → Finishes middle ends.held1 ending status → ((node : ℕ) → ending ≡ Store node → failed node) → status ≡ 6
    → (node : ℕ) × Appends ends.held0 ends.held1 (store_line node) × failed node
named on is_settled stores ends middle ending status failed works finishes cause six =
    let done = finished_so middle ends.held1 ending status finishes six in
    (done.0, subst (λ held. Appends held ends.held1 (store_line done.0)) (unwritten on is_settled stores (record ends { held1 = middle }) ending done.0 works done.1) done.2, cause done.0 done.1)
