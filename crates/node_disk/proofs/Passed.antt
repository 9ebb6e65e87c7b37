-- How the images of a disk in memory pass on.
use Rattle.std.proofs.Common.{◌≡◌, ◌⊎◌, inl, inr, ⊎_elim, ℕ, ◌≤◌, List, [], ◌∷◌, ◌++◌, length, drop, refl, sym, ap, subst, ◌∙◌, arith, length-append}
use Rattle.std.proofs.lemmas.List.{drop-append-le}
use Rattle.io_edge.specs.Moments.{Passed, IsTornFrom, Tears}
use Rattle.node_disk.specs.File.{file_clock}
use Rattle.node_disk.specs.declared.file.FileDisk.{FileDisk}
use Rattle.io_edge.specs.Octets.{Holds, Torn}
use Rattle.io_edge.proofs.Torn.{torn_by, torn_nothing}
use Rattle.node_disk.specs.Memory.{Reaches, IsImage, WasImage, memory_clock, IsNoted}
use Rattle.node_disk.specs.Memory.{IsSynced}
use Rattle.node_disk.specs.Settled.{only_synced}
use Rattle.node_disk.specs.declared.held.Held.{Held}
use Rattle.node_disk.specs.declared.held.Range.{Range}
use Rattle.node_disk.specs.declared.memory.Call.{Call}
use Rattle.node_disk.specs.declared.memory.MemoryDisk.{MemoryDisk}

-- the last write alone may have changed what the others reached
pub record ReachesBefore (octets : List ℕ) (ranges : List Range) (range : Range) (c : List ℕ) : Type 0 where
  pub base : List ℕ
  pub reached : Reaches octets ranges base
  pub torn : Torn range.at range.length base c

pub reaches_before : (octets : List ℕ) (ranges : List Range) (range : Range) (c : List ℕ) → Reaches octets (ranges ++ range ∷ []) c → ReachesBefore octets ranges range c
reaches_before octets [] range c reached = record { base = octets; reached = refl; torn = subst (λ (l : List ℕ). Torn range.at range.length octets l) (sym reached.2) reached.1 }
reaches_before octets (first ∷ ranges) range c reached =
    let rest = reaches_before reached.0 ranges range c reached.2 in
    record { base = rest.base; reached = (reached.0, reached.1, rest.reached); torn = rest.torn }

-- the call that was made last, or those before
was_before : (calls : List Call) (call : Call) (c : List ℕ) → WasImage (calls ++ call ∷ []) c → WasImage calls c ⊎ IsImage call.before.value c
was_before [] call c was = ⊎_elim (λ is. inr is) (λ never. absurd never) was
was_before (first ∷ calls) call c was = ⊎_elim (λ is. inl (inl is)) (λ later. ⊎_elim (λ w. inl (inr w)) (λ is. inr is) (was_before calls call c later)) was

-- one call, of which each image has P
pub passed_call : (old mid new : MemoryDisk) (P : List ℕ → Type 0) → IsNoted old mid → new.calls ≡ mid.calls → ((c : List ℕ) → IsImage new.held c → P c) → Passed memory_clock old new P
passed_call old mid new P is same is_P =
    let call = is.call in
    let before = is.before in
    let noted : new.calls.items ≡ old.calls.items ++ call ∷ [] = ap (λ v. v.items) same ∙ is.calls in
    record {
      later = omega (arith, ap length noted, length-append old.calls.items (call ∷ []));
      since = λ t c le was. ⊎_elim
          (λ (is : IsImage new.held c). inr (is_P c is))
          (λ (earlier : WasImage (drop t new.calls.items) c).
          let cut : drop t new.calls.items ≡ drop t old.calls.items ++ call ∷ [] = ap (λ (l : List Call). drop t l) noted ∙ drop-append-le t old.calls.items (call ∷ []) le in
          inl (⊎_elim (λ w. inr w) (λ is. inl (subst (λ (h : Held). IsImage h c) before is))
          (was_before (drop t old.calls.items) call c (subst (λ (l : List Call). WasImage l c) cut earlier))))
          was;
      now = is_P;
    }

-- no call, and nothing changed
pub passed_none : (old new : MemoryDisk) (P : List ℕ → Type 0) → new.calls.items ≡ old.calls.items → new.held ≡ old.held → ((c : List ℕ) → IsImage old.held c → P c) → Passed memory_clock old new P
passed_none old new P same held is_P = record {
  later = omega (arith, ap length same);
  since = λ t c le was. inl (⊎_elim (λ is. inl (subst (λ (h : Held). IsImage h c) held is)) (λ w. inr (subst (λ (l : List Call). WasImage (drop t l) c) same w)) was);
  now = λ c is. is_P c (subst (λ (h : Held). IsImage h c) held is);
}

-- the images after a write
pub written_images : (disk : MemoryDisk) (new : Held) (at : ℕ) (octets : List ℕ) → at ≤ length disk.held.octets.items → Holds disk.held.octets.items at octets new.octets.items
    → new.synced ≡ disk.held.synced → new.unsynced.items ≡ disk.held.unsynced.items ++ (record { at = at; length = length octets }) ∷ []
    → (c : List ℕ) → IsImage new c → IsTornFrom memory_clock disk at (length octets) c
written_images disk new at octets within holds synced noted c image = ⊎_elim
    (λ (seen : c ≡ new.octets.items). record {
      base = disk.held.octets.items;
      was = inl refl;
      torn = subst (λ (l : List ℕ). Torn at (length octets) disk.held.octets.items l) (sym seen) (torn_by at octets disk.held.octets.items new.octets.items within holds);
    })
    (λ (reached : Reaches new.synced.items new.unsynced.items c).
    let before = reaches_before disk.held.synced.items disk.held.unsynced.items (record { at = at; length = length octets }) c (rw (synced, noted) at reached) in
    record { base = before.base; was = inr before.reached; torn = before.torn })
    image

-- the images after a write that changed nothing
pub unwritten_images : (disk : MemoryDisk) (new : Held) (at n : ℕ) → new.octets ≡ disk.held.octets → new.synced ≡ disk.held.synced → new.unsynced.items ≡ disk.held.unsynced.items
    → (c : List ℕ) → IsImage new c → IsTornFrom memory_clock disk at n c
unwritten_images disk new at n octets synced noted c image = record { base = c; was = rw (octets, synced, noted) at image; torn = torn_nothing at n c }

-- of what is synced there is one image
pub synced_images : (new : Held) (disk : MemoryDisk) → IsSynced new → IsImage disk.held new.octets.items → (c : List ℕ) → IsImage new c → IsImage disk.held c
synced_images new disk synced was c image = subst (λ (l : List ℕ). IsImage disk.held l) (sym (only_synced new synced c image)) was

-- the same is held
pub same_images : (new : Held) (disk : MemoryDisk) → new ≡ disk.held → (c : List ℕ) → IsImage new c → IsImage disk.held c
same_images new disk same c image = subst (λ (h : Held). IsImage h c) same image

-- a disk that tells nothing may have been torn anywhere
pub untold_tears : (old new : FileDisk) (at n : ℕ) → Tears file_clock old new at n
untold_tears old new at n = record {
  later = omega arith;
  since = λ t c le was. inl tt;
  now = λ c is. record { base = c; was = tt; torn = torn_nothing at n c };
}
