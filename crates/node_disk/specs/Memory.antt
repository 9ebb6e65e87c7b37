-- What a stop of the machine may leave of a disk in memory, now and at each earlier moment.
use Rattle.std.specs.Prelude.{◌≡◌, ◌⊎◌, ℕ, List, [], ◌∷◌, ◌++◌, length, drop}
use Rattle.io_edge.specs.Moments.{Clock}
use Rattle.io_edge.specs.Octets.{Torn}
use Rattle.node_disk.specs.declared.held.Range.{Range}
use Rattle.node_disk.specs.declared.image.Image.{Image}
use Rattle.node_disk.specs.declared.held.Held.{Held}
use Rattle.node_disk.specs.declared.memory.Call.{Call}
use Rattle.node_disk.specs.declared.memory.MemoryDisk.{MemoryDisk}

-- what writes to these ranges may make of the octets, the first of them first
abbrev pub Reaches : List ℕ → List Range → List ℕ → Type 0
Reaches octets [] c = c ≡ octets
Reaches octets (range ∷ later) c = (d : List ℕ) × Torn range.at range.length octets d × Reaches d later c

-- an image: what reads give, or what the writes since the last sync may have made of the octets that it left
abbrev pub IsImage : Held → List ℕ → Type 0
IsImage held c = (c ≡ held.octets.items) ⊎ Reaches held.synced.items held.unsynced.items c

-- it was one before one of these calls
abbrev pub WasImage : List Call → List ℕ → Type 0
WasImage [] c = ⊥
WasImage (call ∷ calls) c = IsImage call.before.value c ⊎ WasImage calls c

-- the numbers of the calls that are to fail, as they were told
abbrev pub failing_of : MemoryDisk → List ℕ
failing_of disk = disk.failing.items

-- the images that restarts leave, the next one first
abbrev pub images_of : MemoryDisk → List Image
images_of disk = disk.images.items

-- The moments are those before and after each call, of which the disk keeps a record.
abbrev pub memory_clock : Clock MemoryDisk
memory_clock = record {
  is_image = λ disk. IsImage disk.held;
  moment = λ disk. length disk.calls.items;
  was_image = λ disk t c. IsImage disk.held c ⊎ WasImage (drop t disk.calls.items) c;
}

-- the last sync left what reads give, and nothing was written since
pub record IsSynced (held : Held) : Type 0 where
  pub same : held.synced.items ≡ held.octets.items
  pub none : held.unsynced.items ≡ []

-- the record has one call more, which remembers what the disk held
pub record IsNoted (old new : MemoryDisk) : Type 0 where
  pub call : Call
  pub calls : new.calls.items ≡ old.calls.items ++ call ∷ []
  pub before : call.before.value ≡ old.held
