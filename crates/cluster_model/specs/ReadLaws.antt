-- What holds of listings by what the disk of a node says.
use Rattle.std.specs.Prelude.{◌≡◌, ◌≢◌, ℕ, List, map, All, AllPairs}
use Rattle.mail_model.specs.Identity.{Id}
use Rattle.mail_model.specs.Grammar.{IsId, IsRecord}
use Rattle.mail_model.specs.Record.{Record}
use Rattle.object_model.specs.Lists.{Among}
use Rattle.cluster_model.specs.Reads.{ListedCopy, IsListing}

-- each id stands once in a listing
abbrev pub ListedOnce : Type 0
ListedOnce = (user : List ℕ) (disk : List Record) (items : List ListedCopy) → IsListing user disk items
    → AllPairs (λ (one other : Id). one ≢ other) (map (λ (copy : ListedCopy). copy.id) items)

-- and where a journal can spell the records of the disk, it can spell the ids of the listing
abbrev pub ListedNamed : Type 0
ListedNamed = (user : List ℕ) (disk : List Record) (items : List ListedCopy) → All IsRecord disk → IsListing user disk items → (copy : ListedCopy) → Among copy items → IsId copy.id

-- there is one listing at most
abbrev pub OneListing : Type 0
OneListing = (user : List ℕ) (disk : List Record) (items others : List ListedCopy) → IsListing user disk items → IsListing user disk others → items ≡ others
