-- The code's tickets, answers and mishaps as the machine's.
use Rattle.std.specs.Prelude.{map}
use Rattle.mail_base.specs.declared.filing.Filing.{Filing}
use Rattle.mail_base.specs.declared.filing.CallKind.{CallKind}
use Rattle.mail_base.specs.declared.item.Item.{Item}
use Rattle.mail_base.specs.declared.filing.CallKind.TheVariants as kind
use Rattle.call_tickets.specs.declared.answer.Mishaps.{Mishaps}
use Rattle.call_tickets.specs.declared.answer.Answer.{Answer}
use Rattle.call_tickets.specs.declared.answer.Answer.TheVariants.{Stored, Listed, Wrong, InUse, NoProfile, Part, GoneAlready, Dropped, Failed}
use Rattle.call_tickets.specs.declared.answer.Ask.{Ask}
use Rattle.call_tickets.specs.declared.answer.Ask.TheVariants.{Pending, Done}
use Rattle.object_model.specs.Mishaps as object
use Rattle.cluster_model.specs.Reads.{ListedCopy, Found}
use Rattle.cluster_model.specs.Reads.Found.{WrongSecret, PartOf, NotThere}
use Rattle.cluster_model.specs.Cluster as plain
use Rattle.cluster_model.specs.Progress as progress
use Rattle.node_tickets.specs.declared.want.Asked.{Asked}
use Rattle.node_tickets.specs.declared.want.Asked.TheVariants.{Copies, Deletion}
use Rattle.node_tickets.specs.declared.mishap.MishapKind.{MishapKind}
use Rattle.node_tickets.specs.declared.mishap.MishapKind.TheVariants as befell

abbrev pub filing_seen : Filing → plain.NodeFiling
filing_seen filing = record { id = filing.id; users = filing.users; seconds = filing.seconds; size = filing.length; digest = filing.digest }

abbrev pub asked_seen : Asked → plain.AskedOfNodes
asked_seen (Copies filing) = plain.AskedOfNodes.Copies (filing_seen filing)
asked_seen (Deletion user id) = plain.AskedOfNodes.Deletion user id

abbrev pub kind_seen : CallKind → plain.CallKind
kind_seen kind.Deliver = plain.CallKind.Delivering
kind_seen kind.Login = plain.CallKind.LoggingIn
kind_seen kind.Fetch = plain.CallKind.Fetching
kind_seen kind.Strike = plain.CallKind.Striking

abbrev pub kind_of_mishap : MishapKind → object.MishapKind
kind_of_mishap befell.FewMembers = object.MishapKind.FewMembers
kind_of_mishap befell.Year = object.MishapKind.Year
kind_of_mishap befell.Dropped = object.MishapKind.Dropped
kind_of_mishap befell.Stale = object.MishapKind.Stale
kind_of_mishap befell.Down = object.MishapKind.Down
kind_of_mishap befell.Disk = object.MishapKind.Disk
kind_of_mishap befell.Crowded = object.MishapKind.Crowded

abbrev pub mishaps_seen : Mishaps → object.Mishaps
mishaps_seen m = record { few_members = m.few_members; year = m.year; dropped = m.dropped; stale = m.stale; down = m.down; disk = m.disk; crowded = m.crowded }

-- a message of a listing, with the stamp and the targets of the copy
abbrev pub copy_seen : Item → ListedCopy
copy_seen item = record { id = item.id; stamp = item.stamp; targets = item.targets; size = item.length }

abbrev pub progress_seen : Answer → progress.NodeAnswer
progress_seen (Stored id confirmers) = progress.NodeAnswer.Stored id confirmers
progress_seen (Listed login manager asked items) = progress.NodeAnswer.Read (Found.Listed login manager asked (map copy_seen items))
progress_seen (Wrong stamp) = progress.NodeAnswer.Read (WrongSecret stamp)
progress_seen (InUse by) = progress.NodeAnswer.Read (Found.InUse by)
progress_seen (NoProfile manager) = progress.NodeAnswer.Read (Found.NoProfile manager)
progress_seen (Part octets whole) = progress.NodeAnswer.Read (PartOf octets whole)
progress_seen GoneAlready = progress.NodeAnswer.Read NotThere
progress_seen (Dropped confirmers) = progress.NodeAnswer.Dropped confirmers.items
progress_seen (Failed mishaps) = progress.NodeAnswer.Failed (mishaps_seen mishaps)

abbrev pub ask_seen : Ask → progress.Ask
ask_seen (Pending got wanted) = progress.Ask.Pending got wanted
ask_seen (Done answer) = progress.Ask.Done (progress_seen answer)
