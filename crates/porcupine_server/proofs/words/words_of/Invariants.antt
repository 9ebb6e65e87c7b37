use Rattle.std.proofs.Common.{◌≡◌, ◌++◌, length}
use Rattle.std.specs.Vec.Iter.{into_iter_items, into_iter_len}
use Rattle.porcupine_server.proofs.words.words_of.Given as goal

-- the words so far are those that the iterator has yielded
abbrev pub invariant-loop-word : goal.invariant-loop-word
invariant-loop-word l = record {
  all : l.yielded ++ into_iter_items l.word-iterator ≡ into_iter_items l.initial.word-iterator;
  left : into_iter_len l.word-iterator ≡ length (into_iter_items l.word-iterator);
  words : l.words.items ≡ l.yielded;
}
